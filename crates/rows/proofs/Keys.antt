-- Laws of keys: for words the order of keys is the order of the rows, and equal keys are equal words. Assumes nothing.
use mathlib.Core.Path.{◌≡◌, refl, sym, ap, ap₂, ◌∙◌}
use mathlib.Core.Bool.{Bool, true, false, not, cond, ◌&&◌, ◌||◌}
use mathlib.Core.List.{List, [], ◌∷◌}
use Prim.Native.Nat.{ℕ, ◌+◌, ◌*◌, ◌<◌, ◌≤◌}
use native.Mathlib.Nat.{not-suc-le-zero}
use native.Mathlib.Omega.{arith}
use lib.Dec.{ltb, leb, eqb}
use lib.IntN.{ℤ, pos}
use lib.ListN.{length, get_or}
use borrow.Author.Tests.{eq-eqb, ne_eqb, eqb-true, eqb-false, ltb-true, ltb-false, lt-ltb, le-ltb}
use Rattle.integer.specs.Integer.{between, up_to}
use Rattle.backoff.specs.Limits.{order_limit, word_limit}
use Rattle.backoff.specs.Words.{same_words, are_words, radix, key}
use Rattle.rows.specs.Table.{word_of, words_of}
use Rattle.rows.specs.Order.{last_less, precedes}
use Rattle.rows.specs.Keys.{low_limit, key_of}
use Rattle.std.specs.declared.cmp.Ordering.TheVariants.{Less, Equal, Greater}
use Rattle.std.specs.declared.option.Option.TheVariants.{Some}
use Rattle.std.specs.Ordering.{partial_lt, partial_ge, is_lt, is_ge, is_some_and, partial_ordering_then}
use Rattle.rows.specs.declared.Key.{Key}
use Rattle.rows.specs.contracts.KeyPartialOrd.TheImpl as KeyPartialOrd
use Rattle.rows.specs.contracts.KeyPartialEq.TheImpl as KeyPartialEq
use Rattle.std.proofs.lemmas.Bool.Decides.{nat_tests}
use Rattle.backoff.proofs.Words.{first_some, first_limit, words-rest, same_eq}

-- a digit over a number
digit_eq : (a b x y : ℕ) → a ≤ word_limit → b ≤ word_limit → (eqb a b && eqb x y) ≡ eqb (a + radix * x) (b + radix * y)
digit_eq a b x y p q = go (eqb a b) (eqb x y) refl refl
  where
    go : (s t : Bool) → eqb a b ≡ s → eqb x y ≡ t → (s && t) ≡ eqb (a + radix * x) (b + radix * y)
    go true true e f =
        sym (eq-eqb (a + radix * x) (b + radix * y) (let u = eqb-true a b e in let v = eqb-true x y f in omega arith))
    go true false e f =
        sym (ne_eqb (a + radix * x) (b + radix * y) (λ z. eqb-false x y f (let u = eqb-true a b e in omega arith)))
    go false t e f =
        sym (ne_eqb (a + radix * x) (b + radix * y) (λ z. eqb-false a b e (let w : x ≡ y = omega arith in omega arith)))

digit_lt : (a b x y : ℕ) → a ≤ word_limit → b ≤ word_limit → (ltb x y || (eqb x y && ltb a b)) ≡ ltb (a + radix * x) (b + radix * y)
digit_lt a b x y p q = go (ltb x y) (eqb x y) (ltb a b) refl refl refl
  where
    go : (s t r : Bool) → ltb x y ≡ s → eqb x y ≡ t → ltb a b ≡ r → (s || (t && r)) ≡ ltb (a + radix * x) (b + radix * y)
    go true t r e f g = sym (lt-ltb (a + radix * x) (b + radix * y) (let u = ltb-true x y e in omega arith))
    go false true true e f g =
        sym (lt-ltb (a + radix * x) (b + radix * y) (let u = eqb-true x y f in let v = ltb-true a b g in omega arith))
    go false true false e f g =
        sym (le-ltb (a + radix * x) (b + radix * y) (let u = eqb-true x y f in let v = ltb-false a b g in omega arith))
    go false false r e f g =
        sym (le-ltb (a + radix * x) (b + radix * y) (let u = ltb-false x y e in let v = eqb-false x y f in omega arith))

pub same_key : (us vs : List ℕ) → are_words us ≡ true → are_words vs ≡ true → same_words us vs ≡ eqb (key us) (key vs)
unfolding same_words key
same_key [] [] p q = refl
same_key [] (v ∷ vs) p q = sym (ne_eqb 0 (v + radix * key vs) (λ z. let l = first_some v vs q in absurd (omega arith)))
same_key (u ∷ us) [] p q = sym (ne_eqb (u + radix * key us) 0 (λ z. let l = first_some u us p in absurd (omega arith)))
same_key (u ∷ us) (v ∷ vs) p q =
    ap (λ (t : Bool). eqb u v && t) (same_key us vs (words-rest u us p) (words-rest v vs q))
    ∙ digit_eq u v (key us) (key vs) (first_limit u us p) (first_limit v vs q)

pub key_unique : (us vs : List ℕ) → are_words us ≡ true → are_words vs ≡ true → key us ≡ key vs → us ≡ vs
key_unique us vs p q e = same_eq us vs (same_key us vs p q ∙ eq-eqb (key us) (key vs) e)

-- fewer words, a smaller key: the length needs no digit of its own
shorter_key : (us vs : List ℕ) → are_words us ≡ true → are_words vs ≡ true → length us < length vs → key us < key vs
unfolding key
shorter_key [] [] p q l = absurd (not-suc-le-zero l)
shorter_key [] (v ∷ vs) p q l = let s = first_some v vs q in omega arith
shorter_key (u ∷ us) [] p q l = absurd (not-suc-le-zero l)
shorter_key (u ∷ us) (v ∷ vs) p q l =
    let k = shorter_key us vs (words-rest u us p) (words-rest v vs q) (omega arith) in
    let h = first_limit u us p in
    omega arith

last-key : (us vs : List ℕ) → are_words us ≡ true → are_words vs ≡ true → length us ≡ length vs → last_less us vs ≡ ltb (key us) (key vs)
unfolding last_less key
last-key [] [] p q e = refl
last-key [] (v ∷ vs) p q e = absurd (omega arith)
last-key (u ∷ us) [] p q e = absurd (omega arith)
last-key (u ∷ us) (v ∷ vs) p q e =
    let r = words-rest u us p in
    let s = words-rest v vs q in
    ap₂ (λ (a b : Bool). a || (b && ltb u v)) (last-key us vs r s (omega arith)) (same_key us vs r s)
    ∙ digit_lt u v (key us) (key vs) (first_limit u us p) (first_limit v vs q)

pub precedes-key : (us vs : List ℕ) → are_words us ≡ true → are_words vs ≡ true → precedes us vs ≡ ltb (key us) (key vs)
unfolding precedes
precedes-key us vs p q = go (ltb (length us) (length vs)) (eqb (length us) (length vs)) refl refl
  where
    go : (s t : Bool) → ltb (length us) (length vs) ≡ s → eqb (length us) (length vs) ≡ t → (s || (t && last_less us vs)) ≡ ltb (key us) (key vs)
    go true t e f = sym (lt-ltb (key us) (key vs) (shorter_key us vs p q (ltb-true (length us) (length vs) e)))
    go false true e f = last-key us vs p q (eqb-true (length us) (length vs) f)
    go false false e f =
        let u = ltb-false (length us) (length vs) e in
        let v = eqb-false (length us) (length vs) f in
        let k = shorter_key vs us q p (omega arith) in
        sym (le-ltb (key us) (key vs) (omega arith))

-- the key of at most five numbers, place by place: zeros past the last word change nothing
pub key-places : (zs : List ℤ) → length zs ≤ order_limit → key (word_of (get_or zs 0 (pos 0)) ∷ word_of (get_or zs 1 (pos 0)) ∷ word_of (get_or zs 2 (pos 0)) ∷ word_of (get_or zs 3 (pos 0)) ∷ word_of (get_or zs 4 (pos 0)) ∷ []) ≡ key (words_of zs)
unfolding key words_of up_to between
key-places [] h = refl
key-places (a ∷ []) h = refl
key-places (a ∷ b ∷ []) h = refl
key-places (a ∷ b ∷ c ∷ []) h = refl
key-places (a ∷ b ∷ c ∷ d ∷ []) h = refl
key-places (a ∷ b ∷ c ∷ d ∷ e ∷ []) h = refl
key-places (a ∷ b ∷ c ∷ d ∷ e ∷ f ∷ zs) h = absurd (omega arith)

-- five digits
pub key_limit : (a b c d e : ℕ) → a ≤ word_limit → b ≤ word_limit → c ≤ word_limit → d ≤ word_limit → e ≤ word_limit → key (a ∷ b ∷ c ∷ d ∷ e ∷ []) < radix * low_limit
unfolding key
key_limit a b c d e p q r s t = omega arith

-- how the code's two parts of a key decide
module _ (a b c d : ℕ) (l : b < low_limit) (m : d < low_limit) where
  pub parts_less : (ltb a c || (eqb a c && ltb b d)) ≡ ltb (key_of a b) (key_of c d)
  parts_less = go (ltb a c) (eqb a c) (ltb b d) refl refl refl
    where
      go : (s t r : Bool) → ltb a c ≡ s → eqb a c ≡ t → ltb b d ≡ r → (s || (t && r)) ≡ ltb (key_of a b) (key_of c d)
      go true t r e f g = sym (lt-ltb (key_of a b) (key_of c d) (let u = ltb-true a c e in omega arith))
      go false true true e f g =
          sym (lt-ltb (key_of a b) (key_of c d) (let u = eqb-true a c f in let v = ltb-true b d g in omega arith))
      go false true false e f g =
          sym (le-ltb (key_of a b) (key_of c d) (let u = eqb-true a c f in let v = ltb-false b d g in omega arith))
      go false false r e f g =
          sym (le-ltb (key_of a b) (key_of c d) (let u = ltb-false a c e in let v = eqb-false a c f in omega arith))

  pub parts_equal : (eqb a c && eqb b d) ≡ eqb (key_of a b) (key_of c d)
  parts_equal = go (eqb a c) (eqb b d) refl refl
    where
      go : (s t : Bool) → eqb a c ≡ s → eqb b d ≡ t → (s && t) ≡ eqb (key_of a b) (key_of c d)
      go true true e f = sym (eq-eqb (key_of a b) (key_of c d) (let u = eqb-true a c e in let v = eqb-true b d f in omega arith))
      go true false e f = sym (ne_eqb (key_of a b) (key_of c d) (λ z. eqb-false b d f (let u = eqb-true a c e in omega arith)))
      go false t e f = sym (ne_eqb (key_of a b) (key_of c d) (λ z. eqb-false a c e (omega arith)))

-- an order by parts, by the tests of each
parts_tested : (s t r q : Bool) → is_some_and is_lt (partial_ordering_then (Some (cond s Less (cond t Equal Greater))) (Some (cond r Less (cond q Equal Greater)))) ≡ (s || (t && r))
parts_tested true t r q = refl
parts_tested false true true q = refl
parts_tested false true false true = refl
parts_tested false true false false = refl
parts_tested false false r q = refl

parts_not : (s t r q : Bool) → is_some_and is_ge (partial_ordering_then (Some (cond s Less (cond t Equal Greater))) (Some (cond r Less (cond q Equal Greater)))) ≡ not (s || (t && r))
parts_not true t r q = refl
parts_not false true true q = refl
parts_not false true false true = refl
parts_not false true false false = refl
parts_not false false r q = refl

not_less : (x y : ℕ) → not (ltb x y) ≡ leb y x
not_less x y = grind (arith, nat_tests)

-- the derived comparisons of keys compare them as numbers
module _ (a b : Key) (l : a.low < low_limit) (m : b.low < low_limit) where
  pub key_lt : partial_lt (KeyPartialOrd.partial_cmp-value).it a b ≡ ltb (key_of a.high a.low) (key_of b.high b.low)
  key_lt =
      parts_tested (ltb a.high b.high) (eqb a.high b.high) (ltb a.low b.low) (eqb a.low b.low)
      ∙ parts_less a.high a.low b.high b.low l m

  pub key_ge : partial_ge (KeyPartialOrd.partial_cmp-value).it a b ≡ leb (key_of b.high b.low) (key_of a.high a.low)
  key_ge =
      parts_not (ltb a.high b.high) (eqb a.high b.high) (ltb a.low b.low) (eqb a.low b.low)
      ∙ ap not (parts_less a.high a.low b.high b.low l m)
      ∙ not_less (key_of a.high a.low) (key_of b.high b.low)

  pub key_eq : (KeyPartialEq.eq-value).it a b ≡ eqb (key_of a.high a.low) (key_of b.high b.low)
  key_eq = parts_equal a.high a.low b.high b.low l m
