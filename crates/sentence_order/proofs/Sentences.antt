-- Laws of the sentences of k words: how many there are, which of them has the number i, and the words of all in one list. Assumes nothing.
use mathlib.Core.Path.{◌≡◌, refl, sym, ap, ap₂, ◌∙◌}
use mathlib.Core.Logic.{◌⊎◌, inl, inr}
use mathlib.Core.List.{List, [], ◌∷◌, ◌++◌, map}
use Prim.Native.Nat.{ℕ, zero, suc, ◌+◌, ◌*◌, ◌-◌, ◌/◌, ◌%◌, ◌^◌, ◌≤◌, ◌<◌}
use native.Mathlib.Nat.{pow-zero, pow-suc, pow-le-pow_left, pow-le-pow_right, div-eq_of_lt, mod-eq_of_lt, add-div_left, add-mod_left, div-lt_iff_lt-mul}
use native.Mathlib.Omega.{arith}
use lib.ListN.{length, take, get_or, length-append, length-map, get_or-append}
use lib.Seq.{take-suc, take-length, get_or-append-add}
use Rattle.integer.proofs.Ranges.{lt_or_ge}
use Rattle.backoff.specs.Limits.{sentence_limit, usable_limit}
use Rattle.backoff.specs.Runs.{flat}
use Rattle.backoff.proofs.Runs.{flat-one}
use Rattle.sentence_order.specs.Sentences.{sentences_of}
use Rattle.sentence_order.specs.Inner.{sentence_at}

-- ---- lists of lists

pub flat-take-suc : {A : Type 0} (xs : List (List A)) (i : ℕ) → i < length xs → flat (take (suc i) xs) ≡ flat (take i xs) ++ get_or xs i []
flat-take-suc xs i h = ap flat (take-suc xs i [] h) ∙ flat-one (take i xs) (get_or xs i [])

-- where each has k items
pub length-flat-take : {A : Type 0} (k : ℕ) (xs : List (List A)) → ((i : ℕ) → i < length xs → length (get_or xs i []) ≡ k) → (i : ℕ) → i ≤ length xs → length (flat (take i xs)) ≡ k * i
length-flat-take k xs each zero h = unfold flat in omega arith
length-flat-take k xs each (suc i) h =
    ap length (flat-take-suc xs i (omega arith))
    ∙ length-append (flat (take i xs)) (get_or xs i [])
    ∙ omega (arith, length-flat-take k xs each i (omega arith), each i (omega arith))

pub get_or-map_in : {A B : Type 0} (f : A → B) (l : List A) (i : ℕ) (a : A) (b : B) → i < length l → get_or (map f l) i b ≡ f (get_or l i a)
get_or-map_in f [] i a b h = absurd (omega arith)
get_or-map_in f (x ∷ l) zero a b h = refl
get_or-map_in f (x ∷ l) (suc i) a b h = get_or-map_in f l i a b (omega arith)

-- ---- each x of one list with each y of another

module _ {A B C : Type 0} (g : A → B → C) (ys : List B) where
  abbrev pairs : List A → List C
  pairs xs = flat (map (λ x. map (g x) ys) xs)

  length_pairs : (xs : List A) → length (pairs xs) ≡ length xs * length ys
  unfolding flat
  length_pairs [] = omega arith
  length_pairs (x ∷ xs) = length-append (map (g x) ys) (pairs xs) ∙ omega (arith, length-map ys (g x), length_pairs xs)

  get_or_pairs : (xs : List A) (i : ℕ) (a : A) (b : B) (c : C) → i < length xs * length ys → get_or (pairs xs) i c ≡ g (get_or xs (i / length ys) a) (get_or ys (i % length ys) b)
  unfolding flat
  get_or_pairs [] i a b c h = absurd (omega arith)
  get_or_pairs (x ∷ xs) i a b c h = go (lt_or_ge i (length ys)) (get_or_pairs xs (i - length ys) a b c)
    where
      go : (i < length ys) ⊎ (length ys ≤ i) → (i - length ys < length xs * length ys → get_or (pairs xs) (i - length ys) c ≡ g (get_or xs ((i - length ys) / length ys) a) (get_or ys ((i - length ys) % length ys) b)) → get_or (map (g x) ys ++ pairs xs) i c ≡ g (get_or (x ∷ xs) (i / length ys) a) (get_or ys (i % length ys) b)
      go (inl l) ih =
          get_or-append (map (g x) ys) (pairs xs) c i (omega (arith, length-map ys (g x)))
          ∙ get_or-map_in (g x) ys i b c l
          ∙ ap₂ (λ (q r : ℕ). g (get_or (x ∷ xs) q a) (get_or ys r b)) (sym (div-eq_of_lt l)) (sym (mod-eq_of_lt l))
      go (inr l) ih =
          let m = i - length ys in
          let e : i ≡ length ys + m = omega arith in
          let f : i ≡ length (map (g x) ys) + m = omega (arith, length-map ys (g x)) in
          let some : 0 < length ys = go_some (lt_or_ge 0 (length ys)) in
          ap (λ (j : ℕ). get_or (map (g x) ys ++ pairs xs) j c) f
          ∙ get_or-append-add (map (g x) ys) (pairs xs) m c
          ∙ ih (omega arith)
          ∙ ap₂ (λ (q r : ℕ). g (get_or (x ∷ xs) q a) (get_or ys r b)) (up some e) (sym (add-mod_left (length ys) m) ∙ ap (λ (j : ℕ). j % length ys) (sym e))
        where
          go_some : (0 < length ys) ⊎ (length ys ≤ 0) → 0 < length ys
          go_some (inl s) = s
          go_some (inr s) = let z : length ys ≡ 0 = omega arith in absurd (let q : i < suc (length xs) * 0 = rw z at h in omega arith)

          up : 0 < length ys → i ≡ length ys + (i - length ys) → suc ((i - length ys) / length ys) ≡ i / length ys
          up s e = omega (arith, add-div_left (i - length ys) s, ap (λ (j : ℕ). j / length ys) e)

-- where there is a sentence, there is a word
pub some_word : (v k i : ℕ) → 1 ≤ k → i < v ^ k → 0 < v
some_word v zero i h l = absurd (omega arith)
some_word zero (suc k) i h l = let z : i < zero ^ k * zero = rw pow-suc at l in absurd (omega arith)
some_word (suc v) (suc k) i h l = omega arith

-- ---- the sentences

module _ (us : List ℕ) where
  pub length-sentences : (k : ℕ) → length (sentences_of k us) ≡ length us ^ k
  unfolding sentences_of
  length-sentences zero = sym (pow-zero (length us))
  length-sentences (suc k) =
      length_pairs _ us (sentences_of k us)
      ∙ ap (λ (n : ℕ). n * length us) (length-sentences k)
      ∙ sym (pow-suc (length us) k)

  pub sentence_nth : (k i : ℕ) → i < length us ^ k → get_or (sentences_of k us) i [] ≡ sentence_at us k i
  unfolding sentences_of sentence_at
  sentence_nth zero i h = let z : i ≡ 0 = omega (arith, pow-zero (length us)) in rw z
  sentence_nth (suc k) i h =
      let less : i < length us ^ k * length us = rw pow-suc at h in
      get_or_pairs (λ (s : List ℕ) (u : ℕ). s ++ (u ∷ [])) us (sentences_of k us) i [] 0 [] (rw (length-sentences k) less)
      ∙ ap (λ (s : List ℕ). s ++ (get_or us (i % length us) 0 ∷ [])) (sentence_nth k (i / length us) ((div-lt_iff_lt-mul (some_word (length us) (suc k) i (omega arith) h)).1 less))

  pub length-sentence_at : (k i : ℕ) → length (sentence_at us k i) ≡ k
  unfolding sentence_at
  length-sentence_at zero i = refl
  length-sentence_at (suc k) i = length-append (sentence_at us k (i / length us)) _ ∙ omega (arith, length-sentence_at k (i / length us))

  pub each_long : (k i : ℕ) → i < length (sentences_of k us) → length (get_or (sentences_of k us) i []) ≡ k
  each_long k i h = ap length (sentence_nth k i (omega (arith, length-sentences k))) ∙ length-sentence_at k i

  pub length-flat : (k : ℕ) → length (flat (sentences_of k us)) ≡ k * length us ^ k
  length-flat k =
      ap (λ l. length (flat l)) (sym (take-length (sentences_of k us)))
      ∙ length-flat-take k (sentences_of k us) (each_long k) (length (sentences_of k us)) (omega arith)
      ∙ ap (λ (n : ℕ). k * n) (length-sentences k)

-- at most sixteen words give at most 65,536 sentences
pub few-sentences : (v k : ℕ) → v ≤ usable_limit → k ≤ sentence_limit → v ^ k ≤ 65536
few-sentences v k h l =
    let a : v ^ k ≤ 16 ^ k = pow-le-pow_left h k in
    let b : 16 ^ k ≤ 16 ^ 4 = pow-le-pow_right (omega arith) l in
    omega arith
