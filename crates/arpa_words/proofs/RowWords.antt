-- Laws of the numbers of a row's words, read one after the other. Assumes nothing.
use mathlib.Core.Path.{◌≡◌, refl, sym, ap, ap₂, ◌∙◌}
use mathlib.Core.Logic.{⊎_elim}
use mathlib.Core.Bool.{true, false, false≢true}
use mathlib.Core.List.{List, [], ◌∷◌, ◌++◌, map}
use Prim.Native.Nat.{ℕ, zero, suc, ◌+◌, ◌-◌, ◌<◌, ◌≤◌}
use native.Mathlib.Omega.{arith}
use native.Mathlib.Numerals.{add-one}
use lib.ListN.{length, get_or, take, drop, set, length-map, length-drop, drop_of_length-le}
use lib.Seq.{length-take-le, take_all, take-suc, drop-cons, drop-drop}
use borrow.Author.Tests.{eq-eqb, ne_eqb}
use Rattle.integer.proofs.Ranges.{and_left, and_right}
use Rattle.backoff.specs.Limits.{order_limit}
use Rattle.text_parts.specs.Parts.{parts, before}
use Rattle.text_parts.proofs.Parts.{parts-one, parts_more, lacks_or_has}
use Rattle.arpa_text.specs.Lines.{is_text, are_texts}
use Rattle.arpa_words.specs.Words.{zeroed, some_missing}
use Rattle.arpa_words.proofs.Stores.{zeroed-set}

-- ---- m texts
pub texts-count : (m : ℕ) (us : List (List ℕ)) → are_texts m us ≡ true → length us ≡ m
unfolding are_texts
texts-count zero [] e = refl
texts-count zero (u ∷ us) e = absurd (false≢true e)
texts-count (suc m) [] e = absurd (false≢true e)
texts-count (suc m) (u ∷ us) e = ap suc (texts-count m us (and_right (is_text u) (are_texts m us) e))

texts-each : (m : ℕ) (us : List (List ℕ)) → are_texts m us ≡ true → (j : ℕ) → j < m → is_text (get_or us j []) ≡ true
unfolding are_texts
texts-each zero us e j l = absurd (omega arith)
texts-each (suc m) [] e j l = absurd (false≢true e)
texts-each (suc m) (u ∷ us) e zero l = and_left (is_text u) (are_texts m us) e
texts-each (suc m) (u ∷ us) e (suc j) l = texts-each m us (and_right (is_text u) (are_texts m us) e) j (omega arith)

-- ---- the first part of a text, and the others
first_part : (c : ℕ) (text : List ℕ) → get_or (parts c text) 0 [] ≡ take (before c text) text
first_part c text =
    ⊎_elim
    (λ (h : before c text ≡ length text). rw (parts-one c text h) (sym (take_all (before c text) text (omega arith))))
    (λ (h : before c text < length text). ap (λ (ps : List (List ℕ)). get_or ps 0 []) (parts_more c text h))
    (lacks_or_has c text)

other-parts : (c : ℕ) (text : List ℕ) → 1 < length (parts c text) → (before c text < length text) × (drop 1 (parts c text) ≡ parts c (drop (before c text + 1) text))
other-parts c text l =
    ⊎_elim
    (λ (h : before c text ≡ length text). let e = ap length (parts-one c text h) in absurd (omega arith))
    (λ (h : before c text < length text). (h, ap (drop 1) (parts_more c text h)))
    (lacks_or_has c text)

map_snoc : (f : List ℕ → ℕ) (us : List (List ℕ)) (u : List ℕ) → map f (us ++ (u ∷ [])) ≡ map f us ++ (f u ∷ [])
map_snoc f [] u = refl
map_snoc f (v ∷ us) u = ap (λ (r : List ℕ). f v ∷ r) (map_snoc f us u)

-- the first j words have their numbers, none is missing, and the others stand from place `at` on
pub record Numbered (f : List ℕ → ℕ) (text : List ℕ) (m : ℕ) (numbers : List ℕ) (at j : ℕ) : Type 0 where
  pub reached : j ≤ m
  pub written : numbers ≡ zeroed order_limit (map f (take j (parts 32 text)))
  pub none : some_missing (map f (parts 32 text)) ≡ some_missing (map f (drop j (parts 32 text)))
  pub place : j < m → at ≤ length text
  pub left : j < m → drop j (parts 32 text) ≡ parts 32 (drop at text)

module _ (f : List ℕ → ℕ) (text : List ℕ) (m : ℕ) (are : are_texts m (parts 32 text) ≡ true) where
  count : length (parts 32 text) ≡ m
  count = texts-count m (parts 32 text) are

  pub numbered-start : Numbered f text m (0 ∷ 0 ∷ 0 ∷ 0 ∷ 0 ∷ []) 0 0
  unfolding zeroed
  numbered-start = record { reached = omega arith; written = refl; none = refl; place = λ l. omega arith; left = λ l. refl }

  module _ (numbers : List ℕ) (at j : ℕ) (x : Numbered f text m numbers at j) (l : j < m) where
    left_cons : drop j (parts 32 text) ≡ get_or (parts 32 text) j [] ∷ drop (suc j) (parts 32 text)
    left_cons = let e = count in drop-cons (parts 32 text) j [] (omega arith)

    missing_here : some_missing (map f (parts 32 text)) ≡ some_missing (f (get_or (parts 32 text) j []) ∷ map f (drop (suc j) (parts 32 text)))
    missing_here = x.none ∙ ap (λ (us : List (List ℕ)). some_missing (map f us)) left_cons

    module _ (end : ℕ) (e : end ≡ at + before 32 (drop at text)) where
      -- the word that is looked up is word j
      numbered-text : take (end - at) (drop at text) ≡ get_or (parts 32 text) j []
      numbered-text =
          let g : end - at ≡ before 32 (drop at text) = omega arith in
          ap (λ (n : ℕ). take n (drop at text)) g
          ∙ sym (first_part 32 (drop at text))
          ∙ ap (λ (ps : List (List ℕ)). get_or ps 0 []) (sym (x.left l) ∙ left_cons)

      pub numbered_text_in_form : is_text (take (end - at) (drop at text)) ≡ true
      numbered_text_in_form = rw numbered-text (texts-each m (parts 32 text) are j l)

      module _ (w : ℕ) (g : w ≡ f (take (end - at) (drop at text))) where
        word : f (get_or (parts 32 text) j []) ≡ w
        word = ap f (sym numbered-text) ∙ sym g

        pub numbered_missing : w ≡ 0 → some_missing (map f (parts 32 text)) ≡ true
        unfolding some_missing
        numbered_missing z = missing_here ∙ rw (eq-eqb (f (get_or (parts 32 text) j [])) 0 (word ∙ z)) refl

        pub numbered_next : m ≤ order_limit → (w ≡ 0 → ⊥) → Numbered f text m (set numbers j w) (end + 1) (j + 1)
        unfolding some_missing
        numbered_next few n =
            let long = count in
            let k : length (map f (take j (parts 32 text))) ≡ j = length-map (take j (parts 32 text)) f ∙ length-take-le j (parts 32 text) (omega arith) in
            let more : j + 1 < m → 1 < length (parts 32 (drop at text)) = λ p. let q = ap length (sym (x.left l)) in let r = length-drop j (parts 32 text) in omega arith in
            record {
              reached = omega arith;
              written =
                  ap₂ (λ (ns : List ℕ) (i : ℕ). set ns i w) x.written (sym k)
                  ∙ zeroed-set order_limit (map f (take j (parts 32 text))) w (omega arith)
                  ∙ ap (zeroed order_limit)
                  (ap (λ (v : ℕ). map f (take j (parts 32 text)) ++ (v ∷ [])) (sym word)
                  ∙ sym (map_snoc f (take j (parts 32 text)) (get_or (parts 32 text) j []))
                  ∙ ap (map f) (sym (take-suc (parts 32 text) j [] (omega arith)) ∙ ap (λ (i : ℕ). take i (parts 32 text)) (sym (add-one j))));
              none = missing_here ∙ rw (add-one j, ne_eqb (f (get_or (parts 32 text) j [])) 0 (λ z. n (sym word ∙ z))) refl;
              place = λ p. let q = (other-parts 32 (drop at text) (more p)).0 in let d = length-drop at text in omega arith;
              left = λ p.
                  let h : at + (before 32 (drop at text) + 1) ≡ end + 1 = omega arith in
                  ap (λ (i : ℕ). drop i (parts 32 text)) (add-one j)
                  ∙ ap (drop 1) (sym left_cons ∙ x.left l)
                  ∙ (other-parts 32 (drop at text) (more p)).1
                  ∙ ap (parts 32) (drop-drop (before 32 (drop at text) + 1) at text ∙ ap (λ (i : ℕ). drop i text) h);
            }

  pub numbered-all : (numbers : List ℕ) (at j : ℕ) → Numbered f text m numbers at j → m ≤ j → (false ≡ some_missing (map f (parts 32 text))) × (numbers ≡ zeroed order_limit (map f (parts 32 text)))
  unfolding some_missing
  numbered-all numbers at j x l =
      let long = count in (
        sym (x.none ∙ ap (λ (us : List (List ℕ)). some_missing (map f us)) (drop_of_length-le (parts 32 text) {i = j} (omega arith))),
        x.written ∙ ap (λ (us : List (List ℕ)). zeroed order_limit (map f us)) (take_all j (parts 32 text) (omega arith)),
      )
