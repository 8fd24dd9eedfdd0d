-- Distinct texts that stand for the words from 1 on are found again, and a text that is not among those met becomes the next word. Assumes nothing.
use Rattle.std.specs.declared.option.Option.TheVariants.{Some, None}
use mathlib.Core.Path.{◌≡◌, refl, sym, ap, ap₂, ◌∙◌}
use mathlib.Core.Bool.{true, false}
use mathlib.Core.List.{List, [], ◌∷◌, map}
use Prim.Native.Nat.{ℕ, zero, suc, ◌+◌, ◌-◌, ◌<◌, ◌≤◌}
use native.Mathlib.Omega.{arith}
use lib.ListN.{length, get_or, take}
use lib.Seq.{length-take-le, get_or-take, take-suc}
use borrow.Author.Tests.{ne_eqb, lt-leb}
use Rattle.integer.proofs.Ranges.{and_both}
use Rattle.backoff.proofs.Words.{same_refl, same_ne}
use Rattle.word_index.specs.Texts.{search_from, given_by}
use Rattle.arpa_text.specs.Lines.{is_text, are_texts}
use Rattle.arpa_words.specs.Words.{unknown_text, start_text, end_text, reserved_number, number_met, number_given, with_text, some_missing}
use Rattle.arpa_printed.specs.Printed.{word_text}
use Rattle.arpa_printed.proofs.PrintedRows.{AllKnown}

search-place : (texts : List (List ℕ)) (k j : ℕ) → j < length texts → ((i : ℕ) → i < j → get_or texts j [] ≡ get_or texts i [] → ⊥)
    → search_from (get_or texts j []) k texts ≡ Some (k + j)
unfolding search_from
search-place [] k j l d = absurd (omega arith)
search-place (x ∷ texts) k zero l d = rw (same_refl x) (ap Some (omega arith))
search-place (x ∷ texts) k (suc j) l d =
    rw (same_ne (get_or texts j []) x (λ e. d 0 (omega arith) e))
    (search-place texts (suc k) j (omega arith) (λ i h e. d (suc i) (omega arith) e) ∙ ap Some (omega arith))

search-absent : (text : List ℕ) (texts : List (List ℕ)) (k : ℕ) → ((i : ℕ) → i < length texts → text ≡ get_or texts i [] → ⊥) → search_from text k texts ≡ None
unfolding search_from
search-absent text [] k d = refl
search-absent text (x ∷ texts) k d =
    rw (same_ne text x (λ e. d 0 (omega arith) e)) (search-absent text texts (suc k) (λ i h e. d (suc i) (omega arith) e))

module _ (texts : List (List ℕ)) (distinct : (i j : ℕ) → i < j → j < length texts → get_or texts i [] ≡ get_or texts j [] → ⊥) where
  number_of-word : (w : ℕ) → 1 ≤ w → w ≤ length texts → number_met texts (word_text texts w) ≡ w
  unfolding number_met
  number_of-word w a b =
      ap (λ f. given_by f 0) (search-place texts 1 (w - 1) (omega arith) (λ i h e. distinct i (w - 1) h (omega arith) (sym e)))
      ∙ omega arith

  pub numbers_of-words : (ws : List ℕ) → AllKnown (length texts) ws → map (number_met texts) (map (word_text texts) ws) ≡ ws
  numbers_of-words [] k = refl
  numbers_of-words (w ∷ ws) k = ap₂ ◌∷◌ (number_of-word w k.0 k.1) (numbers_of-words ws k.2)

  -- the texts in the order of their words, of which the first k are met
  pub number_of-next : (k : ℕ) → 3 ≤ k → k < length texts → get_or texts 0 [] ≡ unknown_text → get_or texts 1 [] ≡ start_text → get_or texts 2 [] ≡ end_text
      → number_given (take k texts) (get_or texts k []) ≡ suc k
  unfolding number_given reserved_number
  number_of-next k l h u s e =
      let n = length-take-le k texts (omega arith) in
      rw (
        same_ne (get_or texts k []) unknown_text (λ z. distinct 0 k (omega arith) h (u ∙ sym z)),
        same_ne (get_or texts k []) start_text (λ z. distinct 1 k (omega arith) h (s ∙ sym z)),
        same_ne (get_or texts k []) end_text (λ z. distinct 2 k (omega arith) h (e ∙ sym z)),
        search-absent (get_or texts k []) (take k texts) 1 (λ i a z. let b : i < k = omega arith in distinct i k b h (sym (z ∙ get_or-take k texts i [] b))),
        n,
      ) refl

pub known-none_missing : (v : ℕ) (ws : List ℕ) → AllKnown v ws → some_missing ws ≡ false
unfolding some_missing
known-none_missing v [] k = refl
known-none_missing v (w ∷ ws) k = let a = k.0 in rw (ne_eqb w 0 (λ e. omega arith)) (known-none_missing v ws k.2)

pub words-texts : (texts : List (List ℕ)) → ((i : ℕ) → i < length texts → is_text (get_or texts i []) ≡ true) → (ws : List ℕ) → AllKnown (length texts) ws
    → are_texts (length (map (word_text texts) ws)) (map (word_text texts) ws) ≡ true
unfolding are_texts
words-texts texts f [] k = refl
words-texts texts f (w ∷ ws) k =
    let a = k.0 in
    let b = k.1 in
    and_both (is_text (word_text texts w)) (are_texts (length (map (word_text texts) ws)) (map (word_text texts) ws)) (f (w - 1) (omega arith)) (words-texts texts f ws k.2)

pub with_next_text : (texts : List (List ℕ)) (k : ℕ) → k < length texts → with_text (take k texts) (suc k) (get_or texts k []) ≡ take (suc k) texts
unfolding with_text
with_next_text texts k l =
    let n = length-take-le k texts (omega arith) in
    rw (lt-leb (suc k) (length (take k texts)) (omega arith)) (sym (take-suc texts k [] l))
