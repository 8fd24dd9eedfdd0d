-- The largest move over the outcomes of build and listing is the rule's, and within the figures for one misheard word. Assumes nothing.
use Rattle.std.specs.declared.option.Option.{Option}
use mathlib.Core.Path.{◌≡◌, refl, sym, ap, ap₂, ◌∙◌}
use mathlib.Core.Logic.{◌⊎◌, inl, inr}
use mathlib.Core.Bool.{Bool, true, false}
use mathlib.Core.List.{List, [], ◌∷◌, ◌++◌}
use Prim.Native.Nat.{ℕ, ◌+◌, ◌-◌, ◌≤◌, ◌<◌}
use native.Mathlib.Omega.{arith}
use lib.Dec.{eqb}
use lib.ListN.{length, get_or, length-append, get_or-append}
use lib.Seq.{get_or-append-add}
use lib.IntN.{ℤ, nat_abs}
use borrow.Author.Tests.{eq-eqb, eqb-true, eqb-false, ne_eqb}
use Rattle.integer.proofs.Ranges.{lt_or_ge}
use Rattle.backoff.specs.Limits.{end_word, sentence_limit}
use Rattle.backoff.specs.Model.{Model, AcceptedModel}
use Rattle.backoff.specs.Run.{front}
use Rattle.backoff.specs.Store.{Store}
use Rattle.backoff.specs.Refusal.{Accepted}
use Rattle.one_word.specs.OneWord.{DifferAt, distance, total_move, closer_move}
use Rattle.one_word.proofs.OneWord.{one-word_by_the_rule}
use Rattle.one_word.proofs.OneWordByTheRule.{one-word-closer}
use Rattle.list.specs.ListModel.{model_of}
use Rattle.list.proofs.ListModel.{accepted-model}
use Rattle.double_array.specs.DoubleArray.{opened}
use Rattle.placed_list.specs.Build.{Built}
use Rattle.build.specs.Build.{build_outcome}
use Rattle.build.proofs.Built.{build_accepted}
use Rattle.sentence_order.specs.Sentences.{sentences_of}
use Rattle.sentence_order.proofs.Sentences.{each_long}
use Rattle.sentence_totals.specs.Totals.{sentence_total}
use Rattle.sentences.specs.Listing.{size_refusal, sentences_over, listing_outcome}
use Rattle.sentences.proofs.Outcome.{sized}
use Rattle.group_pairs.specs.declared.Pair.{Pair}
use Rattle.largest_pair.specs.Pairs.{no_pair, first_largest, IsPair}
use Rattle.largest_pair.specs.Inner.{Kept, nothing, something}
use Rattle.largest_pair.proofs.Earliest.{first-kept, first-same}
use Rattle.largest_move.specs.Move.{sentences_apart, totals_apart, largest_pair, move_of, refused_move, move_outcome}
use Rattle.largest_move.proofs.Pairs.{differ_at}
use Rattle.theorems.specs.RunsInARow.{array_of}
use Rattle.theorems.specs.Sentences.{listed_words, listed_sentences, rule_total}
use Rattle.theorems.specs.LargestMove.{MoveIsTheRule}
use Rattle.theorems.proofs.Sentences.{words_same, sentence-rule, listing-rule}

-- ---- distances within a figure

-- where each pair lies within a figure, the largest does
within : (apart : ℕ → ℕ → Bool) (far : ℕ → ℕ → ℕ) (n figure : ℕ) → ((i j : ℕ) → IsPair apart n i j → far i j ≤ figure) → nat_abs (first_largest apart far n).distance ≤ figure
within apart far n figure each = go (first-kept apart far n)
  where
    go : {m : Pair} → Kept no_pair (IsPair apart n) far m → nat_abs m.distance ≤ figure
    go (nothing e f) = rw e (omega arith)
    go (something i j e f) = rw e (each i j f.pair)

-- the same words behind both
differ_append : (p : ℕ) (s t ws : List ℕ) → DifferAt p s t → DifferAt p (s ++ ws) (t ++ ws)
differ_append p s t ws f = record {
  same_length = length-append s ws ∙ ap (λ (n : ℕ). n + length ws) f.same_length ∙ sym (length-append t ws);
  inside = omega (arith, f.inside, length-append s ws);
  alike = λ j n. go j n (lt_or_ge j (length s));
}
  where
    go : (j : ℕ) → (j ≡ p → ⊥) → (j < length s) ⊎ (length s ≤ j) → get_or (s ++ ws) j 0 ≡ get_or (t ++ ws) j 0
    go j n (inl l) = get_or-append s ws 0 j l ∙ f.alike j n ∙ sym (get_or-append t ws 0 j (omega (arith, f.same_length)))
    go j n (inr l) =
        let k = j - length s in
        let a : j ≡ length s + k = omega arith in
        let b : j ≡ length t + k = omega (arith, f.same_length) in
        ap (λ (m : ℕ). get_or (s ++ ws) m 0) a ∙ get_or-append-add s ws k 0 ∙ sym (get_or-append-add t ws k 0) ∙ ap (λ (m : ℕ). get_or (t ++ ws) m 0) (sym b)

-- ---- over the array that an accepted build left

module _ (table base check : List ℤ) (work : List ℕ) (built : (build_outcome table base check work).answer ≡ Accepted) (k : ℕ) (words : List ℕ) (totals : List ℤ) where
  abbrev left : Built
  left = build_outcome table base check work

  abbrev array : Option Store
  array = opened left.base left.check

  abbrev M : Model
  M = model_of table

  abbrev rs : List (List ℕ)
  rs = listed_sentences M k

  abbrev size : ℕ
  size = size_refusal k (length (listed_words M)) (length words) (length totals)

  abbrev number : ℕ
  number = (listing_outcome array k words totals).listing.number

  short : number ≡ 0 → k ≤ sentence_limit
  short z = (sized k (length (listed_words M)) (length words) (length totals) (sym (listing-rule table base check work built k words totals).number ∙ z)).short

  -- ---- the pair is the rule's

  sentences-same : sentences_over array k ≡ rs
  sentences-same = ap (sentences_of k) (words_same table base check work built)

  same-distance : number ≡ 0 → (i j : ℕ) → i < j → j < length rs → totals_apart rs (sentence_total array) i j ≡ totals_apart rs (rule_total M) i j
  unfolding totals_apart
  same-distance z i j l h =
      ap₂ distance
      (sentence-rule table base check work built (get_or rs i []) (omega (arith, each_long (listed_words M) k i (omega arith), short z)))
      (sentence-rule table base check work built (get_or rs j []) (omega (arith, each_long (listed_words M) k j h, short z)))

  largest-same : number ≡ 0 → largest_pair (sentences_over array k) (sentence_total array) ≡ largest_pair rs (rule_total M)
  unfolding largest_pair
  largest-same z =
      ap (λ (ss : List (List ℕ)). largest_pair ss (sentence_total array)) sentences-same
      ∙ first-same (sentences_apart rs) (sentences_apart rs) (totals_apart rs (sentence_total array)) (totals_apart rs (rule_total M)) (length rs) (λ i j l h. refl) (same-distance z)

  -- ---- and within the figures

  -- a pair of sentences, each closed with its 3, as T-11 has it
  closed-apart : (i j : ℕ) → IsPair (sentences_apart rs) (length rs) i j → (p : ℕ) × DifferAt p (get_or rs i [] ++ (end_word ∷ [])) (get_or rs j [] ++ (end_word ∷ []))
  unfolding sentences_apart
  closed-apart i j p =
      let s = get_or rs i [] in
      let t = get_or rs j [] in
      let d = differ_at s t (each_long (listed_words M) k i (omega (arith, p.ordered, p.inside)) ∙ sym (each_long (listed_words M) k j p.inside)) p.one_place in
      (d.0, differ_append d.0 s t _ d.1)

  module _ (A : AcceptedModel M) where
    largest_close : nat_abs (largest_pair rs (rule_total M)).distance ≤ total_move M.order
    unfolding largest_pair totals_apart rule_total
    largest_close = within (sentences_apart rs) (totals_apart rs (rule_total M)) (length rs) (total_move M.order) (λ i j p. let d = closed-apart i j p in (one-word_by_the_rule M A (front true) d.0 _ _ d.1).totals)

    largest-closer : nat_abs (largest_pair rs (rule_total M)).distance ≤ closer_move M.order
    unfolding largest_pair totals_apart rule_total
    largest-closer = within (sentences_apart rs) (totals_apart rs (rule_total M)) (length rs) (closer_move M.order) (λ i j p. let d = closed-apart i j p in one-word-closer M A (front true) d.0 _ _ d.1)

  found : number ≡ 0 → (move_outcome array k words totals).move ≡ move_of (largest_pair rs (rule_total M))
  unfolding move_outcome
  found z = rw (eq-eqb number 0 z) (ap move_of (largest-same z))

  not_found : (number ≡ 0 → ⊥) → (move_outcome array k words totals).move ≡ refused_move number
  unfolding move_outcome
  not_found n = rw (ne_eqb number 0 n)

  move-number : (move_outcome array k words totals).move.number ≡ number
  move-number = go (eqb number 0) refl
    where
      go : (b : Bool) → eqb number 0 ≡ b → (move_outcome array k words totals).move.number ≡ number
      go true e = let z = eqb-true number 0 e in rw (found z) (sym z)
      go false e = rw (not_found (eqb-false number 0 e))

  -- a bound on the rule's largest distance is one on the answer's, which is 0 where the call is refused
  bounded : (figure : ℕ) → (AcceptedModel M → nat_abs (largest_pair rs (rule_total M)).distance ≤ figure) → nat_abs (move_outcome array k words totals).move.distance ≤ figure
  bounded figure f = go (eqb number 0) refl
    where
      go : (b : Bool) → eqb number 0 ≡ b → nat_abs (move_outcome array k words totals).move.distance ≤ figure
      go true e = rw (found (eqb-true number 0 e)) (f (accepted-model table (build_accepted table base check work built).accepted))
      go false e = rw (not_found (eqb-false number 0 e)) (omega arith)

  move-rule : MoveIsTheRule array M k words totals
  move-rule = record {
    number = move-number ∙ (listing-rule table base check work built k words totals).number;
    move = λ z. found (sym move-number ∙ z);
    never_exceeds = bounded (total_move M.order) largest_close;
    closer = bounded (closer_move M.order) largest-closer;
  }

  -- the array as the theorems over runs have it
  pub move-is-the-rule : MoveIsTheRule (array_of left) M k words totals
  unfolding array_of
  move-is-the-rule = move-rule
