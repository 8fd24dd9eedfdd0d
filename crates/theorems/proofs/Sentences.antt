-- All small sentences over the outcomes of build and listing are scored by the rule. Assumes nothing.
use Rattle.std.specs.declared.option.Option.{Option}
use Rattle.std.specs.declared.option.Option.TheVariants.{Some}
use mathlib.Core.Path.{◌≡◌, refl, sym, ap, ap₂, ◌∙◌}
use mathlib.Core.Bool.{Bool, true, false, ◌&&◌, true≢false}
use mathlib.Core.List.{List, [], ◌∷◌, ◌++◌, map, append-nil}
use Prim.Native.Nat.{ℕ, suc, ◌^◌, ◌≤◌, ◌<◌}
use native.Mathlib.Omega.{arith}
use lib.Dec.{eqb}
use lib.ListN.{length, get_or, length-append}
use lib.IntN.{ℤ, +ℤ_idr}
use borrow.Author.Tests.{eq-eqb, le-ltb, eqb-true}
use Rattle.integer.specs.Integer.{sum}
use Rattle.integer.proofs.Ranges.{and_both}
use Rattle.backoff.specs.Limits.{word_limit, end_word, sentence_limit}
use Rattle.backoff.specs.Model.{Model, is_some, listed}
use Rattle.backoff.specs.Rule.{rule_points}
use Rattle.backoff.specs.Run.{Run, refusal, accepted, front, written}
use Rattle.backoff.specs.Runs.{flat, added, joined, answers, totals}
use Rattle.backoff.specs.NineNumbers.{nine_zeros, all}
use Rattle.backoff.specs.Store.{Look, absent, broken, here, Store, entry_of, is_broken, model_in}
use Rattle.backoff.specs.Refusal.{Accepted}
use Rattle.backoff.proofs.Store.{Whole}
use Rattle.list.specs.ListModel.{model_of}
use Rattle.double_array.specs.DoubleArray.{store_in, opened}
use Rattle.double_array.proofs.DoubleArray.{opened_some}
use Rattle.placed_list.specs.Build.{Built}
use Rattle.build.specs.Build.{build_outcome}
use Rattle.build.proofs.Built.{build_holds}
use Rattle.score.specs.Answers.{started_over}
use Rattle.sentence_order.specs.Sentences.{is_there, is_other, usable, usable_words, sentences_of}
use Rattle.sentence_order.proofs.Passing.{passing-same}
use Rattle.sentence_order.proofs.Sentences.{length-sentences, each_long}
use Rattle.sentence_totals.specs.Totals.{own_run, run_from_start, runs_through, closed, sentence_total, is_scored, all_scored}
use Rattle.sentences.specs.Listing.{size_refusal, early_refusal, full_listing, listed as listedOutcome, usable_over, sentences_over, listing_outcome}
use Rattle.sentences.proofs.Outcome.{sized}
use Rattle.plain.specs.Plain.{plain_outcome}
use Rattle.theorems.specs.RunsInARow.{array_of, first_state, RunsInARow}
use Rattle.theorems.specs.Sentences.{is_listed, listed_words, listed_sentences, rule_total, ListingIsTheRule}
use Rattle.theorems.proofs.RunsInARow.{runs_in_a_row}

-- ---- lists

all_true : {A : Type 0} (P : A → Bool) (d : A) (l : List A) → ((i : ℕ) → i < length l → P (get_or l i d) ≡ true) → all (map P l) ≡ true
unfolding all
all_true P d [] f = refl
all_true P d (x ∷ l) f = and_both (P x) _ (f 0 (omega arith)) (all_true P d l (λ i h. f (suc i) (omega arith)))

map_each : {A B : Type 0} (f g : A → B) (d : A) (l : List A) → ((i : ℕ) → i < length l → f (get_or l i d) ≡ g (get_or l i d)) → map f l ≡ map g l
map_each f g d [] h = refl
map_each {B = B} f g d (x ∷ l) h = ap₂ (λ (y : B) (r : List B). y ∷ r) (h 0 (omega arith)) (map_each f g d l (λ i k. h (suc i) (omega arith)))

-- ---- a store with no broken node has a child where its model lists a word

there_listed : (x : Look) → is_broken x ≡ false → is_there x ≡ is_some (entry_of x)
there_listed absent e = refl
there_listed broken e = absurd (true≢false e)
there_listed (here r) e = refl

usable-listed : (S : Store) → Whole S → (w : ℕ) → usable S w ≡ is_listed (model_in S) w
unfolding usable is_listed listed model_in
usable-listed S W w = ap (λ (b : Bool). b && is_other w) (there_listed (S.look (w ∷ [])) (W.sound (w ∷ [])))

-- ---- over the array that an accepted build left

module _ (table base check : List ℤ) (work : List ℕ) (built : (build_outcome table base check work).answer ≡ Accepted) where
  abbrev left : Built
  left = build_outcome table base check work

  abbrev array : Option Store
  array = opened left.base left.check

  abbrev S : Store
  S = store_in left.base left.check

  abbrev M : Model
  M = model_of table

  opens : array ≡ Some S
  opens = opened_some left.base left.check (build_holds table base check work built).array

  pub words_same : usable_over array ≡ listed_words M
  unfolding usable_words listed_words
  words_same =
      let holds = build_holds table base check work built in
      rw opens (passing-same (usable S) (is_listed M) (λ w. usable-listed S holds.whole w ∙ ap (λ (N : Model). is_listed N w) holds.model) word_limit)

  -- ---- one sentence

  module _ (s : List ℕ) (short : length s ≤ sentence_limit) where
    abbrev r : Run
    r = own_run (closed s)

    one : RunsInARow array M true nine_zeros (r ∷ []) (plain_outcome table true)
    one = unfold array_of in runs_in_a_row table base check work built true nine_zeros refl (r ∷ [])

    five : length (closed s) ≤ 5
    five = omega (arith, length-append s (end_word ∷ []))

    none : refusal r ≡ 0
    unfolding refusal
    none = rw (le-ltb 65535 (length (closed s)) (omega (arith, five)), le-ltb 5 (length (closed s)) five)

    added_is : added r ≡ s ++ (end_word ∷ [])
    unfolding added accepted
    added_is = rw (eq-eqb (refusal r) 0 none)

    joined_is : joined (r ∷ []) ≡ s ++ (end_word ∷ [])
    unfolding joined flat
    joined_is = append-nil (added r) ∙ added_is

    number_is : (run_from_start array (closed s)).number ≡ 0
    unfolding run_from_start first_state answers
    number_is = ap (λ (l : List ℕ). get_or l 0 0) one.scored.refusals ∙ none

    sentence-scored : is_scored array s ≡ true
    unfolding is_scored runs_through
    sentence-scored = rw (eq-eqb (started_over array).number 0 one.scored.start, eq-eqb (run_from_start array (closed s)).number 0 number_is)

    pub sentence-rule : sentence_total array s ≡ rule_total M s
    unfolding sentence_total run_from_start first_state answers totals rule_total
    sentence-rule = sym (+ℤ_idr _) ∙ one.scored.total ∙ ap (λ (ws : List ℕ). sum (rule_points M (front true) ws)) joined_is

  -- ---- all of them

  module _ (k : ℕ) (short : k ≤ sentence_limit) where
    abbrev ss : List (List ℕ)
    ss = sentences_over array k

    each-short : (i : ℕ) → i < length ss → length (get_or ss i []) ≤ sentence_limit
    each-short i h = omega (arith, each_long (usable_over array) k i h)

    all-scored : all_scored array ss ≡ true
    unfolding all_scored
    all-scored = all_true (is_scored array) [] ss (λ i h. sentence-scored (get_or ss i []) (each-short i h))

    totals-rule : map (sentence_total array) ss ≡ map (rule_total M) (listed_sentences M k)
    totals-rule = map_each (sentence_total array) (rule_total M) [] ss (λ i h. sentence-rule (get_or ss i []) (each-short i h)) ∙ ap (λ (us : List ℕ). map (rule_total M) (sentences_of k us)) words_same

  module _ (k : ℕ) (words : List ℕ) (totals : List ℤ) where
    abbrev size : ℕ
    size = size_refusal k (length (listed_words M)) (length words) (length totals)

    early : early_refusal array k (length words) (length totals) ≡ size
    early = rw opens (ap (λ (us : List ℕ). size_refusal k (length us) (length words) (length totals)) (rw opens at words_same))

    accepted-listing : size ≡ 0 → listing_outcome array k words totals ≡ full_listing array (sentences_over array k) words totals
    unfolding listing_outcome listedOutcome
    accepted-listing z = rw (early, eq-eqb size 0 z, all-scored k (sized k (length (listed_words M)) (length words) (length totals) z).short)

    listing-number : (listing_outcome array k words totals).listing.number ≡ size
    listing-number = go (eqb size 0) refl
      where
        go : (b : Bool) → eqb size 0 ≡ b → (listing_outcome array k words totals).listing.number ≡ size
        go true e = let z = eqb-true size 0 e in rw (accepted-listing z) (unfold full_listing in sym z)
        go false e = unfold listing_outcome in rw (early, e)

    listing-place : (b : Bool) → eqb size 0 ≡ b → (listing_outcome array k words totals).listing.place ≡ 0
    listing-place true e = rw (accepted-listing (eqb-true size 0 e)) (unfold full_listing in refl)
    listing-place false e = unfold listing_outcome in rw (early, e)

    -- over the slices that the build left, and over the array as the theorems over runs have it
    pub listing-rule : ListingIsTheRule array M k words totals
    unfolding full_listing
    listing-rule = record {
      number = listing-number;
      place = listing-place (eqb size 0) refl;
      sentences = λ z. rw (accepted-listing (sym listing-number ∙ z)) (length-sentences (usable_over array) k ∙ ap (λ (us : List ℕ). length us ^ k) words_same);
      words_are = λ z. rw (accepted-listing (sym listing-number ∙ z)) (ap (λ (us : List ℕ). written (flat (sentences_of k us)) words) words_same);
      totals_are = λ z. let y = sym listing-number ∙ z in rw (accepted-listing y) (ap (λ (ts : List ℤ). written ts totals) (totals-rule k (sized k (length (listed_words M)) (length words) (length totals) y).short));
    }

    pub listing-is-the-rule : ListingIsTheRule (array_of left) M k words totals
    unfolding array_of
    listing-is-the-rule = listing-rule
