-- What the answer of the largest move means. Sentences are counted from 0 here. The sentences quoted are those of document 02, T-13. Assumes nothing.
use Rattle.std.specs.Prelude.{◌≡◌, List, [], ℕ, suc, ◌≤◌, ◌<◌, length, get_or, ℤ, pos}
use Rattle.double_array.specs.DoubleArray.{opened}
use Rattle.sentence_totals.specs.Totals.{sentence_total}
use Rattle.sentences.specs.Listing.{usable_over, sentences_over}
use Rattle.sentences.specs.Meaning.{ListingMeans}
use Rattle.group_pairs.specs.Pairs.{IsLargest}
use Rattle.largest_pair.specs.Pairs.{IsPair, no_pair}
use Rattle.largest_move.specs.declared.Move.{Move}
use Rattle.largest_move.specs.Move.{sentences_apart, totals_apart, Outcome, move_of, refused_move}

-- the answer names two of the sentences ss, "by their numbers there from 1"
pub record Names (ss : List (List ℕ)) (total : List ℕ → ℤ) (m : Move) : Type 0 where
  pub i : ℕ
  pub j : ℕ
  pub first : m.first ≡ suc i
  pub second : m.second ≡ suc j
  pub distance : m.distance ≡ pos (totals_apart ss total i j)
  pub largest : IsLargest (IsPair (sentences_apart ss) (length ss)) (totals_apart ss total) i j

-- What was returned, with both slices as they are after the call.
pub record MoveMeans (base check : List ℤ) (k : ℕ) (words : List ℕ) (totals : List ℤ) (r : Outcome) : Type 0 where
  -- "Slices, what they then hold and refusals are T-12's": those of the listing, which says how many sentences there are
  pub listing : (n : ℕ) × ListingMeans base check k words totals (record { listing = record { number = r.move.number; place = r.move.place; sentences = n }; words = r.words; totals = r.totals })
  pub named : r.move.number ≡ 0 → 2 ≤ length (usable_over (opened base check)) → Names (sentences_over (opened base check) k) (sentence_total (opened base check)) r.move
  -- where all totals are equal, every pair reaches the largest distance, and the first two sentences are the earliest
  pub level : r.move.number ≡ 0 → 2 ≤ length (usable_over (opened base check))
      → ((i : ℕ) → i < length (sentences_over (opened base check) k) → sentence_total (opened base check) (get_or (sentences_over (opened base check) k) i []) ≡ sentence_total (opened base check) (get_or (sentences_over (opened base check) k) 0 []))
      → r.move ≡ move_of (record { distance = pos 0; first = 1; second = 2 })
  -- "With fewer than two usable words the distance is 0 and no pair is named (0, 0)."
  pub few : r.move.number ≡ 0 → length (usable_over (opened base check)) < 2 → r.move ≡ move_of no_pair
  -- "a refused call answers zeros"
  pub refused : (r.move.number ≡ 0 → ⊥) → r.move ≡ refused_move r.move.number
