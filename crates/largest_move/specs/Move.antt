-- The outcome of the largest move, over any store as start and run are lent one, and over any two slices. The sentences quoted are those of document 02, T-13.
-- Assumes nothing.
use Rattle.std.specs.declared.option.Option.{Option}
use Rattle.std.specs.Prelude.{Bool, cond, List, [], ℕ, eqb, length, get_or, ℤ, pos}
use Rattle.backoff.specs.Store.{Store}
use Rattle.one_word.specs.OneWord.{distance}
use Rattle.sentence_totals.specs.Totals.{sentence_total}
use Rattle.sentences.specs.Listing.{sentences_over, listing_outcome}
use Rattle.group_pairs.specs.declared.Pair.{Pair}
use Rattle.largest_pair.specs.Pairs.{first_largest}
use Rattle.largest_move.specs.declared.Move.{Move}
use Rattle.largest_move.specs.Pairs.{one_apart}

-- the i-th and the j-th of the sentences ss, counted from 0, differ at one place
unfoldable pub sentences_apart : List (List ℕ) → ℕ → ℕ → Bool
sentences_apart ss i j = one_apart (get_or ss i []) (get_or ss j [])

module _ (ss : List (List ℕ)) (total : List ℕ → ℤ) where
  -- how far their totals lie apart
  unfoldable pub totals_apart : ℕ → ℕ → ℕ
  totals_apart i j = distance (total (get_or ss i [])) (total (get_or ss j []))

  -- "the exact largest distance between totals of two sentences that differ at one place, and the pair that reaches it whose first sentence, then second,
  -- is earliest"
  unfoldable pub largest_pair : Pair
  largest_pair = first_largest (sentences_apart ss) totals_apart (length ss)

-- what is returned, and both slices as they are after the call
pub record Outcome : Type 0 where
  pub move : Move
  pub words : List ℕ
  pub totals : List ℤ

abbrev pub move_of : Pair → Move
move_of p = record { number = 0; place = 0; distance = p.distance; first = p.first; second = p.second }

-- "a refused call answers zeros"
abbrev pub refused_move : ℕ → Move
refused_move number = record { number = number; place = 0; distance = pos 0; first = 0; second = 0 }

-- "Slices, what they then hold and refusals are T-12's"
unfoldable pub move_outcome : Option Store → ℕ → List ℕ → List ℤ → Outcome
move_outcome o k words totals =
    record {
      move = cond (eqb (listing_outcome o k words totals).listing.number 0) (move_of (largest_pair (sentences_over o k) (sentence_total o))) (refused_move (listing_outcome o k words totals).listing.number);
      words = (listing_outcome o k words totals).words;
      totals = (listing_outcome o k words totals).totals;
    }
