-- The largest move over what a build wrote: by the back-off rule over the list, and within the figure for one misheard word. The sentence quoted is
-- document 02's, of T-13. Assumes nothing.
use Rattle.std.specs.declared.option.Option.{Option}
use Rattle.std.specs.Prelude.{◌≡◌, List, ℕ, ◌≤◌, length, ℤ, nat_abs}
use Rattle.backoff.specs.Model.{Model}
use Rattle.backoff.specs.Store.{Store}
use Rattle.one_word.specs.OneWord.{total_move, closer_move}
use Rattle.sentences.specs.Listing.{size_refusal}
use Rattle.largest_move.specs.Move.{largest_pair, move_of, move_outcome}
use Rattle.theorems.specs.Sentences.{listed_words, listed_sentences, rule_total}

module _ (array : Option Store) (M : Model) (k : ℕ) (words : List ℕ) (totals : List ℤ) where
  pub record MoveIsTheRule : Type 0 where
    pub number : (move_outcome array k words totals).move.number ≡ size_refusal k (length (listed_words M)) (length words) (length totals)
    pub move : (move_outcome array k words totals).move.number ≡ 0 → (move_outcome array k words totals).move ≡ move_of (largest_pair (listed_sentences M k) (rule_total M))
    -- "Over a build's array it never exceeds T-11's figure."
    pub never_exceeds : nat_abs (move_outcome array k words totals).move.distance ≤ total_move M.order
    -- beyond the request: nor the figure that the rule allows
    pub closer : nat_abs (move_outcome array k words totals).move.distance ≤ closer_move M.order
