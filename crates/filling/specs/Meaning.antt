-- What filling means: the filled list is complete, has the lent rows and exactly the absent ones that it must have, and scores as the lent one does.
-- Assumes nothing.
use Rattle.std.specs.declared.option.Option.TheVariants.{None}
use Rattle.std.specs.Prelude.{◌≡◌, ◌⊎◌, true, false, List, ◌++◌, ℕ, suc, ◌*◌, ◌≤◌, ◌<◌, length, take, drop, ℤ, pos}
use Rattle.backoff.specs.Limits.{row_limit}
use Rattle.backoff.specs.Refusal.{table_length, row_probability, short_slice}
use Rattle.backoff.specs.Model.{in_probability}
use Rattle.backoff.specs.Rule.{rule}
use Rattle.backoff.specs.Refusal.{Accepted}
use Rattle.rows.specs.Table.{rows_of, order_of, probability_at, backoff_at, words}
use Rattle.row_search.specs.Search.{find_in}
use Rattle.list.specs.Check.{verdict}
use Rattle.list.specs.ListModel.{model_of}
use Rattle.list.specs.Meaning.{NoneMeets, VerdictMeans}
use Rattle.filled_list.specs.Filled.{added_probability, filled_rows}

module _ (t : List ℤ) where
  -- row i of the list, as it is lent
  pub record Lent (ws : List ℕ) (p b : ℤ) : Type 0 where
    pub at : ℕ
    pub within : at < rows_of t
    pub same : words t at ≡ ws
    pub probability-is : probability_at t at ≡ p
    pub backoff-is : backoff_at t at ≡ b

  -- "each absent row of two or more words that is some listed row without its first words"
  pub record AddedTo (ws : List ℕ) (p b : ℤ) : Type 0 where
    pub at : ℕ
    pub within : at < rows_of t
    pub front : List ℕ
    pub same : words t at ≡ front ++ ws
    pub two : 2 ≤ length ws
    pub absent : find_in t ws ≡ None
    pub probability-is : added_probability t ws ≡ p
    pub backoff-is : pos 0 ≡ b

-- any ws with p and b is a row of T exactly if it is a row of t, or one that is added
pub record AddsOnly (t T : List ℤ) : Type 0 where
  pub has : (ws : List ℕ) (p b : ℤ) → Lent T ws p b → Lent t ws p b ⊎ AddedTo t ws p b
  pub lent : (ws : List ℕ) (p b : ℤ) → Lent t ws p b → Lent T ws p b
  pub added : (ws : List ℕ) (p b : ℤ) → AddedTo t ws p b → Lent T ws p b

-- T is t, filled
pub record FilledList (t T : List ℤ) : Type 0 where
  pub accepted : verdict T ≡ Accepted
  pub order_as : order_of T ≡ order_of t
  pub adds_only : AddsOnly t T
  pub once : (i j : ℕ) → i < rows_of T → j < rows_of T → words T i ≡ words T j → i ≡ j
  pub scores_alike : (h : List ℕ) (w : ℕ) → (rule (model_of T) h w).points ≡ (rule (model_of t) h w).points

-- "a p outside its range": that of an added row which row i needs
pub record OutOfRange (t : List ℤ) (i : ℕ) : Type 0 where
  pub ws : List ℕ
  pub p : ℤ
  pub added : AddedTo t ws p (pos 0)
  pub needed : added.at ≡ i
  pub outside : in_probability p ≡ false

abbrev pub AllInRange : List ℤ → Type 0
AllInRange t = (i : ℕ) → OutOfRange t i → ⊥

-- 1, row by row 3 to 8, and 9, as the check of a list to be filled answers; "After 9, a p outside its range gives 5 at the first row that needs it, then too
-- many rows 1, a second table too short for the result 15"
pub data FillRefusedBy (t second : List ℤ) : ℕ → ℕ → Type 0 where
  bad_list : (n p : ℕ) → (n ≡ 0 → ⊥) → VerdictMeans true t n p → FillRefusedBy t second n p
  added-probability : NoneMeets true t → (i : ℕ) → OutOfRange t i → ((j : ℕ) → OutOfRange t j → i ≤ j) → FillRefusedBy t second row_probability (suc i)
  too_many_rows : NoneMeets true t → AllInRange t → row_limit < length (filled_rows t) → FillRefusedBy t second table_length 0
  too_short : NoneMeets true t → AllInRange t → length (filled_rows t) ≤ row_limit → length second < 8 * length (filled_rows t) → FillRefusedBy t second short_slice 0

-- what a call means that returned this number, this place and so many rows, where the second table was `second` and is `table`
pub record FillMeans (t second : List ℤ) (number place rows : ℕ) (table : List ℤ) : Type 0 where
  -- accepted: as many rows as it returns are the filled list, "the rest of the second table stays"
  pub filled : number ≡ 0 → FilledList t (take (8 * rows) table)
  pub counted : number ≡ 0 → rows_of (take (8 * rows) table) ≡ rows
  pub rest : number ≡ 0 → drop (8 * rows) table ≡ drop (8 * rows) second
  pub no_place : number ≡ 0 → place ≡ 0
  pub as_long : length table ≡ length second
  pub refused : (number ≡ 0 → ⊥) → FillRefusedBy t second number place
  -- "a refusal writes nothing"
  pub untouched : (number ≡ 0 → ⊥) → (table ≡ second) × (rows ≡ 0)
