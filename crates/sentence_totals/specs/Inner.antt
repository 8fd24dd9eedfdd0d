-- What the functions of the totals are held to: the sentences in front of two slices, or one of them refused. Assumes nothing.
use Rattle.std.specs.declared.option.Option.{Option}
use Rattle.std.specs.declared.option.Option.TheVariants.{Some, None}
use Rattle.std.specs.Prelude.{◌≡◌, true, false, List, map, ℕ, length, drop, ℤ}
use Rattle.backoff.specs.Run.{written}
use Rattle.backoff.specs.Runs.{flat}
use Rattle.backoff.specs.Store.{Store}
use Rattle.double_array.specs.DoubleArray.{is_array, opened}
use Rattle.carried_state.specs.declared.State.{State}
use Rattle.carried_state.specs.Numbers.{numbers_of}
use Rattle.score.specs.Answers.{started_over}
use Rattle.sentence_totals.specs.Totals.{sentence_total, all_scored}

-- the state is start's over these arrays, which 11 and 12 let pass
pub record Begins (base check : List ℤ) (state : State) : Type 0 where
  pub array : is_array base check ≡ true
  pub started : (started_over (opened base check)).number ≡ 0
  pub numbers : numbers_of state ≡ (started_over (opened base check)).state

-- the sentences ss are written in front
pub record AllWritten (o : Option Store) (ss : List (List ℕ)) (words₀ : List ℕ) (totals₀ : List ℤ) (words : List ℕ) (totals : List ℤ) : Type 0 where
  pub scored : all_scored o ss ≡ true
  pub words_are : words ≡ written (flat ss) words₀
  pub totals_are : totals ≡ written (map (sentence_total o) ss) totals₀

-- what lies past the first n items is as it was
pub record Past {A : Type 0} (n : ℕ) (old now : List A) : Type 0 where
  pub past : drop n now ≡ drop n old
  pub long : length now ≡ length old

-- one of the sentences ss is refused, and nothing is written past them
pub record OneRefused (o : Option Store) (ss : List (List ℕ)) (words₀ : List ℕ) (totals₀ : List ℤ) (words : List ℕ) (totals : List ℤ) : Type 0 where
  pub refused : all_scored o ss ≡ false
  pub words-past : Past (length (flat ss)) words₀ words
  pub totals-past : Past (length ss) totals₀ totals

abbrev pub WrittenOver : Option Store → List (List ℕ) → List ℕ → List ℤ → Option Unit → List ℕ → List ℤ → Type 0
WrittenOver o ss words₀ totals₀ (Some _) words totals = AllWritten o ss words₀ totals₀ words totals
WrittenOver o ss words₀ totals₀ None words totals = OneRefused o ss words₀ totals₀ words totals
