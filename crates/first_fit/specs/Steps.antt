-- What the steps of placing a node ask of each other and promise each other. Assumes nothing.
use Rattle.std.specs.Prelude.{◌≡◌, Bool, true, false, List, [], ◌∷◌, ℕ, zero, suc, ◌+◌, ◌*◌, ◌≤◌, ◌<◌, max, min, ℤ, pos, length, get_or}
use Rattle.integer.specs.Integer.{between}
use Rattle.backoff.specs.Limits.{word_limit}
use Rattle.rows.specs.Table.{rows_of, field, word_of}
use Rattle.child_slots.specs.Children.{child_slot}
use Rattle.placing.specs.Placing.{Room, is_free, is_open, all_open, first_fit, update, own, top_with}
use Rattle.free_slots.specs.Chain.{is_link, Linked}

-- a part of the list that holds the rows of a node's children
pub record ChildRows (rows : List ℤ) : Type 0 where
  pub whole : length rows ≡ 8 * rows_of rows
  pub word : (k : ℕ) → k < rows_of rows → between (pos 0) (pos word_limit) (field rows k 1) ≡ true

-- the oldest words of the k rows from row i on: where those rows are a node's children, the words that lead to them
unfoldable pub oldest_from : List ℤ → ℕ → ℕ → List ℕ
oldest_from t i zero = []
oldest_from t i (suc k) = word_of (field t i 1) ∷ oldest_from t (suc i) k

-- the words that lead to them
abbrev pub oldest_of : List ℤ → List ℕ
oldest_of rows = oldest_from rows 0 (rows_of rows)

-- none of them is word 0, and they rise
pub record Rising (rows : List ℤ) : Type 0 where
  pub positive : (k : ℕ) → k < rows_of rows → 1 ≤ word_of (field rows k 1)
  pub rising : (j k : ℕ) → j < k → k < rows_of rows → word_of (field rows j 1) < word_of (field rows k 1)

-- the d of a node with these children, where no slot from N on is taken, and whether they lie behind it
abbrev pub fit_of : ℕ → Room → List ℤ → ℕ
fit_of N c rows = first_fit c (oldest_of rows) N

abbrev pub side_of : ℕ → Room → List ℤ → Bool
side_of N c rows = all_open c true (fit_of N c rows) (oldest_of rows)

-- what a search along the chain finds: d, and whether the children lie behind it, where d lies below slot N, and N where it does not
pub record FoundFit (N : ℕ) (c : Room) (rows : List ℤ) (d : ℕ) (behind : Bool) : Type 0 where
  pub d_is : d ≡ min (fit_of N c rows) N
  pub side_is : d < N → behind ≡ side_of N c rows

-- the word of the last child, 0 where there is none: where d itself is open, testing its slot before those of the children changes nothing, and none of them
-- lies farther ahead
pub record LastWord (rows : List ℤ) (w : ℕ) : Type 0 where
  pub word : w ≤ word_limit
  pub same : (c : Room) (behind : Bool) (d : ℕ) → is_open c d ≡ true → all_open c behind d (oldest_of rows) ≡ all_open c behind d (w ∷ oldest_of rows)
  pub farthest : Rising rows → (top d : ℕ) → top_with top false d (oldest_of rows) ≡ max top (suc (d + w))

-- what lies behind d for these children are slots
pub record ChildSlots (behind : Bool) (d : ℕ) (rows : List ℤ) : Type 0 where
  pub room : behind ≡ true → (k : ℕ) → k < rows_of rows → word_of (field rows k 1) ≤ d

-- the slices hold b and c with links, and a node in slot s is to be placed, whose marker has `mark` as CHECK
pub record Settles (N : ℕ) (b c : Room) (base check rows : List ℤ) (s : ℕ) (mark : ℤ) : Type 0 where
  pub linked : Linked N b c base check
  pub inside : s < N
  pub taken : is_free (c s) ≡ false
  pub apart : is_link mark ≡ false
  pub children : Rising rows

-- it can take d, with its children behind it or ahead
pub record Fitting (N : ℕ) (c : Room) (rows : List ℤ) (behind : Bool) (d : ℕ) : Type 0 where
  pub positive : 1 ≤ d
  pub within : top_with 0 behind d (oldest_of rows) ≤ N
  pub free : is_free (c d) ≡ true
  pub opened : all_open c behind d (oldest_of rows) ≡ true

-- the children's work items once their node has taken d, with them behind it or ahead
pub record Given (behind : Bool) (d : ℕ) (rows : List ℤ) (items items' : List ℕ) : Type 0 where
  pub same_length : length items' ≡ length items
  pub item : (k : ℕ) → k < length items → get_or items' k 0 ≡ child_slot behind d (word_of (field rows k 1))

-- the node in slot s, whose marker holds `mark` and `load`, takes its d, with its children on the side found, unless it reaches past the end. The answer r is
-- one more than the highest slot used, or both are above N
pub record NodePlaced (N : ℕ) (b c : Room) (rows : List ℤ) (s : ℕ) (mark load : ℤ) (top : ℕ) (items : List ℕ) (r : ℕ) (base' check' : List ℤ) (items' : List ℕ) : Type 0 where
  pub answer : min r (suc N) ≡ min (top_with top (side_of N c rows) (fit_of N c rows) (oldest_of rows)) (suc N)
  pub linked : r ≤ N → Linked N (update (update b (fit_of N c rows) load) s (pos (fit_of N c rows))) (update (own (side_of N c rows) (fit_of N c rows) s (oldest_of rows) c) (fit_of N c rows) mark) base' check'
  pub given : r ≤ N → Given (side_of N c rows) (fit_of N c rows) rows items items'
