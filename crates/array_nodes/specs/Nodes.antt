-- The nodes that walking from the root of any double array reaches. Words are oldest first, as in the list: the parent of `w ∷ us` is `us`. Assumes nothing.
use Rattle.std.specs.declared.option.Option.{Option}
use Rattle.std.specs.declared.option.Option.TheVariants.{Some, None}
use Rattle.std.specs.Prelude.{List, [], ◌∷◌, ◌++◌, map, ℕ, zero, suc, ℤ}
use Rattle.backoff.specs.Limits.{word_limit}
use Rattle.child_slots.specs.Children.{child_at}

-- ---- the nodes

-- a node and the words that lead to it
pub record Reached : Type 0 where
  pub slot : ℕ
  pub words : List ℕ

abbrev pub root : Reached
root = record { slot = 0; words = [] }

-- the child for word w of the node `us`, where there is one, in front of others
abbrev pub child_first : List ℕ → ℕ → Option ℕ → List Reached → List Reached
child_first us w (Some t) rest = record { slot = t; words = w ∷ us } ∷ rest
child_first us w None rest = rest

abbrev pub child_in : Option ℕ → (ℕ → Option ℕ) → Option ℕ
child_in (Some s) child = child s
child_in None child = None

module _ (base check : List ℤ) where
  -- where words lead from the root, the newest first: from each node to its child for the next word
  unfoldable pub walk_to : List ℕ → Option ℕ
  walk_to [] = Some 0
  walk_to (w ∷ us) = child_in (walk_to us) (λ (s : ℕ). child_at base check s w)

  -- the children of a node for the k words from w on
  unfoldable pub children_from : Reached → ℕ → ℕ → List Reached
  children_from r w zero = []
  children_from r w (suc k) = child_first r.words w (child_at base check r.slot w) (children_from r (suc w) k)

  -- its children by ascending word
  unfoldable pub children_of : Reached → List Reached
  children_of r = children_from r 1 word_limit

  unfoldable pub children_of_all : List Reached → List Reached
  children_of_all [] = []
  children_of_all (r ∷ rs) = children_of r ++ children_of_all rs

  -- the nodes of m words
  unfoldable pub level : ℕ → List Reached
  level zero = root ∷ []
  level (suc m) = children_of_all (level m)

  -- "the sequences of up to n words found by walking", by m, then by last word, then the word before it, and so on
  unfoldable pub reached : ℕ → List Reached
  reached zero = []
  reached (suc m) = reached m ++ level (suc m)

unfoldable pub slots_of : List Reached → List ℕ
slots_of rs = map (λ (r : Reached). r.slot) rs
