-- Items in ascending order, and how many of them are at most a number: nodes are numbered from 1 by ascending slot, and the root is 0. Assumes nothing.
use Rattle.std.specs.Prelude.{cond, ℕ, suc, ◌<◌, leb}
use mathlib.Core.List.{List, [], ◌∷◌, Memᴰ}

-- R holds of each item and every later one
pub data EachTwo {A : Type 0} (R : A → A → Type 0) : List A → Type 0 where
  none : EachTwo R []
  more : {x : A} {l : List A} → ((y : A) → Memᴰ y l → R x y) → EachTwo R l → EachTwo R (x ∷ l)

abbrev pub Ascending : List ℕ → Type 0
Ascending l = EachTwo (λ (a b : ℕ). a < b) l

-- how many items at the front of l are at most s: where l has the slots of all nodes, the number of the node in slot s
unfoldable pub number_in : List ℕ → ℕ → ℕ
number_in [] s = 0
number_in (x ∷ l) s = cond (leb x s) (suc (number_in l s)) 0
