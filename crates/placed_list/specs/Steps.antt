-- What wiping the slices promises. Assumes nothing.
use Rattle.std.specs.Prelude.{◌≡◌, List, ℕ, ℤ, pos, length, replicate}
use Rattle.child_slots.specs.Children.{free_check}

-- all slots are free, and the items 0
pub record Wiped (base check : List ℤ) (items : List ℕ) (base' check' : List ℤ) (items' : List ℕ) : Type 0 where
  pub base-free : base' ≡ replicate (length base) (pos 0)
  pub check-free : check' ≡ replicate (length check) free_check
  pub items-zero : items' ≡ replicate (length items) 0
