-- Laws of the order of the rows. That it is the order of their keys is in Keys.antt. Assumes nothing.
use mathlib.Core.Path.{◌≡◌, refl}
use mathlib.Core.Bool.{Bool, true, false, ◌&&◌, ◌||◌}
use mathlib.Core.List.{List}
use Prim.Native.Nat.{ℕ, ◌≤◌}
use native.Mathlib.Omega.{arith}
use lib.Dec.{ltb, eqb}
use lib.ListN.{length}
use borrow.Author.Tests.{ltb-true, eqb-true}
use Rattle.integer.proofs.Ranges.{and_left}
use Rattle.rows.specs.Order.{last_less, precedes}

-- no row comes after a longer one
pub precedes-length : (us vs : List ℕ) → precedes us vs ≡ true → length us ≤ length vs
unfolding precedes
precedes-length us vs e = go (ltb (length us) (length vs)) refl e
  where
    go : (b : Bool) → ltb (length us) (length vs) ≡ b → (b || (eqb (length us) (length vs) && last_less us vs)) ≡ true → length us ≤ length vs
    go true l e = let h = ltb-true (length us) (length vs) l in omega arith
    go false l e =
        let h = eqb-true (length us) (length vs) (and_left (eqb (length us) (length vs)) (last_less us vs) e) in
        omega arith
