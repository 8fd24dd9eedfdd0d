-- The walk of a word from the empty state over a double array: it reads the word's own node alone. Assumes nothing.
use Rattle.std.specs.declared.option.Option.TheVariants.{Some}
use mathlib.Core.Path.{◌≡◌, refl}
use mathlib.Core.Bool.{true}
use mathlib.Core.List.{List, []}
use Prim.Native.Nat.{ℕ}
use native.Mathlib.Omega.{arith}
use lib.ListN.{length}
use lib.IntN.{ℤ, pos}
use Rattle.backoff.specs.State.{empty}
use Rattle.markers.specs.Markers.{Marker}
use Rattle.child_slots.specs.Children.{child_at}
use Rattle.double_array.specs.DoubleArray.{marker_at, is_array, store_in}
use Rattle.double_array.proofs.DoubleArray.{opened-order}
use Rattle.word_walk.specs.declared.Kept.{Kept}
use Rattle.word_walk.specs.Walk.{ended_at, stored_at, WalkedOver}
use Rattle.word_walk.proofs.Owing.{owing_begins}
use Rattle.word_walk.proofs.Walking.{walking_begins}
use Rattle.word_walk.proofs.Ending.{walk_ends}

abbrev none : Kept
none = record { count = 0; owed = pos 0 }

module _ (base check : List ℤ) (h : is_array base check ≡ true) (v slot : ℕ) (child : child_at base check 0 v ≡ Some slot) (backoffs : List ℤ) (five : length backoffs ≡ 5) where
  pub alone_ends : (m : Marker) → marker_at base check 1 slot ≡ m → WalkedOver (store_in base check) empty v (ended_at m 0 (pos 0) (pos 0) none) (stored_at m 0 backoffs)
  alone_ends m e =
      walk_ends base check v [] slot 0 none backoffs (walking_begins base check v [] slot backoffs (omega (arith, opened-order base check h)) h child) 0 backoffs (pos 0) (pos 0) (owing_begins 0 backoffs (pos 0) refl) five refl (omega arith) m e
