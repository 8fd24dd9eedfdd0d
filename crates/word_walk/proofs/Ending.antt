-- The end of a walk: as the code has it, and at a node behind which there are no more words. Assumes nothing.
use Rattle.std.specs.declared.option.Option.{Option}
use mathlib.Core.Path.{◌≡◌, ◌∙◌}
use mathlib.Core.Bool.{Bool, not, ◌||◌}
use mathlib.Core.List.{List}
use Prim.Native.Nat.{ℕ, suc, ◌≤◌}
use native.Mathlib.Omega.{arith}
use lib.ListN.{length, take}
use lib.IntN.{ℤ, pos, ◌+ℤ◌}
use Rattle.integer.specs.Integer.{eq_z}
use Rattle.backoff.specs.State.{State as Carried}
use Rattle.backoff.specs.Store.{Store}
use Rattle.markers.specs.Markers.{Marker, Sound, Broken}
use Rattle.double_array.specs.DoubleArray.{marker_at, store_in}
use Rattle.double_array.proofs.DoubleArray.{marker_in_range}
use Rattle.word_walk.specs.declared.Kept.{Kept}
use Rattle.word_walk.specs.declared.Walked.{Walked}
use Rattle.word_walk.specs.Walk.{ended_at, stored_at, Read, WalkedOver}
use Rattle.word_walk.proofs.Owing.{Owing, now_owed}
use Rattle.word_walk.proofs.Walking.{Walking, walking_broken, walking_ends}

-- the same end, as the code returns and leaves it
pub read_as : {S : Store} {s : Carried} {v passed : ℕ} {points x : ℤ} {kept noted : Kept} {extended : Bool} {bs cs : List ℤ} → x ≡ points → noted ≡ kept → cs ≡ bs → Read S s v points passed kept extended bs → Read S s v x passed noted extended cs
read_as e g h r = rw (e, g, h) r

pub walked_as : (S : Store) (s : Carried) (v : ℕ) {r x : Option Walked} {bs cs : List ℤ} → r ≡ x → bs ≡ cs → WalkedOver S s v x cs → WalkedOver S s v r bs
walked_as S s v e g h = rw (e, g) h

module _ (base check : List ℤ) (v : ℕ) (ws : List ℕ) (s passed : ℕ) (kept : Kept) (backoffs : List ℤ) (w : Walking base check v ws s passed kept backoffs) where
  pub walk_ends : (count : ℕ) (given : List ℤ) (sum owed : ℤ) → Owing count given passed kept sum owed backoffs → length given ≡ 5 → passed ≡ length ws → length ws ≤ 4 → (m : Marker) → marker_at base check (suc passed) s ≡ m → WalkedOver (store_in base check) (record { words = ws; backoffs = take count given }) v (ended_at m passed owed sum kept) (stored_at m passed backoffs)
  walk_ends count given sum owed o five all few (Sound p b x f) e =
      rw o.owed-is
      (walking_ends base check v ws s passed kept backoffs w p b x f e (sum +ℤ b) (take count given) (o.long ∙ five) (omega arith)
      (now_owed count given passed kept sum owed backoffs o (omega arith) b (marker_in_range base check (suc passed) s p b x f e).1 (not (eq_z b (pos 0)) || f)) all)
  walk_ends count given sum owed o five all few Broken e = walking_broken base check v ws s passed kept backoffs w (omega arith) e
