-- Laws of a line at the front of a buffer. Assumes nothing.
use mathlib.Core.Path.{◌≡◌, sym, ap, ◌∙◌}
use mathlib.Core.List.{List, ◌++◌}
use Prim.Native.Nat.{ℕ, ◌+◌, ◌≤◌}
use native.Mathlib.Omega.{arith}
use lib.ListN.{length, take}
use lib.Seq.{take_at, take_all, paste, take-paste}
use Rattle.backoff.specs.Run.{written}

-- the line that was written
pub front_of : {A : Type 0} (n : ℕ) (line old out : List A) → n ≡ length line → out ≡ written line old → take n out ≡ line
unfolding written
front_of {A} n line old out e f = ap (λ (l : List A). take n l) f ∙ take_at line _ n (sym e)

-- a text copied behind what stands in a buffer
pub appended : (out : List ℕ) (at : ℕ) (text line : List ℕ) (end : ℕ) (out' : List ℕ) → text ≡ line → end ≡ at + length line → out' ≡ paste out at text (length text) → end ≤ length out
    → take end out' ≡ take at out ++ line
appended out at text line end out' e f g h =
    let long : length text ≡ length line = ap length e in
    let f' : end ≡ at + length text = omega arith in
    rw f'
    (ap (λ (l : List ℕ). take (at + length text) l) g ∙ take-paste out at text (length text) (omega arith) (omega arith)
    ∙ ap (λ (l : List ℕ). take at out ++ l) (take_all (length text) text (omega arith) ∙ e))
