use Rattle.std.proofs.Common.{rules, ◌≡◌, true, pos, ◌-◌, nat_abs, SFits, w32, arith}
use Rattle.std.proofs.lemmas.Int.{ints}
use mathlib.Core.Bool.{and_assoc}
use lib.Signed.{lt_z, ◌≤ℤ◌, ◌<ℤ◌}
use Rattle.integer.proofs.Arithmetic.{zarith}
use Rattle.integer.proofs.Ranges.{between-below}
use Rattle.backoff.specs.Model.{in_backoff}
use Rattle.carried_state.proofs.Carried.{Four, state_ok-parts, between-count}
use Rattle.carried_state.proofs.State.passes.Goals as goal

pub returns-in_default : goal.returns-in_default
returns-in_default c =
    let s = c.args.self in
    let f : SFits w32 s.count = search rules in
    let four : Four s = record { words = search rules; backoffs = search rules } in
    let n : s.count <ℤ pos 0 = grind (arith, ints, c.in_default.ensures) in
    let e : lt_z s.count (pos 0) ≡ true = omega zarith in
    rw (state_ok-parts s four c.args.order, between-below (pos 0) (pos (c.args.order - 1)) s.count e)

pub returns : goal.returns
unfolding in_backoff
returns c =
    let s = c.args.self in
    let f : SFits w32 s.count = search rules in
    let four : Four s = record { words = search rules; backoffs = search rules } in
    let n : pos 0 ≤ℤ s.count = grind (arith, ints, c.in-Ok.ensures) in
    let k : c.in-Ok.count ≡ nat_abs s.count = grind (arith, ints, c.in-Ok.ensures) in
    rw (c.part_ok-words_ok.ensures, c.part_ok-backoffs_ok.ensures, k, state_ok-parts s four c.args.order, between-count c.args.order s.count n c.requires) (simp and_assoc)
