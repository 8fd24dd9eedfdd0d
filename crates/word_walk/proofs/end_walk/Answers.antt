use Rattle.std.proofs.Common.{rules, ◌≡◌, true, ℤ, ◌+ℤ◌, ◌*◌, ◌≤◌, nat_abs, refl}
use mir.Syntax.{w32}
use mir.Val.{SFits}
use mir.Facts.{to_z-of_z}
use Rattle.integer.proofs.Arithmetic.{zarith, abs, add}
use Rattle.backoff.specs.Limits.{largest_backoff}
use Rattle.backoff.specs.Model.{in_backoff}
use Rattle.backoff.proofs.Sizes.{backoff-size}
use Rattle.word_walk.proofs.Owing.{points_fit}
use Rattle.word_walk.proofs.end_walk.Goals as goal

sum_fits : (x y : ℤ) → nat_abs x ≤ 4 * largest_backoff → in_backoff y ≡ true → SFits w32 (x +ℤ y)
sum_fits x y small in_backoff_lem = omega (zarith, backoff-size y in_backoff_lem, small, abs x, add x y)

pub returns-in_default-clause-walked : goal.returns-in_default-clause-walked
returns-in_default-clause-walked c = rw c.in_default.is refl

pub returns-in_default-clause-backoffs : goal.returns-in_default-clause-backoffs
returns-in_default-clause-backoffs c = rw c.in_default.is refl

pub overflow_add-result : goal.overflow_add-result
overflow_add-result c =
    let r = rw c.in-Some.is at c.requires.in_range in
    let f : SFits w32 c.in-Some.field-0.p = search rules in
    rw (to_z-of_z f, to_z-of_z c.ranges.owed) (points_fit c.in-Some.field-0.p c.args.owed r.0 c.requires.owed_bound.0)

pub overflow_add-sum : goal.overflow_add-sum
overflow_add-sum c =
    let r = rw c.in-Some.is at c.requires.in_range in
    let f : SFits w32 c.in-Some.field-0.b = search rules in
    rw (to_z-of_z f, to_z-of_z c.ranges.sum) (sum_fits c.args.sum c.in-Some.field-0.b c.requires.owed_bound.1 r.1)

pub returns-clause-walked : goal.returns-clause-walked
returns-clause-walked c =
    let r = rw c.in-Some.is at c.requires.in_range in
    let f : SFits w32 c.in-Some.field-0.p = search rules in
    let g : SFits w32 c.in-Some.field-0.b = search rules in
    let h = points_fit c.in-Some.field-0.p c.args.owed r.0 c.requires.owed_bound.0 in
    let k = sum_fits c.args.sum c.in-Some.field-0.b c.requires.owed_bound.1 r.1 in
    rw (c.in-Some.is, c.longest_live.ensures, to_z-of_z f, to_z-of_z g, to_z-of_z c.ranges.owed, to_z-of_z c.ranges.sum, to_z-of_z h, to_z-of_z k) refl

pub returns-clause-backoffs : goal.returns-clause-backoffs
returns-clause-backoffs c =
    let g : SFits w32 c.in-Some.field-0.b = search rules in
    rw (c.in-Some.is, to_z-of_z g) refl
