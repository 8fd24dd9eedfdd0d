-- CHECK[0] is at least the head of order 1.
use lib.ListN.{get_or}
use lib.IntN.{pos, ◌-ℤ◌}
use lib.Signed.{◌≤ℤ◌}
use mir.Syntax.{w32}
use mir.Val.{SFits}
use mir.Facts.{to_z-of_z}
use borrow.Author.Rules.{rules}
use Rattle.integer.proofs.Arithmetic.{zarith, sub, abs, fit, to_nat}
use Rattle.integer.proofs.Items.{get_or-inside}
use Rattle.child_slots.specs.Children.{free_check}
use Rattle.double_array.specs.DoubleArray.{head_offset, head_check, order_in}
use Rattle.double_array.proofs.DoubleArray.{order_told}
use Rattle.double_array.proofs.order_of.Goals as goal

pub bounds-check-0 : goal.bounds-check-0
bounds-check-0 c = (order_told c.args.check.now c.requires).inside

-- CHECK[0] as the code reads it
head-fits : (c : goal.After-result-1) → SFits w32 (get_or c.args.check.now 0 (pos 0))
head-fits c = search rules

low : (c : goal.After-result-1) → head_check 1 ≤ℤ get_or c.args.check.now 0 (pos 0)
low c = let o = order_told c.args.check.now c.requires in rw (get_or-inside c.args.check.now 0 (pos 0) free_check o.inside) o.low

sub_fits : (c : goal.After-result-1) → SFits w32 (get_or c.args.check.now 0 (pos 0) -ℤ pos head_offset)
sub_fits c = let l = low c in omega (zarith, fit (head-fits c))

pub overflow_sub-result : goal.overflow_sub-result
overflow_sub-result c = rw (to_z-of_z (head-fits c)) (sub_fits c)

pub overflow_cast-result : goal.overflow_cast-result
overflow_cast-result c =
    let h = get_or c.args.check.now 0 (pos 0) in
    let l = low c in
    rw (to_z-of_z (head-fits c)) (to_nat tt (sub_fits c) (omega (zarith, sub h (pos head_offset))))

pub returns : goal.returns
unfolding order_in
returns c =
    let k = c.args.check.now in
    let h = get_or k 0 (pos 0) in
    let l = low c in
    rw (to_z-of_z (head-fits c), to_z-of_z (sub_fits c), get_or-inside k 0 free_check (pos 0) (order_told k c.requires).inside)
    (omega (zarith, sub h (pos head_offset), abs (h -ℤ pos head_offset), abs h))
