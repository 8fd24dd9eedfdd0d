-- `totals_text::put_total`: what is written is the total in its column.
use Rattle.std.proofs.Common.{◌≡◌, ℕ, ℤ, pos, nat_abs, w64, sym, ap, ◌∙◌}
use Rattle.std.specs.Int.Signed.{lt_z}
use mir.Val.{SFits, to_z, of_z}
use mir.Facts.{to_z-of_z}
use Rattle.columns.specs.Columns.{signed, justified, column}
use Rattle.columns.proofs.Columns.{column-signed}
use Rattle.totals_text.proofs.put_total.Goals as goal

in_column : (z : ℤ) (size : ℕ) → SFits w64 z → size ≡ nat_abs z → justified 16 (signed (lt_z (to_z w64 (of_z w64 z)) (pos 0)) size) ≡ column 16 z
in_column z size f e = rw (to_z-of_z f, e) (sym (column-signed 16 z))

pub put_column-requires : goal.put_column-requires
put_column-requires c = rw (in_column c.args.total c.unsigned_abs.result c.ranges.total (c.unsigned_abs.ensures.value ∙ ap nat_abs (to_z-of_z c.ranges.total))) c.requires

pub returns-clause-place : goal.returns-clause-place
returns-clause-place c = rw (← in_column c.args.total c.unsigned_abs.result c.ranges.total (c.unsigned_abs.ensures.value ∙ ap nat_abs (to_z-of_z c.ranges.total))) c.put_column.ensures.place

pub returns-clause-text : goal.returns-clause-text
returns-clause-text c = rw (← in_column c.args.total c.unsigned_abs.result c.ranges.total (c.unsigned_abs.ensures.value ∙ ap nat_abs (to_z-of_z c.ranges.total))) c.put_column.ensures.text
