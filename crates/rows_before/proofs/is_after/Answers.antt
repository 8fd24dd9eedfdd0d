-- The rows are compared by their keys.
use Rattle.std.proofs.Common.{◌≡◌, ltb, ◌-◌, sym, ◌∙◌, arith}
use Rattle.rows.specs.Keys.{row_key}
use Rattle.rows_before.proofs.Faults.{after_first, after-key}
use Rattle.rows_before.proofs.is_after.Goals as goal

pub returns-then-i-eq0 : goal.returns-then-i-eq0
returns-then-i-eq0 c = sym (after_first _ _ c.if-i-eq0.true)

pub returns : goal.returns
returns c =
    let t = c.args.table.now in
    let i = c.args.i in
    let e : c.key_less.result ≡ ltb (row_key t (i - 1)) (row_key t i) = grind arith in
    e ∙ sym (after-key t i c.if-i-eq0.false c.requires.1 c.requires.2)
