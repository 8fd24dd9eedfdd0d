-- A row that passes checks 3 to 6 has a length and words.
use Rattle.std.proofs.Common.{◌≡◌, sym, ◌∙◌, ap}
use Rattle.row_fields.specs.Fields.{field_fault}
use Rattle.row_fields.proofs.Fields.{passed_fields}
use Rattle.backoff.specs.Refusal.{fault_of}
use Rattle.rows_before.proofs.check_row.Goals as goal

pub check_order-requires : goal.check_order-requires
check_order-requires c =
    let e : field_fault c.args.table.now c.args.n c.args.i ≡ 0 = sym c.check_fields.ensures ∙ ap fault_of c.in_ok-check_fields.was in
    (c.requires.0, c.requires.1, (passed_fields _ _ _ e).good)
