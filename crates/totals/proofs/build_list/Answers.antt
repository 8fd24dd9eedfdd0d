-- The arrays are those that build left of the table, which it accepted.
use Rattle.std.proofs.Common.{sym}
use Rattle.totals.proofs.build_list.Goals as goal

pub print_totals-requires : goal.print_totals-requires
print_totals-requires g c =
    let r = c.in-Ok.ensures.outcome in
    record {
      table = c.args.table.now;
      accepted = sym r.answer-is;
      base-is = r.base-is;
      check-is = r.check-is;
    }
