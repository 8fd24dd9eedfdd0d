-- A row of one word has no shorter row.
use Rattle.std.proofs.Common.{sym, arith}
use Rattle.rows.proofs.Good.{part_good}
use Rattle.rows_before.proofs.Before.{single-nothing}
use Rattle.rows_before.proofs.check_order.Goals as goal

pub returns-then-m-lt2-clause-last : goal.returns-then-m-lt2-clause-last
returns-then-m-lt2-clause-last c =
    sym (single-nothing _ _ _ (part_good _ _ (omega arith) c.requires.1) (omega arith))
