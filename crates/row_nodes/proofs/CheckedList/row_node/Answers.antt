-- The row's own p and b passed the list's checks.
use borrow.Author.Rules.{rules}
use lib.Dec.{lit<}
use mir.Syntax.{w32}
use mir.Val.{SFits}
use mir.Facts.{to_z-of_z}
use Rattle.rows.proofs.Table.{row_in}
use Rattle.row_fields.proofs.Fields.{backoff_in}
use Rattle.list.proofs.Check.{accepted-row}
use Rattle.row_nodes.proofs.CheckedList.row_node.Goals as goal

pub field-requires : goal.field-requires
field-requires c = (row_in _ _ c.requires, lit< tt)

pub marker_check-requires : goal.marker_check-requires
marker_check-requires c =
    let f : SFits w32 c.field.result = search rules in
    rw (to_z-of_z f, c.field.ensures) (accepted-row _ c.args.self.accepted _ c.requires).fields.probability

pub field-requires-2 : goal.field-requires-2
field-requires-2 c = (row_in _ _ c.requires, lit< tt)

pub marker_base-requires : goal.marker_base-requires
marker_base-requires c =
    let f : SFits w32 c.field-2.result = search rules in
    rw (to_z-of_z f, c.field-2.ensures) (backoff_in _ _ _ (accepted-row _ c.args.self.accepted _ c.requires).fields.backoff)
