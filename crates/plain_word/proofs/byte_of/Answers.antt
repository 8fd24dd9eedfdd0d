-- The matched row is a row of a good list.
use Rattle.rows.proofs.Table.{row_in}
use Rattle.list.proofs.Check.{accepted-good}
use Rattle.plain_word.proofs.byte_of.Goals as goal

pub extended-extended-requires : goal.extended-extended-requires
extended-extended-requires c = (row_in _ _ c.requires.1, accepted-good _ c.requires.0)
