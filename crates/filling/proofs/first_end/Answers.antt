-- The walk starts at the least key.
use Rattle.filled_list.proofs.Next.{filling-starts}
use Rattle.filling.proofs.first_end.Goals as goal

pub next_end-requires : goal.next_end-requires
next_end-requires c = let p = c.requires in (p.0, (0, filling-starts _ p.0 _ p.1))

pub returns : goal.returns
returns c = let p = c.requires in c.next_end.ensures 0 (filling-starts _ p.0 _ p.1)
