-- It goes on with the next key.
use Rattle.std.proofs.Common.{◌+◌}
use Rattle.filled_list.proofs.Next.{next-high, next_on}
use Rattle.filling.proofs.end_after.Goals as goal

pub key_after-requires : goal.key_after-requires
key_after-requires c = let p = c.requires in next-high _ p.0 _ _ _ _ _ _ p.1.1.1 p.1.1.0

pub next_end-requires : goal.next_end-requires
next_end-requires c = let p = c.requires in (p.0, (p.1.0 + 1, next_on _ p.0 _ _ _ _ _ _ p.1.1.1 p.1.1.0 _ _ c.key_after.ensures))

pub returns : goal.returns
returns c = λ place e. c.next_end.ensures (place + 1) (next_on _ c.requires.0 _ _ _ _ _ _ e.1 e.0 _ _ c.key_after.ensures)
