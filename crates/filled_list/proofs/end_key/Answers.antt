-- The part of the table holds the last words of the row.
use Rattle.std.proofs.Common.{ap, ◌∙◌, arith}
use Rattle.std.proofs.Math.ListN.{length-take}
use Rattle.backoff.specs.Words.{key}
use Rattle.filled_list.proofs.LastWords.{places-last, last-are_words}
use Rattle.filled_list.proofs.end_key.Goals as goal

pub key_of-requires : goal.key_of-requires
key_of-requires c =
    (rw length-take (omega arith), rw (places-last _ _ _ _ c.requires.2 c.requires.4) (last-are_words _ _ _ c.requires.1))

pub returns : goal.returns
returns c = c.key_of.ensures ∙ ap key (places-last _ _ _ _ c.requires.2 c.requires.4)
