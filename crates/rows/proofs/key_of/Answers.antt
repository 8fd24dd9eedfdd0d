-- Zeros past the last word change no key.
use Rattle.rows.proofs.Keys.{key-places}
use Rattle.rows.proofs.key_of.Goals as goal

pub returns : goal.returns
returns c = cc (key-places c.args.words.now c.requires.0)
