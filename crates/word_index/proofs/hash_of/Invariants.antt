-- What is left to hash. Assumes nothing.
use Rattle.std.proofs.Common.{◌≡◌, ◌<◌, drop}
use Rattle.word_index.specs.Index.{hash_limit, hash, hash_from}
use Rattle.word_index.proofs.hash_of.Given as goal

abbrev pub invariant-loop-byte : goal.invariant-loop-byte
invariant-loop-byte l = (l.hash < hash_limit) × (hash l.text ≡ hash_from l.hash (drop l.byte-index l.text))
