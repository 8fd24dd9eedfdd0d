-- The words from k on are left to search. Assumes nothing.
use Rattle.std.proofs.Common.{◌≡◌, ◌-◌}
use Rattle.word_index.specs.Texts.{texts_from, search_from, record_with}
use Rattle.arpa_words.proofs.scan_words.Given as goal

abbrev pub invariant-loop-k : goal.invariant-loop-k
invariant-loop-k l = record_with l.store l.words l.text ≡ search_from l.text l.k (texts_from l.store l.k (l.words - l.k))
