-- The words before place `at` have their numbers. Assumes nothing.
use Rattle.std.proofs.Common.{◌-◌}
use Rattle.word_index.specs.Texts.{texts_from}
use Rattle.arpa_words.specs.Words.{number_met}
use Rattle.arpa_words.proofs.RowWords.{Numbered}
use Rattle.arpa_words.proofs.numbers_met.Given as goal

abbrev pub invariant-loop-j : goal.invariant-loop-j
invariant-loop-j l = Numbered (number_met (texts_from l.store 1 (l.words - 1))) l.text l.m l.numbers l.at l.j
