-- `word_step::kind_of` meets its contract. Assumes nothing.
use borrow.Author.Tests.{eq-eqb, ne_eqb}
use Rattle.backoff.specs.Limits.{unknown_word}
use Rattle.word_step.proofs.kind_of.Statement.{statement}
use Rattle.word_step.proofs.kind_of.Tie as tie

returns : tie.Need-returns-then-word-eq-UNKNOWN_WORD
returns c = rw (eq-eqb _ unknown_word c.if-word-eq-UNKNOWN_WORD.true)

returns_2 : tie.Need-returns-else-word-eq-UNKNOWN_WORD
returns_2 c = rw (ne_eqb _ unknown_word c.if-word-eq-UNKNOWN_WORD.false)

pub kind_of_spec : {M : Type 1} → statement M
kind_of_spec = tie.close (tie.spec returns returns_2)
