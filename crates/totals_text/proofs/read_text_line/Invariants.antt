-- `totals_text::read_text_line`: the words still to be stored make, with those that are, all of them.
use Rattle.std.proofs.Common.{◌≡◌, drop}
use Rattle.std.proofs.lemmas.List.Edits.{sets}
use Rattle.totals_text.specs.Lines.{text_words}
use Rattle.totals_text.proofs.read_text_line.Given as goal

abbrev pub invariant-loop-i : goal.invariant-loop-i
invariant-loop-i l = sets l.fn.words 0 (text_words l.line) ≡ sets l.words l.i (drop l.i (text_words l.line))
