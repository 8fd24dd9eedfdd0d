-- How the code holds a line of TEXT that it has read. Only contracts of inner functions cite what is here. Assumes nothing.
use Rattle.std.specs.Prelude.{ℕ, Option, Some, None}
use Rattle.totals_sentence.specs.declared.Sentence.{Sentence}

-- how many words the line has, if it is in form
abbrev pub count_in : Option Sentence → Option ℕ
count_in (Some sentence) = Some sentence.count
count_in None = None
