-- Document 01's printed lines, one example of each. Assumes nothing.
use mathlib.Core.Path.{◌≡◌, refl}
use mathlib.Core.List.{[], ◌∷◌}
use lib.IntN.{negsuc}
use Rattle.decimal.specs.Digits.{digits_within, digits}
use Rattle.columns.specs.Columns.{signed, numeral, justified, column}
use Rattle.columns.proofs.Examples.{after}
use Rattle.totals_text.specs.Lines.{refused_word, count_columns, sentence_line, refused_line}

-- `       3       1       1          -33000`
third_line : sentence_line 3 1 1 (negsuc 32999) ≡ after 7 (51 ∷ after 7 (49 ∷ after 7 (49 ∷ after 10 (45 ∷ 51 ∷ 51 ∷ 48 ∷ 48 ∷ 48 ∷ 10 ∷ []))))
unfolding after sentence_line count_columns column justified numeral signed digits digits_within
third_line = refl

-- `refused      13       2`
refused-second : refused_line 13 2 ≡ 114 ∷ 101 ∷ 102 ∷ 117 ∷ 115 ∷ 101 ∷ 100 ∷ after 6 (49 ∷ 51 ∷ after 7 (50 ∷ 10 ∷ []))
unfolding after refused_line refused_word column justified numeral signed digits digits_within
refused-second = refl
