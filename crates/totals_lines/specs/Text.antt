-- What the totals program prints for the lines of TEXT, over the rows of a list. Assumes nothing.
use Rattle.std.specs.Prelude.{cond, List, [], ◌∷◌, ◌++◌, ℕ, suc}
use Rattle.backoff.specs.Refusal.{text_line}
use Rattle.backoff.specs.Model.{Model}
use Rattle.totals_text.specs.Lines.{is_text_line, text_words, refused_line}
use Rattle.totals_list.specs.List.{Line, ended, unended}
use Rattle.totals_sentence.specs.Sentence.{sentence_output}

module _ (M : Model) where
  -- "A refusal prints `refused`, then number and place, 8 wide each, and ends the output." The first line has the number k
  unfoldable pub text_output : ℕ → List Line → List ℕ
  text_output k [] = []
  text_output k (unended l ∷ ls) = refused_line text_line k
  text_output k (ended l ∷ ls) = cond (is_text_line l) (sentence_output M k (text_words l) ++ text_output (suc k) ls) (refused_line text_line k)
