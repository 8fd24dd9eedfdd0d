-- What the totals program prints for a sentence, over the rows of a list. Assumes nothing.
use Rattle.std.specs.Prelude.{List, [], ◌∷◌, ◌++◌, ℕ, eqb, ℤ, length}
use Rattle.integer.specs.Integer.{sum}
use Rattle.backoff.specs.Limits.{unknown_word, start_word, end_word}
use Rattle.backoff.specs.Model.{Model}
use Rattle.backoff.specs.Rule.{replaced, rule_points}
use Rattle.backoff.specs.Counts.{count}
use Rattle.totals_text.specs.Lines.{sentence_line}

module _ (M : Model) where
  -- "Unknown means scored as 1, word 1 itself included."
  unfoldable pub unknown_in : List ℕ → ℕ
  unknown_in ws = count (λ w. eqb (replaced M w) unknown_word) ws

  -- "Each sentence is scored from `<s>` and closed with 3."
  unfoldable pub total_of : List ℕ → ℤ
  total_of ws = sum (rule_points M (start_word ∷ []) (ws ++ (end_word ∷ [])))

  -- "A line holds sentence number, words, unknown words (8 wide each) and total (16 wide)."
  unfoldable pub sentence_output : ℕ → List ℕ → List ℕ
  sentence_output k ws = sentence_line k (length ws) (unknown_in ws) (total_of ws)
