-- What the functions over a line of TEXT are held to. Assumes nothing.
use Rattle.std.specs.Prelude.{◌≡◌, true, false, cond, List, [], ◌∷◌, ◌++◌, ℕ, ◌+◌, ℤ, length, take}
use Rattle.backoff.specs.Limits.{end_word}
use Rattle.backoff.specs.Refusal.{text_line}
use Rattle.backoff.specs.Model.{Model, AcceptedModel}
use Rattle.backoff.specs.State.{start}
use Rattle.backoff.specs.NineNumbers.{nine}
use Rattle.backoff.specs.Store.{is_broken}
use Rattle.double_array.specs.DoubleArray.{is_array, store_in}
use Rattle.word_walk.specs.Rows.{array_model}
use Rattle.totals_text.specs.Lines.{is_text_line, text_words, refused_line}
use Rattle.totals_sentence.specs.Sentence.{sentence_output}

-- the words of a sentence and the closing word
abbrev pub Closed : List ℕ → List ℕ → Type 0
Closed line words = is_text_line line ≡ true → take (length (text_words line) + 1) words ≡ text_words line ++ (end_word ∷ [])

-- arrays with no broken node, whose rows are an accepted model, and start's state over them
pub record Ready (base check state : List ℤ) : Type 0 where
  pub array : is_array base check ≡ true
  pub sound : (l : List ℕ) → is_broken ((store_in base check).look l) ≡ false
  pub rows : AcceptedModel (array_model base check)
  pub state-is : state ≡ nine (start (array_model base check))

-- what a line of TEXT prints
unfoldable pub line_output : Model → ℕ → List ℕ → List ℕ
line_output M k line = cond (is_text_line line) (sentence_output M k (text_words line)) (refused_line text_line k)
