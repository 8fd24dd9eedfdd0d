-- What the functions that score one sentence are held to. Assumes nothing.
use Rattle.std.specs.declared.option.Option.{Option}
use Rattle.std.specs.declared.option.Option.TheVariants.{Some, None}
use Rattle.std.specs.Prelude.{◌≡◌, true, cond, List, ℕ, eqb, get_or, ℤ}
use Rattle.backoff.specs.Run.{Run, Answer}
use Rattle.backoff.specs.Store.{Store}
use Rattle.closed_sentence.specs.declared.Sentence.{Sentence}
use Rattle.closed_sentence.specs.Sentence.{words_run, closed, is_scored, sentence_total}

-- what the closing 3's run answers: its total, and its length byte
abbrev pub closing_of : Answer (List ℤ) → Option Sentence
closing_of a = cond (eqb a.number 0) (Some (record { total = a.total; closing = get_or a.lengths 0 0 })) None

-- a sentence: its total with the closing 3's points, and the closing 3's length byte
abbrev pub sentence_of : Option Store → Run → Option Sentence
sentence_of o r = cond (is_scored o r) (Some (record { total = sentence_total o r; closing = get_or (closed o r).lengths 0 0 })) None

-- what a sentence's call answers and leaves in its stretches
pub record SentenceIs (o : Option Store) (r : Run) (s : Option Sentence) (points : List ℤ) (lengths : List ℕ) : Type 0 where
  pub answer-is : s ≡ sentence_of o r
  pub points_are : is_scored o r ≡ true → points ≡ (words_run o r).points
  pub lengths_are : is_scored o r ≡ true → lengths ≡ (words_run o r).lengths
