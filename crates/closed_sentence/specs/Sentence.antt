-- One sentence over any store, as start and run are lent one. The sentences quoted are document 02's, of T-04. Assumes nothing.
use Rattle.std.specs.declared.option.Option.{Option}
use Rattle.std.specs.Prelude.{Bool, ◌&&◌, List, [], ◌∷◌, ℤ, pos, ◌+ℤ◌, eqb}
use Rattle.backoff.specs.Limits.{end_word}
use Rattle.backoff.specs.Run.{Run, Answer}
use Rattle.backoff.specs.Store.{Store, run_outcome}
use Rattle.score.specs.Answers.{started_over}

-- the word 3 as a run of its own
abbrev pub closing_run : Run
closing_run = record { words = end_word ∷ []; points = pos 0 ∷ []; lengths = 0 ∷ [] }

module _ (o : Option Store) where
  -- "Each is scored from `<s>`": a run over its words from start's state
  unfoldable pub words_run : Run → Answer (List ℤ)
  words_run r = run_outcome o (started_over o).state r

  -- "and closed with a 3", from the state that its words left
  unfoldable pub closed : Run → Answer (List ℤ)
  closed r = run_outcome o (words_run r).end closing_run

  -- start, its words and its 3 are accepted
  unfoldable pub is_scored : Run → Bool
  is_scored r = eqb (started_over o).number 0 && (eqb (words_run r).number 0 && eqb (closed r).number 0)

  -- the 3's "points count in the totals"
  unfoldable pub sentence_total : Run → ℤ
  sentence_total r = (words_run r).total +ℤ (closed r).total
