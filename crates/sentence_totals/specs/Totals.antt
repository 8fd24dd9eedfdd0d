-- The total of a sentence, over any store as start and run are lent one: by one run over its words and its 3, and by a run of the 3 apart. The sentence quoted is
-- that of document 02, T-12. Assumes nothing.
use Rattle.std.specs.declared.option.Option.{Option}
use Rattle.std.specs.Prelude.{◌≡◌, Bool, true, ◌&&◌, List, [], ◌∷◌, ◌++◌, map, ℕ, replicate, ℤ, pos, ◌+ℤ◌, eqb}
use Rattle.backoff.specs.Limits.{end_word}
use Rattle.backoff.specs.Run.{Run, Answer}
use Rattle.backoff.specs.NineNumbers.{all}
use Rattle.backoff.specs.Store.{Store, run_outcome}
use Rattle.score.specs.Answers.{started_over}

-- a sentence with its 3
abbrev pub closed : List ℕ → List ℕ
closed s = s ++ (end_word ∷ [])

-- the words ws as a run of their own, with slices that are long enough for a sentence and its 3
abbrev pub own_run : List ℕ → Run
own_run ws = record { words = ws; points = replicate 5 (pos 0); lengths = replicate 5 0 }

module _ (o : Option Store) where
  -- "with its total from `<s>` including the closing 3": one run over the words ws from start's state
  unfoldable pub run_from_start : List ℕ → Answer (List ℤ)
  run_from_start ws = run_outcome o (started_over o).state (own_run ws)

  -- start and that run are accepted
  unfoldable pub runs_through : List ℕ → Bool
  runs_through ws = eqb (started_over o).number 0 && eqb (run_from_start ws).number 0

  unfoldable pub sentence_total : List ℕ → ℤ
  sentence_total s = (run_from_start (closed s)).total

  unfoldable pub is_scored : List ℕ → Bool
  is_scored s = runs_through (closed s)

  unfoldable pub all_scored : List (List ℕ) → Bool
  all_scored ss = all (map is_scored ss)

-- a sentence by start, a run over its words and a run of the 3 behind them
module _ (o : Option Store) (s : List ℕ) where
  abbrev pub words_run : Answer (List ℤ)
  words_run = run_outcome o (started_over o).state (own_run s)

  abbrev pub three_run : Answer (List ℤ)
  three_run = run_outcome o words_run.end (own_run (end_word ∷ []))

  pub record InRuns : Type 0 where
    pub scored : is_scored o s ≡ (eqb (started_over o).number 0 && (eqb words_run.number 0 && eqb three_run.number 0))
    pub total : is_scored o s ≡ true → sentence_total o s ≡ words_run.total +ℤ three_run.total
