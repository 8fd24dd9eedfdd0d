-- A model, a state and the answers of runs with every p, every b and every score multiplied by k. Assumes nothing.
use Rattle.std.specs.declared.option.Option.{Option}
use Rattle.std.specs.declared.option.Option.TheVariants.{Some, None}
use Rattle.std.specs.Prelude.{◌≡◌, List, ◌++◌, map, ℕ, take, drop, ℤ, pos, ◌*ℤ◌}
use Rattle.backoff.specs.Model.{Entry, Model}
use Rattle.backoff.specs.Rule.{Score}
use Rattle.backoff.specs.State.{State}
use Rattle.backoff.specs.Run.{Run, Answer, Call}
use Rattle.backoff.specs.Runs.{answers, last_state, standing, standing_points, standing_lengths}

abbrev pub times : ℕ → ℤ → ℤ
times k z = pos k *ℤ z

abbrev pub times_entry : ℕ → Option Entry → Option Entry
times_entry k None = None
times_entry k (Some r) = Some (record { p = times k r.p; b = times k r.b; e = r.e; f = r.f })

-- the same rows, each p and each b multiplied by k
unfoldable pub times_model : ℕ → Model → Model
times_model k M = record { order = M.order; find = λ l. times_entry k (M.find l) }

-- k times the points; the same matched row
unfoldable pub times_score : ℕ → Score → Score
times_score k s = record { points = times k s.points; matched = s.matched; extended = s.extended }

-- the same words, k times the back-offs
unfoldable pub times_state : ℕ → State → State
times_state k s = record { words = s.words; backoffs = map (times k) s.backoffs }

-- the same of nine numbers: count and words stay, back-offs are multiplied
unfoldable pub times_nine : ℕ → List ℤ → List ℤ
times_nine k l = take 5 l ++ map (times k) (drop 5 l)

-- The answer c, to the run q, is the answer a, to the run r, with k times its total and points: the refusal is the same, and so are the length bytes. `scale`
-- multiplies the back-offs of a state.
pub record AnsweredTimes {S : Type 0} (k : ℕ) (scale : S → S) (r q : Run) (a c : Answer S) : Type 0 where
  pub number : c.number ≡ a.number
  pub place : c.place ≡ a.place
  pub total : c.total ≡ times k a.total
  pub end : c.end ≡ scale a.end
  pub points : standing c.number q c.points ≡ map (times k) (standing a.number r a.points)
  pub lengths : standing c.number q c.lengths ≡ standing a.number r a.lengths

-- The same of a whole list of runs, qs by `finer` from the state t against rs by `call` from the state s: each run's refusal, total and end state, what stands
-- for the words of each accepted run, and the last state.
pub record ScoreTimes {S : Type 0} (k : ℕ) (scale : S → S) (call finer : Call S) (s t : S) (rs qs : List Run) : Type 0 where
  pub numbers : map (λ a. a.number) (answers finer t qs) ≡ map (λ a. a.number) (answers call s rs)
  pub places : map (λ a. a.place) (answers finer t qs) ≡ map (λ a. a.place) (answers call s rs)
  pub totals : map (λ a. a.total) (answers finer t qs) ≡ map (times k) (map (λ a. a.total) (answers call s rs))
  pub ends : map (λ a. a.end) (answers finer t qs) ≡ map scale (map (λ a. a.end) (answers call s rs))
  pub last : last_state finer t qs ≡ scale (last_state call s rs)
  pub points : standing_points finer t qs ≡ map (map (times k)) (standing_points call s rs)
  pub lengths : standing_lengths finer t qs ≡ standing_lengths call s rs
