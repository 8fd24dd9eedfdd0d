-- Sentences cut from one slice of words by their ends, each on its own stretch, and what they come to over any store. The sentences quoted are document
-- 02's, of T-04. Assumes nothing.
use Rattle.std.specs.declared.option.Option.{Option}
use Rattle.std.specs.Prelude.{cond, List, [], ◌∷◌, map, ℕ, suc, ◌-◌, take, drop, ℤ}
use Rattle.integer.specs.Integer.{sum}
use Rattle.backoff.specs.Run.{Run}
use Rattle.backoff.specs.Runs.{flat}
use Rattle.backoff.specs.Store.{Store}
use Rattle.closed_sentence.specs.Sentence.{words_run, closed, is_scored, sentence_total}

-- the items of a slice from the a-th up to the e-th
abbrev pub stretch : {A : Type 0} → ℕ → ℕ → List A → List A
stretch a e l = take (e - a) (drop a l)

-- "Each sentence is handed on as its own stretch of the words, and may write only its own stretch of the points and of the lengths."
abbrev pub sentence : ℕ → ℕ → Run → Run
sentence a e r = record { words = stretch a e r.words; points = stretch a e r.points; lengths = stretch a e r.lengths }

-- "Words of all sentences lie in one slice, a second slice holds where each sentence ends (the count of words up to there ..)": the sentences behind the
-- first a words
unfoldable pub sentences : ℕ → List ℕ → Run → List Run
sentences a [] r = []
sentences a (e ∷ es) r = sentence a e r ∷ sentences e es r

module _ (o : Option Store) where
  -- what the words' stretches hold; the length bytes of the 3s, which are "without a place in the slice"
  unfoldable pub word_points : List Run → List ℤ
  word_points rs = flat (map (λ r. (words_run o r).points) rs)

  unfoldable pub word_bytes : List Run → List ℕ
  word_bytes rs = flat (map (λ r. (words_run o r).lengths) rs)

  unfoldable pub closing_bytes : List Run → List ℕ
  closing_bytes rs = flat (map (λ r. (closed o r).lengths) rs)

  -- "the total equals the separate sentence totals added"
  unfoldable pub total_of : List Run → ℤ
  total_of rs = sum (map (sentence_total o) rs)

  -- the number, counted from k, of the first sentence that is refused, 0 if none is
  unfoldable pub first_refused : ℕ → List Run → ℕ
  first_refused k [] = 0
  first_refused k (r ∷ rs) = cond (is_scored o r) (first_refused (suc k) rs) k
