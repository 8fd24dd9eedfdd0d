-- Document 02, T-12, all small sentences: the usable words of a store, and the sentences of k of them in order. The sentences quoted are that request's.
-- Assumes nothing.
use Rattle.std.specs.Prelude.{Bool, true, false, not, cond, ◌&&◌, ◌||◌, List, [], ◌∷◌, ◌++◌, map, ℕ, zero, suc, eqb}
use Rattle.backoff.specs.Limits.{word_limit, start_word, end_word}
use Rattle.backoff.specs.Runs.{flat}
use Rattle.backoff.specs.Store.{Look, absent, broken, here, Store}

-- the numbers of 1 to n that pass a test, ascending
unfoldable pub passing : (ℕ → Bool) → ℕ → List ℕ
passing P zero = []
passing P (suc n) = passing P n ++ cond (P (suc n)) (suc n ∷ []) []

-- the store has a node there, with a sound marker or without
abbrev pub is_there : Look → Bool
is_there absent = false
is_there broken = true
is_there (here e) = true

-- "other than 2 and 3"
abbrev pub is_other : ℕ → Bool
is_other w = not (eqb w start_word || eqb w end_word)

-- "the listed words other than 2 and 3": those for which the root has a child
unfoldable pub usable : Store → ℕ → Bool
usable S w = is_there (S.look (w ∷ [])) && is_other w

unfoldable pub usable_words : Store → List ℕ
usable_words S = passing (usable S) word_limit

-- the words s, ended by each of the words us in turn
abbrev pub ended_by : List ℕ → List ℕ → List (List ℕ)
ended_by us s = map (λ u. s ++ (u ∷ [])) us

-- "every sentence of k words": each sentence of one word less, in their order, ended by each of the words us. So "sentences come in ascending order, the first
-- word weighing most, each once".
unfoldable pub sentences_of : ℕ → List ℕ → List (List ℕ)
sentences_of zero us = [] ∷ []
sentences_of (suc k) us = flat (map (ended_by us) (sentences_of k us))
