-- How the code holds the newest words: in four places, of which the last ones are in use. Assumes nothing.
use Rattle.std.specs.Prelude.{◌≡◌, Bool, true, cond, List, [], ◌∷◌, ◌++◌, ℕ, ◌+◌, ◌-◌, ◌≤◌, min, length, drop, ℤ, pos, eqb}
use Rattle.backoff.specs.Limits.{start_word, end_word}
use Rattle.backoff.specs.Words.{are_words}
use Rattle.rows.specs.Table.{words_of}
use Rattle.plain_history.specs.declared.Recent.{Recent}

-- four places with words in them
pub record IsRecent (r : Recent) : Type 0 where
  pub four : length r.words ≡ 4
  pub are_words_lem : are_words (words_of r.words) ≡ true
  pub few : r.count ≤ 4

-- the history, oldest word first
unfoldable pub in_use : Recent → List ℕ
in_use r = words_of (drop (4 - r.count) r.words)

-- the history before any word is scored, of at most `most` words: `<s>` where b says so, else none
unfoldable pub first_history : ℕ → Bool → Recent
first_history most b = record { words = pos start_word ∷ pos start_word ∷ pos start_word ∷ pos start_word ∷ []; count = cond b (min most 1) 0 }

-- the history once the given word w is scored as the word z: after a 3 `<s>` alone, else with z behind it
unfoldable pub pushed : ℕ → Recent → ℕ → ℤ → Recent
pushed most r w z = cond (eqb w end_word) (first_history most true) (record { words = drop 1 r.words ++ (z ∷ []); count = min most (r.count + 1) })
