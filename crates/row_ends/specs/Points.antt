-- How the p of an added row is worked out: the rule on words that stand in the table. Only contracts of inner functions cite these. Assumes nothing.
use Rattle.std.specs.declared.option.Option.{Option}
use Rattle.std.specs.declared.option.Option.TheVariants.{Some, None}
use Rattle.std.specs.Prelude.{◌≡◌, true, List, ℕ, zero, suc, ◌-◌, ◌≤◌, length, take, drop, ℤ, pos, ◌+ℤ◌}
use Rattle.backoff.specs.Limits.{order_limit}
use Rattle.backoff.specs.Words.{are_words}
use Rattle.backoff.specs.Refusal.{Accepted}
use Rattle.rows.specs.Table.{probability_at, words_of}
use Rattle.row_search.specs.Search.{find_in, found_row}
use Rattle.row_search.specs.declared.Row.{Row}
use Rattle.list.specs.Check.{verdict_for}

-- the k words from place a on
unfoldable pub words_from : List ℤ → ℕ → ℕ → List ℕ
words_from t a k = words_of (take k (drop a t))

-- the words at places a to past − 1 of a list that is to be filled, as many as a row may have
abbrev pub WordsAt : List ℤ → ℕ → ℕ → Type 0
WordsAt t a past =
    (verdict_for true t ≡ Accepted) × (a ≤ past) × (past ≤ length t) × (past - a ≤ order_limit) × (are_words (words_from t a (past - a)) ≡ true)

-- p of a row, or where there is none the back-off of the words before the last and the points of the shorter sequence
abbrev pub points_by : List ℤ → Option ℕ → ℤ → ℤ → ℤ
points_by t (Some i) b rest = probability_at t i
points_by t None b rest = b +ℤ rest

-- b of a row, 0 where there is none
abbrev pub backoff_in : Option Row → ℤ
backoff_in (Some row) = row.b
backoff_in None = pos 0

-- the points of the last of the k words from place a on, after the others
unfoldable pub place_points : List ℤ → ℕ → ℕ → ℤ
place_points t a zero = pos 0
place_points t a (suc k) = points_by t (find_in t (words_from t a (suc k))) (backoff_in (found_row t (find_in t (words_from t a k)))) (place_points t (suc a) k)
