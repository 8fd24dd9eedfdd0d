-- What the array built of a list must answer to a lookup, told by the list alone. Assumes nothing.
use Rattle.std.specs.declared.option.Option.{Option}
use Rattle.std.specs.declared.option.Option.TheVariants.{Some, None}
use Rattle.std.specs.Prelude.{cond, ◌&&◌, List, ℕ, leb, length, ℤ}
use Rattle.backoff.specs.Limits.{order_limit}
use Rattle.backoff.specs.Refusal.{word_count}
use Rattle.rows.specs.Table.{probability_at, backoff_at}
use Rattle.row_search.specs.Search.{find_in}
use Rattle.list.specs.ListModel.{extended_in}
use Rattle.lookup.specs.Lookup.{Lookup}
use Rattle.lookup.specs.Lookup.{Found, NotFound, Refused}

-- the row's own p and b, and whether some listed row puts a further word in front of the words
abbrev pub answer_at : List ℤ → List ℕ → Option ℕ → Lookup
answer_at t ws (Some i) = Found (probability_at t i) (backoff_at t i) (extended_in t ws)
answer_at t ws None = NotFound

-- "lookup of 0 or above 5 words" is 14; else words, oldest first, are found exactly if they are listed
unfoldable pub listed_answer : List ℤ → List ℕ → Lookup
listed_answer t ws = cond (leb 1 (length ws) && leb (length ws) order_limit) (answer_at t ws (find_in t ws)) (Refused word_count 0)
