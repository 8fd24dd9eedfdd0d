-- A list in the older points, and the list that it becomes. Assumes nothing.
use Rattle.std.specs.Prelude.{◌≡◌, true, cond, List, [], ◌∷◌, ℕ, suc, ◌%◌, ◌<◌, leb, ℤ, pos, neg_ℤ}
use Rattle.integer.specs.Integer.{between}
use Rattle.rows.specs.Table.{rows_of, probability_at, backoff_at}
use Rattle.lookup.specs.Lookup.{Lookup}
use Rattle.lookup.specs.Lookup.{Found, NotFound, Refused}
use Rattle.finer.specs.Times.{times}

-- Every p and every b multiplied by k, from number j of a table on: they are numbers 6 and 7 of each row's eight.
unfoldable pub times_from : ℕ → ℕ → List ℤ → List ℤ
times_from k j [] = []
times_from k j (z ∷ t) = cond (leb 6 (j % 8)) (times k z) z ∷ times_from k (suc j) t

unfoldable pub times_list : ℕ → List ℤ → List ℤ
times_list k t = times_from k 0 t

-- document 01, before T-08: "p lies in −990,000..0 and b in −990,000..990,000"
pub record OlderPoints (t : List ℤ) : Type 0 where
  pub probabilities : (i : ℕ) → i < rows_of t → between (neg_ℤ (pos 990000)) (pos 0) (probability_at t i) ≡ true
  pub backoffs : (i : ℕ) → i < rows_of t → between (neg_ℤ (pos 990000)) (pos 990000) (backoff_at t i) ≡ true

-- "A list in the older points is taken over by multiplying p and b by 100"
abbrev pub taken_over : List ℤ → List ℤ
taken_over t = times_list 100 t

-- the answer of a lookup, p and b multiplied by k
abbrev pub times_lookup : ℕ → Lookup → Lookup
times_lookup k (Found p b left) = Found (times k p) (times k b) left
times_lookup k NotFound = NotFound
times_lookup k (Refused number place) = Refused number place
