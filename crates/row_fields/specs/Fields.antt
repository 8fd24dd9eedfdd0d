-- The checks 3 to 6, of what one row holds. A fault is a refusal's number, 0 where there is none. Assumes nothing.
use Rattle.std.specs.Prelude.{Bool, not, cond, ◌&&◌, ◌||◌, List, ℕ, eqb, ℤ, pos}
use Rattle.integer.specs.Integer.{eq_z}
use Rattle.backoff.specs.Limits.{order_limit}
use Rattle.backoff.specs.Model.{in_probability, in_backoff}
use Rattle.backoff.specs.Refusal.{row_length, row_words, row_probability, row_backoff}
use Rattle.rows.specs.Table.{probability_at, backoff_at, length_of, places_fit}

-- 6: "b out of range, or not 0 where m = n"
unfoldable pub backoff_fits : List ℤ → ℕ → ℕ → Bool
backoff_fits t n i = in_backoff (backoff_at t i) && (not (eqb (length_of t i) n) || eq_z (backoff_at t i) (pos 0))

-- 3 to 6: what row i holds; 4, `places_fit`, stands with the rows' words
unfoldable pub field_fault : List ℤ → ℕ → ℕ → ℕ
field_fault t n i =
    cond (eqb (length_of t i) 0) row_length
    (cond (not (places_fit t i 1 order_limit)) row_words
    (cond (not (in_probability (probability_at t i))) row_probability
    (cond (not (backoff_fits t n i)) row_backoff
    0)))
