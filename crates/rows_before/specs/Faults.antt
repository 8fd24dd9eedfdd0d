-- The checks 7 and 8, of where a row stands among the rows before it, and with them 3 to 8 of a row. A fault is a refusal's number, 0 where there is none.
-- Assumes nothing.
use Rattle.std.specs.Prelude.{Bool, true, false, not, cond, ◌&&◌, List, ℕ, zero, suc, ◌*◌, leb, ℤ, take}
use Rattle.integer.specs.Integer.{or_else}
use Rattle.backoff.specs.Refusal.{row_order, shorter_row}
use Rattle.rows.specs.Table.{length_of, words, without_first, without_last, last_word}
use Rattle.rows.specs.Order.{precedes}
use Rattle.row_search.specs.Search.{find_in, is_at}
use Rattle.row_fields.specs.Fields.{field_fault}

-- 7: "not after the row before"
unfoldable pub is_after : List ℤ → ℕ → Bool
is_after t zero = true
is_after t (suc i) = precedes (words t i) (words t (suc i))

-- 8: "A row of two or more words needs two shorter rows, one without its first word and one without its last; each is searched only in the rows before it"
-- (request T-07: where the list is to be filled, "8 is kept for an absent row without the last word and for an absent one-word row", that is the row of
-- its last word alone; the one-word rows of its other words follow from the rows without the last word).
unfoldable pub without_firsts : Bool → List ℤ → ℕ → List ℕ
without_firsts false t i = without_first t i
without_firsts true t i = last_word t i

unfoldable pub shorter_listed : Bool → List ℤ → ℕ → Bool
shorter_listed filling t i = is_at (find_in (take (8 * i) t) (without_firsts filling t i)) && is_at (find_in (take (8 * i) t) (without_last t i))

-- 7 and 8: where row i stands
unfoldable pub order_fault : Bool → List ℤ → ℕ → ℕ
order_fault filling t i =
    cond (not (is_after t i)) row_order
    (cond (leb 2 (length_of t i) && not (shorter_listed filling t i)) shorter_row
    0)

-- 3 to 8
unfoldable pub row_fault : Bool → List ℤ → ℕ → ℕ → ℕ
row_fault filling t n i = or_else (field_fault t n i) (order_fault filling t i)
