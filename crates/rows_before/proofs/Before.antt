-- Laws of the rows before a row: which are found there. Assumes nothing.
use Rattle.std.specs.declared.option.Option.TheVariants.{None}
use mathlib.Core.Path.{◌≡◌, sym, ap, ◌∙◌}
use mathlib.Core.Bool.{true}
use mathlib.Core.List.{List}
use mathlib.Core.Logic.{⊎_elim}
use Prim.Native.Nat.{ℕ, ◌+◌, ◌*◌, ◌-◌, ◌<◌, ◌≤◌}
use native.Mathlib.Omega.{arith}
use lib.IntN.{ℤ}
use lib.ListN.{length, take, drop, length-take}
use Rattle.integer.proofs.Ranges.{lt_or_ge}
use Rattle.rows.specs.Table.{rows_of, length_of, words, without_last}
use Rattle.rows.specs.Good.{Good}
use Rattle.rows.proofs.Order.{precedes-length}
use Rattle.rows.proofs.Table.{row_in, part_rows_lem, part_words}
use Rattle.rows.proofs.Good.{good-fewer, part_good}
use Rattle.row_search.specs.Search.{find_in, is_at}
use Rattle.row_search.proofs.Search.{finds, finds_nothing}

-- a row of one word has no shorter row
pub single-nothing : (t part : List ℤ) (i : ℕ) → Good part (rows_of part) → length_of t i ≤ 1 → find_in part (without_last t i) ≡ None
unfolding without_last
single-nothing t part i g l = finds_nothing part (take (length_of t i - 1) (drop (8 * i + 1) t)) g (rw length-take (omega arith))

module _ (t : List ℤ) (g : Good t (rows_of t)) where
  -- a row is found among the rows before a later one
  pub found-ahead : (i j : ℕ) → j < i → i < rows_of t → is_at (find_in (take (8 * i) t) (words t j)) ≡ true
  found-ahead i j l m =
      let h : 8 * i ≤ length t = let e = row_in t i m in omega arith in
      ap is_at
      (ap (find_in (take (8 * i) t)) (sym (part_words t i j l))
      ∙ finds (take (8 * i) t) (part_good t i h (good-fewer t i (rows_of t) (omega arith) g)) j (omega (arith, part_rows_lem t i h)))

  -- and a shorter row is before a longer one
  pub shorter_before : (i j : ℕ) → i < rows_of t → j < rows_of t → length (words t j) < length (words t i) → j < i
  shorter_before i j l m s =
      ⊎_elim (λ p. p)
      (λ (p : i ≤ j).
      ⊎_elim
      (λ q. absurd (omega (arith, precedes-length (words t i) (words t j) (g.ascend i j q m))))
      (λ (q : j ≤ i). let z : i ≡ j = omega arith in absurd (omega (arith, ap (λ (k : ℕ). length (words t k)) z)))
      (lt_or_ge i j))
      (lt_or_ge j i)
