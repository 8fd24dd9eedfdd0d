-- The children's rows and their work items as parts of the whole: rows from to from + n − 1. Assumes nothing.
use mathlib.Core.Path.{◌≡◌, sym, ap, ◌∙◌}
use mathlib.Core.List.{List, ◌++◌}
use Prim.Native.Nat.{ℕ, ◌+◌, ◌*◌, ◌-◌, ◌≤◌, ◌<◌}
use native.Mathlib.Omega.{arith}
use lib.IntN.{ℤ}
use lib.Dec.{lit<, lit≤}
use lib.ListN.{length, get_or, take, drop, length-append, length-drop, get_or-append}
use lib.Seq.{length-take-le, get_or-append-add, get_or-take, get_or-drop}
use Rattle.backoff.specs.Refusal.{Accepted}
use Rattle.rows.specs.Table.{rows_of}
use Rattle.rows.proofs.Good.{place_range}
use Rattle.list.specs.Check.{verdict}
use Rattle.list.proofs.Check.{accepted-good}
use Rattle.first_fit.specs.Steps.{oldest_from, ChildRows, oldest_of}
use Rattle.row_nodes.proofs.ListTrie.{middle_field, oldest_from_part}

-- ---- the rows

abbrev pub part_rows : List ℤ → ℕ → ℕ → List ℤ
part_rows t from n = take (8 * n) (drop (8 * from) t)

module _ (t : List ℤ) (from n : ℕ) (fits : 8 * (from + n) ≤ length t) where
  length-rows : length (part_rows t from n) ≡ 8 * n
  length-rows = length-take-le (8 * n) (drop (8 * from) t) (omega (arith, length-drop (8 * from) t))

  pub count-rows : rows_of (part_rows t from n) ≡ n
  unfolding rows_of
  count-rows = omega (arith, length-rows)

  pub oldest_rows : oldest_of (part_rows t from n) ≡ oldest_from t from n
  oldest_rows =
      let e : from + n - from ≡ n = omega arith in
      rw count-rows (rw e at (oldest_from_part t from (from + n)))

pub child-rows : (t : List ℤ) → verdict t ≡ Accepted → (from n : ℕ) (fits : 8 * (from + n) ≤ length t) → ChildRows (part_rows t from n)
unfolding rows_of
child-rows t a from n fits = record {
  whole = omega (arith, length-rows t from n fits);
  word = λ k l.
      let h : k < n = omega (arith, length-rows t from n fits) in
      let inside : from + k < rows_of t = omega arith in
      rw (middle_field t from n k 1 h (lit< tt)) (place_range t (from + k) ((accepted-good t a).row (from + k) inside) 1 (lit≤ tt) (lit≤ tt));
}

-- ---- the work items, once the part is back

abbrev pub back : ℕ → ℕ → List ℕ → List ℕ → List ℕ
back from n W I = take from W ++ (I ++ drop n (drop from W))

module _ (from n : ℕ) (W I : List ℕ) (fits : from + n ≤ length W) (same : length I ≡ n) where
  before : length (take from W) ≡ from
  before = length-take-le from W (omega arith)

  pub length_back : length (back from n W I) ≡ length W
  length_back = simp (length-append, length-drop) (omega (arith, before))

  pub back_inside : (k : ℕ) → k < n → get_or (back from n W I) (from + k) 0 ≡ get_or I k 0
  back_inside k l =
      ap (λ (x : ℕ). get_or (back from n W I) (x + k) 0) (sym before)
      ∙ get_or-append-add (take from W) (I ++ drop n (drop from W)) k 0
      ∙ get_or-append I (drop n (drop from W)) 0 k (omega arith)

  pub back-before : (j : ℕ) → j < from → get_or (back from n W I) j 0 ≡ get_or W j 0
  back-before j l = get_or-append (take from W) (I ++ drop n (drop from W)) 0 j (omega (arith, before)) ∙ get_or-take from W j 0 l

  pub back-after : (j : ℕ) → from + n ≤ j → get_or (back from n W I) j 0 ≡ get_or W j 0
  back-after j l =
      let k = j - (from + n) in
      let e : j ≡ length (take from W) + (length I + k) = omega (arith, before) in
      ap (λ (x : ℕ). get_or (back from n W I) x 0) e
      ∙ get_or-append-add (take from W) (I ++ drop n (drop from W)) (length I + k) 0
      ∙ get_or-append-add I (drop n (drop from W)) k 0
      ∙ get_or-drop n (drop from W) k 0 ∙ get_or-drop from W (n + k) 0 ∙ ap (λ (x : ℕ). get_or W x 0) (omega arith)
