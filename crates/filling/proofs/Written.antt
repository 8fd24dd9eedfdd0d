-- The second table written row by row. Assumes nothing.
use mathlib.Core.Path.{◌≡◌, refl, sym, ap, ap₂, ◌∙◌}
use mathlib.Core.Bool.{true}
use mathlib.Core.List.{List, ◌++◌, append_assoc}
use Prim.Native.Nat.{ℕ, ◌+◌, ◌-◌, ◌*◌, ◌≤◌, ◌<◌}
use native.Mathlib.Omega.{arith}
use lib.ListN.{length, take, drop, length-drop, length-append}
use lib.Seq.{get_or-take, get_or-drop, length-take-le, ext_get_or, take_at, drop_at, drop-drop, take-add, take-length}
use lib.IntN.{ℤ, pos}
use Rattle.backoff.specs.Limits.{row_limit}
use Rattle.backoff.specs.Run.{written}
use Rattle.backoff.specs.Refusal.{Accepted}
use Rattle.rows.specs.Table.{rows_of, field, words}
use Rattle.list.specs.Check.{verdict_for}
use Rattle.list.proofs.Check.{checked-good, checked-size}
use Rattle.filled_list.specs.Filled.{filled_row, filled_rows, filled_table}
use Rattle.filled_list.proofs.FilledRows.{filled-few}
use Rattle.filled_list.proofs.FilledTable.{filled-length, filled-rows, filled-own}

row-length : (t : List ℤ) (ws : List ℕ) → length (filled_row t ws) ≡ 8
unfolding filled_row
row-length t ws = refl

module _ (t : List ℤ) (a : verdict_for true t ≡ Accepted) where
  long : length (filled_table t) ≡ 8 * rows_of (filled_table t)
  long = filled-length t (checked-good true t a) ∙ ap (λ (n : ℕ). 8 * n) (sym (filled-rows t (checked-good true t a)))

  row_part : (p : ℕ) → p < rows_of (filled_table t) → take 8 (drop (8 * p) (filled_table t)) ≡ filled_row t (words (filled_table t) p)
  unfolding field
  row_part p l =
      ext_get_or (pos 0) (take 8 (drop (8 * p) (filled_table t))) (filled_row t (words (filled_table t) p)) (size ∙ sym (row-length t (words (filled_table t) p)))
      (λ j m. get_or-take 8 (drop (8 * p) (filled_table t)) j (pos 0) (omega (arith, size)) ∙ get_or-drop (8 * p) (filled_table t) j (pos 0) ∙ (filled-own t (checked-good true t a) p l).has j (omega (arith, size)))
    where
      size : length (take 8 (drop (8 * p) (filled_table t))) ≡ 8
      size = length-take-le 8 (drop (8 * p) (filled_table t)) (omega (arith, length-drop (8 * p) (filled_table t), long))

  -- the second table once its first rows are written
  pub record Writing (second : List ℤ) (place start : ℕ) (filled : List ℤ) : Type 0 where
    pub at : start ≡ 8 * place
    pub room : length (filled_table t) ≤ length second
    pub rows : filled ≡ take (8 * place) (filled_table t) ++ drop (8 * place) second

  pub writing_starts : (second : List ℤ) → 8 * length (filled_rows t) ≤ length second → Writing second 0 0 second
  writing_starts second h = record { at = omega arith; room = omega (arith, filled-length t (checked-good true t a)); rows = refl }

  module _ (second : List ℤ) (place start : ℕ) (filled : List ℤ) (w : Writing second place start filled) (within : place ≤ rows_of (filled_table t)) where
    start-length : length (take (8 * place) (filled_table t)) ≡ 8 * place
    start-length = length-take-le (8 * place) (filled_table t) (omega (arith, long))

    pub writing_length : length filled ≡ length second
    writing_length =
        let r = w.room in
        ap length w.rows ∙ omega (arith, length-append (take (8 * place) (filled_table t)) (drop (8 * place) second), start-length, length-drop (8 * place) second, long)

    pub writing_ends : place ≡ rows_of (filled_table t) → filled ≡ written (filled_table t) second
    unfolding written
    writing_ends e =
        let z : 8 * place ≡ length (filled_table t) = omega (arith, long) in
        w.rows ∙ rw z (ap (λ (x : List ℤ). x ++ drop (length (filled_table t)) second) (take-length (filled_table t)))

    module _ (l : place < rows_of (filled_table t)) where
      pub writing_room : (start + 8 ≤ length filled) × (start + 8 ≤ 48 * row_limit)
      writing_room =
          let r = w.room in
          (omega (arith, w.at, writing_length, long), omega (arith, w.at, filled-rows t (checked-good true t a), filled-few t (checked-good true t a), (checked-size true t a).1))

      pub writing_on : (new : List ℤ) → new ≡ filled_row t (words (filled_table t) place) → Writing second (place + 1) (start + 8) (take start filled ++ (new ++ drop (start + 8 - start) (drop start filled)))
      writing_on new e = record {
        at = omega (arith, w.at);
        room = w.room;
        rows = whole;
      }
        where
          front : take start filled ≡ take (8 * place) (filled_table t)
          front = ap₂ (λ (k : ℕ) (x : List ℤ). take k x) w.at w.rows ∙ take_at (take (8 * place) (filled_table t)) (drop (8 * place) second) (8 * place) start-length

          back : drop (start + 8 - start) (drop start filled) ≡ drop (8 * (place + 1)) second
          back =
              let x : start + 8 - start ≡ 8 = omega arith in
              let y : 8 * place + 8 ≡ 8 * (place + 1) = omega arith in
              ap₂ (λ (k : ℕ) (z : List ℤ). drop k z) x (ap₂ (λ (k : ℕ) (z : List ℤ). drop k z) w.at w.rows ∙ drop_at (take (8 * place) (filled_table t)) (drop (8 * place) second) (8 * place) start-length)
              ∙ drop-drop 8 (8 * place) second ∙ ap (λ (k : ℕ). drop k second) y

          more : take (8 * place) (filled_table t) ++ new ≡ take (8 * (place + 1)) (filled_table t)
          more =
              let y : 8 * place + 8 ≡ 8 * (place + 1) = omega arith in
              ap (λ (x : List ℤ). take (8 * place) (filled_table t) ++ x) (e ∙ sym (row_part place l)) ∙ sym (take-add (8 * place) 8 (filled_table t)) ∙ ap (λ (k : ℕ). take k (filled_table t)) y

          whole : take start filled ++ (new ++ drop (start + 8 - start) (drop start filled)) ≡ take (8 * (place + 1)) (filled_table t) ++ drop (8 * (place + 1)) second
          whole = ap₂ (λ (x y : List ℤ). x ++ (new ++ y)) front back ∙ sym (append_assoc (take (8 * place) (filled_table t)) new (drop (8 * (place + 1)) second)) ∙ ap (λ (x : List ℤ). x ++ drop (8 * (place + 1)) second) more
