-- Where the rows begin that put one more word in front of a row: in an accepted list, behind those of the row before it. Assumes nothing.
use mathlib.Core.Path.{◌≡◌, sym, ap, ◌∙◌}
use mathlib.Core.List.{List, []}
use mathlib.Core.Logic.{⊎_elim}
use Prim.Native.Nat.{ℕ, suc, ◌+◌, ◌*◌, ◌-◌, ◌<◌, ◌≤◌}
use native.Mathlib.Omega.{arith}
use lib.IntN.{ℤ}
use Rattle.integer.proofs.Ranges.{lt_or_ge, up_to_le}
use Rattle.backoff.specs.Limits.{word_limit}
use Rattle.backoff.specs.Words.{are_words, radix, key}
use Rattle.backoff.specs.Refusal.{Accepted}
use Rattle.backoff.proofs.Words.{first_some}
use Rattle.rows.specs.Table.{rows_of, field, length_of, word_of, words_of, words, without_first}
use Rattle.extensions.specs.Stretch.{Stretch, ChildrenFrom}
use Rattle.list.specs.Check.{verdict}
use Rattle.rows.specs.Good.{Good}
use Rattle.rows.specs.Keys.{row_key}
use Rattle.rows.proofs.Table.{row_in, words_cons}
use Rattle.rows.proofs.Good.{are_words_lem, ascend-key}
use Rattle.row_search.proofs.ByKey.{keys_ascend}
use Rattle.extensions.proofs.Stretch.{front-key, front_in}
use Rattle.list.proofs.Check.{accepted-good, accepted-size, first-listed}

module _ (t : List ℤ) (a : verdict t ≡ Accepted) where
  good : Good t (rows_of t)
  good = accepted-good t a

  key-some : (j : ℕ) → j < rows_of t → 0 < row_key t j
  key-some j m =
      let cons = words_cons t j (row_in t j m) (good.row j m).some in
      omega (arith, front-key t good j m, first_some (word_of (field t j 1)) (without_first t j) (sym (ap are_words cons) ∙ are_words_lem t j (good.row j m)))

  -- a row of one word has a key below the others'
  single-key : (j : ℕ) → j < rows_of t → length_of t j < 2 → row_key t j < radix
  unfolding without_first words_of key
  single-key j m l =
      let none : length_of t j - 1 ≡ 0 = omega arith in
      let empty : without_first t j ≡ [] = rw none in
      omega (arith, front-key t good j m, ap key empty, up_to_le word_limit (field t j 1))

  -- a row of more words is one of the rows that put a word in front of the row that it is without its first
  record Behind (j : ℕ) : Type 0 where
    row : ℕ
    there : row < rows_of t
    same : without_first t j ≡ words t row
    low : radix * row_key t row ≤ row_key t j
    high : row_key t j < radix * row_key t row + radix

  behind : (j : ℕ) → j < rows_of t → 2 ≤ length_of t j → Behind j
  behind j m l =
      let f = first-listed t a j m l in
      let r : f.0 < rows_of t = omega (arith, f.1) in
      let k = front_in t good f.0 r j m (sym f.2) in
      record { row = f.0; there = r; same = sym f.2; low = k.0; high = k.1 }

  -- those of the first row stand behind the rows of one word
  pub children-first : (k : ℕ) → k ≤ rows_of t → ((j : ℕ) → j < k → length_of t j < 2) → ((j : ℕ) → k ≤ j → j < rows_of t → 2 ≤ length_of t j) → ChildrenFrom t 0 k
  children-first k within fewer more = record {
    order = omega arith;
    within = within;
    below = λ j l. omega (arith, single-key j (omega arith) (fewer j l), key-some 0 (accepted-size t a).0);
    above = λ j l m. let b = behind j m (more j l m) in omega (arith, b.low, keys_ascend t good 0 b.row (omega arith) b.there);
  }

  -- those of the next row stand where these end
  pub children-next : (i from to : ℕ) → suc i < rows_of t → ChildrenFrom t i from → Stretch t i from to → ChildrenFrom t (suc i) to
  children-next i from to l B S = record {
    order = omega arith;
    within = S.within;
    below = λ j h. ⊎_elim (λ p. omega (arith, B.below j p, higher)) (λ p. omega (arith, front_in t good i here j (omega (arith, S.within)) (S.inside j p h), higher)) (lt_or_ge j from);
    above = above;
  }
    where
      here : i < rows_of t
      here = omega arith

      higher : row_key t i < row_key t (suc i)
      higher = ascend-key t (rows_of t) i (suc i) good (omega arith) l

      later : (j : ℕ) → to ≤ j → j < rows_of t → (b : Behind j) → i < b.row
      later j h m b =
          ⊎_elim (λ p. p)
          (λ (p : b.row ≤ i).
          ⊎_elim
          (λ (q : b.row < i). absurd (omega (arith, ascend-key t (rows_of t) b.row i good q here, b.high, B.above j (omega (arith, S.order)) m)))
          (λ (q : i ≤ b.row). let e : b.row ≡ i = omega arith in absurd (omega (arith, (S.only j m (b.same ∙ ap (words t) e)).1)))
          (lt_or_ge b.row i))
          (lt_or_ge i b.row)

      above : (j : ℕ) → to ≤ j → j < rows_of t → radix * row_key t (suc i) ≤ row_key t j
      above j h m =
          let two : 2 ≤ length_of t j =
          ⊎_elim (λ p. absurd (omega (arith, single-key j m p, key-some i here, B.above j (omega (arith, S.order)) m))) (λ p. p) (lt_or_ge (length_of t j) 2) in
          let b = behind j m two in
          omega (arith, b.low, keys_ascend t good (suc i) b.row (later j h m b) b.there)
