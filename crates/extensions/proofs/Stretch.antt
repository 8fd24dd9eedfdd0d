-- The rows that put one more word in front of a row are a stretch, found by their keys, and whether a row is extended is told by it. Assumes nothing.
use mathlib.Core.Path.{◌≡◌, refl, sym, ap, ◌∙◌}
use mathlib.Core.Bool.{Bool, true, false}
use mathlib.Core.List.{List}
use mathlib.Core.Logic.{◌⊎◌, inl, inr, ⊎_elim}
use Prim.Native.Nat.{ℕ, ◌+◌, ◌*◌, ◌<◌, ◌≤◌}
use native.Mathlib.Omega.{arith}
use lib.Dec.{ltb}
use lib.IntN.{ℤ}
use borrow.Author.Tests.{le-ltb, lt-ltb}
use Rattle.integer.proofs.Ranges.{lt_or_ge, false_unless, up_to_le}
use Rattle.backoff.specs.Limits.{word_limit}
use Rattle.backoff.specs.Words.{radix, key}
use Rattle.rows.specs.Table.{rows_of, field, word_of, words, without_first}
use Rattle.rows.specs.Good.{Good}
use Rattle.rows.specs.Keys.{row_key}
use Rattle.rows.proofs.Keys.{key_unique}
use Rattle.rows.proofs.Table.{row_in, words_cons}
use Rattle.rows.proofs.Good.{are_words_lem, are_words-without_first}
use Rattle.row_search.specs.ByKey.{Bracket}
use Rattle.row_search.proofs.ByKey.{keys_ascend}
use Rattle.list.specs.ListModel.{extended_in}
use Rattle.list.proofs.ListModel.{extended_exactly_if_listed}
use Rattle.extensions.specs.Stretch.{Stretch}

-- The rows that put one more word in front of row i: their keys are the row's key times the radix, plus the word.
pub front-key : (t : List ℤ) → Good t (rows_of t) → (j : ℕ) → j < rows_of t → row_key t j ≡ word_of (field t j 1) + radix * key (without_first t j)
unfolding row_key key
front-key t g j m = ap key (words_cons t j (row_in t j m) (g.row j m).some)

module _ (t : List ℤ) (g : Good t (rows_of t)) (i : ℕ) (l : i < rows_of t) (j : ℕ) (m : j < rows_of t) where
  pub front_in : without_first t j ≡ words t i → (radix * row_key t i ≤ row_key t j) × (row_key t j < radix * row_key t i + radix)
  unfolding row_key
  front_in e =
      let k : key (without_first t j) ≡ key (words t i) = ap key e in
      let c = front-key t g j m in
      let u = up_to_le word_limit (field t j 1) in
      (omega arith, omega arith)

  front-only : radix * row_key t i ≤ row_key t j → row_key t j < radix * row_key t i + radix → without_first t j ≡ words t i
  unfolding row_key
  front-only p q =
      let c = front-key t g j m in
      let u = up_to_le word_limit (field t j 1) in
      let k : key (without_first t j) ≡ key (words t i) = omega arith in
      key_unique (without_first t j) (words t i) (are_words-without_first t j (g.row j m) (row_in t j m)) (are_words_lem t i (g.row i l)) k

pub stretch : (t : List ℤ) (i from to : ℕ) → Good t (rows_of t) → i < rows_of t → Bracket t (radix * row_key t i) from from → Bracket t (radix * row_key t i + radix) to to → Stretch t i from to
stretch t i from to g l p q = record {
  order = ⊎_elim (λ o. let x = p.below to o in let y = q.above to (omega arith) (omega (arith, p.within)) in absurd (omega arith)) (λ o. o) (lt_or_ge to from);
  within = q.within;
  inside = λ j u v.
      let m : j < rows_of t = omega (arith, q.within) in
      front-only t g i l j m (p.above j u m) (q.below j v);
  only = λ j m e. let f = front_in t g i l j m e in (from_le j m f.0, to_lt j m f.1);
}
  where
    from_le : (j : ℕ) → j < rows_of t → radix * row_key t i ≤ row_key t j → from ≤ j
    from_le j m k = ⊎_elim (λ o. let z = p.below j o in absurd (omega arith)) (λ o. o) (lt_or_ge j from)

    to_lt : (j : ℕ) → j < rows_of t → row_key t j < radix * row_key t i + radix → j < to
    to_lt j m k = ⊎_elim (λ o. o) (λ o. let z = q.above j o m in absurd (omega arith)) (lt_or_ge j to)

-- the stretch of the rows that put one more word in front of row i is empty exactly where row i is not extended
pub stretch-extended : (t : List ℤ) (i from to : ℕ) → Stretch t i from to → extended_in t (words t i) ≡ ltb from to
stretch-extended t i from to s = go (extended_in t (words t i)) refl (lt_or_ge from to)
  where
    go : (b : Bool) → extended_in t (words t i) ≡ b → (from < to) ⊎ (to ≤ from) → extended_in t (words t i) ≡ ltb from to
    go b e (inl h) = (extended_exactly_if_listed t (words t i)).1 (from, let w = s.within in omega arith, s.inside from (omega arith) h) ∙ sym (lt-ltb from to h)
    go false e (inr h) = e ∙ sym (le-ltb from to h)
    go true e (inr h) = let r = (extended_exactly_if_listed t (words t i)).0 e in let o = s.only r.0 r.1 r.2 in absurd (omega (arith, o.0, o.1))

-- the first row whose key is not below those of such rows is the first of them, or there is none
module _ (t : List ℤ) (g : Good t (rows_of t)) (i : ℕ) (l : i < rows_of t) (first : ℕ) (b : Bracket t (radix * row_key t i) first first) where
  extended-from : extended_in t (words t i) ≡ true → (first < rows_of t) × (row_key t first < radix * row_key t i + radix)
  extended-from e =
      let r = (extended_exactly_if_listed t (words t i)).0 e in
      let f = front_in t g i l r.0 r.1 r.2 in
      ⊎_elim
      (λ o. absurd (omega (arith, b.below r.0 o, f.0)))
      (λ o. let m = r.1 in let a = keys_ascend t g first r.0 o m in (omega arith, omega (arith, f.1)))
      (lt_or_ge r.0 first)

  pub extended-first : first < rows_of t → extended_in t (words t i) ≡ ltb (row_key t first) (radix * row_key t i + radix)
  extended-first m = go (extended_in t (words t i)) refl (lt_or_ge (row_key t first) (radix * row_key t i + radix))
    where
      go : (c : Bool) → extended_in t (words t i) ≡ c → (row_key t first < radix * row_key t i + radix) ⊎ (radix * row_key t i + radix ≤ row_key t first) → extended_in t (words t i) ≡ ltb (row_key t first) (radix * row_key t i + radix)
      go c e (inl h) = (extended_exactly_if_listed t (words t i)).1 (first, m, front-only t g i l first m (b.above first (omega arith) m) h) ∙ sym (lt-ltb _ _ h)
      go false e (inr h) = e ∙ sym (le-ltb _ _ h)
      go true e (inr h) = absurd (omega (arith, (extended-from e).1))

  pub extended_none : rows_of t ≤ first → extended_in t (words t i) ≡ false
  extended_none m = false_unless _ (λ e. omega (arith, (extended-from e).0))
