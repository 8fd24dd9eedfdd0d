-- The loop over shorter and shorter ends: back-offs are owed for the histories passed, and the rule goes on with the rest. Assumes nothing.
use Rattle.std.specs.declared.option.Option.{Option}
use Rattle.std.specs.declared.option.Option.TheVariants.{Some, None}
use mathlib.Core.Path.{◌≡◌, refl, sym, ap, ◌∙◌}
use mathlib.Core.Bool.{true, false, false≢true}
use mathlib.Core.Logic.{⊎_elim}
use mathlib.Core.List.{List}
use Prim.Native.Nat.{ℕ, suc, ◌+◌, ◌*◌, ◌-◌, ◌<◌, ◌≤◌}
use native.Mathlib.Omega.{arith}
use lib.IntN.{ℤ, pos, neg_ℤ, ◌+ℤ◌, +ℤ_assoc, +ℤ_idl, +ℤ_idr}
use lib.ListN.{take, drop, length-take}
use lib.Seq.{drop-drop}
use mir.Syntax.{w32}
use mir.Val.{SFits, to_z, of_z}
use mir.Facts.{to_z-of_z}
use Rattle.integer.proofs.Arithmetic.{zarith, up, down, add}
use Rattle.integer.proofs.Ranges.{lt_or_ge, between-low, between-high}
use Rattle.integer.proofs.Parts.{front_part}
use Rattle.backoff.specs.Limits.{order_limit, least_probability, largest_backoff}
use Rattle.backoff.specs.Words.{are_words}
use Rattle.backoff.specs.Model.{in_probability, in_backoff}
use Rattle.backoff.specs.Refusal.{Accepted}
use Rattle.rows.specs.Table.{rows_of, probability_at, words_of}
use Rattle.rows.specs.Good.{Good}
use Rattle.rows.proofs.Table.{are_words-drop, are_words-take}
use Rattle.std.specs.Option.{is_some}
use Rattle.row_search.specs.Search.{find_in, is_at, found_row}
use Rattle.row_search.specs.declared.Row.{Row}
use Rattle.row_search.proofs.Search.{finds_nothing}
use Rattle.list.specs.Check.{verdict_for}
use Rattle.list.proofs.ListModel.{probability_range, backoff_range}
use Rattle.row_ends.specs.Points.{words_from, points_by, backoff_in, place_points}
use Rattle.row_ends.proofs.Points.{backoff-same}

-- ---- words among words

pub inside-words : (t : List ℤ) (a k b j : ℕ) → a ≤ b → b + j ≤ a + k → are_words (words_from t a k) ≡ true → are_words (words_from t b j) ≡ true
unfolding words_from
inside-words t a k b j l m e = sym (ap (λ (zs : List ℤ). are_words (words_of zs)) part) ∙ are_words-take j (drop (b - a) (take k (drop a t))) (are_words-drop (b - a) (take k (drop a t)) e)
  where
    at : a + (b - a) ≡ b
    at = omega arith

    part : take j (drop (b - a) (take k (drop a t))) ≡ take j (drop b t)
    part =
        front_part (drop a t) k (b - a) j (omega arith) ∙ ap (take j) (drop-drop (b - a) a t ∙ ap (λ (n : ℕ). drop n t) at)

-- ---- what is owed

-- the points of the words at places a to past − 1 are `owed` and those of the words from place `at` on
pub record Owed (t : List ℤ) (a past : ℕ) (owed : ℤ) (at : ℕ) : Type 0 where
  pub from : a ≤ at
  pub to : at ≤ past
  pub rest : place_points t a (past - a) ≡ owed +ℤ place_points t at (past - at)
  -- at most the largest back-off for each history passed
  pub low : down owed ≤ up owed + largest_backoff * (at - a)
  pub high : up owed ≤ down owed + largest_backoff * (at - a)

pub owed_none : (t : List ℤ) (a past : ℕ) → a ≤ past → Owed t a past (pos 0) a
owed_none t a past l = record { from = omega arith; to = l; rest = sym (+ℤ_idl (place_points t a (past - a))); low = omega arith; high = omega arith }

-- the code's sum of what is owed and x, which is y
pub record Sum (owed x y : ℤ) : Type 0 where
  pub fits : SFits w32 (owed +ℤ to_z w32 (of_z w32 x))
  pub sum_is : to_z w32 (of_z w32 (owed +ℤ to_z w32 (of_z w32 x))) ≡ owed +ℤ y

summed : {owed x y : ℤ} → x ≡ y → SFits w32 y → SFits w32 (owed +ℤ y) → Sum owed x y
summed e f g = rw e (record { fits = rw (to_z-of_z f) g; sum_is = rw (to_z-of_z f) (to_z-of_z g) })

place-step : (t : List ℤ) (past at : ℕ) → at < past → place_points t at (past - at) ≡ points_by t (find_in t (words_from t at (past - at))) (backoff_in (found_row t (find_in t (words_from t at (past - 1 - at))))) (place_points t (at + 1) (past - (at + 1)))
unfolding place_points
place-step t past at l =
    let e : past - at ≡ suc (past - (at + 1)) = omega arith in
    let f : past - 1 - at ≡ past - (at + 1) = omega arith in
    let g : at + 1 ≡ suc at = omega arith in
    rw (f, e, g)

-- what was found is a row, with its p
found-some : (t : List ℤ) (f : Option ℕ) {row : Row} → Some row ≡ found_row t f → (i : ℕ) × (f ≡ Some i) × (row.p ≡ probability_at t i)
unfolding found_row
found-some t (Some i) e = (i, refl, let z : _ ≡ _ = e in cc)
found-some t None e = absurd (some-none e)
  where
    some-none : {row : Row} → ◌≡◌ {A = Option Row} (Some row) None → ⊥
    some-none e = cc

-- whether it was found
pub found-is : (t : List ℤ) (f : Option ℕ) → is_some (found_row t f) ≡ is_at f
unfolding found_row
found-is t (Some i) = refl
found-is t None = refl

pub none-absent : (t : List ℤ) (f : Option ℕ) → None ≡ found_row t f → is_at f ≡ false
unfolding found_row
none-absent t (Some i) e = cc
none-absent t None e = refl

-- a row that was found has a word
listed-some : (t : List ℤ) (past at i : ℕ) → Good t (rows_of t) → find_in t (words_from t at (past - at)) ≡ Some i → at < past
unfolding words_from
listed-some t past at i g e =
    ⊎_elim
    (λ l. l)
    (λ (l : past ≤ at). absurd (false≢true (ap is_at (sym (finds_nothing t (take (past - at) (drop at t)) g (rw length-take (omega arith))) ∙ e))))
    (lt_or_ge at past)

module _ {t : List ℤ} {a past : ℕ} where
  -- the words that are left are a row
  pub owed-here : {owed : ℤ} {at : ℕ} → Good t (rows_of t) → Owed t a past owed at → {row : Row} → Some row ≡ found_row t (find_in t (words_from t at (past - at))) → place_points t a (past - a) ≡ owed +ℤ row.p
  owed-here {owed} {at} g o e =
      let f = found-some t (find_in t (words_from t at (past - at))) e in
      o.rest ∙ ap (λ (z : ℤ). owed +ℤ z) (rw f.1 at (place-step t past at (listed-some t past at f.0 g f.1)) ∙ sym f.2)

  -- no words are left
  pub owed-end : {owed : ℤ} {at : ℕ} → Owed t a past owed at → past ≤ at → owed ≡ place_points t a (past - a)
  unfolding place_points
  owed-end {owed} {at} o l = let e : past - at ≡ 0 = omega arith in sym (o.rest ∙ rw e (+ℤ_idr owed))

  -- they are not, so the back-off of the words before the last is owed too
  pub owed_more : (c : verdict_for true t ≡ Accepted) {owed : ℤ} {at : ℕ} → Owed t a past owed at → at < past → is_at (find_in t (words_from t at (past - at))) ≡ false
      → Owed t a past (owed +ℤ (backoff_in (found_row t (find_in t (words_from t at (past - 1 - at)))))) (at + 1)
  unfolding in_backoff
  owed_more c {owed} {at} o l e =
      let b = (backoff_in (found_row t (find_in t (words_from t at (past - 1 - at))))) in
      let r = rw (← backoff-same (found_row t (find_in t (words_from t at (past - 1 - at))))) at (backoff_range true t c (words_from t at (past - 1 - at))) in
      let n = between-low (neg_ℤ (pos largest_backoff)) (pos largest_backoff) b r in
      let h = between-high (neg_ℤ (pos largest_backoff)) (pos largest_backoff) b r in
      let s = o.from in
      record {
        from = omega arith;
        to = omega arith;
        rest = o.rest ∙ ap (λ (z : ℤ). owed +ℤ z) (place-step t past at l ∙ go (find_in t (words_from t at (past - at))) e) ∙ sym (+ℤ_assoc owed b (place_points t (at + 1) (past - (at + 1))));
        low = omega (zarith, o.low, add owed b);
        high = omega (zarith, o.high, add owed b);
      }
    where
      go : (f : Option ℕ) → is_at f ≡ false → points_by t f (backoff_in (found_row t (find_in t (words_from t at (past - 1 - at))))) (place_points t (at + 1) (past - (at + 1))) ≡ (backoff_in (found_row t (find_in t (words_from t at (past - 1 - at))))) +ℤ place_points t (at + 1) (past - (at + 1))
      go (Some i) e = absurd (false≢true (sym e))
      go None e = refl

  module _ (c : verdict_for true t ≡ Accepted) (k : past - a ≤ order_limit) {owed : ℤ} {at : ℕ} (o : Owed t a past owed at) (ws : List ℕ) where
    pub backoff-summed : {b : ℤ} → b ≡ backoff_in (found_row t (find_in t ws)) → Sum owed b (backoff_in (found_row t (find_in t ws)))
    unfolding in_backoff
    backoff-summed e =
        let r = rw (← backoff-same (found_row t (find_in t ws))) at (backoff_range true t c ws) in
        let n = between-low (neg_ℤ (pos largest_backoff)) (pos largest_backoff) (backoff_in (found_row t (find_in t ws))) r in
        let h = between-high (neg_ℤ (pos largest_backoff)) (pos largest_backoff) (backoff_in (found_row t (find_in t ws))) r in
        let s = o.to in
        summed e (omega zarith) (omega (zarith, o.low, o.high))

    pub probability-summed : {row : Row} → Some row ≡ found_row t (find_in t ws) → Sum owed row.p row.p
    unfolding in_probability
    probability-summed {row} e =
        let r : in_probability row.p ≡ true = rw (← e) at (probability_range true t c ws) in
        let n = between-low least_probability (pos 0) row.p r in
        let h = between-high least_probability (pos 0) row.p r in
        let s = o.to in
        summed refl (omega zarith) (omega (zarith, o.low, o.high))

-- what the loop keeps: the words that are left are no row, if there are any
pub record Passed (t : List ℤ) (a past : ℕ) (owed : ℤ) (at : ℕ) : Type 0 where
  pub sum : Owed t a past owed at
  pub absent : at < past → is_at (find_in t (words_from t at (past - at))) ≡ false
