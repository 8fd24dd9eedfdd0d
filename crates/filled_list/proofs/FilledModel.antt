-- The filled list as a model: the lent one with rows added, so that it has the same order and scores alike. Assumes nothing.
use Rattle.std.specs.declared.option.Option.{Option}
use Rattle.std.specs.declared.option.Option.TheVariants.{Some, None}
use mathlib.Core.Path.{◌≡◌, refl, sym, ap, ◌∙◌}
use mathlib.Core.Logic.{◌⊎◌, inl, inr}
use mathlib.Core.Bool.{true, ◌&&◌}
use mathlib.Core.List.{List, [], ◌∷◌, reverse, reverse-reverse}
use Prim.Native.Nat.{ℕ, ◌-◌, ◌≤◌, ◌<◌}
use native.Mathlib.Omega.{arith}
use lib.ListN.{length, length-reverse}
use lib.IntN.{ℤ}
use Rattle.integer.proofs.Ranges.{and_left}
use Rattle.backoff.specs.Limits.{unknown_word, start_word, end_word}
use Rattle.backoff.specs.Model.{listed, probability, backoff}
use Rattle.backoff.specs.Rule.{rule}
use Rattle.backoff.specs.Refusal.{Accepted}
use Rattle.rows.specs.Table.{rows_of, probability_at, backoff_at, order_of, words}
use Rattle.rows.specs.Good.{Good}
use Rattle.rows.proofs.Table.{row_in, words-length}
use Rattle.row_search.specs.Search.{find_in, is_at, found_row}
use Rattle.row_search.proofs.Search.{found-words, finds}
use Rattle.list.specs.Check.{reserved_listed, verdict_for}
use Rattle.list.specs.ListModel.{model_of}
use Rattle.list.proofs.Check.{checked-good, checked-reserved, checked-size}
use Rattle.list.proofs.ListModel.{probability_in, backoff_in_row, listed_found, probability-found, backoff-found, length-order}
use Rattle.filled_list.specs.Added.{own_points, Kept, Added, Extends}
use Rattle.filled_list.specs.Filled.{added_probability, filled_probability, filled_backoff, filled_table}
use Rattle.filled_list.proofs.Alike.{rule-alike}
use Rattle.filled_list.proofs.FilledRows.{EndOf, end_in_filled, end-absent, end-some}
use Rattle.filled_list.proofs.FilledTable.{stands_probability, stands_backoff, filled-end, filled-own, filled-place, filled-good}

-- ---- a model's entries by what is found

module _ (t : List ℤ) (l : List ℕ) (f : Option ℕ) (e : find_in t (reverse l) ≡ f) where
  pub listed_by : listed (model_of t) l ≡ is_at f
  listed_by = listed_found t l ∙ ap is_at e

  pub probability_by : probability (model_of t) l ≡ probability_in (found_row t f)
  probability_by = probability-found t l ∙ ap (λ (f : Option ℕ). probability_in (found_row t f)) e

  backoff_by : backoff (model_of t) l ≡ backoff_in_row (found_row t f)
  backoff_by = backoff-found t l ∙ ap (λ (f : Option ℕ). backoff_in_row (found_row t f)) e

module _ (t : List ℤ) (g : Good t (rows_of t)) where
  -- ---- one row

  -- p and b of a row of the filled list, given where t has it
  module _ (j : ℕ) (l : j < rows_of (filled_table t)) (f : Option ℕ) (e : find_in t (words (filled_table t) j) ≡ f) where
    pub row-probability : probability_at (filled_table t) j ≡ filled_probability t (words (filled_table t) j) f
    row-probability = stands_probability t (filled_table t) j (words (filled_table t) j) (filled-own t g j l) ∙ ap (filled_probability t (words (filled_table t) j)) e

    pub row-backoff : backoff_at (filled_table t) j ≡ filled_backoff t f
    row-backoff = stands_backoff t (filled_table t) j (words (filled_table t) j) (filled-own t g j l) ∙ ap (filled_backoff t) e

  pub filled_finds : (ws : List ℕ) → EndOf t ws → (j : ℕ) × (j < rows_of (filled_table t)) × (words (filled_table t) j ≡ ws)
  filled_finds ws d = filled-place t g ws (end_in_filled t ws d)

  pub lent-end : (i : ℕ) → i < rows_of t → EndOf t (words t i)
  lent-end i l = record { at = i; within = l; front = []; same = refl; long = inl refl }

  -- ---- the order

  module _ (n : 0 < rows_of t) where
    abbrev last : (s : List ℤ) → ℕ
    last s = rows_of s - 1

    pub filled-some : 0 < rows_of (filled_table t)
    filled-some = let p = filled_finds (words t 0) (lent-end 0 n) in let l = p.1 in omega arith

    order-not_less : order_of t ≤ order_of (filled_table t)
    unfolding order_of
    order-not_less =
        let l : last t < rows_of t = omega arith in
        let p = filled_finds (words t (last t)) (lent-end (last t) l) in
        let h = length-order (filled_table t) (filled-good t g) filled-some p.0 p.1 in
        omega (arith, words-length t (last t) (row_in t (last t) l), words-length (filled_table t) p.0 (row_in (filled_table t) p.0 p.1), ap length p.2)

    order-not-more : order_of (filled_table t) ≤ order_of t
    unfolding order_of
    order-not-more =
        let s = filled-some in
        let l : last (filled_table t) < rows_of (filled_table t) = omega arith in
        let d = filled-end t g (last (filled_table t)) l in
        let h = length-order t g n d.at d.within in
        omega (arith, words-length (filled_table t) (last (filled_table t)) (row_in (filled_table t) (last (filled_table t)) l), (end-some t g (words (filled_table t) (last (filled_table t))) d).1)

    pub filled-order : order_of (filled_table t) ≡ order_of t
    filled-order = omega (arith, order-not_less, order-not-more)

  -- ---- the sequences that the rule asks for

  filled-each : (l : List ℕ) → Kept (model_of t) (model_of (filled_table t)) l ⊎ Added (model_of t) (model_of (filled_table t)) l
  unfolding added_probability found_row
  filled-each l = go (find_in t (reverse l)) refl
    where
      lent : (i : ℕ) → find_in t (reverse l) ≡ Some i → Kept (model_of t) (model_of (filled_table t)) l
      lent i e =
          let w = found-words t (reverse l) i e in
          let p = filled_finds (words t i) (lent-end i w.0) in
          let s : words (filled_table t) p.0 ≡ reverse l = p.2 ∙ w.1 in
          let f : find_in (filled_table t) (reverse l) ≡ Some p.0 = ap (find_in (filled_table t)) (sym s) ∙ finds (filled_table t) (filled-good t g) p.0 p.1 in
          let h : find_in t (words (filled_table t) p.0) ≡ Some i = ap (find_in t) s ∙ e in
          record {
            listed_as = listed_by (filled_table t) l (Some p.0) f ∙ sym (listed_by t l (Some i) e);
            probability_as = probability_by (filled_table t) l (Some p.0) f ∙ row-probability p.0 p.1 (Some i) h ∙ sym (probability_by t l (Some i) e);
            backoff_as = backoff_by (filled_table t) l (Some p.0) f ∙ row-backoff p.0 p.1 (Some i) h ∙ sym (backoff_by t l (Some i) e);
          }

      added : (j : ℕ) → find_in t (reverse l) ≡ None → find_in (filled_table t) (reverse l) ≡ Some j → Added (model_of t) (model_of (filled_table t)) l
      added j e f =
          let w = found-words (filled_table t) (reverse l) j f in
          let h : find_in t (words (filled_table t) j) ≡ None = ap (find_in t) w.1 ∙ e in
          record {
            two = omega (arith, end-absent t (words (filled_table t) j) (filled-end t g j w.0) h, ap length w.1, length-reverse l);
            absent = listed_by t l None e;
            present = listed_by (filled_table t) l (Some j) f;
            own-points =
                probability_by (filled_table t) l (Some j) f ∙ row-probability j w.0 None h
                ∙ ap (λ (v : List ℕ). own_points (model_of t) v) (ap reverse w.1 ∙ reverse-reverse l);
            no-backoff = backoff_by (filled_table t) l (Some j) f ∙ row-backoff j w.0 None h;
          }

      neither : find_in t (reverse l) ≡ None → (f : Option ℕ) → find_in (filled_table t) (reverse l) ≡ f → Kept (model_of t) (model_of (filled_table t)) l ⊎ Added (model_of t) (model_of (filled_table t)) l
      neither e (Some j) f = inr (added j e f)
      neither e None f =
          inl
          (record {
            listed_as = listed_by (filled_table t) l None f ∙ sym (listed_by t l None e);
            probability_as = probability_by (filled_table t) l None f ∙ sym (probability_by t l None e);
            backoff_as = backoff_by (filled_table t) l None f ∙ sym (backoff_by t l None e);
          })

      go : (f : Option ℕ) → find_in t (reverse l) ≡ f → Kept (model_of t) (model_of (filled_table t)) l ⊎ Added (model_of t) (model_of (filled_table t)) l
      go (Some i) e = inl (lent i e)
      go None e = neither e (find_in (filled_table t) (reverse l)) refl

  filled_extends : 0 < rows_of t → Extends (model_of t) (model_of (filled_table t))
  unfolding model_of
  filled_extends n = record { order_as = filled-order n; each = filled-each }

-- of a list that the checks let pass for filling, whether or not 5, 1 or 15 then refuse it
module _ (t : List ℤ) (a : verdict_for true t ≡ Accepted) where
  unknown-listed : listed (model_of t) (unknown_word ∷ []) ≡ true
  unfolding reserved_listed
  unknown-listed =
      let u = is_at (find_in t (unknown_word ∷ [])) in
      let s = is_at (find_in t (start_word ∷ [])) in
      listed_found t (unknown_word ∷ []) ∙ and_left u s (and_left (u && s) (is_at (find_in t (end_word ∷ []))) (checked-reserved true t a))

  -- "Points by the back-off rule are equal before and after, for each word and history."
  pub filled_scores_alike : (h : List ℕ) (w : ℕ) → (rule (model_of (filled_table t)) h w).points ≡ (rule (model_of t) h w).points
  filled_scores_alike = rule-alike (model_of t) (model_of (filled_table t)) (filled_extends t (checked-good true t a) (checked-size true t a).0) unknown-listed
