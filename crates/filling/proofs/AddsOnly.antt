-- Which rows the filled list has: the lent ones and exactly those that are added, each with its p and b. Assumes nothing.
use Rattle.std.specs.declared.option.Option.{Option}
use Rattle.std.specs.declared.option.Option.TheVariants.{Some, None}
use mathlib.Core.Path.{◌≡◌, refl, sym, ap, ◌∙◌}
use mathlib.Core.Logic.{◌⊎◌, inl, inr}
use mathlib.Core.List.{List, ◌++◌}
use Prim.Native.Nat.{ℕ}
use native.Mathlib.Omega.{arith}
use lib.ListN.{length}
use lib.IntN.{ℤ}
use Rattle.rows.specs.Table.{rows_of, words}
use Rattle.rows.specs.Good.{Good}
use Rattle.row_search.specs.Search.{find_in}
use Rattle.row_search.proofs.Search.{found-words, finds}
use Rattle.filled_list.specs.Filled.{added_probability, filled_table}
use Rattle.filled_list.proofs.FilledRows.{end-absent}
use Rattle.filled_list.proofs.FilledTable.{filled-end}
use Rattle.filled_list.proofs.FilledModel.{row-probability, row-backoff, filled_finds, lent-end}
use Rattle.filling.specs.Meaning.{Lent, AddedTo, AddsOnly}

module _ (t : List ℤ) (g : Good t (rows_of t)) where
  lent_or_added : (ws : List ℕ) (p b : ℤ) (r : Lent (filled_table t) ws p b) (f : Option ℕ) → find_in t (words (filled_table t) r.at) ≡ f → Lent t ws p b ⊎ AddedTo t ws p b
  lent_or_added ws p b r (Some i) e =
      let w = found-words t (words (filled_table t) r.at) i e in
      inl
      (record {
        at = i;
        within = w.0;
        same = w.1 ∙ r.same;
        probability-is = sym (row-probability t g r.at r.within (Some i) e) ∙ r.probability-is;
        backoff-is = sym (row-backoff t g r.at r.within (Some i) e) ∙ r.backoff-is;
      })
  lent_or_added ws p b r None e =
      let d = filled-end t g r.at r.within in
      inr
      (record {
        at = d.at;
        within = d.within;
        front = d.front;
        same = d.same ∙ ap (λ (vs : List ℕ). d.front ++ vs) r.same;
        two = omega (arith, end-absent t (words (filled_table t) r.at) d e, ap length r.same);
        absent = ap (find_in t) (sym r.same) ∙ e;
        probability-is = ap (added_probability t) (sym r.same) ∙ sym (row-probability t g r.at r.within None e) ∙ r.probability-is;
        backoff-is = sym (row-backoff t g r.at r.within None e) ∙ r.backoff-is;
      })

  pub filled_adds_only : AddsOnly t (filled_table t)
  filled_adds_only = record {
    has = λ ws p b r. lent_or_added ws p b r (find_in t (words (filled_table t) r.at)) refl;
    lent = λ ws p b r.
        let q = filled_finds t g (words t r.at) (lent-end t g r.at r.within) in
        let e : find_in t (words (filled_table t) q.0) ≡ Some r.at = ap (find_in t) q.2 ∙ finds t g r.at r.within in
        record {
          at = q.0;
          within = q.1;
          same = q.2 ∙ r.same;
          probability-is = row-probability t g q.0 q.1 (Some r.at) e ∙ r.probability-is;
          backoff-is = row-backoff t g q.0 q.1 (Some r.at) e ∙ r.backoff-is;
        };
    added = λ ws p b r.
        let q = filled_finds t g ws (record { at = r.at; within = r.within; front = r.front; same = r.same; long = inr r.two }) in
        let e : find_in t (words (filled_table t) q.0) ≡ None = ap (find_in t) q.2 ∙ r.absent in
        record {
          at = q.0;
          within = q.1;
          same = q.2;
          probability-is = row-probability t g q.0 q.1 None e ∙ ap (added_probability t) q.2 ∙ r.probability-is;
          backoff-is = row-backoff t g q.0 q.1 None e ∙ r.backoff-is;
        };
  }
