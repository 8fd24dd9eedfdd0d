-- The last words of a row that come next: their p and b in the filled list, and what it says if the p of all are in range. Assumes nothing.
use Rattle.std.specs.declared.option.Option.{Option}
use Rattle.std.specs.declared.option.Option.TheVariants.{Some, None}
use mathlib.Core.Path.{◌≡◌, refl, sym, ap, ◌∙◌}
use mathlib.Core.Logic.{inr, ⊎_elim}
use mathlib.Core.Bool.{Bool, true, false, cond, ◌&&◌}
use mathlib.Core.List.{List, ◌∷◌}
use Prim.Native.Nat.{ℕ, ◌+◌, ◌*◌, ◌-◌, ◌<◌, ◌≤◌}
use native.Mathlib.Omega.{arith}
use lib.IntN.{ℤ, pos}
use Rattle.integer.proofs.Ranges.{lt_or_ge, and_left, and_right}
use Rattle.backoff.specs.Refusal.{row_probability}
use Rattle.backoff.specs.Model.{in_probability}
use Rattle.backoff.specs.Refusal.{Accepted}
use Rattle.rows.specs.Table.{rows_of, probability_at, backoff_at, length_of, words}
use Rattle.row_search.specs.Search.{find_in, is_at}
use Rattle.row_search.proofs.Search.{found-words, finds}
use Rattle.list.specs.Check.{verdict_for}
use Rattle.list.proofs.Check.{checked-good, checked-row}
use Rattle.filled_list.specs.Filled.{without_first_words, filled_probability, filled_backoff, filled_table}
use Rattle.filled_list.specs.Next.{last_words, Best}
use Rattle.filled_list.proofs.Ascending.{In}
use Rattle.filled_list.proofs.WithoutFirstWords.{in_behind}
use Rattle.filled_list.proofs.FilledModel.{filled_finds}
use Rattle.filled_list.proofs.Next.{best-absent}
use Rattle.filled_list.proofs.LastWords.{last-all}
use Rattle.row_ends.specs.Needed.{addable, needed_fault}
use Rattle.row_ends.specs.Points.{words_from, place_points}
use Rattle.row_ends.specs.Steps.{IsEnd, NoneNeeding, end_probability, end_backoff}
use Rattle.row_ends.proofs.Needed.{all-addable, addable-listed, addable-unlisted}
use Rattle.row_ends.proofs.Points.{end-words_are, end-points_are}

-- ---- p and b of the last m words of row i, which has k words

module _ (t : List ℤ) (i k m : ℕ) (e : IsEnd t i k m) where
  -- not more words than m: it is the row itself
  module _ (l : k ≤ m) where
    own : find_in t (last_words t i m) ≡ Some i
    own =
        let z : m ≡ length_of t i = let h = e.long in let s = e.size in omega arith in
        ap (find_in t) (ap (last_words t i) z ∙ last-all t i) ∙ finds t (checked-good true t e.checked) i e.within

    pub own-probability : probability_at t i ≡ end_probability t i m
    unfolding end_probability
    own-probability = sym (ap (filled_probability t (last_words t i m)) own)

    pub own-backoff : backoff_at t i ≡ end_backoff t i m
    unfolding end_backoff
    own-backoff = sym (ap (filled_backoff t) own)

  -- more words: it is added
  module _ (l : m < k) where
    pub added-probability : place_points t (8 * i + (k + 1) - m) (8 * i + (k + 1) - (8 * i + (k + 1) - m)) ≡ end_probability t i m
    unfolding end_probability
    added-probability = end-points_are t e.checked i k m e.within e.size e.some e.long ∙ sym (ap (filled_probability t (last_words t i m)) (e.absent l))

    pub added-backoff : pos 0 ≡ end_backoff t i m
    unfolding end_backoff
    added-backoff = sym (ap (filled_backoff t) (e.absent l))

    pub added-absent : is_at (find_in t (words_from t (8 * i + (k + 1) - m) (8 * i + (k + 1) - (8 * i + (k + 1) - m)))) ≡ false
    added-absent = ap (λ (ws : List ℕ). is_at (find_in t ws)) (end-words_are t e.checked i k m e.within e.size e.some e.long) ∙ ap is_at (e.absent l)

module _ (t : List ℤ) (a : verdict_for true t ≡ Accepted) where
  -- a lent row's p is in range
  pub addable_by : (i m : ℕ) → in_probability (end_probability t i m) ≡ addable t (last_words t i m)
  unfolding end_probability
  addable_by i m = go (find_in t (last_words t i m)) refl
    where
      go : (f : Option ℕ) → find_in t (last_words t i m) ≡ f → in_probability (filled_probability t (last_words t i m) f) ≡ addable t (last_words t i m)
      go (Some j) e = (checked-row true t a j (found-words t (last_words t i m) j e).0).fields.probability ∙ sym (addable-listed t (last_words t i m) (ap is_at e))
      go None e = sym (addable-unlisted t (last_words t i m) (ap is_at e))

  pub none_needing : ((j : ℕ) → j < rows_of (filled_table t) → addable t (words (filled_table t) j) ≡ true) → NoneNeeding t
  unfolding needed_fault
  none_needing h i l = ap (λ (b : Bool). cond b 0 row_probability) (all-addable t (without_first_words (words t i)) each)
    where
      each : (ws : List ℕ) → In ws (without_first_words (words t i)) → addable t ws ≡ true
      each ws m =
          let b = in_behind (words t i) ws m in
          let p = filled_finds t (checked-good true t a) ws (record { at = i; within = l; front = b.first ∷ b.front; same = b.same; long = inr b.two }) in
          rw (← p.2) (h p.0 p.1)

  -- one row more
  pub addable-more : (count : ℕ) (fits r : Bool) (ws : List ℕ) → (fits ≡ true → (j : ℕ) → j < count → addable t (words (filled_table t) j) ≡ true) → r ≡ addable t ws → words (filled_table t) count ≡ ws
      → (fits && r) ≡ true → (j : ℕ) → j < count + 1 → addable t (words (filled_table t) j) ≡ true
  addable-more count fits r ws h e f z j l =
      ⊎_elim (λ p. h (and_left fits r z) j p) (λ p. let y : j ≡ count = omega arith in rw (y, f) (sym e ∙ and_right fits r z)) (lt_or_ge j count)

  -- the end that comes next
  pub best-end : (m floor to r high low : ℕ) → 0 < m → Best t m floor to r high low → (l : r < rows_of t) (k : ℕ) → k ≡ length_of t r → IsEnd t r k m
  best-end m floor to r high low s b l k e = record {
    checked = a;
    within = l;
    size = e;
    some = s;
    long = let h = (b.least.one l).long in omega arith;
    absent = λ h. best-absent t (checked-good true t a) m floor to r high low b l (omega arith);
  }
