-- Which rows need a row whose p is outside its range: what is so of one sequence and of several, and how the code goes through a row's. Assumes nothing.
use Rattle.std.specs.declared.option.Option.{Option}
use Rattle.std.specs.declared.option.Option.TheVariants.{Some, None}
use mathlib.Core.Path.{◌≡◌, refl, ap, ◌∙◌}
use mathlib.Core.Bool.{Bool, true, false, cond, ◌&&◌, ◌||◌, true≢false}
use mathlib.Core.List.Memᴰ
use mathlib.Core.List.{List, [], ◌∷◌}
use Prim.Native.Nat.{ℕ, suc, ◌-◌, ◌≤◌, ◌<◌}
use native.Mathlib.Omega.{arith}
use lib.ListN.{length}
use lib.IntN.{ℤ}
use borrow.Author.Tests.{lt-leb}
use Rattle.integer.proofs.Ranges.{and_left, and_right, and_both}
use Rattle.backoff.specs.Refusal.{row_probability}
use Rattle.backoff.specs.Model.{in_probability}
use Rattle.rows.specs.Table.{rows_of, length_of, words}
use Rattle.row_search.specs.Search.{find_in, is_at}
use Rattle.filled_list.specs.Filled.{without_first_words, added_probability}
use Rattle.filled_list.specs.Next.{last_words}
use Rattle.filled_list.proofs.Ascending.{In}
use Rattle.filled_list.proofs.WithoutFirstWords.{without_nil, without_more, without_none}
use Rattle.filled_list.proofs.LastWords.{last-size, last-all, last_cons}
use Rattle.row_ends.specs.Needed.{addable, all_addable, needed_fault}

-- ---- one sequence

pub addable-listed : (t : List ℤ) (ws : List ℕ) → is_at (find_in t ws) ≡ true → addable t ws ≡ true
unfolding addable
addable-listed t ws e = rw e

pub addable-unlisted : (t : List ℤ) (ws : List ℕ) → is_at (find_in t ws) ≡ false → addable t ws ≡ in_probability (added_probability t ws)
unfolding addable
addable-unlisted t ws e = rw e

module _ (t : List ℤ) where
  pub absent_out : (ws : List ℕ) → addable t ws ≡ false → (find_in t ws ≡ None) × (in_probability (added_probability t ws) ≡ false)
  unfolding addable
  absent_out ws e = go (find_in t ws) refl e
    where
      go : (f : Option ℕ) → find_in t ws ≡ f → (is_at f || in_probability (added_probability t ws)) ≡ false → (find_in t ws ≡ None) × (in_probability (added_probability t ws) ≡ false)
      go (Some j) q h = absurd (true≢false h)
      go None q h = (q, h)

-- ---- several

module _ (t : List ℤ) where
  each-addable : (rows : List (List ℕ)) → all_addable t rows ≡ true → (ws : List ℕ) → In ws rows → addable t ws ≡ true
  unfolding all_addable
  each-addable [] e ws x'' = elim x'' [ ]
  each-addable (vs ∷ rows) e ws (Memᴰ.head q) = rw q (and_left (addable t vs) (all_addable t rows) e)
  each-addable (vs ∷ rows) e ws (Memᴰ.tail m) = each-addable rows (and_right (addable t vs) (all_addable t rows) e) ws m

  pub all-addable : (rows : List (List ℕ)) → ((ws : List ℕ) → In ws rows → addable t ws ≡ true) → all_addable t rows ≡ true
  unfolding all_addable
  all-addable [] f = refl
  all-addable (ws ∷ rows) f = and_both (addable t ws) (all_addable t rows) (f ws (Memᴰ.head refl)) (all-addable rows (λ vs m. f vs (Memᴰ.tail m)))

  fault_none : (b : Bool) → cond b 0 row_probability ≡ 0 → b ≡ true
  fault_none true e = refl
  fault_none false e = absurd (omega arith)

  -- the p of an added row is in range where no row needs one that is not
  pub needed_in_range : (i : ℕ) (ws : List ℕ) → needed_fault t i ≡ 0 → In ws (without_first_words (words t i)) → find_in t ws ≡ None → in_probability (added_probability t ws) ≡ true
  unfolding needed_fault addable
  needed_in_range i ws e m f =
      let a = each-addable (without_first_words (words t i)) (fault_none (all_addable t (without_first_words (words t i))) e) ws m in
      rw f at a

  pub not-addable : (rows : List (List ℕ)) → all_addable t rows ≡ false → (ws : List ℕ) × In ws rows × (addable t ws ≡ false)
  unfolding all_addable
  not-addable [] e = absurd (true≢false e)
  not-addable (ws ∷ rows) e = go (addable t ws) refl e (not-addable rows)
    where
      go : (b : Bool) → addable t ws ≡ b → (b && all_addable t rows) ≡ false → (all_addable t rows ≡ false → (vs : List ℕ) × In vs rows × (addable t vs ≡ false)) → (vs : List ℕ) × In vs (ws ∷ rows) × (addable t vs ≡ false)
      go true q h ih = let r = ih h in (r.0, Memᴰ.tail r.1, r.2)
      go false q h ih = (ws, Memᴰ.head refl, q)

  pub fault-zero : (i : ℕ) → all_addable t (without_first_words (words t i)) ≡ true → needed_fault t i ≡ 0
  unfolding needed_fault
  fault-zero i e = rw e refl

  pub fault_five : (i : ℕ) → (needed_fault t i ≡ 0 → ⊥) → needed_fault t i ≡ row_probability
  unfolding needed_fault
  fault_five i n = go (all_addable t (without_first_words (words t i))) n
    where
      go : (b : Bool) → (cond b 0 row_probability ≡ 0 → ⊥) → cond b 0 row_probability ≡ row_probability
      go true n = absurd (n refl)
      go false n = refl

  pub fault-one : (i : ℕ) → all_addable t (without_first_words (words t i)) ≡ false → needed_fault t i ≡ row_probability
  unfolding needed_fault
  fault-one i e = rw e refl

-- ---- 5 at one row, as the code goes through it

module _ (t : List ℤ) (i : ℕ) (l : i < rows_of t) where
  -- what is left to look at
  unfoldable pub left_addable : ℕ → Bool
  left_addable m = all_addable t (without_first_words (last_words t i m))

  pub left-all : (k : ℕ) → k ≡ length_of t i → left_addable k ≡ all_addable t (without_first_words (words t i))
  unfolding left_addable
  left-all k e = ap (λ (ws : List ℕ). all_addable t (without_first_words ws)) (ap (last_words t i) e ∙ last-all t i)

  module _ (m : ℕ) (two : 2 < m) (h : m ≤ length_of t i) where
    left_step : without_first_words (last_words t i m) ≡ last_words t i (m - 1) ∷ without_first_words (last_words t i (m - 1))
    left_step =
        let e : m ≡ suc (m - 1) = omega arith in
        ap without_first_words (ap (last_words t i) e ∙ last_cons t i (m - 1) l (omega arith))
        ∙ without_more _ (last_words t i (m - 1)) (omega (arith, last-size t i (m - 1) l (omega arith)))

    pub left_fails : addable t (last_words t i (m - 1)) ≡ false → left_addable m ≡ false
    unfolding left_addable all_addable
    left_fails e = rw (left_step, e) refl

    pub left_passes : addable t (last_words t i (m - 1)) ≡ true → left_addable m ≡ left_addable (m - 1)
    unfolding left_addable all_addable
    left_passes e = rw (left_step, e) refl

  pub left-none : (m : ℕ) → m ≤ 2 → m ≤ length_of t i → left_addable m ≡ true
  unfolding left_addable all_addable
  left-none m two h = go (last_words t i m) (last-size t i m l h)
    where
      go : (ws : List ℕ) → length ws ≡ m → all_addable t (without_first_words ws) ≡ true
      go [] e = rw without_nil refl
      go (w ∷ ws) e = rw (without_none w ws (lt-leb 2 (length ws) (omega arith))) refl

-- what the loop keeps
pub record Passed (t : List ℤ) (i k m : ℕ) : Type 0 where
  pub within : i < rows_of t
  pub size : k ≡ length_of t i
  pub short : m ≤ length_of t i
  pub rest : left_addable t i within m ≡ all_addable t (without_first_words (words t i))
