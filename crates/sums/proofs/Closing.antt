-- A sentence's last word and its 3, as the code's loop has them: what the words before the i-th came to, and what is left of the others. Assumes nothing.
use Rattle.std.specs.declared.option.Option.{Option}
use Rattle.std.specs.declared.option.Option.TheVariants.{Some, None}
use mathlib.Core.Path.{◌≡◌, refl, sym, ap, ◌∙◌}
use mathlib.Core.Bool.{true}
use mathlib.Core.List.{List, [], ◌∷◌, ◌++◌}
use Prim.Native.Nat.{ℕ, suc, ◌+◌, ◌*◌, ◌-◌, ◌≤◌, ◌<◌}
use native.Mathlib.Numerals.{add-one}
use native.Mathlib.Omega.{arith}
use lib.ListN.{length, drop, get_or, drop_of_length-le}
use lib.Seq.{drop-cons}
use mir.Syntax.{w64}
use mir.Val.{SFits}
use lib.IntN.{ℤ, pos, nat_abs, ◌+ℤ◌, +ℤ_idl, +ℤ_idr, +ℤ_assoc}
use borrow.Author.Tests.{ne_eqb}
use Rattle.integer.specs.Integer.{sum}
use Rattle.integer.proofs.Arithmetic.{zarith, abs, add}
use Rattle.integer.proofs.Sums.{sum_append}
use Rattle.backoff.specs.Limits.{start_word, end_word, order_limit, largest_backoff}
use Rattle.backoff.specs.State.{State as Carried, empty}
use Rattle.backoff.specs.Store.{Store, Step, scored, stuck, restarted, word_step, step, Ran, ran, refused_at, before, onward, run_over}
use Rattle.double_array.specs.DoubleArray.{is_array, order_in, store_in}
use Rattle.double_array.proofs.DoubleArray.{opened-order}
use Rattle.carried_state.specs.declared.Packed.{Packed}
use Rattle.carried_state.specs.Packed.{held_in, Carries}
use Rattle.carried_state.proofs.Carried.{carries_bounded}
use Rattle.word_walk.proofs.Rows.{rows-in_probability}
use Rattle.run_words.proofs.Sizes.{scored-sizes, SmallTotal}
use Rattle.run_words.proofs.Running.{before_all}
use Rattle.sums.specs.Closing.{plus, plus_rest, points_over}
use Rattle.sums.proofs.Pieces.{renumbered, run_renumbered, followed_by, run_append}

plus_none : (r : Option ℤ) → r ≡ plus (pos 0) r
plus_none (Some y) = ap Some (sym (+ℤ_idl y))
plus_none None = refl

plus-plus : (x y : ℤ) (r : Option ℤ) → plus x (plus y r) ≡ plus (x +ℤ y) r
plus-plus x y (Some z) = ap Some (sym (+ℤ_assoc x y z))
plus-plus x y None = refl

-- the words before the i-th are scored: `total` is what they came to, and the others are left, from the state that is carried
pub record Closing (S : Store) (s : Carried) (ws : List ℕ) (c : Packed) (backoffs : List ℤ) (total : ℤ) (i : ℕ) : Type 0 where
  pub at : i ≤ length ws
  pub rest : points_over S ws s ≡ plus total (points_over S (drop i ws) (held_in c backoffs))
  pub carries : Carries S.order c backoffs
  pub small : SmallTotal i total

pub closing_begins : (S : Store) (ws : List ℕ) (c : Packed) (backoffs : List ℤ) → Carries S.order c backoffs → Closing S (held_in c backoffs) ws c backoffs (pos 0) 0
closing_begins S ws c backoffs h = record { at = omega arith; rest = plus_none (points_over S ws (held_in c backoffs)); carries = h; small = omega arith }

module _ (S : Store) (s : Carried) (ws : List ℕ) (c : Packed) (backoffs : List ℤ) (total : ℤ) (i : ℕ) (r : Closing S s ws c backoffs total i) where
  next_word_lem : i < length ws → points_over S (drop i ws) (held_in c backoffs) ≡ plus_rest (points_over S (drop (i + 1) ws)) (word_step S (held_in c backoffs) (get_or ws i 0))
  unfolding points_over
  next_word_lem h = rw (drop-cons ws i 0 h, add-one)

  pub closing_refused : i < length ws → word_step S (held_in c backoffs) (get_or ws i 0) ≡ stuck → None ≡ points_over S ws s
  closing_refused h e = sym (r.rest ∙ ap (plus total) (next_word_lem h ∙ ap (plus_rest (points_over S (drop (i + 1) ws))) e))

  pub closing_ends : length ws ≤ i → Some total ≡ points_over S ws s
  unfolding points_over
  closing_ends h = sym (r.rest ∙ rw (drop_of_length-le ws h) (ap Some (+ℤ_idr total)))

pub closing_carries : (base check : List ℤ) {s : Carried} {ws : List ℕ} {c : Packed} {backoffs : List ℤ} {total : ℤ} {i : ℕ} → Closing (store_in base check) s ws c backoffs total i → Carries (order_in check) c backoffs
unfolding store_in
closing_carries base check r = r.carries

-- the next word is scored
module _ (base check : List ℤ) (h : is_array base check ≡ true) (s : Carried) (ws : List ℕ) (c : Packed) (given : List ℤ) (total : ℤ) (i : ℕ) (r : Closing (store_in base check) s ws c given total i) (x : ℤ) (y : ℕ) (next : Packed) (backoffs : List ℤ) (e : word_step (store_in base check) (held_in c given) (get_or ws i 0) ≡ scored x y (held_in next backoffs)) where
  pub points_small : nat_abs x ≤ order_limit * largest_backoff
  points_small =
      let o = (opened-order base check h).1 in
      (scored-sizes (store_in base check) (rows-in_probability base check) (order_in check - 1) (omega arith) (held_in c given) (carries_bounded (order_in check) o c given (closing_carries base check r)) (get_or ws i 0) x y (held_in next backoffs) e).0

  pub closing_on : i < length ws → Carries (order_in check) next backoffs → Closing (store_in base check) s ws next backoffs (total +ℤ x) (i + 1)
  closing_on more k = record {
    at = omega arith;
    rest = r.rest ∙ ap (plus total) (next_word_lem (store_in base check) s ws c given total i r more ∙ ap (plus_rest (points_over (store_in base check) (drop (i + 1) ws))) e) ∙ plus-plus total x (points_over (store_in base check) (drop (i + 1) ws) (held_in next backoffs));
    carries = unfold store_in in k;
    small = omega (arith, add total x, abs total, abs x, abs (total +ℤ x), r.small, points_small);
  }

-- ---- one turn of the loop of two
pub total-fits : (total x : ℤ) {i : ℕ} → SmallTotal i total → nat_abs x ≤ order_limit * largest_backoff → i < 2 → SFits w64 (total +ℤ x)
total-fits total x small h more = omega (zarith, abs total, abs x)

-- ---- beside a run of the same words

-- what the words of a run came to
abbrev pub closed_of : Ran → Option ℤ
closed_of (ran ps bs t) = Some (sum ps)
closed_of (refused_at k) = None

-- Where start is sound, a word other than 3 and a 3 behind it come to what their run comes to.
pub closed-is-run : (S : Store) (s : Carried) (w k : ℕ) → (w ≡ end_word → ⊥) → (x : ℤ) (y : ℕ) (begun : Carried) → word_step S empty start_word ≡ scored x y begun → points_over S (w ∷ end_word ∷ []) s ≡ closed_of (run_over S (w ∷ end_word ∷ []) s k)
unfolding points_over run_over step
closed-is-run S s w k n x y begun e = rw (ne_eqb w end_word n, e) (go (word_step S s w))
  where
    three : (p : ℤ) (b : ℕ) (z : Step) → plus p (plus_rest (λ (t : Carried). Some (pos 0)) z) ≡ closed_of (before p b (onward (λ (t : Carried). ran [] [] t) (suc k) (restarted z (scored x y begun))))
    three p b (scored q c t) = refl
    three p b stuck = refl

    go : (z : Step) → plus_rest (λ (t : Carried). plus_rest (λ (u : Carried). Some (pos 0)) (word_step S t end_word)) z ≡ closed_of (onward (λ (t : Carried). onward (λ (u : Carried). ran [] [] u) (suc k) (restarted (word_step S t end_word) (scored x y begun))) k z)
    go (scored p b t) = three p b (word_step S t end_word)
    go stuck = refl

-- words behind others: what both come to
module _ (S : Store) (us vs : List ℕ) (s : Carried) (k : ℕ) where
  pub closed-behind : (ps : List ℤ) (bs : List ℕ) (t : Carried) → run_over S us s k ≡ ran ps bs t → closed_of (run_over S (us ++ vs) s k) ≡ plus (sum ps) (closed_of (run_over S vs t k))
  closed-behind ps bs t e =
      ap closed_of (run_append S us vs s k ∙ ap (λ (r : Ran). followed_by S r (λ (u : Carried). run_over S vs u (length us + k))) e ∙ ap (before_all ps bs) (run_renumbered S (length us) vs t k)) ∙ go (run_over S vs t k)
    where
      go : (r : Ran) → closed_of (before_all ps bs (renumbered (length us) r)) ≡ plus (sum ps) (closed_of r)
      go (ran qs cs u) = ap Some (sum_append ps qs)
      go (refused_at j) = refl

  pub none-behind : (j : ℕ) → run_over S us s k ≡ refused_at j → closed_of (run_over S (us ++ vs) s k) ≡ None
  none-behind j e = ap closed_of (run_append S us vs s k ∙ ap (λ (r : Ran). followed_by S r (λ (u : Carried). run_over S vs u (length us + k))) e)
