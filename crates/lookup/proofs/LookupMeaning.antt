-- Laws of specs/Lookup.antt: what each answer means. Assumes nothing.
use Rattle.std.specs.declared.option.Option.TheVariants.{Some}
use mathlib.Core.Path.{◌≡◌, refl, sym, ap, ◌∙◌}
use mathlib.Core.Logic.{◌⊎◌, inl, inr}
use mathlib.Core.Bool.{Bool, true, false, cond, ◌&&◌, false≢true}
use mathlib.Core.List.{List, reverse}
use Prim.Native.Nat.{ℕ, ◌≤◌, ◌<◌}
use native.Mathlib.Omega.{arith}
use borrow.Author.Tests.{leb-true, leb-false, le-leb, lt-leb}
use lib.Dec.{leb}
use lib.ListN.{length, drop, length-reverse}
use lib.IntN.{ℤ}
use Rattle.backoff.specs.Limits.{order_limit}
use Rattle.backoff.specs.Refusal.{array_head, broken_node, word_count}
use Rattle.backoff.specs.FirstMet.{Line, FirstMet}
use Rattle.backoff.specs.Store.{Look, absent, broken, here, is_broken, model_in}
use Rattle.backoff.proofs.FirstMet.{met_when, not_when, not-false}
use Rattle.double_array.specs.DoubleArray.{look_from, is_array, order_in, store_in, opened}
use Rattle.double_array.proofs.DoubleArray.{opened_some, opened-none, opened-order, look-row}
use Rattle.lookup.specs.Lookup.{lookup_of, lookup_in, lookup_outcome, lookup_number, lookup_place, found_of, p_of, b_of, left_of, lookup_refusals, IsRow, IsNoRow, LookupMeans}
use Rattle.lookup.specs.Lookup.{Lookup}
use Rattle.lookup.specs.Lookup.{Found, NotFound, Refused}

module _ (base check : List ℤ) (ws : List ℕ) where
  -- what an answer means, by the numbers that the caller reads
  abbrev pub AnswerMeans : Lookup → Type 0
  AnswerMeans r = LookupMeans base check ws (lookup_number r) (lookup_place r) (found_of r) (p_of r) (b_of r) (left_of r)

  abbrev lines : List Line
  lines = lookup_refusals base check ws

  -- an answer of one kind means nothing of the other two
  found_means : (p b : ℤ) (left : Bool) → FirstMet lines 0 0 → IsRow base check ws p b (cond left 1 0) → AnswerMeans (Found p b left)
  found_means p b left v h = record { verdict = v; one_or_zero = inl refl; yes = λ e. (refl, h); no = λ e. absurd (omega arith); zeros = λ e. absurd (omega arith) }

  not-found_means : FirstMet lines 0 0 → IsNoRow base check ws → AnswerMeans NotFound
  not-found_means v h = record { verdict = v; one_or_zero = inr refl; yes = λ e. absurd (omega arith); no = λ e f. h; zeros = λ e. (refl, refl, refl) }

  refused_means : (n : ℕ) → (n ≡ 0 → ⊥) → FirstMet lines n 0 → AnswerMeans (Refused n 0)
  refused_means n z v = record { verdict = v; one_or_zero = inr refl; yes = λ e. absurd (omega arith); no = λ e f. absurd (z f); zeros = λ e. (refl, refl, refl) }

  -- 12 is passed
  not-broken : (l : Look) → is_broken l ≡ false → (store_in base check).look (reverse ws) ≡ l → FirstMet (drop 2 lines) 0 0
  not-broken l h e = inr (not_when (λ m. false≢true (sym h ∙ ap is_broken (sym e ∙ m.1))), (refl, refl))

  module _ (array : is_array base check ≡ true) where
    -- 11 and 14 are passed
    past-count : 1 ≤ length ws → length ws ≤ order_limit → (number : ℕ) → FirstMet (drop 2 lines) number 0 → FirstMet lines number 0
    past-count l u number v = inr (not-false array, inr (not_when miscounted, v))
      where
        miscounted : (length ws < 1) ⊎ (order_limit < length ws) → ⊥
        miscounted (inl h) = omega arith
        miscounted (inr h) = omega arith

    -- the walk's answer
    look_means : 1 ≤ length ws → length ws ≤ order_limit → length ws ≤ order_in check → (l : Look) → (store_in base check).look (reverse ws) ≡ l → AnswerMeans (lookup_of l)
    unfolding model_in
    look_means l u h absent e = not-found_means (past-count l u 0 (not-broken absent refl e)) (inr (rw e))
    look_means l u h broken e = refused_means broken_node (λ z. omega arith) (past-count l u broken_node (inl (met_when (h, e))))
    look_means l u h (here x) e = found_means x.p x.b x.e (past-count l u 0 (not-broken (here x) refl e)) (record { short = h; e = x.e; f = x.f; row = rw e; left_is = refl })

    array_means : AnswerMeans (lookup_in (Some (store_in base check)) ws)
    unfolding store_in
    array_means = counted (leb 1 (length ws)) (leb (length ws) order_limit) (leb (length ws) (order_in check)) refl refl refl
      where
        counted : (t u v : Bool) → leb 1 (length ws) ≡ t → leb (length ws) order_limit ≡ u → leb (length ws) (order_in check) ≡ v → AnswerMeans (cond (t && u) (cond v (lookup_of ((store_in base check).look (reverse ws))) NotFound) (Refused word_count 0))
        counted true true true e f g = look_means (leb-true 1 (length ws) e) (leb-true (length ws) order_limit f) (leb-true (length ws) (order_in check) g) ((store_in base check).look (reverse ws)) refl
        counted true true false e f g =
            let h = leb-false (length ws) (order_in check) g in
            not-found_means (past-count (leb-true 1 (length ws) e) (leb-true (length ws) order_limit f) 0 (inr (not_when (λ m. let k = m.0 in omega arith), (refl, refl)))) (inl h)
        counted true false v e f g = refused_means word_count (λ z. omega arith) (inr (not-false array, inl (met_when (inr (leb-false (length ws) order_limit f)))))
        counted false u v e f g = refused_means word_count (λ z. omega arith) (inr (not-false array, inl (met_when (inl (leb-false 1 (length ws) e)))))

  pub lookup_means : AnswerMeans (lookup_outcome base check ws)
  unfolding lookup_outcome
  lookup_means = go (is_array base check) refl
    where
      go : (t : Bool) → is_array base check ≡ t → AnswerMeans (lookup_in (opened base check) ws)
      go false e = rw (opened-none base check e) (refused_means array_head (λ z. omega arith) (inl (met_when e)))
      go true e = rw (opened_some base check e) (array_means e)

  -- the outcome, case by case
  pub lookup_no_array : is_array base check ≡ false → lookup_outcome base check ws ≡ Refused array_head 0
  unfolding lookup_outcome
  lookup_no_array e = rw (opened-none base check e)

  module _ (array : is_array base check ≡ true) where
    pub lookup_nothing : length ws < 1 → lookup_outcome base check ws ≡ Refused word_count 0
    unfolding lookup_outcome
    lookup_nothing h = rw (opened_some base check array, lt-leb 1 (length ws) h)

    pub lookup_above_five : order_limit < length ws → lookup_outcome base check ws ≡ Refused word_count 0
    unfolding lookup_outcome
    lookup_above_five h = rw (opened_some base check array, le-leb 1 (length ws) (omega arith), lt-leb (length ws) order_limit h)

    pub lookup_above_order : 1 ≤ length ws → length ws ≤ order_limit → order_in check < length ws → lookup_outcome base check ws ≡ NotFound
    unfolding lookup_outcome store_in
    lookup_above_order l u h = rw (opened_some base check array, le-leb 1 (length ws) l, le-leb (length ws) order_limit u, lt-leb (length ws) (order_in check) h)

    pub lookup_walks : 1 ≤ length ws → length ws ≤ order_in check → lookup_outcome base check ws ≡ lookup_of (look_from base check 0 0 (reverse ws))
    unfolding lookup_outcome store_in
    lookup_walks l h =
        let n = opened-order base check array in
        rw (opened_some base check array, le-leb 1 (length ws) l, le-leb (length ws) order_limit (omega arith), le-leb (length ws) (order_in check) h)
        (ap lookup_of (look-row base check (reverse ws) (omega (arith, length-reverse ws))))
