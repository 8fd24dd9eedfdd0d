-- Joining a fragment to words that were scored after any history gives what scoring them all there gives. Assumes nothing.
use mathlib.Core.Path.{◌≡◌, refl, sym, ap, ◌∙◌}
use mathlib.Core.Logic.{◌⊎◌, inl, inr}
use mathlib.Core.Bool.{Bool, true, false, cond}
use mathlib.Core.List.{List, [], ◌∷◌, ◌++◌}
use Prim.Native.Nat.{ℕ, zero, suc, ◌+◌, ◌≤◌, ◌<◌}
use native.Mathlib.Omega.{arith}
use lib.ListN.{length, take, drop, length-append, take-append-drop, drop_of_length-le}
use lib.Seq.{take-take, take_all, take-nil, length-take-le}
use lib.IntN.{ℤ, ◌+ℤ◌, ◌-ℤ◌}
use lib.Dec.{leb}
use borrow.Author.Tests.{leb-true, leb-false}
use Rattle.integer.specs.Integer.{sum}
use Rattle.integer.proofs.Arithmetic.{zarith, add, sub}
use Rattle.integer.proofs.Ranges.{lt_or_ge}
use Rattle.integer.proofs.Sums.{sum_append}
use Rattle.backoff.specs.Model.{Model, AcceptedModel, reach}
use Rattle.backoff.specs.Rule.{history}
use Rattle.backoff.specs.State.{State, empty, after}
use Rattle.backoff.specs.Run.{run_points, run_end}
use Rattle.backoff.proofs.State.{empty-is-after}
use Rattle.backoff.proofs.Run.{run_points_append, run_end_append, run_end-is-after}
use Rattle.backoff.proofs.Locality.{run_end_settled}
use Rattle.fragments.specs.Fragment.{fragment_from, fragment_of}
use Rattle.joining.specs.Join.{joined_total, joined_end, join}

-- the first words of two lists are those of the lists' first words
take-both : (i r s : ℕ) (us vs : List ℕ) → i ≤ r → i ≤ s → take i (take r us ++ take s vs) ≡ take i (us ++ vs)
take-both i r s [] vs h k = ap (λ (l : List ℕ). take i (l ++ take s vs)) (take-nil r) ∙ take-take i s vs k
take-both zero r s (u ∷ us) vs h k = refl
take-both (suc i) zero s (u ∷ us) vs h k = absurd (omega arith)
take-both (suc i) (suc r) s (u ∷ us) vs h k = ap (λ (l : List ℕ). u ∷ l) (take-both i r s us vs (omega arith) (omega arith))

-- the kept words scored from nothing are taken out again
less_and_plus : (t p q x : ℤ) → t +ℤ (p +ℤ x) -ℤ p +ℤ q ≡ t +ℤ (q +ℤ x)
less_and_plus t p q x =
    omega (zarith, add t (p +ℤ x), add p x, sub (t +ℤ (p +ℤ x)) p, add (t +ℤ (p +ℤ x) -ℤ p) q, add t (q +ℤ x), add q x)

module _ (M : Model) where
  -- the total of words in two parts
  sum-parts : (s : State) (us vs : List ℕ) → sum (run_points M s (us ++ vs)) ≡ sum (run_points M s us) +ℤ sum (run_points M (run_end M s us) vs)
  sum-parts s us vs = ap sum (run_points_append M s us vs) ∙ sum_append (run_points M s us) _

  -- the total of the words after the kept ones
  unfoldable rest_total : List ℕ → State → ℤ
  rest_total ws s = sum (run_points M (run_end M s (take (reach M) ws)) (drop (reach M) ws))

  sum_kept : (s : State) (ws : List ℕ) → sum (run_points M s ws) ≡ sum (run_points M s (take (reach M) ws)) +ℤ rest_total ws s
  unfolding rest_total
  sum_kept s ws = ap (λ (l : List ℕ). sum (run_points M s l)) (sym (take-append-drop (reach M) ws)) ∙ sum-parts s (take (reach M) ws) (drop (reach M) ws)

module _ (M : Model) (A : AcceptedModel M) where
  -- the rest scores the same after any history as from nothing
  rest_settled : (h ws : List ℕ) → rest_total M ws empty ≡ rest_total M ws (after M h)
  rest_settled h ws = ap (rest_total M ws) (empty-is-after M) ∙ (unfold rest_total in go (lt_or_ge (length ws) (reach M)))
    where
      go : (length ws < reach M) ⊎ (reach M ≤ length ws) → sum (run_points M (run_end M (after M []) (take (reach M) ws)) (drop (reach M) ws)) ≡ sum (run_points M (run_end M (after M h) (take (reach M) ws)) (drop (reach M) ws))
      go (inl few) = rw (drop_of_length-le ws {i = reach M} (omega arith)) (unfold run_points in refl)
      go (inr many) = ap (λ (s : State). sum (run_points M s (drop (reach M) ws))) (run_end_settled M A [] h (take (reach M) ws) (omega (arith, length-take-le (reach M) ws many)))

  -- the words us scored after any history h, joined with the fragment of vs
  module _ (h us vs : List ℕ) where
    joined_total-after : joined_total M (fragment_from M (after M h) us) (fragment_of M vs) ≡ sum (run_points M (after M h) (us ++ vs))
    unfolding joined_total fragment_from fragment_of
    joined_total-after =
        ap (λ (z : ℤ). t +ℤ z -ℤ p +ℤ q) (sum_kept M empty vs)
        ∙ less_and_plus t p q (rest_total M vs empty)
        ∙ ap (λ (z : ℤ). t +ℤ (q +ℤ z)) (rest_settled (history M h us) vs ∙ ap (rest_total M vs) (sym left))
        ∙ ap (λ (z : ℤ). t +ℤ z) (sym (sum_kept M s vs))
        ∙ sym (sum-parts M (after M h) us vs)
      where
        -- the state between the two
        s : State
        s = run_end M (after M h) us

        left : s ≡ after M (history M h us)
        left = run_end-is-after M A h us

        t : ℤ
        t = sum (run_points M (after M h) us)

        p : ℤ
        p = sum (run_points M empty (take (reach M) vs))

        q : ℤ
        q = sum (run_points M s (take (reach M) vs))

    joined_end-after : joined_end M (fragment_from M (after M h) us) (fragment_of M vs) ≡ run_end M (after M h) (us ++ vs)
    unfolding joined_end fragment_from fragment_of
    joined_end-after = go (leb (reach M) (length vs)) refl ∙ sym (run_end_append M (after M h) us vs)
      where
        go : (b : Bool) → leb (reach M) (length vs) ≡ b → cond b (run_end M empty vs) (run_end M (run_end M (after M h) us) (take (reach M) vs)) ≡ run_end M (run_end M (after M h) us) vs
        go true e =
            ap (λ (s : State). run_end M s vs) (empty-is-after M)
            ∙ run_end_settled M A [] (history M h us) vs (leb-true (reach M) (length vs) e)
            ∙ ap (λ (s : State). run_end M s vs) (sym (run_end-is-after M A h us))
        go false e = ap (run_end M (run_end M (after M h) us)) (take_all (reach M) vs (omega (arith, leb-false (reach M) (length vs) e)))

    pub join-after : join M (fragment_from M (after M h) us) (fragment_of M vs) ≡ fragment_from M (after M h) (us ++ vs)
    join-after = parts ∙ (unfold fragment_from in λ i. record {
      total = joined_total-after i;
      first = take-both (reach M) (reach M) (reach M) us vs (omega arith) (omega arith) i;
      count = sym (length-append us vs) i;
      end = joined_end-after i;
    })
      where
        parts : join M (fragment_from M (after M h) us) (fragment_of M vs) ≡ record {
          total = joined_total M (fragment_from M (after M h) us) (fragment_of M vs);
          first = take (reach M) (take (reach M) us ++ take (reach M) vs);
          count = length us + length vs;
          end = joined_end M (fragment_from M (after M h) us) (fragment_of M vs);
        }
        parts = unfold join fragment_from fragment_of in refl
