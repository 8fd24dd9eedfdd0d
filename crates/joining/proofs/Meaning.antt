-- The outcome of joining means what specs/Meaning.antt says, over any lent arrays. Assumes nothing.
use mathlib.Core.Path.{◌≡◌, refl, sym, ap, ◌∙◌}
use mathlib.Core.Logic.{inl, inr}
use mathlib.Core.Bool.{Bool, true, false, true≢false}
use mathlib.Core.List.{List}
use Prim.Native.Nat.{ℕ, ◌+◌, ◌<◌}
use native.Mathlib.Omega.{arith}
use lib.ListN.{drop}
use lib.IntN.{ℤ}
use lib.Dec.{ltb}
use borrow.Author.Tests.{ltb-true, ltb-false}
use Rattle.integer.specs.Integer.{sum}
use Rattle.backoff.specs.Limits.{run_limit}
use Rattle.backoff.specs.Refusal.{array_head, broken_node, word_count, bad_fragment}
use Rattle.backoff.specs.FirstMet.{FirstMet}
use Rattle.backoff.specs.Model.{reach}
use Rattle.backoff.specs.State.{empty}
use Rattle.backoff.specs.Run.{run_points, run_end}
use Rattle.backoff.specs.NineNumbers.{nine, state_in}
use Rattle.backoff.specs.Store.{Store, model_in}
use Rattle.backoff.proofs.FirstMet.{met_when, not_when, not-false, met_at, not_at}
use Rattle.backoff.proofs.NineNumbers.{nine-state_in}
use Rattle.double_array.specs.DoubleArray.{is_array, order_in, store_in, opened}
use Rattle.double_array.proofs.DoubleArray.{opened-order, opened_some, opened-none}
use Rattle.carried_state.proofs.Carried.{Four, length-numbers}
use Rattle.word_walk.specs.Rows.{array_model}
use Rattle.score.specs.Meaning.{StuckWord}
use Rattle.score.proofs.Refusals.{Told, first-stuck, none_stuck, first-stuck_or_none}
use Rattle.fragments.specs.declared.Fragment.{Fragment as Numbers}
use Rattle.fragments.specs.Fragment.{Fragment, packed, unpacked, fragment_ok}
use Rattle.fragments.specs.Outcome.{returned, refused_by, fragment_in, crossed}
use Rattle.fragments.proofs.Check.{end_ok}
use Rattle.joining.specs.Join.{joined_total, joined_end, join}
use Rattle.joining.specs.Inner.{Passed}
use Rattle.joining.specs.Outcome.{joined_fragment, joined_in, join_outcome}
use Rattle.joining.specs.Meaning.{BadFragment, StuckJoin, join_refusals, JoinMeans}
use Rattle.joining.proofs.Outcome.{nine-cond}

module _ (base check : List ℤ) (one two : Numbers) (four : Four two.state) where
  abbrev S : Store
  S = store_in base check

  abbrev a : Fragment (List ℤ)
  a = fragment_in one

  abbrev b : Fragment (List ℤ)
  b = fragment_in two

  refused-join : (number place : ℕ) → (number ≡ 0 → ⊥) → FirstMet (join_refusals base check one two) number place → JoinMeans base check one two (crossed (refused_by number place))
  refused-join number place n v = record { verdict = v; accepted = λ e. absurd (n e); refused = λ e. refl }

  abbrev joined_now : Fragment (List ℤ)
  joined_now = joined_fragment S.order a b (sum (run_points (array_model base check) empty b.first)) (sum (run_points (array_model base check) (state_in a.end) b.first)) (nine (run_end (array_model base check) (state_in a.end) b.first))

  by_formula : nine (state_in b.end) ≡ b.end → joined_now ≡ packed (join (array_model base check) (unpacked a) (unpacked b))
  unfolding packed unpacked join joined_total joined_end reach model_in
  by_formula e = rw (← nine-cond, e)

  neither_bad : fragment_ok (order_in check) a ≡ true → fragment_ok (order_in check) b ≡ true → (i : ℕ) → BadFragment (order_in check) one two i → ⊥
  neither_bad q r i (inl h) = true≢false (sym q ∙ h.1)
  neither_bad q r i (inr h) = true≢false (sym r ∙ h.1)

  only-second : fragment_ok (order_in check) a ≡ true → (i : ℕ) → i < 1 → BadFragment (order_in check) one two i → ⊥
  only-second q i l (inl h) = true≢false (sym q ∙ h.1)
  only-second q i l (inr h) = let e = h.0 in omega arith

  -- 11, 21 and 14 are passed
  past-sizes : is_array base check ≡ true → Passed (order_in check) a b → (number place : ℕ) → FirstMet (drop 3 (join_refusals base check one two)) number place → FirstMet (join_refusals base check one two) number place
  past-sizes p x number place v = inr (not-false p, inr (not_at (neither_bad x.first x.second), inr (not_when (λ h. let m = x.few in omega arith), v)))

  scored-join : is_array base check ≡ true → Passed (order_in check) a b → (StuckJoin base check one two → ⊥) → JoinMeans base check one two (crossed (returned joined_now))
  scored-join p x n = record {
    verdict = past-sizes p x _ _ (inr (not_when n, (refl, refl)));
    accepted = λ e. record { first_passes = x.first; second_passes = x.second; few = x.few; is = ap (λ (f : Fragment (List ℤ)). (crossed (returned f)).fragment) (by_formula held) };
    refused = λ n. absurd (n refl);
  }
    where
      held : nine (state_in b.end) ≡ b.end
      held = nine-state_in (order_in check) b.end (length-numbers two.state four) (opened-order base check p).1 (end_ok (order_in check) b x.second)

  pub join_means : JoinMeans base check one two (join_outcome (opened base check) one two)
  unfolding join_outcome store_in
  join_means =
      go (is_array base check) refl (fragment_ok (order_in check) a) refl (fragment_ok (order_in check) b) refl (ltb run_limit (a.count + b.count)) refl (first-stuck_or_none base check b.first empty 1) (first-stuck_or_none base check b.first (state_in a.end) 1)
    where
      neither : ((i : ℕ) → StuckWord S empty b.first i → ⊥) → ((i : ℕ) → StuckWord S (state_in a.end) b.first i → ⊥) → StuckJoin base check one two → ⊥
      neither m n (inl h) = m h.0 h.1
      neither m n (inr h) = n h.0 h.1

      go : (t : Bool) → is_array base check ≡ t → (u : Bool) → fragment_ok (order_in check) a ≡ u → (v : Bool) → fragment_ok (order_in check) b ≡ v → (w : Bool) → ltb run_limit (a.count + b.count) ≡ w → Told base check b.first empty 1 → Told base check b.first (state_in a.end) 1 → JoinMeans base check one two (crossed (joined_in (opened base check) a b))
      go false p u q v r w k x y = rw (opened-none base check p) (refused-join array_head 0 (λ z. omega arith) (inl (met_when p)))
      go true p false q v r w k x y = rw (opened_some base check p, q) (refused-join bad_fragment 1 (λ z. omega arith) (inr (not-false p, inl (met_at 0 (inl (refl, q)) (λ j l. absurd (omega arith))))))
      go true p true q false r w k x y = rw (opened_some base check p, q, r) (refused-join bad_fragment 2 (λ z. omega arith) (inr (not-false p, inl (met_at 1 (inr (refl, r)) (only-second q)))))
      go true p true q true r true k x y =
          rw (opened_some base check p, q, r, k)
          (refused-join word_count 0 (λ z. omega arith) (inr (not-false p, inr (not_at (neither_bad q r), inl (met_when (ltb-true _ _ k))))))
      go true p true q true r false k (first-stuck i x t f) y =
          rw (opened_some base check p, q, r, k, x)
          (refused-join broken_node 0 (λ z. omega arith) (past-sizes p (record { first = q; second = r; few = ltb-false _ _ k }) _ _ (inl (met_when (inl (i, t))))))
      go true p true q true r false k (none_stuck x m) (first-stuck i y t f) =
          rw (opened_some base check p, q, r, k, x, y)
          (refused-join broken_node 0 (λ z. omega arith) (past-sizes p (record { first = q; second = r; few = ltb-false _ _ k }) _ _ (inl (met_when (inr (i, t))))))
      go true p true q true r false k (none_stuck x m) (none_stuck y n) = rw (opened_some base check p, q, r, k, x, y) (scored-join p (record { first = q; second = r; few = ltb-false _ _ k }) (neither m n))
