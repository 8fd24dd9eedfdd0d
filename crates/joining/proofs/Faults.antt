-- What refuses a join before any word is scored refuses it, and where nothing does, both fragments pass. Assumes nothing.
use Rattle.std.specs.declared.option.Option.{Option}
use Rattle.std.specs.declared.option.Option.TheVariants.{Some, None}
use mathlib.Core.Path.{◌≡◌, refl, sym, ◌∙◌}
use mathlib.Core.Bool.{Bool, true, false, cond}
use mathlib.Core.List.{List}
use Prim.Native.Nat.{ℕ, ◌+◌}
use native.Mathlib.Omega.{arith}
use lib.IntN.{ℤ}
use lib.Dec.{eqb, ltb}
use borrow.Author.Tests.{ltb-false}
use Rattle.backoff.specs.Limits.{run_limit}
use Rattle.backoff.specs.State.{empty}
use Rattle.backoff.specs.NineNumbers.{state_in}
use Rattle.backoff.specs.Store.{Store, run_over}
use Rattle.backoff.specs.Refusal.{Verdict, Accepted, Refused, array_head, word_count, bad_fragment}
use Rattle.double_array.specs.DoubleArray.{is_array, order_in, store_in, opened}
use Rattle.double_array.proofs.DoubleArray.{opened_some, opened-none}
use Rattle.fragments.specs.Fragment.{Fragment, fragment_ok}
use Rattle.fragments.specs.Outcome.{Reply, refused_by}
use Rattle.joining.specs.Outcome.{joined_as, joined_in}
use Rattle.joining.specs.Inner.{first_bad, pair_fault, join_fault, Passed}

refused-not-accepted : (number place : ℕ) → Refused number place ≡ Accepted → ⊥
refused-not-accepted number place e = let z : ◌≡◌ {A = ℕ} 0 1 = cc in omega arith

-- a fragment that does not pass refuses whatever words there are, and where both pass, 14 is left
pub bad_alone : (bad words number place : ℕ) → Refused number place ≡ pair_fault bad 0 → Refused number place ≡ pair_fault bad words
bad_alone bad words number place e = go (eqb bad 0) e
  where
    go : (t : Bool) → Refused number place ≡ cond t Accepted (Refused bad_fragment bad) → Refused number place ≡ cond t (cond (ltb run_limit words) (Refused word_count 0) Accepted) (Refused bad_fragment bad)
    go true q = absurd (refused-not-accepted number place q)
    go false q = q

pub none_bad : (bad words : ℕ) → Accepted ≡ pair_fault bad 0 → cond (ltb run_limit words) (Refused word_count 0) Accepted ≡ pair_fault bad words
none_bad bad words e = go (eqb bad 0) e
  where
    go : (t : Bool) → Accepted ≡ cond t Accepted (Refused bad_fragment bad) → cond (ltb run_limit words) (Refused word_count 0) Accepted ≡ cond t (cond (ltb run_limit words) (Refused word_count 0) Accepted) (Refused bad_fragment bad)
    go true q = refl
    go false q = absurd (refused-not-accepted bad_fragment bad (sym q))

-- a verdict, and what a join returns where it is accepted
abbrev ruled : Reply → Verdict → Reply
ruled r Accepted = r
ruled r (Refused number place) = refused_by number place

module _ (a b : Fragment (List ℤ)) where
  ruled_fault : (S : Store) → joined_in (Some S) a b ≡ ruled (joined_as S.order a b (run_over S b.first empty 1) (run_over S b.first (state_in a.end) 1)) (join_fault (Some S) a b)
  ruled_fault S = go (fragment_ok S.order a) (fragment_ok S.order b) (ltb run_limit (a.count + b.count)) (joined_as S.order a b (run_over S b.first empty 1) (run_over S b.first (state_in a.end) 1))
    where
      go : (p q k : Bool) (r : Reply) → cond p (cond q (cond k (refused_by word_count 0) r) (refused_by bad_fragment 2)) (refused_by bad_fragment 1) ≡ ruled r (cond (eqb (cond p (cond q 0 2) 1) 0) (cond k (Refused word_count 0) Accepted) (Refused bad_fragment (cond p (cond q 0 2) 1)))
      go true true true r = refl
      go true true false r = refl
      go true false k r = refl
      go false q k r = refl

  pub fault_refuses : (o : Option Store) (number place : ℕ) → join_fault o a b ≡ Refused number place → joined_in o a b ≡ refused_by number place
  fault_refuses None number place e = let x : array_head ≡ number = cc in let y : ◌≡◌ {A = ℕ} 0 place = cc in rw (← x, ← y)
  fault_refuses (Some S) number place e = ruled_fault S ∙ rw e

  module _ (base check : List ℤ) (e : join_fault (opened base check) a b ≡ Accepted) where
    pub fault_array : is_array base check ≡ true
    fault_array = go (is_array base check) refl
      where
        go : (t : Bool) → is_array base check ≡ t → is_array base check ≡ true
        go true p = p
        go false p = absurd (refused-not-accepted array_head 0 (rw (opened-none base check p) at e))

    none-meets : join_fault (Some (store_in base check)) a b ≡ Accepted
    none-meets = rw (opened_some base check fault_array) at e

    pub fault_passed : Passed (order_in check) a b
    fault_passed = go (fragment_ok (order_in check) a) refl (fragment_ok (order_in check) b) refl (ltb run_limit (a.count + b.count)) refl (unfold store_in in none-meets)
      where
        go : (p : Bool) → fragment_ok (order_in check) a ≡ p → (q : Bool) → fragment_ok (order_in check) b ≡ q → (k : Bool) → ltb run_limit (a.count + b.count) ≡ k → pair_fault (first_bad (order_in check) a b) (a.count + b.count) ≡ Accepted → Passed (order_in check) a b
        go true p true q false k f = record { first = p; second = q; few = ltb-false run_limit (a.count + b.count) k }
        go true p true q true k f = absurd (refused-not-accepted word_count 0 (rw (p, q, k) at f))
        go true p false q u k f = absurd (refused-not-accepted bad_fragment 2 (rw (p, q) at f))
        go false p v q u k f = absurd (refused-not-accepted bad_fragment 1 (rw p at f))

    pub fault_none : joined_in (opened base check) a b ≡ joined_as (order_in check) a b (run_over (store_in base check) b.first empty 1) (run_over (store_in base check) b.first (state_in a.end) 1)
    fault_none = rw (opened_some base check fault_array) (ruled_fault (store_in base check) ∙ rw none-meets (unfold store_in in refl))
