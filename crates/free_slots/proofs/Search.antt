-- The search along the chain: taken slots are passed over, and the first slot of the chain that passes a test is the smallest that does. Where none does,
-- the smallest lies past the last slot. Assumes nothing.
use mathlib.Core.Path.{◌≡◌, sym, ◌∙◌}
use mathlib.Core.Logic.{◌⊎◌, inl, inr, ⊎_elim}
use mathlib.Core.Bool.{Bool, true, false, false≢true}
use mathlib.Core.List.{List}
use Prim.Native.Nat.{ℕ, suc, ◌≤◌, ◌<◌, min}
use native.Mathlib.Omega.{arith}
use Rattle.integer.proofs.Ranges.{lt_or_ge}
use Rattle.child_slots.specs.Children.{free_check}
use Rattle.placing.specs.Placing.{Room, is_free, fits, first_fit, top_with}
use Rattle.placing.proofs.FirstFit.{side_at, fit_fits, fit_only, fit_positive}
use Rattle.placing.proofs.Rooms.{reach-top}
use Rattle.free_slots.specs.Chain.{next_free, in_chain}
use Rattle.free_slots.proofs.Neighbours.{next-first}
use Rattle.free_slots.proofs.Taking.{chain_head, chain_slot}

-- a search along the chain has come to d, which is free or the end: no slot before it passes the test
pub record Searched (N : ℕ) (c : Room) (test : ℕ → Bool) (d : ℕ) : Type 0 where
  pub positive : 1 ≤ d
  pub within : d ≤ N
  pub free : d < N → is_free (c d) ≡ true
  pub missed : (e : ℕ) → 1 ≤ e → e < d → test e ≡ false

-- a search along the chain has passed all slots up to d
pub record PassedTo (N : ℕ) (c : Room) (test : ℕ → Bool) (d : ℕ) : Type 0 where
  pub inside : d < N
  pub member : in_chain c d ≡ true
  pub above : d < next_free N c d
  pub next : Searched N c test (next_free N c d)

-- a test that no taken slot passes
module _ (N : ℕ) (c : Room) (test : ℕ → Bool) (taken : (e : ℕ) → is_free (c e) ≡ false → test e ≡ false) where
  passed : (d : ℕ) → d < N → in_chain c d ≡ true → ((e : ℕ) → 1 ≤ e → e < suc d → test e ≡ false) → PassedTo N c test d
  passed d l h m =
      let f = next-first c N d l in
      record {
        inside = l;
        member = h;
        above = f.from;
        next = record {
          positive = omega (arith, f.from);
          within = f.within;
          free = f.hit;
          missed = λ e a b. ⊎_elim (λ k. m e a k) (λ k. taken e (f.gap e k b)) (lt_or_ge e (suc d));
        };
      }

  pub passed_none : 1 ≤ N → PassedTo N c test 0
  passed_none l = passed 0 l (chain_head c) (λ e a b. absurd (omega arith))

  -- d does not pass the test either
  pub passed-next : {d : ℕ} → Searched N c test d → d < N → test d ≡ false → PassedTo N c test d
  passed-next {d} S l h =
      passed d l (chain_slot c d S.positive ∙ S.free l)
      (λ e a b. ⊎_elim (λ k. S.missed e a k) (λ (k : d ≤ e). let q : e ≡ d = omega arith in rw q h) (lt_or_ge e d))

-- the search for the first fit of the placing rule
module _ (N : ℕ) (c : Room) (ws : List ℕ) (past : (t : ℕ) → N ≤ t → c t ≡ free_check) where
  pub fit_found : {d : ℕ} → Searched N c (fits c ws) d → d < N → fits c ws d ≡ true → d ≡ min (first_fit c ws N) N
  fit_found {d} S l h = let e = fit_only c ws N past d S.positive h S.missed in omega arith

  pub fit_not_found : Searched N c (fits c ws) N → N ≡ min (first_fit c ws N) N
  fit_not_found S =
      ⊎_elim
      (λ (l : first_fit c ws N < N). absurd (false≢true (sym (S.missed (first_fit c ws N) (fit_positive c ws N past) l) ∙ fit_fits c ws N past)))
      (λ l. omega arith) (lt_or_ge (first_fit c ws N) N)

  -- how far it reaches, on the side that it takes, where that is not past the end
  pub fit_room : {d : ℕ} {behind : Bool} (top : ℕ) → d ≡ min (first_fit c ws N) N → (d < N → behind ≡ side_at c ws (first_fit c ws N))
      → min (top_with top behind d ws) (suc N) ≡ min (top_with top (side_at c ws (first_fit c ws N)) (first_fit c ws N) ws) (suc N)
  fit_room {d} {behind} top e s = go (lt_or_ge (first_fit c ws N) N)
    where
      fit : ℕ
      fit = first_fit c ws N

      go : (fit < N) ⊎ (N ≤ fit) → min (top_with top behind d ws) (suc N) ≡ min (top_with top (side_at c ws fit) fit ws) (suc N)
      go (inl l) =
          let f : d ≡ fit = omega arith in
          let g = s (omega arith) in
          λ i. min (top_with top (g i) (f i) ws) (suc N)
      go (inr l) = omega (arith, reach-top top behind d ws, reach-top top (side_at c ws fit) fit ws)
