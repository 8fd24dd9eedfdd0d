-- The links run through exactly the free slots: those of BASE upwards, those of CHECK back. Assumes nothing.
use mathlib.Core.Path.{◌≡◌, refl, sym, ap, ◌∙◌}
use mathlib.Core.Logic.{◌≢◌}
use mathlib.Core.Bool.{Bool, true, false, cond}
use mathlib.Core.List.{List, [], ◌∷◌, ◌++◌, reverse, reverse-append}
use Prim.Native.Nat.{ℕ, zero, suc, ◌+◌, ◌-◌, ◌≤◌, ◌<◌}
use native.Mathlib.Omega.{arith}
use native.Mathlib.Decide.{ℕ_discrete}
use lib.IntN.{ℤ, pos, nat_abs, ◌-ℤ◌}
use lib.ListN.{length, get_or}
use borrow.Author.Tests.{ne_eqb, lt-ltb, le-ltb}
use Rattle.integer.proofs.Arithmetic.{zarith, add, sub}
use Rattle.child_slots.specs.Children.{free_check}
use Rattle.placing.specs.Placing.{Room, is_free}
use Rattle.free_slots.specs.Chain.{free_from, next_free, last_free, in_chain, taken_below, link_check, Linked, free_slots, above, below, up_from, down_from, LinksRun}
use Rattle.free_slots.proofs.Neighbours.{next-first, Last, last_free-last}
use Rattle.free_slots.proofs.Taking.{chain_head, chain_slot}
use Rattle.free_slots.proofs.Chain.{linked-base-length, up-link, down-link}

-- no free slot lies before the first one
free_slots-first : (c : Room) (k t n : ℕ) → t + k ≡ n → free_slots c k t ≡ free_slots c (n - free_from c k t) (free_from c k t)
unfolding free_slots free_from
free_slots-first c zero t n e = let q : n - t ≡ 0 = omega arith in rw q
free_slots-first c (suc k) t n e = go (is_free (c t)) refl (free_slots-first c k (suc t) n (omega arith))
  where
    go : (f : Bool) → is_free (c t) ≡ f → free_slots c k (suc t) ≡ free_slots c (n - free_from c k (suc t)) (free_from c k (suc t))
        → cond f (t ∷ free_slots c k (suc t)) (free_slots c k (suc t)) ≡ free_slots c (n - cond f t (free_from c k (suc t))) (cond f t (free_from c k (suc t)))
    go true q r = let p : n - t ≡ suc k = omega arith in rw (p, q)
    go false q r = r

free_slots-next : (N : ℕ) (c : Room) (t : ℕ) → t < N → is_free (c t) ≡ true → free_slots c (N - t) t ≡ t ∷ free_slots c (N - next_free N c t) (next_free N c t)
unfolding free_slots
free_slots-next N c t l h =
    let p : N - t ≡ suc (N - suc t) = omega arith in
    rw (p, h) (ap (λ (r : List ℕ). t ∷ r) (free_slots-first c (N - suc t) (suc t) N (omega arith)))

module _ {N : ℕ} {b c : Room} {base check : List ℤ} (L : Linked N b c base check) where
  -- a link of BASE leads to the next free slot
  leads-up : (t : ℕ) → t < N → in_chain c t ≡ true → above base t ≡ next_free N c t
  leads-up t l h = omega (arith, ap nat_abs (up-link L t l h), (next-first c N t l).from)

  -- from a free slot u, or above the last slot
  following : (k u : ℕ) → 1 ≤ u → u ≤ N → (u < N → is_free (c u) ≡ true) → N < u + k → up_from base k u ≡ free_slots c (N - u) u
  unfolding up_from free_slots
  following zero u p w h m = absurd (omega arith)
  following (suc k) u p w h m = go (ℕ_discrete u N) (λ l. following k (next_free N c u) (omega (arith, (next-first c N u l).from)) (next-first c N u l).within (next-first c N u l).hit (omega (arith, (next-first c N u l).from)))
    where
      go : Dec (u ≡ N) → (u < N → up_from base k (next_free N c u) ≡ free_slots c (N - next_free N c u) (next_free N c u)) → up_from base (suc k) u ≡ free_slots c (N - u) u
      go (yes e) r =
          let none : N - u ≡ 0 = omega arith in
          rw (le-ltb u (length base) (omega (arith, linked-base-length L)), none)
      go (no e) r =
          let l : u < N = omega arith in
          let free = h l in
          rw (lt-ltb u (length base) (omega (arith, linked-base-length L)))
          (ap (λ (x : ℕ). u ∷ up_from base k x) (leads-up u l (chain_slot c u p ∙ free)) ∙ ap (λ (x : List ℕ). u ∷ x) (r l) ∙ sym (free_slots-next N c u l free))

-- ---- back

free_slots_append : (c : Room) (a b t : ℕ) → free_slots c (a + b) t ≡ free_slots c a t ++ free_slots c b (t + a)
unfolding free_slots
free_slots_append c zero b t = let e : 0 + b ≡ b = omega arith in let f : t + 0 ≡ t = omega arith in rw (e, f)
free_slots_append c (suc a) b t =
    let e : suc a + b ≡ suc (a + b) = omega arith in
    let f : t + suc a ≡ suc t + a = omega arith in
    rw (e, f) (go (is_free (c t)) (free_slots_append c a b (suc t)))
  where
    go : (free : Bool) → free_slots c (a + b) (suc t) ≡ free_slots c a (suc t) ++ free_slots c b (suc t + a)
        → cond free (t ∷ free_slots c (a + b) (suc t)) (free_slots c (a + b) (suc t)) ≡ cond free (t ∷ free_slots c a (suc t)) (free_slots c a (suc t)) ++ free_slots c b (suc t + a)
    go true r = ap (λ (l : List ℕ). t ∷ l) r
    go false r = r

free_slots-none : (c : Room) (k t : ℕ) → ((e : ℕ) → t ≤ e → e < t + k → is_free (c e) ≡ false) → free_slots c k t ≡ []
unfolding free_slots
free_slots-none c zero t h = refl
free_slots-none c (suc k) t h = rw (h t (omega arith) (omega arith)) (free_slots-none c k (suc t) (λ e a b. h e (omega arith) (omega arith)))

-- the free slots below u, by the last of them
free_slots-last : (c : Room) (u : ℕ) → 1 ≤ u → last_free c u ≢ 0 → free_slots c (u - 1) 1 ≡ free_slots c (last_free c u - 1) 1 ++ (last_free c u ∷ [])
unfolding free_slots
free_slots-last c u l h =
    let v = last_free c u in
    let f = last_free-last c u l in
    let e : u - 1 ≡ (v - 1) + suc (u - 1 - v) = omega (arith, f.below) in
    let g : 1 + (v - 1) ≡ v = omega arith in
    ap (λ (k : ℕ). free_slots c k 1) e ∙ free_slots_append c (v - 1) (suc (u - 1 - v)) 1
    ∙ ap (λ (t : ℕ). free_slots c (v - 1) 1 ++ free_slots c (suc (u - 1 - v)) t) g
    ∙ ap (λ (r : List ℕ). free_slots c (v - 1) 1 ++ r)
    (rw (f.hit (omega arith)) (ap (λ (r : List ℕ). v ∷ r) (free_slots-none c (u - 1 - v) (suc v) (λ x a b. f.gap x a (omega (arith, f.below))))))

free_slots-no-last : (c : Room) (u : ℕ) → 1 ≤ u → last_free c u ≡ 0 → free_slots c (u - 1) 1 ≡ []
free_slots-no-last c u l e = free_slots-none c (u - 1) 1 (λ x a b. (last_free-last c u l).gap x (omega arith) (omega arith))

module _ {N : ℕ} {b c : Room} {base check : List ℤ} (L : Linked N b c base check) where
  -- a link of CHECK leads to the free slot before
  leads-down : (t : ℕ) → 1 ≤ t → t < N → is_free (c t) ≡ true → below check t ≡ last_free c t
  leads-down t p l h = omega (arith, link-read (get_or check t (pos 0)) (taken_below c t) (down-link L t l (chain_slot c t p ∙ h)), (last_free-last c t p).below)
    where
      link-read : (z : ℤ) (k : ℕ) → z ≡ link_check k → nat_abs (z -ℤ free_check) ≡ k
      link-read z k e = let d : z -ℤ free_check ≡ pos k = omega (zarith, add free_check (pos k), sub z free_check) in ap nat_abs d

  going_back : (k u : ℕ) → 1 ≤ u → u ≤ N → u ≤ k → down_from check k (last_free c u) ≡ reverse (free_slots c (u - 1) 1)
  unfolding down_from
  going_back zero u p w m = absurd (omega arith)
  going_back (suc k) u p w m = go (ℕ_discrete (last_free c u) 0) (λ q. going_back k (last_free c u) q (omega (arith, f.below)) (omega (arith, f.below)))
    where
      f : Last c u (last_free c u)
      f = last_free-last c u p

      go : Dec (last_free c u ≡ 0) → (1 ≤ last_free c u → down_from check k (last_free c (last_free c u)) ≡ reverse (free_slots c (last_free c u - 1) 1))
          → down_from check (suc k) (last_free c u) ≡ reverse (free_slots c (u - 1) 1)
      go (yes e) r = rw (e, free_slots-no-last c u p e)
      go (no e) r =
          let v = last_free c u in
          let q : 1 ≤ v = omega arith in
          rw (ne_eqb v 0 e)
          (ap (λ (x : ℕ). v ∷ down_from check k x) (leads-down v q (omega (arith, f.below)) (f.hit q)) ∙ ap (λ (l : List ℕ). v ∷ l) (r q)
          ∙ sym (ap reverse (free_slots-last c u p e) ∙ reverse-append (free_slots c (v - 1) 1) (v ∷ [])))

  pub links-run_through_the_free_slots : LinksRun N c base check
  links-run_through_the_free_slots =
      let f = next-first c N 0 L.size.0 in
      record {
        up =
            ap (up_from base N) (leads-up L 0 L.size.0 (chain_head c))
            ∙ following L N (next_free N c 0) f.from f.within f.hit (omega (arith, f.from))
            ∙ sym (free_slots-first c (N - 1) 1 N (omega (arith, L.size.0)));
        down = going_back N N L.size.0 (omega arith) (omega arith);
      }
