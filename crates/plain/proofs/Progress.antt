-- A loop that writes and adds up the items of a list, one a turn: what is done, and what is left. Assumes nothing.
use mathlib.Core.Path.{◌≡◌, refl, sym, ◌∙◌}
use mathlib.Core.List.{List, [], ◌∷◌, ◌++◌, append-nil, append_assoc}
use Prim.Native.Nat.{ℕ, suc, ◌+◌, ◌*◌, ◌<◌, ◌≤◌}
use native.Mathlib.Numerals.{add-one}
use native.Mathlib.Omega.{arith}
use lib.ListN.{length, drop, set, get_or, length-append}
use lib.Seq.{drop-cons, set_at}
use lib.IntN.{ℤ, pos, ◌+ℤ◌, +ℤ_assoc, +ℤ_idl, +ℤ_idr}
use mir.Syntax.{w32, w64}
use mir.Val.{SFits}
use Rattle.integer.specs.Integer.{sum}
use Rattle.integer.proofs.Arithmetic.{zarith, up, down, add, fit}
use Rattle.backoff.specs.Limits.{run_limit}
use Rattle.backoff.specs.Run.{written}

-- Of the items `all` the first i are written over those of `old`, which has become `new`, and `rest` is left.
pub record Progress {A : Type 0} (all rest old new : List A) (i : ℕ) : Type 0 where
  pub done : List A
  pub size : length done ≡ i
  pub whole : all ≡ done ++ rest
  pub so_far : new ≡ done ++ drop i old

module _ {A : Type 0} where
  pub progress_none : (all old : List A) → Progress all all old old 0
  progress_none all old = record { done = []; size = refl; whole = refl; so_far = refl }

  pub progress_more : {all rest old new : List A} {i : ℕ} {x : A} → Progress all (x ∷ rest) old new i → i < length old → Progress all rest old (set new i x) (i + 1)
  progress_more {old = old} {i = i} {x = x} p h = record {
    done = p.done ++ (x ∷ []);
    size = rw length-append (omega (arith, p.size));
    whole = rw append_assoc p.whole;
    so_far = rw (p.so_far, drop-cons old i x h, set_at p.done (get_or old i x) (drop (suc i) old) x i p.size, add-one, append_assoc);
  }

  pub progress_end : {all old new : List A} {i : ℕ} → Progress all [] old new i → new ≡ written all old
  unfolding written
  progress_end {all = all} p =
      let e : all ≡ p.done = p.whole ∙ append-nil p.done in
      rw (e, p.size) p.so_far

-- `total` is the sum of `all` without `rest`. Its i items fit 32 bits, so it is not far from 0.
pub record Summed (all rest : List ℤ) (total : ℤ) (i : ℕ) : Type 0 where
  pub value : total +ℤ sum rest ≡ sum all
  pub low : down total ≤ up total + 2147483648 * i
  pub high : up total ≤ down total + 2147483648 * i

pub summed-none : (all : List ℤ) → Summed all all (pos 0) 0
summed-none all = record { value = +ℤ_idl (sum all); low = omega arith; high = omega arith }

pub summed-end : {all : List ℤ} {total : ℤ} {i : ℕ} → Summed all [] total i → total ≡ sum all
summed-end {total = total} s = sym (+ℤ_idr total) ∙ s.value

module _ {all rest : List ℤ} {total x : ℤ} {i : ℕ} (s : Summed all (x ∷ rest) total i) (f : SFits w32 x) where
  pub summed-more : Summed all rest (total +ℤ x) (i + 1)
  summed-more = record {
    value = +ℤ_assoc total x (sum rest) ∙ s.value;
    low = omega (arith, s.low, add total x, fit f);
    high = omega (arith, s.high, add total x, fit f);
  }

  pub total-fits : i < run_limit → SFits w64 (total +ℤ x)
  total-fits h = omega (zarith, s.low, s.high, fit f)
