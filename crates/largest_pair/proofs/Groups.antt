-- The groups that change nothing of the pair that is kept. Assumes nothing.
use mathlib.Core.Path.{◌≡◌, ap}
use mathlib.Core.Logic.{◌⊎◌, inl, inr}
use mathlib.Core.Bool.{true}
use mathlib.Core.List.{List}
use Prim.Native.Nat.{ℕ, ◌≤◌, ◌<◌}
use native.Mathlib.Omega.{arith}
use lib.IntN.{ℤ, ◌-ℤ◌}
use lib.Signed.{lt_z}
use Rattle.integer.proofs.Arithmetic.{zarith, sub}
use Rattle.integer.proofs.Ranges.{lt_or_ge}
use Rattle.group_pairs.specs.declared.Pair.{Pair}
use Rattle.group_pairs.specs.Groups.{apart_in, IsGroup, Spans, InGroup}
use Rattle.group_pairs.proofs.Groups.{distance-up, low-high, no-further}
use Rattle.largest_pair.specs.Inner.{none_yet, Kept, nothing, something}
use Rattle.largest_pair.proofs.Kept.{Beats, stays}

module _ (totals : List ℤ) (first weight count : ℕ) (group : IsGroup totals first weight count) (low high : ℤ) (spans : Spans totals first weight count low high) where
  module _ {P R : ℕ → ℕ → Type 0} (either : (a b : ℕ) → R a b → P a b ⊎ InGroup first weight count a b) (left : (a b : ℕ) → P a b → R a b) (right : (a b : ℕ) → InGroup first weight count a b → R a b) (m : Pair) where
    -- one whose totals lie nearer than the kept pair's
    pub group_nearer : Kept none_yet P (apart_in totals) m → lt_z (high -ℤ low) m.distance ≡ true → Kept none_yet R (apart_in totals) m
    group_nearer (nothing e f) l = absurd (omega (zarith, ap (λ (p : Pair). p.distance) e, low-high totals first weight count group low high spans, sub high low))
    group_nearer (something i j e f) l = something i j e (stays (apart_in totals) either left right f (λ a b q. inl (omega (zarith, ap (λ (p : Pair). p.distance) e, distance-up low high (low-high totals first weight count group low high spans), no-further totals first weight count group low high spans a b q))))

    -- one that lies as far apart and begins later
    pub group_later : Kept none_yet P (apart_in totals) m → high -ℤ low ≡ m.distance → m.first ≤ first → Kept none_yet R (apart_in totals) m
    group_later (nothing e f) d l = absurd (omega (zarith, ap (λ (p : Pair). p.distance) e, low-high totals first weight count group low high spans, sub high low))
    group_later (something i j e f) d l = something i j e (stays (apart_in totals) either left right f (λ a b q. go a b q (lt_or_ge (apart_in totals a b) (apart_in totals i j))))
      where
        go : (a b : ℕ) → InGroup first weight count a b → (apart_in totals a b < apart_in totals i j) ⊎ (apart_in totals i j ≤ apart_in totals a b) → Beats (apart_in totals) i j a b
        go a b q (inl h) = inl h
        go a b q (inr h) = inr (omega (zarith, d, ap (λ (p : Pair). p.distance) e, distance-up low high (low-high totals first weight count group low high spans), no-further totals first weight count group low high spans a b q), inl (omega (arith, ap (λ (p : Pair). p.first) e, q.first-is)))
