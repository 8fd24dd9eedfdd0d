-- How large the points and the length byte of a word and the total of some words get. Assumes nothing.
use mathlib.Core.Path.{◌≡◌, sym, ◌∙◌}
use mathlib.Core.Bool.{Bool, true, false, cond}
use mathlib.Core.List.{List}
use Prim.Native.Nat.{ℕ, ◌*◌, ◌≤◌, ◌<◌}
use native.Mathlib.Omega.{arith}
use lib.Dec.{eqb}
use lib.IntN.{ℤ, nat_abs}
use Rattle.backoff.specs.Limits.{unknown_word, order_limit, largest_backoff}
use Rattle.backoff.specs.Model.{in_probability, probability}
use Rattle.backoff.specs.Rule.{length_byte, replaced}
use Rattle.backoff.specs.State.{State as Carried, points_from, matched_from, extended_from, next_from}
use Rattle.backoff.specs.Store.{Store, model_in, scored, stuck, word_step}
use Rattle.backoff.proofs.State.{walk_le}
use Rattle.backoff.proofs.NineNumbers.{Bounded}
use Rattle.backoff.proofs.Store.{word_stuck, word_step-is}
use Rattle.backoff.proofs.Sizes.{points-size}

-- one word's points and length byte
module _ (S : Store) (in_probability_lem : (l : List ℕ) → in_probability (probability (model_in S) l) ≡ true) (n : ℕ) (few : n ≤ 4) (s : Carried) (b : Bounded n s) (w : ℕ) where
  pub scored-sizes : (x : ℤ) (y : ℕ) (t : Carried) → word_step S s w ≡ scored x y t → (nat_abs x ≤ order_limit * largest_backoff) × (y < 256)
  scored-sizes x y t e = go (word_stuck S s w) (sym (word_step-is S s w) ∙ e)
    where
      v : ℕ
      v = replaced (model_in S) w

      points : nat_abs (points_from (model_in S) s v) ≤ order_limit * largest_backoff
      points = omega (arith, points-size (model_in S) in_probability_lem b v, b.few)

      at_most : (n : ℕ) (u : Bool) → cond u n 0 ≤ n
      at_most n true = omega arith
      at_most n false = omega arith

      byte : length_byte (matched_from (model_in S) s v) v (extended_from (model_in S) s v) < 256
      byte = unfold length_byte matched_from in omega (arith, walk_le (model_in S) v s.words, b.few, at_most 8 (eqb v unknown_word), at_most 16 (extended_from (model_in S) s v))

      go : (u : Bool) → cond u stuck (scored (points_from (model_in S) s v) (length_byte (matched_from (model_in S) s v) v (extended_from (model_in S) s v)) (next_from (model_in S) s v)) ≡ scored x y t → (nat_abs x ≤ order_limit * largest_backoff) × (y < 256)
      go true q = let z : ◌≡◌ {A = ℕ} 0 1 = cc in absurd (omega arith)
      go false q =
          let f : points_from (model_in S) s v ≡ x = cc in
          let g : length_byte (matched_from (model_in S) s v) v (extended_from (model_in S) s v) ≡ y = cc in
          (rw f at points, rw g at byte)

-- the total of i words is no larger than so many words can make it
abbrev pub SmallTotal : ℕ → ℤ → Type 0
SmallTotal i total = nat_abs total ≤ i * (order_limit * largest_backoff)
