-- What is found above a slot: where a test fails, it is no child of any node. Assumes nothing.
use Rattle.std.specs.declared.option.Option.{Option}
use Rattle.std.specs.declared.option.Option.TheVariants.{Some, None}
use mathlib.Core.Path.{◌≡◌, refl, sym, ap, ap₂, ◌∙◌}
use mathlib.Core.Bool.{Bool, true, false}
use mathlib.Core.List.{List}
use Prim.Native.Nat.{ℕ}
use borrow.Author.Tests.{eqb-true, eqb-false}
use lib.Dec.{eqb}
use lib.ListN.{get_or}
use lib.IntN.{ℤ, pos, nat_abs}
use lib.Signed.{◌≤ℤ◌}
use Rattle.std.specs.Bool.{then_some}
use Rattle.integer.proofs.Items.{get_or-inside}
use Rattle.child_slots.specs.Children.{free_check, word_at, base_at, child_at}
use Rattle.array_nodes.specs.Gathering.{FoundAbove}
use Rattle.array_nodes.proofs.Climb.{Climbs, child_climbs}

-- ---- a slot, the slot above, and BASE there

module _ (base check : List ℤ) (t : ℕ) where
  pub no-parent : (r : Option ℕ) → r ≡ None → ((s w : ℕ) → Climbs base check s w t → ⊥) → FoundAbove base check t r
  no-parent r e f = rw e (λ s w q. f s w (child_climbs base check s w t q))

  pub natural-above : {s w : ℕ} → Climbs base check s w t → pos 0 ≤ℤ get_or check t (pos 0)
  natural-above k = rw (get_or-inside check t (pos 0) free_check k.inside) k.natural

  pub slot_is : {s w : ℕ} (n : ℕ) → n ≡ nat_abs (get_or check t (pos 0)) → Climbs base check s w t → n ≡ s
  slot_is n e k = e ∙ ap nat_abs (get_or-inside check t (pos 0) free_check k.inside) ∙ k.parent

  pub base_is : {s w : ℕ} (n : ℕ) → n ≡ nat_abs (get_or check t (pos 0)) → Climbs base check s w t → get_or base n (pos 0) ≡ base_at base check s
  base_is n e k = ap (λ (x : ℕ). get_or base x (pos 0)) (slot_is n e k)

  pub word_is : {s w : ℕ} (n d : ℕ) → n ≡ nat_abs (get_or check t (pos 0)) → d ≡ nat_abs (get_or base n (pos 0)) → Climbs base check s w t → word_at d t ≡ w
  word_is n d e f k = ap (λ (x : ℕ). word_at x t) (f ∙ ap nat_abs (base_is n e k)) ∙ k.word

  -- where slot t is a child, it is the one that is found
  pub child_is : (s w n d v : ℕ) → n ≡ nat_abs (get_or check t (pos 0)) → d ≡ nat_abs (get_or base n (pos 0)) → v ≡ word_at d t
      → child_at base check s w ≡ Some t → child_at base check n v ≡ Some t
  child_is s w n d v e f g q =
      let k = child_climbs base check s w t q in
      ap₂ (child_at base check) (slot_is n e k) (g ∙ word_is n d e f k) ∙ q

  pub none_found : (n d v : ℕ) (r : Option ℕ) → r ≡ None → n ≡ nat_abs (get_or check t (pos 0)) → d ≡ nat_abs (get_or base n (pos 0)) → v ≡ word_at d t
      → None ≡ child_at base check n v → FoundAbove base check t r
  none_found n d v r z e f g h = rw z (λ s w q. let x : None ≡ Some t = h ∙ child_is s w n d v e f g q in cc)

  pub one_found : (n d v u : ℕ) (r : Option ℕ) → r ≡ then_some (eqb u t) n → n ≡ nat_abs (get_or check t (pos 0)) → d ≡ nat_abs (get_or base n (pos 0)) → v ≡ word_at d t
      → Some u ≡ child_at base check n v → FoundAbove base check t r
  one_found n d v u r z e f g h = rw z (go (eqb u t) refl)
    where
      go : (b : Bool) → eqb u t ≡ b → FoundAbove base check t (then_some b n)
      go true q = (v, sym h ∙ ap Some (eqb-true u t q))
      go false q = λ s w k. let x : Some u ≡ Some t = h ∙ child_is s w n d v e f g k in eqb-false u t q cc
