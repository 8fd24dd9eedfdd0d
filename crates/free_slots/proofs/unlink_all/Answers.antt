-- The pass leaves what the rule has in every slot but slot 0, those behind it being without links already.
use mathlib.Core.Path.{◌≡◌, sym, ap, ◌∙◌}
use mathlib.Core.List.{List, ◌++◌}
use Prim.Native.Nat.{ℕ, ◌+◌, ◌≤◌, min}
use native.Mathlib.Omega.{arith}
use lib.IntN.{ℤ}
use lib.ListN.{length, set, take, drop}
use lib.Seq.{length-take-le, length_front}
use mir.Facts.{to_z-of_z}
use Rattle.placing.specs.Placing.{slots}
use Rattle.free_slots.specs.Chain.{plain_bases, plain_checks}
use Rattle.free_slots.proofs.Chain.{linked-base-length, linked-check-length}
use Rattle.free_slots.proofs.Linking.{unlinked_base, unlinked_check}
use Rattle.free_slots.proofs.unlink_all.Goals as goal

-- the two slices have one length, that reaches to `end`
within : (c : goal.After-min-end) → (1 ≤ length c.args.base.now) × (length c.args.base.now ≡ length c.args.check.now) × (c.min-end.result ≤ length c.args.check.now)
within c = let L = c.requires.linked in omega (arith, linked-base-length L, linked-check-length L, L.size, c.min-end.ensures)

part : (end : ℕ) (l : List ℤ) → end ≤ length l → length (take end l) ≡ end
part end l h = length-take-le _ _ h

pub slice_bounds-unlink-end : goal.slice_bounds-unlink-end
slice_bounds-unlink-end c = omega (arith, within c)

pub slice_bounds-unlink-end-2 : goal.slice_bounds-unlink-end-2
slice_bounds-unlink-end-2 c =
    let L = c.requires.linked in
    sym (part c.min-end.result c.args.base.now (omega (arith, linked-base-length L, linked-check-length L, c.min-end.ensures)))

pub unlink-requires : goal.unlink-requires
unlink-requires c =
    let L = c.requires.linked in
    part c.min-end.result c.args.base.now (omega (arith, linked-base-length L, linked-check-length L, c.min-end.ensures))
    ∙ sym (part c.min-end.result c.args.check.now (omega (arith, c.min-end.ensures)))

pub bounds-base-0 : goal.bounds-base-0
bounds-base-0 c =
    let L = c.requires.linked in
    omega (arith, length_front c.args.base.now c.unlink.new.base c.min-end.result c.unlink.auto.base, linked-base-length L, L.size)

pub bounds-check-0 : goal.bounds-check-0
bounds-check-0 c =
    let L = c.requires.linked in
    omega (arith, length_front c.args.check.now c.unlink.new.check c.min-end.result c.unlink.auto.check, linked-check-length L, L.size)

pub returns : goal.returns
returns c N b room L clear =
    let end = c.min-end.result in
    let base = c.args.base.now in
    let check = c.args.check.now in
    let sizes : (length base ≡ length check) × (length check ≡ N) = omega (arith, linked-base-length L, linked-check-length L) in
    let end_is : end ≡ min (c.args.top + 1) N = omega (arith, L.size, c.min-end.ensures, c.saturating_add.ensures) in
    let base_part = part end base (omega (arith, c.min-end.ensures)) in
    let check_part = part end check (omega (arith, c.min-end.ensures)) in
    record {
      base-slots =
          rw (to_z-of_z c.ranges.first)
          (ap (λ (l : List ℤ). set (l ++ drop end base) 0 c.args.first) (c.unlink.ensures.base ∙ ap (λ (n : ℕ). slots n (plain_bases (take end base) (take end check))) base_part)
          ∙ unlinked_base L c.args.top end clear end_is c.args.first);
      check-slots =
          rw (to_z-of_z c.ranges.head)
          (ap (λ (l : List ℤ). set (l ++ drop end check) 0 c.args.head) (c.unlink.ensures.check ∙ ap (λ (n : ℕ). slots n (plain_checks (take end check))) check_part)
          ∙ unlinked_check L c.args.top end clear end_is c.args.head);
    }
