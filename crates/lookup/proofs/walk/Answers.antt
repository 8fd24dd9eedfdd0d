use mathlib.Core.Path.{◌≡◌, sym, ap, ◌∙◌}
use mathlib.Core.List.{reverse}
use Prim.Native.Nat.{ℕ, ◌+◌}
use native.Mathlib.Omega.{arith}
use lib.ListN.{length, drop, length-reverse}
use Rattle.integer.proofs.Items.{get_or-inside}
use Rattle.std.proofs.lemmas.List.{length_push}
use Rattle.std.specs.declared.option.Option.{Option}
use Rattle.backoff.specs.Refusal.{reason_number}
use Rattle.backoff.specs.declared.Refusal.{Refusal}
use Rattle.markers.specs.Markers.{look_marker}
use Rattle.child_slots.specs.Children.{child_at}
use Rattle.double_array.specs.DoubleArray.{marker_at, down_to, look_from}
use Rattle.double_array.proofs.DoubleArray.{opened-head, opened-sizes, marker_kept}
use Rattle.std.proofs.lemmas.Iterator.Adapters.{YieldsList-from_rev_slice}
use Rattle.std.proofs.lemmas.Iterator.Consumers.{YieldsList-turn, YieldsList-end}
use Rattle.lookup.specs.declared.Listed.{Listed}
use Rattle.lookup.specs.Lookup.{Found, lookup_of, Refused}
use Rattle.lookup.proofs.Walking.{root_turn, begun, walk_broken, walk_turn, walk_on, walk_end, broken_told, sound_told}
use Rattle.lookup.proofs.walk.Goals as goal

pub root_child-requires : goal.root_child-requires
root_child-requires c = (opened-head c.args.array.base.now c.args.array.check.now c.args.array.is_array).root-check

pub returns-in_default : goal.returns-in_default
returns-in_default c =
    let a = c.args.array in
    sym (ap lookup_of (root_turn a.base.now a.check.now a.is_array c.args.newest (reverse c.args.older.now) ∙ ap (λ (r : Option ℕ). down_to r (λ (t : ℕ). look_from a.base.now a.check.now 1 t (reverse c.args.older.now))) (sym c.root_child.ensures ∙ c.in_default.is)))

pub loop-word-init : goal.loop-word-init
loop-word-init c = let a = c.args.array in begun a.base.now a.check.now a.is_array c.args.newest (reverse c.args.older.now) c.in-Some.s (sym c.root_child.ensures ∙ c.in-Some.is)

-- this turn's word is the next of the words, newest first, and the node at which it begins keeps its marker
pub returns-in_default-kept_marker : goal.returns-in_default-kept_marker
returns-in_default-kept_marker c =
    let a = c.args.array in
    let words = reverse c.args.older.now in
    let n = length c.loop-word.yielded in
    let t = YieldsList-turn (YieldsList-from_rev_slice c.args.older.now cc) c.loop-word.yielded _ c.loop-word.yielded_by _ _ c.in-Some-word.word c.in-Some-word.is c.next.ensures.steps in
    let m = broken_told c.kept_marker.result _ c.kept_marker.ensures c.in_default-kept_marker.is in
    let kept = marker_kept a.base.now a.check.now (n + 1) c.loop-word.s (λ q. absurd (omega (arith, t.0, length-reverse c.args.older.now, c.requires, a.order_is))) in
    ap (λ (z : Refusal ℕ). Refused (reason_number z.reason) z.place) c.into.ensures
    ∙ sym (ap lookup_of (walk_broken a.base.now a.check.now a.is_array c.args.newest words n c.loop-word.s c.loop-word.invariant (kept ∙ m)))

pub find_child-requires-clause-base_len_bound : goal.find_child-requires-clause-base_len_bound
find_child-requires-clause-base_len_bound c = (opened-sizes c.args.array.base.now c.args.array.check.now c.args.array.is_array).high

pub returns-in_default-find_child : goal.returns-in_default-find_child
returns-in_default-find_child c =
    let a = c.args.array in
    let words = reverse c.args.older.now in
    let n = length c.loop-word.yielded in
    let t = YieldsList-turn (YieldsList-from_rev_slice c.args.older.now cc) c.loop-word.yielded _ c.loop-word.yielded_by _ _ c.in-Some-word.word c.in-Some-word.is c.next.ensures.steps in
    let x = c.in-Some-kept_marker.field-0 in
    let kept = marker_kept a.base.now a.check.now (n + 1) c.loop-word.s (λ q. absurd (omega (arith, t.0, length-reverse c.args.older.now, c.requires, a.order_is))) in
    let m = kept ∙ sound_told c.kept_marker.result _ c.kept_marker.ensures x c.in-Some-kept_marker.is in
    let word = t.1 ∙ get_or-inside words n c.in-Some-word.word.now 0 t.0 in
    let child = ap (child_at a.base.now a.check.now c.loop-word.s) (sym word) ∙ sym c.find_child.ensures.child ∙ c.in_default-find_child.is in
    sym (ap lookup_of (walk_turn a.base.now a.check.now a.is_array c.args.newest words n c.loop-word.s c.loop-word.invariant x.p x.b x.e x.f m t.0 ∙ ap (λ (r : Option ℕ). down_to r (λ (u : ℕ). look_from a.base.now a.check.now (n + 1 + 1) u (drop (n + 1) words))) child))

pub loop-word-preserved : goal.loop-word-preserved
loop-word-preserved c =
    let a = c.args.array in
    let words = reverse c.args.older.now in
    let n = length c.loop-word.yielded in
    let t = YieldsList-turn (YieldsList-from_rev_slice c.args.older.now cc) c.loop-word.yielded _ c.loop-word.yielded_by _ _ c.in-Some-word.word c.in-Some-word.is c.next.ensures.steps in
    let x = c.in-Some-kept_marker.field-0 in
    let kept = marker_kept a.base.now a.check.now (n + 1) c.loop-word.s (λ q. absurd (omega (arith, t.0, length-reverse c.args.older.now, c.requires, a.order_is))) in
    let m = kept ∙ sound_told c.kept_marker.result _ c.kept_marker.ensures x c.in-Some-kept_marker.is in
    let word = t.1 ∙ get_or-inside words n c.in-Some-word.word.now 0 t.0 in
    let child = ap (child_at a.base.now a.check.now c.loop-word.s) (sym word) ∙ sym c.find_child.ensures.child ∙ c.in-Some-find_child.is in
    rw (length_push c.loop-word.yielded c.in-Some-word.word)
    (walk_on a.base.now a.check.now a.is_array c.args.newest words n c.loop-word.s c.loop-word.invariant x.p x.b x.e x.f c.in-Some-find_child.t m t.0 child)

-- behind the last word the walk ends
pub returns-in_default-read_marker : goal.returns-in_default-read_marker
returns-in_default-read_marker c =
    let a = c.args.array in
    let words = reverse c.args.older.now in
    let n = length c.loop-word.yielded in
    let t = YieldsList-end (YieldsList-from_rev_slice c.args.older.now cc) c.loop-word.yielded _ c.loop-word.yielded_by _ _ c.in-None.is c.next.ensures.steps in
    let m = broken_told c.read_marker.result _ c.read_marker.ensures c.in_default-read_marker.is in
    let deep : length c.args.older.now + 1 ≡ n + 1 = omega (arith, t.1, length-reverse c.args.older.now) in
    let met = ap (λ (i : ℕ). marker_at a.base.now a.check.now i c.loop-word.s) (sym deep) ∙ m in
    ap (λ (z : Refusal ℕ). Refused (reason_number z.reason) z.place) c.into-in_default-read_marker.ensures
    ∙ sym (ap lookup_of (walk_broken a.base.now a.check.now a.is_array c.args.newest words n c.loop-word.s c.loop-word.invariant met))

pub returns : goal.returns
returns c =
    let a = c.args.array in
    let words = reverse c.args.older.now in
    let n = length c.loop-word.yielded in
    let t = YieldsList-end (YieldsList-from_rev_slice c.args.older.now cc) c.loop-word.yielded _ c.loop-word.yielded_by _ _ c.in-None.is c.next.ensures.steps in
    let x = c.in-Some-read_marker.entry in
    let m = sound_told c.read_marker.result _ c.read_marker.ensures x c.in-Some-read_marker.is in
    let deep : length c.args.older.now + 1 ≡ n + 1 = omega (arith, t.1, length-reverse c.args.older.now) in
    let met = ap (λ (i : ℕ). marker_at a.base.now a.check.now i c.loop-word.s) (sym deep) ∙ m in
    ap (λ (r : Listed). Found r.p r.b r.left) c.into-2.ensures
    ∙ sym (ap lookup_of (walk_end a.base.now a.check.now a.is_array c.args.newest words n c.loop-word.s c.loop-word.invariant (omega (arith, t.1)) ∙ ap look_marker met))
