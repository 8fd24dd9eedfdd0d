use Rattle.std.proofs.Common.{rules, ◌≡◌, ℕ, zero, suc, ◌<◌, List, [], ◌∷◌, get_or, ℤ, sym, refl, arith}
use mir.Syntax.{w32, w64}
use mir.Val.{SFits, to_z}
use mir.Facts.{to_z-of_z}
use Rattle.integer.proofs.Arithmetic.{zarith, abs}
use Rattle.backoff.specs.Limits.{end_word}
use Rattle.double_array.specs.DoubleArray.{store_in}
use Rattle.carried_state.specs.Packed.{held_in}
use Rattle.word_step.specs.Inner.{replaced}
use Rattle.sums.proofs.Closing.{closing_begins, closing_refused, closing_ends, closing_carries, points_small, closing_on, total-fits}
use Rattle.sums.proofs.sum_closed.Goals as goal

-- what the next word is scored as
scored_as : (last closing : ℕ) (check : List ℤ) → last ≡ replaced check last → closing ≡ replaced check end_word → (i : ℕ) → i < 2 → get_or (last ∷ closing ∷ []) i 0 ≡ replaced check (get_or (last ∷ end_word ∷ []) i 0)
scored_as last closing check e f zero h = e
scored_as last closing check e f (suc zero) h = f
scored_as last closing check e f (suc (suc i)) h = absurd (omega arith)

pub loop-word-init : goal.loop-word-init
unfolding store_in
loop-word-init c = closing_begins _ _ _ _ c.requires.carries

pub step-requires : goal.step-requires
step-requires c = closing_carries c.args.array.base.now c.args.array.check.now c.loop-word.invariant

pub returns-in_err-stepped : goal.returns-in_err-stepped
returns-in_err-stepped c =
    let base = c.args.array.base.now in
    let check = c.args.array.check.now in
    let S = store_in base check in
    let s = held_in c.args.carried c.args.backoffs in
    let ws = c.args.last ∷ end_word ∷ [] in
    let l = c.loop-word in
    let i = l.word-index in
    let total = to_z w64 l.total-bits in
    let w = get_or ws i 0 in
    let more : i < 2 = c.loop-word-test.true in
    let same : get_or (c.args.last ∷ c.args.closing ∷ []) i 0 ≡ replaced check w = scored_as c.args.last c.args.closing check c.requires.last_value.0 c.requires.last_value.1 i more in
    rw c.from_residual.ensures (closing_refused S s ws l.carried l.backoffs total i l.invariant more (sym (c.in_err-stepped.ensures w same).is))

pub loop-word-preserved : goal.loop-word-preserved
loop-word-preserved c =
    let base = c.args.array.base.now in
    let check = c.args.array.check.now in
    let S = store_in base check in
    let s = held_in c.args.carried c.args.backoffs in
    let ws = c.args.last ∷ end_word ∷ [] in
    let l = c.loop-word in
    let i = l.word-index in
    let total = to_z w64 l.total-bits in
    let w = get_or ws i 0 in
    let more : i < 2 = c.loop-word-test.true in
    let same : get_or (c.args.last ∷ c.args.closing ∷ []) i 0 ≡ replaced check w = scored_as c.args.last c.args.closing check c.requires.last_value.0 c.requires.last_value.1 i more in
    let r = c.in_ok-stepped.stepped in
    let x = r.score.points in
    let stepped = c.in_ok-stepped.ensures w same in
    let word-is = sym stepped.is in
    let small = points_small base check c.args.array.is_array s ws l.carried l.backoffs total i l.invariant x _ r.next c.step.new.backoffs word-is in
    let f : SFits w32 x = search rules in
    let g : SFits w64 x = omega (zarith, small, abs x) in
    let h = total-fits total x l.invariant.small small more in
    rw (c.from-total.ensures, to_z-of_z f, to_z-of_z g, to_z-of_z h)
    (closing_on base check c.args.array.is_array s ws l.carried l.backoffs total i l.invariant x _ r.next c.step.new.backoffs word-is more (stepped.carries r refl))

pub returns : goal.returns
returns c = closing_ends (store_in c.args.array.base.now c.args.array.check.now) _ (c.args.last ∷ end_word ∷ []) c.loop-word.carried c.loop-word.backoffs (to_z w64 c.loop-word.total-bits) c.loop-word.word-index c.loop-word.invariant c.loop-word-test.false
