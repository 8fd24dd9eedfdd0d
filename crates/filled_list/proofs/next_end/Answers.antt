-- What was found is the best, and where nothing was found the next row has more words.
use Rattle.std.proofs.Common.{◌≡◌, true, ◌≤◌, ◌+◌, suc, refl, arith}
use Rattle.list.proofs.Check.{checked-good}
use Rattle.filled_list.proofs.Next.{filling_asks, zeros-room, filling-longer}
use Rattle.filled_list.proofs.next_end.Goals as goal

pub next_row-requires : goal.next_row-requires
next_row-requires c =
    let p = c.requires in
    let l : c.loop-words.words ≤ c.args.n = omega arith in
    let a = filling_asks _ p.0 _ _ _ _ _ (c.loop-words.invariant p.1.0 p.1.1) l in
    (checked-good true _ p.0, a.0, a.1, a.2, a.3, a.4)

pub returns-in-Some : goal.returns-in-Some
returns-in-Some c = λ place f.
    let b = c.in-Some.ensures in (
      omega arith,
      record {
        floor_high = c.loop-words.from.high;
        floor_low = c.loop-words.from.low;
        filling = c.loop-words.invariant place f;
        one = λ h. b.0;
        best = λ h. b.1;
      },
    )

pub with_zeros-from-requires : goal.with_zeros-from-requires
with_zeros-from-requires c =
    let p = c.requires in
    let l : c.loop-words.words ≤ c.args.n = omega arith in
    zeros-room _ p.0 _ _ _ _ _ (c.loop-words.invariant p.1.0 p.1.1) l

pub loop-words-preserved : goal.loop-words-preserved
loop-words-preserved c = λ place f.
    let l : c.loop-words.words ≤ c.args.n = omega arith in
    filling-longer _ c.requires.0 _ _ _ _ _ (c.loop-words.invariant place f) l _ _ _ c.in_default.ensures refl _ _ c.with_zeros-from.ensures

pub returns-in_default : goal.returns-in_default
returns-in_default c = λ place f.
    let l : c.loop-words.words ≤ c.args.n = omega arith in
    let e : c.loop-words.words + 1 ≡ suc c.args.n = omega arith in
    let more = filling-longer _ c.requires.0 _ _ _ _ _ (c.loop-words.invariant place f) l _ _ _ c.in_default.ensures refl _ _ c.with_zeros-from.ensures in
    record {
      floor_high = c.with_zeros-from.result.high;
      floor_low = c.with_zeros-from.result.low;
      filling = rw e at more;
      one = λ h. absurd (omega arith);
      best = λ h. absurd (omega arith);
    }
