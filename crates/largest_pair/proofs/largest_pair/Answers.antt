use Rattle.std.proofs.Common.{◌≡◌, ◌+◌, ◌*◌, ◌^◌, arith, sym, add-one}
use native.Mathlib.Nat.{pow-suc}
use Rattle.sentence_order.proofs.Sentences.{few-sentences}
use Rattle.largest_pair.proofs.Seen.{place_at_lem, all_seen}
use Rattle.largest_pair.proofs.largest_pair.Goals as goal

pub pow-requires : goal.pow-requires
pow-requires c = omega (arith, few-sentences c.args.count c.loop-place.place c.requires.listing.few (omega (arith, c.loop-place-test.true, c.requires.listing.short)))

pub at_place-kept-requires-clause-place : goal.at_place-kept-requires-clause-place
at_place-kept-requires-clause-place c = place_at_lem _ _ _ c.loop-place.place _ c.requires.listing c.loop-place-test.true c.pow.ensures

pub loop-place-preserved : goal.loop-place-preserved
loop-place-preserved c =
    let e : c.pow.result * c.args.count ≡ c.args.count ^ (c.loop-place.place + 1) = rw (c.pow.ensures, add-one) (sym (pow-suc c.args.count c.loop-place.place)) in
    rw e at c.at_place-kept.ensures

pub returns : goal.returns
returns c =
    let e : c.loop-place.place ≡ c.args.k = omega (arith, c.loop-place-test.false) in
    all_seen c.args.count c.args.k c.requires.listing.two _ _ c.requires.listing.long c.requires.listing.some (rw e at c.loop-place.invariant)
