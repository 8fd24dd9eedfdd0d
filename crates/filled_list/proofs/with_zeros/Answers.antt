-- One zero more is in front, and one fewer is left.
use Rattle.std.proofs.Common.{◌<◌, ◌≤◌, ◌-◌, ◌∙◌, arith}
use Rattle.backoff.specs.Limits.{order_limit}
use Rattle.rows.specs.Keys.{key_of}
use Rattle.filled_list.specs.Next.{zeros, power}
use Rattle.filled_list.proofs.Zeros.{zeros-none, zeros-end, room-left, zero_more}
use Rattle.filled_list.proofs.with_zeros.Goals as goal

pub loop-init : goal.loop-init
loop-init c = zeros-none _ _

pub key_shifted-shifted-requires : goal.key_shifted-shifted-requires
key_shifted-shifted-requires c =
    let l : c.loop.counter < c.args.j = omega arith in
    let room : zeros (c.args.j - c.loop.counter) (key_of c.loop.shifted.high c.loop.shifted.low) ≤ power order_limit = rw c.loop.invariant c.requires in
    room-left _ _ _ _ l room

pub loop-preserved : goal.loop-preserved
loop-preserved c =
    let l : c.loop.counter < c.args.j = omega arith in
    let room : zeros (c.args.j - c.loop.counter) (key_of c.loop.shifted.high c.loop.shifted.low) ≤ power order_limit = rw c.loop.invariant c.requires in
    zero_more _ _ _ _ l room _ _ c.key_shifted-shifted.ensures ∙ c.loop.invariant

pub returns : goal.returns
returns c = zeros-end _ _ _ (omega arith) ∙ c.loop.invariant
