-- The longer ends passed, so what is left are the shorter ones.
use Rattle.std.proofs.Common.{sym, ◌∙◌, arith}
use Rattle.rows.proofs.Table.{row_in}
use Rattle.row_ends.proofs.Needed.{left-all, left_fails, left_passes, left-none}
use Rattle.row_ends.proofs.all_addable.Goals as goal

pub length_of-k-requires : goal.length_of-k-requires
length_of-k-requires c = row_in _ _ c.requires.1

pub loop-m-init : goal.loop-m-init
loop-m-init c =
    let e = c.length_of-k.ensures.0 in
    record { within = c.requires.1; size = e; short = omega arith; rest = left-all _ _ c.requires.1 _ e }

pub is_addable-requires : goal.is_addable-requires
is_addable-requires c =
    let v = c.loop-m.invariant in
    let s = v.short in
    (c.requires.0, v.within, v.size, omega arith, omega (arith, v.size))

pub returns-then-not-is_addable : goal.returns-then-not-is_addable
returns-then-not-is_addable c =
    let v = c.loop-m.invariant in
    sym (left_fails _ _ v.within _ c.loop-m-test.true v.short (sym c.is_addable.ensures ∙ c.if-not-is_addable.true)) ∙ v.rest

pub loop-m-preserved : goal.loop-m-preserved
loop-m-preserved c =
    let v = c.loop-m.invariant in
    let s = v.short in
    record {
      within = v.within;
      size = v.size;
      short = omega arith;
      rest = sym (left_passes _ _ v.within _ c.loop-m-test.true v.short (sym c.is_addable.ensures ∙ c.if-not-is_addable.false)) ∙ v.rest;
    }

pub returns : goal.returns
returns c =
    let v = c.loop-m.invariant in
    sym (left-none _ _ v.within _ c.loop-m-test.false v.short) ∙ v.rest
