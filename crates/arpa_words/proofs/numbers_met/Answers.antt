-- The words before place `at` have their numbers. Assumes nothing.
use mathlib.Core.Path.{refl, sym, ◌∙◌}
use Prim.Native.Nat.{◌-◌}
use lib.ListN.{take, drop, length-drop}
use native.Mathlib.Omega.{arith}
use Rattle.word_index.specs.Texts.{texts_from}
use Rattle.arpa_words.specs.Words.{number_met}
use Rattle.arpa_words.proofs.RowWords.{numbered-start, numbered_text_in_form, numbered_missing, numbered_next, numbered-all}
use Rattle.arpa_words.proofs.Numbers.{unless-some, unless-none, all-missing, all-present}
use Rattle.arpa_words.proofs.numbers_met.Goals as goal

pub loop-j-init : goal.loop-j-init
loop-j-init c = numbered-start (number_met (texts_from c.args.store.now 1 (c.args.words - 1))) c.args.text.now c.args.m c.requires.1

pub part_end-end-requires : goal.part_end-end-requires
part_end-end-requires c = c.loop-j.invariant.place c.loop-j-test.true

pub slice_bounds-number_met-count : goal.slice_bounds-number_met-count
slice_bounds-number_met-count c = let e = c.part_end-end.ensures.place in omega arith

pub slice_bounds-number_met-start : goal.slice_bounds-number_met-start
slice_bounds-number_met-start c = let e = c.part_end-end.ensures.place in omega arith

pub slice_bounds-number_met-end : goal.slice_bounds-number_met-end
slice_bounds-number_met-end c =
    let text = c.args.text.now in
    let w = c.part_end-end.ensures.within in
    let g = length-drop c.loop-j.at text in
    omega arith

pub number_met-requires : goal.number_met-requires
number_met-requires c = (
  c.requires.0,
  numbered_text_in_form (number_met (texts_from c.args.store.now 1 (c.args.words - 1))) c.args.text.now c.args.m c.requires.1 c.loop-j.numbers c.loop-j.at c.loop-j.j c.loop-j.invariant
      c.loop-j-test.true c.part_end-end.result c.part_end-end.ensures.place,
)

pub returns-in_err-numbers : goal.returns-in_err-numbers
returns-in_err-numbers c =
    let z = unless-none (number_met (texts_from c.args.store.now 1 (c.args.words - 1)) (take (c.part_end-end.result - c.loop-j.at) (drop c.loop-j.at c.args.text.now))) (sym c.in_err-numbers.was ∙ c.number_met.ensures) in
    c.from_residual.ensures
    ∙ all-missing _
    (numbered_missing (number_met (texts_from c.args.store.now 1 (c.args.words - 1))) c.args.text.now c.args.m c.requires.1 c.loop-j.numbers c.loop-j.at c.loop-j.j c.loop-j.invariant
    c.loop-j-test.true c.part_end-end.result c.part_end-end.ensures.place _ refl z)

pub bounds-numbers-j : goal.bounds-numbers-j
bounds-numbers-j c =
    let few = c.requires.2 in
    let l = c.loop-j-test.true in
    omega arith

pub loop-j-preserved : goal.loop-j-preserved
loop-j-preserved c =
    let z = unless-some (number_met (texts_from c.args.store.now 1 (c.args.words - 1)) (take (c.part_end-end.result - c.loop-j.at) (drop c.loop-j.at c.args.text.now))) c.in_ok-numbers.field-0 (sym c.in_ok-numbers.was ∙ c.number_met.ensures) in
    numbered_next (number_met (texts_from c.args.store.now 1 (c.args.words - 1))) c.args.text.now c.args.m c.requires.1 c.loop-j.numbers c.loop-j.at c.loop-j.j c.loop-j.invariant
    c.loop-j-test.true c.part_end-end.result c.part_end-end.ensures.place c.in_ok-numbers.field-0 (sym z.0) c.requires.2 (λ e. let p = z.1 in omega arith)

pub returns : goal.returns
returns c =
    let w = numbered-all (number_met (texts_from c.args.store.now 1 (c.args.words - 1))) c.args.text.now c.args.m c.requires.1 c.loop-j.numbers c.loop-j.at c.loop-j.j c.loop-j.invariant c.loop-j-test.false in
    all-present _ c.loop-j.numbers w.0 w.1
