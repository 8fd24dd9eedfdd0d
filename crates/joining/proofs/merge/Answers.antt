use Rattle.std.proofs.Common.{rules, ◌≡◌, ◌+◌, ◌-◌, length, leb, sym, ◌∙◌, arith}
use lib.Seq.{length-take-le}
use mir.Syntax.{w64}
use mir.Val.{SFits}
use mir.Facts.{to_z-of_z}
use Rattle.carried_state.proofs.Carried.{Four}
use Rattle.joining.proofs.Merging.{from-cond, sum_back, within-two, kept-few, kept-both, first-both, both_fit, less_fits, total-fits}
use Rattle.joining.proofs.merge.Goals as goal

pub slice_bounds-words-end : goal.slice_bounds-words-end
slice_bounds-words-end c =
    let four-one : length c.args.one.first ≡ 4 = search rules in
    let four-two : length c.args.two.first ≡ 4 = search rules in
    within-two c.args.order c.requires.le_order.0 c.requires.le_order.1 c.args.one c.args.two c.requires.passed four-two

pub slice_bounds-first_words-end : goal.slice_bounds-first_words-end
slice_bounds-first_words-end c =
    let four-one : length c.args.one.first ≡ 4 = search rules in
    let four-two : length c.args.two.first ≡ 4 = search rules in
    sym (length-take-le c.args.two.kept c.args.two.first (within-two c.args.order c.requires.le_order.0 c.requires.le_order.1 c.args.one c.args.two c.requires.passed four-two))

pub first_words-first-requires : goal.first_words-first-requires
first_words-first-requires c = (kept-few c.args.order c.requires.le_order.0 c.requires.le_order.1 c.args.one c.args.two c.requires.passed, omega (arith, c.requires.le_order))

pub overflow_add-result : goal.overflow_add-result
overflow_add-result c =
    let f : SFits w64 c.args.one.total = search rules in
    let g : SFits w64 c.args.two.total = search rules in
    rw (to_z-of_z f, to_z-of_z g) (both_fit c.args.order c.requires.le_order.0 c.requires.le_order.1 c.args.one c.args.two c.requires.passed)

pub overflow_sub-result : goal.overflow_sub-result
overflow_sub-result c =
    let f : SFits w64 c.args.one.total = search rules in
    let g : SFits w64 c.args.two.total = search rules in
    let h : SFits w64 c.args.again.less = search rules in
    let k : SFits w64 c.args.again.plus = search rules in
    rw (to_z-of_z f, to_z-of_z g, to_z-of_z (both_fit c.args.order c.requires.le_order.0 c.requires.le_order.1 c.args.one c.args.two c.requires.passed), to_z-of_z h) (less_fits c.args.order c.requires.le_order.0 c.requires.le_order.1 c.args.one c.args.two c.requires.passed c.args.again.less c.args.again.plus c.requires.less_bound)

pub overflow_add-result-2 : goal.overflow_add-result-2
overflow_add-result-2 c =
    let f : SFits w64 c.args.one.total = search rules in
    let g : SFits w64 c.args.two.total = search rules in
    let h : SFits w64 c.args.again.less = search rules in
    let k : SFits w64 c.args.again.plus = search rules in
    rw (to_z-of_z f, to_z-of_z g, to_z-of_z (both_fit c.args.order c.requires.le_order.0 c.requires.le_order.1 c.args.one c.args.two c.requires.passed), to_z-of_z h, to_z-of_z (less_fits c.args.order c.requires.le_order.0 c.requires.le_order.1 c.args.one c.args.two c.requires.passed c.args.again.less c.args.again.plus c.requires.less_bound), to_z-of_z k) (total-fits c.args.order c.requires.le_order.0 c.requires.le_order.1 c.args.one c.args.two c.requires.passed c.args.again.less c.args.again.plus c.requires.less_bound)

pub returns : goal.returns
returns c =
    let four-one : length c.args.one.first ≡ 4 = search rules in
    let four-two : length c.args.two.first ≡ 4 = search rules in
    let f : SFits w64 c.args.one.total = search rules in
    let g : SFits w64 c.args.two.total = search rules in
    let h : SFits w64 c.args.again.less = search rules in
    let k : SFits w64 c.args.again.plus = search rules in
    let state-two : Four c.args.two.state = record { words = search rules; backoffs = search rules } in
    let state-end : Four c.args.again.end = record { words = search rules; backoffs = search rules } in
    λ i. record {
      total = sum_back f g h k (both_fit c.args.order c.requires.le_order.0 c.requires.le_order.1 c.args.one c.args.two c.requires.passed) (less_fits c.args.order c.requires.le_order.0 c.requires.le_order.1 c.args.one c.args.two c.requires.passed c.args.again.less c.args.again.plus c.requires.less_bound) (total-fits c.args.order c.requires.le_order.0 c.requires.le_order.1 c.args.one c.args.two c.requires.passed c.args.again.less c.args.again.plus c.requires.less_bound) i;
      count = c.args.one.count + c.args.two.count;
      kept = (c.kept_of.ensures ∙ kept-both c.args.order c.requires.le_order.0 c.requires.le_order.1 c.args.one c.args.two c.requires.passed) i;
      first = (c.first_words-first.ensures ∙ first-both c.args.order c.requires.le_order.0 c.requires.le_order.1 c.args.one c.args.two c.requires.passed four-one four-two) i;
      state = (c.end_of.ensures ∙ from-cond (leb (c.args.order - 1) c.args.two.count) c.args.two.state c.args.again.end state-two state-end) i;
    }
