use Rattle.std.proofs.Common.{◌≡◌, true, false, ◌<◌, ◌≤◌, length, List, ℕ, ℤ, ◌∙◌}
use borrow.Author.Tests.{lt-ltb, le-ltb}
use Rattle.backoff.specs.Limits.{run_limit}
use Rattle.backoff.specs.Refusal.{array_head, word_count}
use Rattle.backoff.specs.State.{empty}
use Rattle.backoff.specs.Store.{run_over}
use Rattle.double_array.specs.DoubleArray.{is_array, order_in, store_in, opened}
use Rattle.double_array.proofs.DoubleArray.{opened_some, opened-none}
use Rattle.run_answer.proofs.Refused.{refused-as}
use Rattle.fragments.specs.Outcome.{refused_by, crossed}
use Rattle.fragment_scoring.specs.Outcome.{scored_as, fragment_outcome}
use Rattle.fragment_scoring.proofs.scored_over.Goals as goal

module _ (base check : List ℤ) (ws : List ℕ) where
  no-array : is_array base check ≡ false → crossed (refused_by array_head 0) ≡ fragment_outcome (opened base check) ws
  unfolding fragment_outcome
  no-array h = rw (opened-none base check h)

  too_many : is_array base check ≡ true → run_limit < length ws → crossed (refused_by word_count 0) ≡ fragment_outcome (opened base check) ws
  unfolding fragment_outcome
  too_many h many = rw (opened_some base check h, lt-ltb run_limit (length ws) many)

  all-scored : is_array base check ≡ true → length ws ≤ run_limit → crossed (scored_as (order_in check) ws (run_over (store_in base check) ws empty 1)) ≡ fragment_outcome (opened base check) ws
  unfolding fragment_outcome store_in
  all-scored h few = rw (opened_some base check h, le-ltb run_limit (length ws) few)

pub returns-in_err-array : goal.returns-in_err-array
returns-in_err-array c = rw (refused-as c.from_residual.result c.in_err-array.field-0.0 c.from_residual.ensures.1, c.in_err-array.ensures.0) (no-array c.args.base.now c.args.check.now c.args.words.now c.in_err-array.ensures.1)

pub returns-then-words-gt-RUN_LIMIT : goal.returns-then-words-gt-RUN_LIMIT
returns-then-words-gt-RUN_LIMIT c =
    let o = c.in_ok-array.ensures in
    rw c.from.ensures (too_many c.args.base.now c.args.check.now c.args.words.now (rw (o.0, o.1) at c.in_ok-array.array.is_array) c.if-words-gt-RUN_LIMIT.true)

pub returns : goal.returns
returns c =
    let o = c.in_ok-array.ensures in
    (rw (o.0, o.1) at c.scored.ensures) ∙ all-scored c.args.base.now c.args.check.now c.args.words.now (rw (o.0, o.1) at c.in_ok-array.array.is_array) c.if-words-gt-RUN_LIMIT.false
