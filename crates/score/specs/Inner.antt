-- What refuses a run before its words are scored. Assumes nothing.
use Rattle.std.specs.declared.option.Option.{Option}
use Rattle.std.specs.declared.option.Option.TheVariants.{Some, None}
use Rattle.std.specs.Prelude.{cond, List, ℕ, ℤ}
use Rattle.backoff.specs.Refusal.{array_head, bad_state}
use Rattle.backoff.specs.NineNumbers.{state_ok}
use Rattle.backoff.specs.Store.{Store}

-- 11, then 16, then what 14 and 15 say
abbrev pub early_refusal : Option Store → List ℤ → ℕ → ℕ
early_refusal None l number = array_head
early_refusal (Some S) l number = cond (state_ok S.order l) number bad_state
