-- A row's key has five digits.
use Rattle.std.proofs.Common.{◌*◌, ◌<◌, ℕ, ap, ◌∙◌, arith}
use Rattle.backoff.specs.Words.{radix}
use Rattle.rows.specs.Keys.{row_key, low_limit}
use Rattle.rows.proofs.Good.{row-key_limit}
use Rattle.extensions.proofs.front_key.Goals as goal
use Rattle.extensions.proofs.front_key.Goals.{After-row_key}

limit : (c : After-row_key) → row_key c.args.table.now c.args.i < radix * low_limit
limit c = row-key_limit _ _ c.requires.1

pub key_shifted-requires : goal.key_shifted-requires
key_shifted-requires c = let l = limit c in omega (arith, c.row_key.ensures)

pub returns : goal.returns
returns c =
    let l = limit c.before in
    (c.key_shifted.ensures ∙ ap (λ (k : ℕ). radix * k) c.row_key.ensures, omega (arith, c.key_shifted.ensures, c.row_key.ensures))
