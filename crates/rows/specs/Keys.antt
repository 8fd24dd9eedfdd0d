-- Keys: how the code holds and compares words. Only contracts of inner functions cite them. Assumes nothing.
use Rattle.std.specs.Prelude.{List, ℕ, ◌+◌, ◌*◌, ℤ}
use Rattle.backoff.specs.Words.{key}
use Rattle.rows.specs.Table.{words}

unfoldable pub row_key : List ℤ → ℕ → ℕ
row_key t i = key (words t i)

-- four digits
abbrev pub low_limit : ℕ
low_limit = 18446744073709551616

-- a key as the code holds it: four digits in `low`, the fifth in `high`
abbrev pub key_of : ℕ → ℕ → ℕ
key_of high low = low + low_limit * high
