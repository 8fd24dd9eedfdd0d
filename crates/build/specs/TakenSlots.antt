-- What is counted to tell how many slots a build takes. Assumes nothing.
use Rattle.std.specs.Prelude.{cond, List, ℕ, zero, suc, eqb, ℤ}
use Rattle.rows.specs.Table.{length_of, order_of}

-- how many of the k rows from row i on have n words: "They give up their marker"
unfoldable pub longest_from : List ℤ → ℕ → ℕ → ℕ
longest_from t i zero = 0
longest_from t i (suc k) = cond (eqb (length_of t i) (order_of t)) (suc (longest_from t (suc i) k)) (longest_from t (suc i) k)
