-- Document 02, T-13, the largest move: sentences that differ at one place. The sentence quoted is that request's. Assumes nothing.
use Rattle.std.specs.Prelude.{Bool, cond, List, [], ◌∷◌, ℕ, ◌+◌, eqb}

-- at how many places two sentences of equal length differ
unfoldable pub differing : List ℕ → List ℕ → ℕ
differing [] vs = 0
differing (u ∷ us) [] = 0
differing (u ∷ us) (v ∷ vs) = cond (eqb u v) 0 1 + differing us vs

-- "two sentences that differ at one place"
unfoldable pub one_apart : List ℕ → List ℕ → Bool
one_apart s t = eqb (differing s t) 1
