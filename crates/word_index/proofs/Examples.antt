-- The hash of a text, by computation. Assumes nothing.
use mathlib.Core.Path.{◌≡◌, refl}
use mathlib.Core.List.{[], ◌∷◌}
use Rattle.word_index.specs.Index.{hash, hash_from}

-- 97 × 10,368,889 + 98
hashed : hash (97 ∷ 98 ∷ []) ≡ 1005782331
unfolding hash hash_from
hashed = refl
