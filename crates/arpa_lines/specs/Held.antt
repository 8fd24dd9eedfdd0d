-- How the code writes rows into the lent table, and one row more in its progress. Only contracts of inner functions cite what is here. Assumes nothing.
use Rattle.std.specs.Prelude.{cond, List, [], ◌∷◌, ◌++◌, map, ℕ, ◌+◌, ◌*◌, leb, ℤ, pos, set}
use Rattle.std.proofs.lemmas.List.Edits.{sets}
use Rattle.word_index.specs.Index.{link_limit}
use Rattle.arpa_sections.specs.declared.Progress.{Progress}

unfoldable pub word_field : ℕ → ℤ
word_field k = cond (leb k link_limit) (pos k) (pos 0)

unfoldable pub word_row : List ℤ → ℕ → ℕ → ℤ → ℤ → List ℤ
word_row t i word p b = set (set (set (set t (8 * i) (pos 1)) (8 * i + 1) (word_field word)) (8 * i + 6) p) (8 * i + 7) b

unfoldable pub long_row : List ℤ → ℕ → ℕ → List ℕ → ℤ → ℤ → List ℤ
long_row t i m words p b = sets t (8 * i) (pos m ∷ (map word_field words ++ (p ∷ b ∷ [])))

abbrev pub added : Progress → ℕ → Progress
added p words = record { stage = p.stage; counts = p.counts; order = p.order; lines = p.lines + 1; rows = p.rows + 1; words = words; buckets = p.buckets }
