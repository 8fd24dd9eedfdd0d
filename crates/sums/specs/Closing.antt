-- The points of a sentence's last word and of its 3 together. Assumes nothing.
use Rattle.std.specs.declared.option.Option.{Option}
use Rattle.std.specs.declared.option.Option.TheVariants.{Some, None}
use Rattle.std.specs.Prelude.{List, [], ◌∷◌, ℕ, ℤ, pos, ◌+ℤ◌}
use Rattle.backoff.specs.State.{State}
use Rattle.backoff.specs.Store.{Store, Step, scored, stuck, word_step}

-- a word's points, and those of what follows it
abbrev pub plus : ℤ → Option ℤ → Option ℤ
plus x (Some y) = Some (x +ℤ y)
plus x None = None

abbrev pub plus_rest : (State → Option ℤ) → Step → Option ℤ
plus_rest rest (scored points byte next) = plus points (rest next)
plus_rest rest stuck = None

-- the words ws from the state s, where no sentence begins behind any of them
unfoldable pub points_over : Store → List ℕ → State → Option ℤ
points_over S [] s = Some (pos 0)
points_over S (w ∷ ws) s = plus_rest (points_over S ws) (word_step S s w)
