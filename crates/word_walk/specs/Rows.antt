-- The rows that a lent array holds. Assumes nothing.
use Rattle.std.specs.Prelude.{◌≡◌, true, List, ℤ}
use Rattle.backoff.specs.Model.{Model, in_probability, in_backoff}
use Rattle.backoff.specs.Store.{Look, absent, broken, here, model_in}
use Rattle.double_array.specs.DoubleArray.{store_in}

-- the rows with a sound marker that are found in the array
abbrev pub array_model : List ℤ → List ℤ → Model
array_model base check = model_in (store_in base check)

-- what is there is in range
abbrev pub InRange : Look → Type 0
InRange absent = Unit {0}
InRange broken = Unit {0}
InRange (here e) = (in_probability e.p ≡ true) × (in_backoff e.b ≡ true)
