-- What opening two lent slices as a double array comes to. Assumes nothing.
use Rattle.std.specs.declared.result.Result.{Result}
use Rattle.std.specs.declared.result.Result.TheVariants.{Ok, Err}
use Rattle.std.specs.Prelude.{◌≡◌, false, List, ℤ}
use Rattle.backoff.specs.declared.Reason.{Reason}
use Rattle.backoff.specs.declared.Reason.TheVariants.{ArrayHead}
use Rattle.double_array.specs.DoubleArray.{is_array}
use Rattle.double_array.specs.declared.Array.{Array}

-- 11 where the slices are no array, else the array that they are
abbrev pub Opens : List ℤ → List ℤ → Result Array Reason → Type 0
Opens base check (Ok a) = (a.base.now ≡ base) × (a.check.now ≡ check)
Opens base check (Err reason) = (reason ≡ ArrayHead) × (is_array base check ≡ false)
