-- The usable words of an array, as the code holds them. Assumes nothing.
use Rattle.std.specs.declared.option.Option.{Option}
use Rattle.std.specs.declared.option.Option.TheVariants.{Some, None}
use Rattle.std.specs.Prelude.{◌≡◌, List, ℕ, ◌<◌, length, take}
use Rattle.backoff.specs.Limits.{usable_limit}
use Rattle.sentence_order.specs.declared.Usable.{Usable}

-- the words that are held
abbrev pub listed : Usable → List ℕ
listed u = take u.count u.words

-- the words us, if they are not more than sixteen
abbrev pub Holds : List ℕ → Option Usable → Type 0
Holds us None = usable_limit < length us
Holds us (Some u) = us ≡ listed u
