-- A log as an ARPA text spells it, and its points. 45 is a minus, 46 a point. Assumes nothing.
use Rattle.std.specs.declared.option.Option.{Option}
use Rattle.std.specs.declared.option.Option.TheVariants.{Some, None}
use Rattle.std.specs.Prelude.{◌≡◌, cond, ◌&&◌, List, [], ◌∷◌, ℕ, suc, ◌+◌, ◌*◌, ◌-◌, ◌/◌, ◌^◌, ◌<◌, ◌≤◌, eqb, ℤ, pos, negsuc, neg_ℤ, nat_abs, ◌*ℤ◌, ◌-ℤ◌, length}
use Rattle.decimal.specs.Digits.{digits_up_to, value_from}
use Rattle.text_parts.specs.Parts.{parts}

-- logs are counted in units of 1/10,000,000
abbrev pub decimals : ℕ
decimals = 7

-- units of the digits behind a point
unfoldable pub fraction : List ℕ → ℕ
fraction text = value_from 0 text * 10 ^ (decimals - length text)

-- "one to three digits and optionally a point with one to seven digits"
unfoldable pub unsigned : List (List ℕ) → Option ℕ
unsigned [] = None
unsigned (whole ∷ []) = cond (digits_up_to 3 whole) (Some (value_from 0 whole * 10 ^ decimals)) None
unsigned (whole ∷ part ∷ []) = cond (digits_up_to 3 whole && digits_up_to decimals part) (Some (value_from 0 whole * 10 ^ decimals + fraction part)) None
unsigned (whole ∷ part ∷ more ∷ rest) = None

abbrev pub negative : Option ℕ → Option ℤ
negative None = None
negative (Some n) = Some (neg_ℤ (pos n))

abbrev pub positive : Option ℕ → Option ℤ
positive None = None
positive (Some n) = Some (pos n)

-- "A log is an optional minus, one to three digits and optionally a point with one to seven digits": how many units it is
unfoldable pub read_log : List ℕ → Option ℤ
read_log [] = None
read_log (c ∷ text) = cond (eqb c 45) (negative (unsigned (parts 46 text))) (positive (unsigned (parts 46 (c ∷ text))))

-- document 02, T-08: a point is "1/1,000,000 of a logarithm", and "ARPA logs round to six decimals from now on"
abbrev pub point_decimals : ℕ
point_decimals = 6

abbrev pub units_of_point : ℕ
units_of_point = 10 ^ (decimals - point_decimals)

-- so many units as points, a half upwards
unfoldable pub nearest : ℕ → ℕ
nearest n = (n + units_of_point / 2) / units_of_point

-- "rounded to the nearest point, a half away from zero"
unfoldable pub round_log : ℤ → ℤ
round_log (pos n) = pos (nearest n)
round_log (negsuc n) = neg_ℤ (pos (nearest (suc n)))

abbrev pub points_of : Option ℤ → Option ℤ
points_of None = None
points_of (Some z) = Some (round_log z)

unfoldable pub read_points : List ℕ → Option ℤ
read_points text = points_of (read_log text)

-- what rounding means, as `round_nearest` states it: no more than half a point is lost, and at half a point the result is the one further from 0
pub record RoundNearest (z : ℤ) : Type 0 where
  pub near : 2 * nat_abs (pos units_of_point *ℤ round_log z -ℤ z) ≤ units_of_point
  pub half : 2 * nat_abs (pos units_of_point *ℤ round_log z -ℤ z) ≡ units_of_point → nat_abs z < units_of_point * nat_abs (round_log z)
