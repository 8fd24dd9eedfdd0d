-- What the columns say, by examples: a wide number, and columns in form and not. Assumes nothing.
use Rattle.std.specs.declared.option.Option.TheVariants.{Some, None}
use mathlib.Core.Path.{◌≡◌, refl}
use mathlib.Core.List.{List, [], ◌∷◌, ◌++◌}
use Prim.Native.Nat.{ℕ}
use lib.IntN.{pos, negsuc}
use lib.ListN.{replicate}
use Rattle.integer.specs.Integer.{between}
use Rattle.decimal.specs.Digits.{digits_within, digits, all_digits, is_natural, value_from}
use Rattle.columns.specs.Columns.{signed, numeral, justified, column, without_spaces, if_held, read_natural, read_negative, read_numeral, read_column}

-- so many spaces, and a text
unfoldable pub after : ℕ → List ℕ → List ℕ
after n text = replicate n 32 ++ text

-- a number wider than its column stands in full: `1234` in a column of 2
wide : column 2 (pos 1234) ≡ 49 ∷ 50 ∷ 51 ∷ 52 ∷ []
unfolding column justified numeral signed digits digits_within
wide = refl

-- `       0`, `99999999`, `-9999999`
zero-in_form : read_column 8 (after 7 (48 ∷ [])) ≡ Some (pos 0)
unfolding after read_column without_spaces read_numeral read_negative read_natural if_held between is_natural all_digits value_from
zero-in_form = refl

full : read_column 8 (replicate 8 57) ≡ Some (pos 99999999)
unfolding read_column without_spaces read_numeral read_negative read_natural if_held between is_natural all_digits value_from
full = refl

full-negative : read_column 8 (45 ∷ replicate 7 57) ≡ Some (negsuc 9999998)
unfolding read_column without_spaces read_numeral read_negative read_natural if_held between is_natural all_digits value_from
full-negative = refl

-- a blank column, `      -0`, `      07`, `      +1`, `     - 1`, `      1 `, a tab for the spaces before `1`, and nine characters
blank : read_column 8 (replicate 8 32) ≡ None
unfolding read_column without_spaces read_numeral read_negative read_natural if_held between is_natural all_digits value_from
blank = refl

minus-zero : read_column 8 (after 6 (45 ∷ 48 ∷ [])) ≡ None
unfolding after read_column without_spaces read_numeral read_negative read_natural if_held between is_natural all_digits value_from
minus-zero = refl

leading_zero : read_column 8 (after 6 (48 ∷ 55 ∷ [])) ≡ None
unfolding after read_column without_spaces read_numeral read_negative read_natural if_held between is_natural all_digits value_from
leading_zero = refl

plus : read_column 8 (after 6 (43 ∷ 49 ∷ [])) ≡ None
unfolding after read_column without_spaces read_numeral read_negative read_natural if_held between is_natural all_digits value_from
plus = refl

minus_space : read_column 8 (after 5 (45 ∷ 32 ∷ 49 ∷ [])) ≡ None
unfolding after read_column without_spaces read_numeral read_negative read_natural if_held between is_natural all_digits value_from
minus_space = refl

space_behind : read_column 8 (after 6 (49 ∷ 32 ∷ [])) ≡ None
unfolding after read_column without_spaces read_numeral read_negative read_natural if_held between is_natural all_digits value_from
space_behind = refl

tab : read_column 8 (replicate 7 9 ++ (49 ∷ [])) ≡ None
unfolding read_column without_spaces read_numeral read_negative read_natural if_held between is_natural all_digits value_from
tab = refl

nine : read_column 8 (after 8 (49 ∷ [])) ≡ None
unfolding after read_column without_spaces read_numeral read_negative read_natural if_held between is_natural all_digits value_from
nine = refl

-- in a column of twelve: ` -2147483648` and `  2147483647` are read, ` -2147483649` and `  2147483648` are not, nor is `999999999999`
least : read_column 12 (32 ∷ 45 ∷ 50 ∷ 49 ∷ 52 ∷ 55 ∷ 52 ∷ 56 ∷ 51 ∷ 54 ∷ 52 ∷ 56 ∷ []) ≡ Some (negsuc 2147483647)
unfolding read_column without_spaces read_numeral read_negative read_natural if_held between is_natural all_digits value_from
least = refl

greatest : read_column 12 (32 ∷ 32 ∷ 50 ∷ 49 ∷ 52 ∷ 55 ∷ 52 ∷ 56 ∷ 51 ∷ 54 ∷ 52 ∷ 55 ∷ []) ≡ Some (pos 2147483647)
unfolding read_column without_spaces read_numeral read_negative read_natural if_held between is_natural all_digits value_from
greatest = refl

below : read_column 12 (32 ∷ 45 ∷ 50 ∷ 49 ∷ 52 ∷ 55 ∷ 52 ∷ 56 ∷ 51 ∷ 54 ∷ 52 ∷ 57 ∷ []) ≡ None
unfolding read_column without_spaces read_numeral read_negative read_natural if_held between is_natural all_digits value_from
below = refl

above : read_column 12 (32 ∷ 32 ∷ 50 ∷ 49 ∷ 52 ∷ 55 ∷ 52 ∷ 56 ∷ 51 ∷ 54 ∷ 52 ∷ 56 ∷ []) ≡ None
unfolding read_column without_spaces read_numeral read_negative read_natural if_held between is_natural all_digits value_from
above = refl

twelve_nines : read_column 12 (replicate 12 57) ≡ None
unfolding read_column without_spaces read_numeral read_negative read_natural if_held between is_natural all_digits value_from
twelve_nines = refl
