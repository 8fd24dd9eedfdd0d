-- A number in a column of text, as document 01's totals program prints and reads it. Text is a list of bytes:
-- 32 is a space, 45 a minus. Assumes nothing.
use Rattle.std.specs.declared.option.Option.{Option}
use Rattle.std.specs.declared.option.Option.TheVariants.{Some, None}
use Rattle.std.specs.Prelude.{◌≡◌, ◌↔◌, Bool, true, false, not, cond, ◌&&◌, List, [], ◌∷◌, ◌++◌, ℕ, suc, ◌-◌, eqb, ℤ, pos, negsuc, neg_ℤ, length, replicate, ◌≤ℤ◌}
use Rattle.integer.specs.Integer.{between}
use Rattle.decimal.specs.Digits.{digits, is_natural, value_from}

-- ---- printing

-- a minus where it is wanted, and the digits of n
unfoldable pub signed : Bool → ℕ → List ℕ
signed negative n = cond negative (45 ∷ digits n) (digits n)

unfoldable pub numeral : ℤ → List ℕ
numeral (pos n) = signed false n
numeral (negsuc n) = signed true (suc n)

-- "right-justified in each, spaces before it"; a text wider than its column stands there in full
unfoldable pub justified : ℕ → List ℕ → List ℕ
justified width text = replicate (width - length text) 32 ++ text

unfoldable pub column : ℕ → ℤ → List ℕ
column width z = justified width (numeral z)

-- what signed 32 bits hold
abbrev pub least_number : ℤ
least_number = negsuc 2147483647

abbrev pub greatest_number : ℤ
greatest_number = pos 2147483647

-- a number that 32 bits hold, and that stands in a column of so many characters
pub record Held (width : ℕ) (z : ℤ) : Type 0 where
  pub least : least_number ≤ℤ z
  pub greatest : z ≤ℤ greatest_number
  pub wide : length (column width z) ≡ width

-- ---- reading

unfoldable pub without_spaces : List ℕ → List ℕ
without_spaces [] = []
without_spaces (c ∷ text) = cond (eqb c 32) (without_spaces text) (c ∷ text)

-- document 02, T-08: "a number there that signed 32 bits don't hold gives 13"
unfoldable pub if_held : ℤ → Option ℤ
if_held z = cond (between least_number greatest_number z) (Some z) None

unfoldable pub read_natural : List ℕ → Option ℤ
read_natural text = cond (is_natural text) (if_held (pos (value_from 0 text))) None

-- what stands behind a minus: no −0
unfoldable pub read_negative : List ℕ → Option ℤ
read_negative text = cond (is_natural text && not (eqb (value_from 0 text) 0)) (if_held (neg_ℤ (pos (value_from 0 text)))) None

unfoldable pub read_numeral : List ℕ → Option ℤ
read_numeral [] = None
read_numeral (c ∷ text) = cond (eqb c 45) (read_negative text) (read_natural (c ∷ text))

-- a column of `width` characters, "a number right-justified in each, spaces before it, no leading zeros, no −0"
unfoldable pub read_column : ℕ → List ℕ → Option ℤ
read_column width text = cond (eqb (length text) width) (read_numeral (without_spaces text)) None

-- what a column's reading means: it is z exactly where the column and 32 bits hold z, and the text is z as it is printed there
pub record ColumnMeans (width : ℕ) (text : List ℕ) (r : Option ℤ) : Type 0 where
  pub number : (z : ℤ) → (r ≡ Some z) ↔ ((text ≡ column width z) × Held width z)
