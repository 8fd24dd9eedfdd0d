-- The lines of the totals program, without their LF where they are read and with it where they are printed. Assumes nothing.
use Rattle.std.specs.declared.option.Option.{Option}
use Rattle.std.specs.declared.option.Option.TheVariants.{Some, None}
use Rattle.std.specs.Prelude.{◌≡◌, Bool, true, false, cond, ◌&&◌, List, [], ◌∷◌, ◌++◌, map, ℕ, zero, suc, ◌*◌, ◌/◌, ◌%◌, ◌≤◌, ◌<◌, eqb, leb, ℤ, pos, negsuc, length, get_or, take, drop}
use Rattle.std.specs.Int.Signed.{le_z}
use Rattle.columns.specs.Columns.{column, least_number, Held, read_column}

-- document 02, T-08: "Columns of LIST grow to twelve characters .. TEXT and the printed columns don't change."
abbrev pub list_width : ℕ
list_width = 12

abbrev pub text_width : ℕ
text_width = 8

-- the first columns of a line, each of `width` characters, read
unfoldable pub columns : ℕ → ℕ → List ℕ → List (Option ℤ)
columns width zero line = []
columns width (suc count) line = read_column width (take width line) ∷ columns width count (drop width line)

-- a number that is not below `least`
unfoldable pub in_form : ℤ → Option ℤ → Bool
in_form least (Some z) = le_z least z
in_form least None = false

unfoldable pub all_in_form : ℤ → List (Option ℤ) → Bool
all_in_form least [] = true
all_in_form least (c ∷ cs) = in_form least c && all_in_form least cs

-- the number of a column, 0 where it is not in form
unfoldable pub column_value : Option ℤ → ℤ
column_value (Some z) = z
column_value None = pos 0

-- the word of a column, 0 where it is not in form or negative
unfoldable pub word_of : Option ℤ → ℕ
word_of (Some (pos n)) = n
word_of (Some (negsuc n)) = 0
word_of None = 0

-- "eight columns"
unfoldable pub is_list_line : List ℕ → Bool
is_list_line line = eqb (length line) (8 * list_width) && all_in_form least_number (columns list_width 8 line)

unfoldable pub list_row : List ℕ → List ℤ
list_row line = map column_value (columns list_width 8 line)

-- "up to 64 words, each in such a column and none negative, an empty line being an empty sentence"
unfoldable pub is_text_line : List ℕ → Bool
is_text_line line = leb (length line) (64 * text_width) && (eqb (length line % text_width) 0 && all_in_form (pos 0) (columns text_width (length line / text_width) line))

unfoldable pub text_words : List ℕ → List ℕ
text_words line = map word_of (columns text_width (length line / text_width) line)

-- how many words a line has, if it is in form
unfoldable pub text_answer : List ℕ → Option ℕ
text_answer line = cond (is_text_line line) (Some (length (text_words line))) None

-- the numbers side by side, each in its column
unfoldable pub line_of : ℕ → List ℤ → List ℕ
line_of width [] = []
line_of width (z ∷ zs) = column width z ++ line_of width zs

-- each is a number that its column and 32 bits hold
abbrev pub AllHeld : ℕ → List ℤ → Type 0
AllHeld width zs = (j : ℕ) → j < length zs → Held width (get_or zs j (pos 0))

-- the line is this row, in form
pub record ListForm (line : List ℕ) (row : List ℤ) : Type 0 where
  pub eight : length row ≡ 8
  pub held : AllHeld list_width row
  pub is : line ≡ line_of list_width row

-- a line is accepted exactly where it is in form, and its row is then the one that is left
pub record ListLineMeans (line : List ℕ) (r : Bool) (row : List ℤ) : Type 0 where
  pub accepted : r ≡ true → ListForm line row
  pub every : (zs : List ℤ) → ListForm line zs → (r ≡ true) × (row ≡ zs)

-- the line is these words, in form
pub record TextForm (line ws : List ℕ) : Type 0 where
  pub most : length ws ≤ 64
  pub held : AllHeld text_width (map pos ws)
  pub is : line ≡ line_of text_width (map pos ws)

-- a line is accepted exactly where it is in form, and its words are then the first that are left
pub record TextLineMeans (line : List ℕ) (r : Option ℕ) (words : List ℕ) : Type 0 where
  pub accepted : (n : ℕ) → r ≡ Some n → (n ≤ 64) × TextForm line (take n words)
  pub every : (ws : List ℕ) → TextForm line ws → (r ≡ Some (length ws)) × (take (length ws) words ≡ ws)

-- ---- what is printed

-- `refused`
unfoldable pub refused_word : List ℕ
refused_word = 114 ∷ 101 ∷ 102 ∷ 117 ∷ 115 ∷ 101 ∷ 100 ∷ []

-- "sentence number, words, unknown words (8 wide each)"
unfoldable pub count_columns : ℕ → ℕ → ℕ → List ℕ
count_columns number words unknown = column 8 (pos number) ++ (column 8 (pos words) ++ column 8 (pos unknown))

-- "and total (16 wide)", and LF
unfoldable pub sentence_line : ℕ → ℕ → ℕ → ℤ → List ℕ
sentence_line number words unknown total = count_columns number words unknown ++ (column 16 total ++ (10 ∷ []))

-- "`refused`, then number and place, 8 wide each", and LF
unfoldable pub refused_line : ℕ → ℕ → List ℕ
refused_line number place = refused_word ++ (column 8 (pos number) ++ (column 8 (pos place) ++ (10 ∷ [])))
