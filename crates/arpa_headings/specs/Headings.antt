-- The fixed lines of an ARPA text, and the lines of its data section, without their LF. Texts are lists of bytes: 32 is a space, 61 is `=`, 48 to 57 are
-- the digits 0 to 9. Assumes nothing.
use Rattle.std.specs.declared.option.Option.{Option}
use Rattle.std.specs.declared.option.Option.TheVariants.{Some, None}
use Rattle.std.specs.Prelude.{Bool, cond, ◌||◌, List, [], ◌∷◌, ◌++◌, ℕ, ◌+◌, eqb}
use Rattle.backoff.specs.Words.{same_words}
use Rattle.decimal.specs.Digits.{digits_up_to, value_from}
use Rattle.text_parts.specs.Parts.{parts}

-- ---- fixed lines

-- `\data\`
abbrev pub data_line : List ℕ
data_line = 92 ∷ 100 ∷ 97 ∷ 116 ∷ 97 ∷ 92 ∷ []

-- `\m-grams:`
abbrev pub section_line : ℕ → List ℕ
section_line m = 92 ∷ (48 + m) ∷ 45 ∷ 103 ∷ 114 ∷ 97 ∷ 109 ∷ 115 ∷ 58 ∷ []

-- `\end\`
abbrev pub end_line : List ℕ
end_line = 92 ∷ 101 ∷ 110 ∷ 100 ∷ 92 ∷ []

-- ---- a line of the data section

-- `ngram m`
abbrev pub count_head : ℕ → List ℕ
count_head m = 110 ∷ 103 ∷ 114 ∷ 97 ∷ 109 ∷ 32 ∷ (48 + m) ∷ []

-- "one space on either side of `=` may be absent"
unfoldable pub is_count_head : ℕ → List ℕ → Bool
is_count_head m text = same_words text (count_head m) || same_words text (count_head m ++ (32 ∷ []))

-- the text behind one space, which may be absent
unfoldable pub without_space : List ℕ → List ℕ
without_space [] = []
without_space (c ∷ text) = cond (eqb c 32) text (c ∷ text)

-- "counts have one to nine digits"
unfoldable pub count_in : List ℕ → Option ℕ
count_in text = cond (digits_up_to 9 text) (Some (value_from 0 text)) None

-- what stands before and behind the one `=` of a line
abbrev pub count_between : ℕ → List (List ℕ) → Option ℕ
count_between m [] = None
count_between m (head ∷ []) = None
count_between m (head ∷ count ∷ []) = cond (is_count_head m head) (count_in (without_space count)) None
count_between m (head ∷ count ∷ more ∷ rest) = None

-- the count that a line announces for the length m
unfoldable pub read_count : ℕ → List ℕ → Option ℕ
read_count m line = count_between m (parts 61 line)
