-- The words of an ARPA text and their numbers. `texts` has the text of word k at place k − 1, and the empty text where it is not met. Assumes nothing.
use Rattle.std.specs.Prelude.{Bool, false, cond, ◌||◌, List, [], ◌∷◌, ◌++◌, ℕ, zero, suc, ◌-◌, eqb, leb, length, set}
use Rattle.integer.specs.Integer.{or_else}
use Rattle.backoff.specs.Limits.{unknown_word, start_word, end_word}
use Rattle.backoff.specs.Words.{same_words}
use Rattle.word_index.specs.Texts.{search_from, given_by}

-- `<unk>`, `<s>` and `</s>`
abbrev pub unknown_text : List ℕ
unknown_text = 60 ∷ 117 ∷ 110 ∷ 107 ∷ 62 ∷ []

abbrev pub start_text : List ℕ
start_text = 60 ∷ 115 ∷ 62 ∷ []

abbrev pub end_text : List ℕ
end_text = 60 ∷ 47 ∷ 115 ∷ 62 ∷ []

-- "`<unk>`, `<s>` and `</s>` become 1, 2, 3"; 0 for any other text
unfoldable pub reserved_number : List ℕ → ℕ
reserved_number text =
    cond (same_words text unknown_text) unknown_word
    (cond (same_words text start_text) start_word
    (cond (same_words text end_text) end_word
    0))

-- no text is met
abbrev pub no_texts : List (List ℕ)
no_texts = [] ∷ [] ∷ [] ∷ []

-- the number of a text that is met, 0 for another
unfoldable pub number_met : List (List ℕ) → List ℕ → ℕ
number_met texts text = given_by (search_from text 1 texts) 0

-- "A text met again keeps its number. `<unk>`, `<s>` and `</s>` become 1, 2, 3; the others count up from 4 as the one-word section brings them."
unfoldable pub number_given : List (List ℕ) → List ℕ → ℕ
number_given texts text = or_else (reserved_number text) (given_by (search_from text 1 texts) (suc (length texts)))

-- the texts once word k has its text
unfoldable pub with_text : List (List ℕ) → ℕ → List ℕ → List (List ℕ)
with_text texts k text = cond (leb k (length texts)) (set texts (k - 1) text) (texts ++ (text ∷ []))

-- one of the numbers of a row's words is 0
unfoldable pub some_missing : List ℕ → Bool
some_missing [] = false
some_missing (k ∷ ks) = eqb k 0 || some_missing ks

-- ---- the lent store

-- n bytes: those of the list, then as many 0 as are missing
unfoldable pub zeroed : ℕ → List ℕ → List ℕ
zeroed zero bytes = []
zeroed (suc n) [] = 0 ∷ zeroed n []
zeroed (suc n) (x ∷ bytes) = x ∷ zeroed n bytes

-- "64 bytes .., is word k's length, then its text"
unfoldable pub record_of : List ℕ → List ℕ
record_of text = zeroed 64 (length text ∷ text)

unfoldable pub records_of : List (List ℕ) → List ℕ
records_of [] = []
records_of (text ∷ texts) = record_of text ++ records_of texts

-- a store of so many bytes: "Record k, 64 bytes from 64 × k, is word k's length, then its text; all that no row or met text fills is 0"
unfoldable pub store_with : ℕ → List (List ℕ) → List ℕ
store_with size texts = zeroed size (records_of ([] ∷ texts))
