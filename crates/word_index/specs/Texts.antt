-- Words by their texts: the lent store of texts, and the number of a text by linear search. Assumes nothing.
use Rattle.std.specs.declared.option.Option.{Option}
use Rattle.std.specs.declared.option.Option.TheVariants.{Some, None}
use Rattle.std.specs.Prelude.{cond, List, [], ◌∷◌, ◌++◌, ℕ, zero, suc, ◌+◌, ◌*◌, ◌-◌, length, get_or, take, drop}
use Rattle.backoff.specs.Words.{same_words}

-- "Record k, 64 bytes from 64 × k, is word k's length, then its text"
unfoldable pub text_of : List ℕ → ℕ → List ℕ
text_of s k = take (get_or s (64 * k) 0) (drop (64 * k + 1) s)

-- the texts of n words from word k on
unfoldable pub texts_from : List ℕ → ℕ → ℕ → List (List ℕ)
texts_from s k zero = []
texts_from s k (suc n) = text_of s k ∷ texts_from s (suc k) n

-- "the others count up from 4": the texts of the words 4 to words − 1
unfoldable pub texts_of : List ℕ → ℕ → List (List ℕ)
texts_of s words = texts_from s 4 (words - 4)

-- the first of the texts that is the one looked for; they are counted from k
unfoldable pub search_from : List ℕ → ℕ → List (List ℕ) → Option ℕ
search_from text k [] = None
search_from text k (x ∷ xs) = cond (same_words text x) (Some k) (search_from text (suc k) xs)

-- the number that was found, or else n
abbrev pub given_by : Option ℕ → ℕ → ℕ
given_by (Some k) n = k
given_by None n = n

-- the word below `words` whose record holds the text
unfoldable pub record_with : List ℕ → ℕ → List ℕ → Option ℕ
record_with s words text = search_from text 4 (texts_of s words)

-- a store in which record k holds the text
unfoldable pub recorded : List ℕ → ℕ → List ℕ → List ℕ
recorded s k text = take (64 * k) s ++ (length text ∷ text) ++ drop (64 * k + length (length text ∷ text)) s
