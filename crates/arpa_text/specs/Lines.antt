-- The form of a line of a section, without its LF. Texts are lists of bytes: 9 is a tab, 32 a space. Assumes nothing.
use Rattle.std.specs.declared.option.Option.{Option}
use Rattle.std.specs.declared.option.Option.TheVariants.{Some, None}
use Rattle.std.specs.Prelude.{Bool, true, false, cond, ◌&&◌, List, [], ◌∷◌, ℕ, zero, suc, leb, ℤ, pos, length}
use Rattle.backoff.specs.Limits.{text_limit}
use Rattle.text_parts.specs.Parts.{parts}
use Rattle.arpa_logs.specs.Logs.{read_points}

-- every byte is above the space
unfoldable pub all_above : List ℕ → Bool
all_above [] = true
all_above (c ∷ text) = leb 33 c && all_above text

-- "word texts (1 to 63 bytes each, all above the space)"
unfoldable pub is_text : List ℕ → Bool
is_text text = leb 1 (length text) && (leb (length text) text_limit && all_above text)

-- m texts, and no more
unfoldable pub are_texts : ℕ → List (List ℕ) → Bool
are_texts zero [] = true
are_texts zero (text ∷ texts) = false
are_texts (suc m) [] = false
are_texts (suc m) (text ∷ texts) = is_text text && are_texts m texts

-- what a line of a section says
pub record Listed : Type 0 where
  pub p : ℤ
  pub b : ℤ
  pub texts : List (List ℕ)

-- two logs and the texts between them, where all are in form
abbrev pub listed_with : ℕ → Option ℤ → List (List ℕ) → Option ℤ → Option Listed
listed_with m (Some p) texts (Some b) = cond (are_texts m texts) (Some (record { p = p; b = b; texts = texts })) None
listed_with m (Some p) texts None = None
listed_with m None texts b = None

-- a log, the words, and perhaps a second log. "A missing back-off is 0."
unfoldable pub listed_in : ℕ → List (List ℕ) → Option Listed
listed_in m [] = None
listed_in m (p ∷ []) = None
listed_in m (p ∷ words ∷ []) = listed_with m (read_points p) (parts 32 words) (Some (pos 0))
listed_in m (p ∷ words ∷ b ∷ []) = listed_with m (read_points p) (parts 32 words) (read_points b)
listed_in m (p ∷ words ∷ b ∷ more ∷ rest) = None

-- "A tab parts the fields, one space the words": a line of the section of length m
unfoldable pub read_row : ℕ → List ℕ → Option Listed
read_row m line = listed_in m (parts 9 line)
