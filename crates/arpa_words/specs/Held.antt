-- How the code holds the words of a text in the lent store and in the index of the lent table. Only contracts of inner functions cite what is here. Assumes nothing.
use Rattle.std.specs.declared.option.Option.{Option}
use Rattle.std.specs.declared.option.Option.TheVariants.{Some, None}
use Rattle.std.specs.Prelude.{◌≡◌, ◌⊎◌, true, cond, List, [], ℕ, zero, suc, ◌+◌, ◌*◌, ◌-◌, ◌<◌, ◌≤◌, leb, ℤ, length, get_or}
use Rattle.integer.specs.Integer.{or_else}
use Rattle.backoff.specs.Limits.{text_limit}
use Rattle.word_index.specs.Texts.{texts_from, recorded}
use Rattle.word_index.specs.Index.{link_limit, Indexed, bucket_of, linked}
use Rattle.arpa_text.specs.Lines.{is_text}
use Rattle.arpa_words.specs.Words.{reserved_number, number_met, some_missing, zeroed}

-- how the code holds a number that is 0 where there is none
abbrev pub unless_zero : ℕ → Option ℕ
unless_zero zero = None
unless_zero (suc k) = Some (suc k)

-- the five numbers of a row's words, where none of them is 0
unfoldable pub all_numbers : List ℕ → Option (List ℕ)
all_numbers ks = cond (some_missing ks) None (Some (zeroed 5 ks))

-- the texts that a reading can have met: the first three are `<unk>`, `<s>`, `</s>` or not met, the others are distinct and none of these
pub record TextsSound (texts : List (List ℕ)) : Type 0 where
  pub long : 3 ≤ length texts
  pub reserved : (k : ℕ) → k < 3 → (get_or texts k [] ≡ []) ⊎ (reserved_number (get_or texts k []) ≡ suc k)
  pub in_form_lem : (k : ℕ) → 3 ≤ k → k < length texts → is_text (get_or texts k []) ≡ true
  pub other : (k : ℕ) → 3 ≤ k → k < length texts → reserved_number (get_or texts k []) ≡ 0
  pub distinct : (j k : ℕ) → 3 ≤ j → j < k → k < length texts → get_or texts j [] ≡ get_or texts k [] → ⊥

-- the length bytes of the words from 4 on are those of texts
abbrev pub ShortTexts : List ℕ → ℕ → Type 0
ShortTexts s words = (k : ℕ) → 4 ≤ k → k < words → get_or s (64 * k) 0 ≤ text_limit

-- the words below `words` can be searched by their texts: from 4 on by the index, as far as its links reach
pub record Searchable (t : List ℤ) (s : List ℕ) (buckets words : ℕ) : Type 0 where
  pub start : 4 ≤ words
  pub room : 4 < words → 64 * words ≤ length s
  pub short : ShortTexts s words
  pub texts : TextsSound (texts_from s 1 (words - 1))
  pub records : (k : ℕ) → 1 ≤ k → k < words → 0 < get_or s (64 * k) 0 → 64 * k + 64 ≤ length s
  pub index : 4 < words → words ≤ link_limit → Indexed t s buckets words

-- a text that is not met becomes word k
pub record Adding (t : List ℤ) (s : List ℕ) (buckets words k : ℕ) (text : List ℕ) : Type 0 where
  pub searchable : Searchable t s buckets words
  pub in_form_lem : is_text text ≡ true
  pub number : k ≡ or_else (reserved_number text) words
  pub new : number_met (texts_from s 1 (words - 1)) text ≡ 0
  pub record_room : 64 * k + 64 ≤ length s
  pub row_room : 8 * (words - 4) + 8 ≤ length t
  pub index : 256 ≤ length s → words ≤ link_limit → Indexed t s buckets words

pub record TextAdded (t t' : List ℤ) (s s' : List ℕ) (buckets words k : ℕ) (text : List ℕ) : Type 0 where
  pub store : s' ≡ recorded s k text
  pub table : t' ≡ cond (leb 4 k) (cond (leb words link_limit) (linked t (bucket_of buckets text) words) t) t
  pub reserved-index : k < 4 → 256 ≤ length s → words ≤ link_limit → Indexed t' s' buckets words
  pub new-index : 4 ≤ k → words + 1 ≤ link_limit → Indexed t' s' buckets (words + 1)
