-- The index from texts to words, in the free numbers of one-word rows: chain h starts in number 2 of row h, the link of word k is number 3 of
-- row k − 4, and 0 ends a chain. Only contracts of inner functions cite what is here. Assumes nothing.
use Rattle.std.specs.Prelude.{◌≡◌, cond, ◌&&◌, List, [], ◌∷◌, ℕ, zero, suc, ◌+◌, ◌*◌, ◌-◌, ◌%◌, ◌<◌, ◌≤◌, leb, eqb, ℤ, pos, length, get_or, set}
use Rattle.backoff.specs.Limits.{text_limit}
use Rattle.rows.specs.Table.{field}
use Rattle.word_index.specs.Texts.{text_of}

-- a hash is below 2 ^ 40
abbrev pub hash_limit : ℕ
hash_limit = 1099511627776

-- the largest word number that a signed 32-bit number holds
abbrev pub link_limit : ℕ
link_limit = 2147483647

unfoldable pub hash_from : ℕ → List ℕ → ℕ
hash_from h [] = h
hash_from h (x ∷ xs) = hash_from ((h * 10368889 + x) % hash_limit) xs

unfoldable pub hash : List ℕ → ℕ
hash text = hash_from 0 text

-- the chain of a text
unfoldable pub bucket_of : ℕ → List ℕ → ℕ
bucket_of buckets text = hash text % buckets

-- the largest of the words 4 to n − 1 whose text belongs to chain h, 0 where there is none
unfoldable pub latest : List ℕ → ℕ → ℕ → ℕ → ℕ
latest s buckets h zero = 0
latest s buckets h (suc n) = cond (leb 4 n && eqb (bucket_of buckets (text_of s n)) h) n (latest s buckets h n)

-- The words 4 to words − 1 are indexed: their texts are distinct, a chain starts with the latest of its words, and each word is linked to the
-- latest one before it in the same chain. So a chain falls and meets each of its words.
pub record Indexed (t : List ℤ) (s : List ℕ) (buckets words : ℕ) : Type 0 where
  pub some : 1 ≤ buckets
  pub start : 4 ≤ words
  pub few : words ≤ link_limit + 1
  pub head-room : 8 * buckets ≤ length t
  pub link-room : 8 * (words - 4) ≤ length t
  pub store-room : 64 * words ≤ length s
  pub short : (k : ℕ) → 4 ≤ k → k < words → get_or s (64 * k) 0 ≤ text_limit
  pub distinct : (j k : ℕ) → 4 ≤ j → j < k → k < words → text_of s j ≡ text_of s k → ⊥
  pub head : (h : ℕ) → h < buckets → field t h 2 ≡ pos (latest s buckets h words)
  pub link : (k : ℕ) → 4 ≤ k → k < words → field t (k - 4) 3 ≡ pos (latest s buckets (bucket_of buckets (text_of s k)) k)

-- there is room for one more word
pub record Room (t : List ℤ) (s : List ℕ) (words : ℕ) : Type 0 where
  pub few : words ≤ link_limit
  pub row : 8 * (words - 4) + 8 ≤ length t
  pub record_room : 64 * words + 64 ≤ length s

-- word k is put in front of chain h
unfoldable pub linked : List ℤ → ℕ → ℕ → List ℤ
linked t h k = set (set t (8 * (k - 4) + 3) (field t h 2)) (8 * h + 2) (pos k)

-- the first n rows without their heads and links
unfoldable pub cleared : List ℤ → ℕ → List ℤ
cleared t zero = t
cleared t (suc n) = set (set (cleared t n) (8 * n + 2) (pos 0)) (8 * n + 3) (pos 0)

-- nothing but numbers 2 and 3 of rows differs
pub record SameRows (t u : List ℤ) : Type 0 where
  pub long : length u ≡ length t
  pub before : (k j : ℕ) → j < 2 → field u k j ≡ field t k j
  pub behind : (k j : ℕ) → 4 ≤ j → j < 8 → field u k j ≡ field t k j
