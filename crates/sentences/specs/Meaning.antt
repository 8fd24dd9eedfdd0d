-- What a listing means: every sentence of k usable words, each once and ascending, with its total; and when each number is returned. The sentences quoted
-- are those of document 02, T-12. Assumes nothing.
use Rattle.std.specs.declared.option.Option.TheVariants.{Some}
use Rattle.std.specs.Prelude.{◌≡◌, ◌⊎◌, true, false, List, [], ◌∷◌, ℕ, ◌*◌, ◌^◌, ◌<◌, length, take, drop, get_or, ℤ, pos}
use Rattle.backoff.specs.Limits.{sentence_limit, usable_limit}
use Rattle.backoff.specs.Refusal.{array_head, broken_node, short_slice, listing_size}
use Rattle.backoff.specs.FirstMet.{Line, ◌when◌, FirstMet}
use Rattle.backoff.specs.Store.{Store}
use Rattle.double_array.specs.DoubleArray.{is_array, store_in, opened}
use Rattle.score.specs.Meaning.{StuckSentence}
use Rattle.sentence_order.specs.Sentences.{usable_words}
use Rattle.sentence_order.specs.ListsAll.{IsSentence, ListsAll}
use Rattle.sentence_totals.specs.Totals.{is_scored, sentence_total}
use Rattle.sentences.specs.Listing.{Outcome, usable_over, sentences_over}

-- an accepted listing over a store
pub record Listed (S : Store) (k : ℕ) (words : List ℕ) (totals : List ℤ) (r : Outcome) : Type 0 where
  pub lists_all : ListsAll S k (sentences_over (Some S) k)
  pub sentences : r.listing.sentences ≡ length (sentences_over (Some S) k)
  pub count : length (sentences_over (Some S) k) ≡ length (usable_over (Some S)) ^ k
  -- the i-th sentence's words and its total
  pub words_of : (i : ℕ) → i < r.listing.sentences → take k (drop (k * i) r.words) ≡ get_or (sentences_over (Some S) k) i []
  pub scored : (i : ℕ) → i < r.listing.sentences → is_scored (Some S) (get_or (sentences_over (Some S) k) i []) ≡ true
  pub total_of : (i : ℕ) → i < r.listing.sentences → get_or r.totals i (pos 0) ≡ sentence_total (Some S) (get_or (sentences_over (Some S) k) i [])
  -- what lies past the listing is as it was
  pub words-past : drop (k * r.listing.sentences) r.words ≡ drop (k * r.listing.sentences) words
  pub totals-past : drop r.listing.sentences r.totals ≡ drop r.listing.sentences totals

-- how many usable words the array has
abbrev usable_in : List ℤ → List ℤ → ℕ
usable_in base check = length (usable_words (store_in base check))

-- "22, with 0, for k outside 1 to 4 or more than 16 such words, tried after 11; a short slice gives 15 after it", and "12, with 0, comes last where a sentence
-- meets it"
abbrev pub listing_refusals : List ℤ → List ℤ → ℕ → List ℕ → List ℤ → List Line
listing_refusals base check k words totals =
    array_head when (is_array base check ≡ false)
    ∷ listing_size when ((k < 1) ⊎ ((sentence_limit < k) ⊎ (usable_limit < usable_in base check)))
    ∷ short_slice when ((length words < k * usable_in base check ^ k) ⊎ (length totals < usable_in base check ^ k))
    ∷ broken_node when ((s : List ℕ) × IsSentence (store_in base check) k s × StuckSentence (store_in base check) s)
    ∷ []

-- What was returned, with both slices as they are after the call.
pub record ListingMeans (base check : List ℤ) (k : ℕ) (words : List ℕ) (totals : List ℤ) (r : Outcome) : Type 0 where
  pub verdict : FirstMet (listing_refusals base check k words totals) r.listing.number r.listing.place
  pub place : r.listing.place ≡ 0
  pub accepted : r.listing.number ≡ 0 → (S : Store) × ((opened base check ≡ Some S) × Listed S k words totals r)
  pub refused : (r.listing.number ≡ 0 → ⊥) → r.listing.sentences ≡ 0
  -- but for 12, a refusal writes nothing
  pub untouched : (r.listing.number ≡ 0 → ⊥) → (r.listing.number ≡ broken_node → ⊥) → (r.words ≡ words) × (r.totals ≡ totals)
  -- 12 is met by Some sentence of the listing
  pub broken : r.listing.number ≡ broken_node → (i : ℕ) × ((i < length (sentences_over (opened base check) k)) × (is_scored (opened base check) (get_or (sentences_over (opened base check) k) i []) ≡ false))
