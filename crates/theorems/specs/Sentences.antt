-- All small sentences over what a build wrote: by the back-off rule over the list. The sentences quoted are document 02's, of T-12. Assumes nothing.
use Rattle.std.specs.declared.option.Option.{Option}
use Rattle.std.specs.Prelude.{◌≡◌, Bool, true, ◌&&◌, List, [], ◌∷◌, ◌++◌, map, ℕ, ◌^◌, length, ℤ}
use Rattle.integer.specs.Integer.{sum}
use Rattle.backoff.specs.Limits.{word_limit, end_word}
use Rattle.backoff.specs.Model.{Model, listed}
use Rattle.backoff.specs.Rule.{rule_points}
use Rattle.backoff.specs.Run.{front, written}
use Rattle.backoff.specs.Runs.{flat}
use Rattle.backoff.specs.Store.{Store}
use Rattle.sentence_order.specs.Sentences.{passing, is_other, sentences_of}
use Rattle.sentences.specs.Listing.{size_refusal, listing_outcome}

module _ (M : Model) where
  -- "the listed words other than 2 and 3"
  unfoldable pub is_listed : ℕ → Bool
  is_listed w = listed M (w ∷ []) && is_other w

  unfoldable pub listed_words : List ℕ
  listed_words = passing is_listed word_limit

  -- "every sentence of k words"
  abbrev pub listed_sentences : ℕ → List (List ℕ)
  listed_sentences k = sentences_of k listed_words

  -- "its total from `<s>` including the closing 3"
  unfoldable pub rule_total : List ℕ → ℤ
  rule_total s = sum (rule_points M (front true) (s ++ (end_word ∷ [])))

module _ (array : Option Store) (M : Model) (k : ℕ) (words : List ℕ) (totals : List ℤ) where
  pub record ListingIsTheRule : Type 0 where
    -- only 22 and 15 refuse a listing here
    pub number : (listing_outcome array k words totals).listing.number ≡ size_refusal k (length (listed_words M)) (length words) (length totals)
    pub place : (listing_outcome array k words totals).listing.place ≡ 0
    -- "Words go to one slice, totals to a second, and the sentence count is returned"
    pub sentences : (listing_outcome array k words totals).listing.number ≡ 0 → (listing_outcome array k words totals).listing.sentences ≡ length (listed_words M) ^ k
    pub words_are : (listing_outcome array k words totals).listing.number ≡ 0 → (listing_outcome array k words totals).words ≡ written (flat (listed_sentences M k)) words
    pub totals_are : (listing_outcome array k words totals).listing.number ≡ 0 → (listing_outcome array k words totals).totals ≡ written (map (rule_total M) (listed_sentences M k)) totals
