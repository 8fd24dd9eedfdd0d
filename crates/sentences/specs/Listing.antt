-- The outcome of the listing of all small sentences, over any store as start and run are lent one, and over any two slices. The sentences quoted are those of
-- document 02, T-12. Assumes nothing.
use Rattle.std.specs.declared.option.Option.{Option}
use Rattle.std.specs.declared.option.Option.TheVariants.{Some, None}
use Rattle.std.specs.Prelude.{cond, ◌||◌, List, [], map, ℕ, ◌*◌, ◌^◌, length, replicate, ℤ, pos, eqb, ltb}
use Rattle.backoff.specs.Limits.{sentence_limit, usable_limit}
use Rattle.backoff.specs.Refusal.{array_head, broken_node, short_slice, listing_size}
use Rattle.backoff.specs.Run.{written}
use Rattle.backoff.specs.Runs.{flat}
use Rattle.backoff.specs.Store.{Store}
use Rattle.sentence_order.specs.Sentences.{usable_words, sentences_of}
use Rattle.sentence_totals.specs.Totals.{sentence_total, all_scored}
use Rattle.sentences.specs.declared.Listing.{Listing}

-- ---- the refusals that come before any word is scored

-- "22, with 0, for k outside 1 to 4 or more than 16 such words, tried after 11; a short slice gives 15 after it": 0 for neither, where the store has so many
-- usable words and the slices so many items
unfoldable pub size_refusal : ℕ → ℕ → ℕ → ℕ → ℕ
size_refusal k usable words totals =
    cond ((ltb k 1 || ltb sentence_limit k) || ltb usable_limit usable)
    listing_size
    (cond (ltb words (k * usable ^ k) || ltb totals (usable ^ k)) short_slice 0)

abbrev pub early_refusal : Option Store → ℕ → ℕ → ℕ → ℕ
early_refusal None k words totals = array_head
early_refusal (Some S) k words totals = size_refusal k (length (usable_words S)) words totals

-- ---- the listing

-- what is returned, and both slices as they are after the call
pub record Outcome : Type 0 where
  pub listing : Listing
  pub words : List ℕ
  pub totals : List ℤ

-- a refused listing has no sentences, and the place is 0
abbrev pub refused_listing : ℕ → Listing
refused_listing number = record { number = number; place = 0; sentences = 0 }

-- "12, with 0, comes last where a sentence meets it and leaves the listing's items 0"
unfoldable pub broken_listing : List (List ℕ) → List ℕ → List ℤ → Outcome
broken_listing ss words totals =
    record {
      listing = refused_listing broken_node;
      words = written (replicate (length (flat ss)) 0) words;
      totals = written (replicate (length ss) (pos 0)) totals;
    }

-- the listing of the sentences ss in these two slices
module _ (o : Option Store) (ss : List (List ℕ)) (words : List ℕ) (totals : List ℤ) where
  -- "Words go to one slice, totals to a second, and the sentence count is returned"
  unfoldable pub full_listing : Outcome
  full_listing =
      record {
        listing = record { number = 0; place = 0; sentences = length ss };
        words = written (flat ss) words;
        totals = written (map (sentence_total o) ss) totals;
      }

  unfoldable pub listed : Outcome
  listed = cond (all_scored o ss) full_listing (broken_listing ss words totals)

-- the usable words of the array that is lent, none where 11 refuses it, and the sentences of k of them
abbrev pub usable_over : Option Store → List ℕ
usable_over None = []
usable_over (Some S) = usable_words S

module _ (o : Option Store) (k : ℕ) where
  abbrev pub sentences_over : List (List ℕ)
  sentences_over = sentences_of k (usable_over o)

  -- the listing; 22 and 15 come "both writing nothing"
  unfoldable pub listing_outcome : List ℕ → List ℤ → Outcome
  listing_outcome words totals =
      cond (eqb (early_refusal o k (length words) (length totals)) 0)
      (listed o sentences_over words totals)
      (record { listing = refused_listing (early_refusal o k (length words) (length totals)); words = words; totals = totals })
