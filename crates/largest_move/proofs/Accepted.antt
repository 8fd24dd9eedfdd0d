-- What an accepted listing gives the search for the largest move: so many sentences, whose totals are small, and the pair that is to be found.
-- Assumes nothing.
use Rattle.std.specs.declared.option.Option.{Option}
use Rattle.std.specs.declared.option.Option.TheVariants.{Some, None}
use mathlib.Core.Path.{◌≡◌, refl, sym, ap, ap₂, ◌∙◌}
use mathlib.Core.Bool.{Bool, true, false}
use mathlib.Core.List.{List, []}
use Prim.Native.Nat.{ℕ, ◌^◌, ◌≤◌, ◌<◌}
use native.Mathlib.Omega.{arith}
use lib.Dec.{eqb}
use lib.ListN.{length, take, get_or}
use lib.Seq.{length-take-le, get_or-take}
use lib.IntN.{ℤ, pos}
use borrow.Author.Tests.{eqb-true}
use Rattle.backoff.specs.Store.{Store}
use Rattle.one_word.specs.OneWord.{distance}
use Rattle.double_array.specs.DoubleArray.{opened}
use Rattle.sentence_order.specs.Sentences.{usable_words}
use Rattle.sentence_order.proofs.Sentences.{few-sentences, length-sentences}
use Rattle.sentence_totals.specs.Totals.{sentence_total}
use Rattle.sentence_totals.proofs.Calls.{total_small}
use Rattle.sentences.specs.Listing.{Outcome, size_refusal, usable_over, sentences_over, listing_outcome}
use Rattle.sentences.specs.Meaning.{Listed}
use Rattle.sentences.proofs.Outcome.{Sized, sized}
use Rattle.sentences.proofs.Meaning.{listing_means}
use Rattle.group_pairs.specs.declared.Pair.{Pair}
use Rattle.group_pairs.specs.Groups.{total_at, apart_in, Small}
use Rattle.largest_pair.specs.Pairs.{no_pair, first_largest, IsPair}
use Rattle.largest_pair.specs.Inner.{Kept, nothing, something, IsListing, one_digit}
use Rattle.largest_pair.proofs.Earliest.{first-kept, first-same}
use Rattle.largest_move.specs.Move.{sentences_apart, totals_apart, largest_pair}
use Rattle.largest_move.proofs.Apart.{apart_by_digits}

pub accepted_sized : (o : Option Store) (k : ℕ) (words : List ℕ) (totals : List ℤ) → (listing_outcome o k words totals).listing.number ≡ 0 → Sized k (length (usable_over o)) (length words) (length totals)
unfolding listing_outcome
accepted_sized None k words totals z = absurd (omega arith)
accepted_sized (Some S) k words totals z = sized k (length (usable_words S)) (length words) (length totals) (go (eqb number 0) refl)
  where
    number : ℕ
    number = size_refusal k (length (usable_words S)) (length words) (length totals)

    go : (b : Bool) → eqb number 0 ≡ b → number ≡ 0
    go true e = eqb-true number 0 e
    go false e = rw e at z

-- numbers of the pair that is named, from 1
pub record Within (n : ℕ) (m : Pair) : Type 0 where
  pub first : m.first ≤ n
  pub second : m.second ≤ n

largest-within : (ss : List (List ℕ)) (total : List ℕ → ℤ) → Within (length ss) (largest_pair ss total)
unfolding largest_pair
largest-within ss total = go (first-kept (sentences_apart ss) (totals_apart ss total) (length ss))
  where
    go : {m : Pair} → Kept no_pair (IsPair (sentences_apart ss) (length ss)) (totals_apart ss total) m → Within (length ss) m
    go (nothing e f) = rw e (record { first = omega arith; second = omega arith })
    go (something i j e f) = rw e (record { first = omega (arith, f.pair.ordered, f.pair.inside); second = f.pair.inside })

module _ (base check : List ℤ) (k : ℕ) (words : List ℕ) (totals : List ℤ) (x : Outcome) (is : x ≡ listing_outcome (opened base check) k words totals) (accepted : x.listing.number ≡ 0) where
  abbrev o : Option Store
  o = opened base check

  abbrev v : ℕ
  v = length (usable_over o)

  abbrev ss : List (List ℕ)
  ss = sentences_over o k

  abbrev n : ℕ
  n = x.listing.sentences

  -- the listing's totals
  abbrev listed : List ℤ
  listed = take n x.totals

  pub sizes : Sized k v (length words) (length totals)
  sizes = accepted_sized o k words totals (ap (λ (y : Outcome). y.listing.number) (sym is) ∙ accepted)

  means : (S : Store) × ((o ≡ Some S) × Listed S k words totals x)
  means = let m = listing_means base check k words totals in rw is (m.accepted (ap (λ (y : Outcome). y.listing.number) (sym is) ∙ accepted))

  pub sentences_are : n ≡ v ^ k
  sentences_are =
      let m = means in
      m.1.1.sentences ∙ m.1.1.count ∙ ap (λ (p : Option Store). length (usable_over p) ^ k) (sym m.1.0)

  all-sentences : length ss ≡ n
  all-sentences = length-sentences (usable_over o) k ∙ sym sentences_are

  few : n ≤ 65536
  few = omega (arith, sentences_are, few-sentences v k sizes.few sizes.short)

  module _ (long : n ≤ length x.totals) where
    length-listed : length listed ≡ n
    length-listed = length-take-le n x.totals long

    total_of : (i : ℕ) → i < n → total_at listed i ≡ sentence_total o (get_or ss i [])
    total_of i h =
        let m = means in
        get_or-take n x.totals i (pos 0) h
        ∙ m.1.1.total_of i h
        ∙ ap (λ (p : Option Store). sentence_total p (get_or (sentences_over p k) i [])) (sym m.1.0)

    pub totals_small : Small listed
    totals_small = record { each = λ i h. rw (total_of i (omega (arith, length-listed))) (omega (arith, total_small base check (get_or ss i []))) }

    pub is-listing : (count : ℕ) → count ≡ v → 2 ≤ count → IsListing listed count k
    is-listing count e h = record { two = h; few = rw e sizes.few; some = sizes.some; short = sizes.short; long = length-listed ∙ sentences_are ∙ ap (λ (c : ℕ). c ^ k) (sym e) }

    -- what the search finds
    module _ (p : Pair) (count : ℕ) (e : count ≡ v) (found : p ≡ first_largest (one_digit count k) (apart_in listed) (length listed)) where
      pub found-largest : p ≡ largest_pair ss (sentence_total o)
      unfolding largest_pair totals_apart
      found-largest =
          found
          ∙ ap₂ (λ (a b : ℕ). first_largest (one_digit a k) (apart_in listed) b) e (length-listed ∙ sym all-sentences)
          ∙ first-same (one_digit v k) (sentences_apart ss) (apart_in listed) (totals_apart ss (sentence_total o)) (length ss)
          (λ i j l h. apart_by_digits o k i j l (omega (arith, all-sentences, sentences_are)))
          (λ i j l h. ap₂ distance (total_of i (omega (arith, all-sentences))) (total_of j (omega (arith, all-sentences))))

      pub found_within : Within 65536 p
      found_within = let w = largest-within ss (sentence_total o) in rw found-largest (record { first = omega (arith, w.first, all-sentences, few); second = omega (arith, w.second, all-sentences, few) })
