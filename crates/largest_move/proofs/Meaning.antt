-- What the outcome of the largest move means. Assumes nothing.
use Rattle.std.specs.declared.option.Option.{Option}
use mathlib.Core.Path.{◌≡◌, refl, sym, ap, ap₂, ◌∙◌}
use mathlib.Core.Logic.{inl, inr}
use mathlib.Core.Bool.{Bool, true, false, cond}
use mathlib.Core.List.{List, []}
use Prim.Native.Nat.{ℕ, zero, suc, ◌^◌, ◌≤◌, ◌<◌}
use native.Mathlib.Nat.{pow-suc, pow-zero, pow-le-pow_left}
use native.Mathlib.Omega.{arith}
use lib.Dec.{eqb}
use lib.ListN.{length, get_or}
use lib.IntN.{ℤ, pos, ◌-ℤ◌}
use borrow.Author.Tests.{eqb-true, eqb-false}
use Rattle.integer.proofs.Arithmetic.{zarith, abs, sub}
use Rattle.backoff.specs.Store.{Store}
use Rattle.one_word.specs.OneWord.{distance}
use Rattle.double_array.specs.DoubleArray.{opened}
use Rattle.sentence_order.proofs.Sentences.{length-sentences}
use Rattle.sentence_totals.specs.Totals.{sentence_total}
use Rattle.sentences.specs.Listing.{Outcome as Listed, usable_over, sentences_over, listing_outcome}
use Rattle.sentences.specs.Meaning.{ListingMeans}
use Rattle.sentences.proofs.Meaning.{listing_means}
use Rattle.group_pairs.specs.declared.Pair.{Pair}
use Rattle.group_pairs.specs.Pairs.{pair_of, NotAfter}
use Rattle.largest_pair.specs.Pairs.{no_pair, IsPair}
use Rattle.largest_pair.specs.Inner.{Kept, nothing, something}
use Rattle.largest_pair.proofs.Earliest.{first-kept}
use Rattle.largest_pair.proofs.Seen.{first_two}
use Rattle.largest_move.specs.Move.{sentences_apart, totals_apart, largest_pair, move_of, refused_move, move_outcome}
use Rattle.largest_move.specs.Meaning.{Names, MoveMeans}
use Rattle.largest_move.proofs.Apart.{apart_by_digits}
use Rattle.largest_move.proofs.Accepted.{accepted_sized}

distance_none : (a b : ℤ) → a ≡ b → distance a b ≡ 0
distance_none a b e = omega (zarith, sub a b, abs (a -ℤ b))

module _ (o : Option Store) (k : ℕ) (some : 1 ≤ k) where
  abbrev ss : List (List ℕ)
  ss = sentences_over o k

  abbrev v : ℕ
  v = length (usable_over o)

  abbrev best : Pair
  best = largest_pair ss (sentence_total o)

  abbrev far : ℕ → ℕ → ℕ
  far = totals_apart ss (sentence_total o)

  abbrev Pairs : ℕ → ℕ → Type 0
  Pairs = IsPair (sentences_apart ss) (length ss)

  best-kept : Kept no_pair Pairs far best
  unfolding largest_pair
  best-kept = first-kept (sentences_apart ss) far (length ss)

  -- ---- two words or more

  module _ (two : 2 ≤ v) where
    first-pair : Pairs 0 1
    first-pair =
        let p = first_two v k two some in
        record { ordered = p.ordered; inside = omega (arith, p.inside, length-sentences (usable_over o) k); one_place = sym (apart_by_digits o k 0 1 p.ordered p.inside) ∙ p.one_place }

    named : Names ss (sentence_total o) (move_of best)
    named = go best-kept
      where
        go : Kept no_pair Pairs far best → Names ss (sentence_total o) (move_of best)
        go (nothing e f) = absurd (f 0 1 first-pair)
        go (something i j e f) = record { i = i; j = j; first = ap (λ (p : Pair). p.first) e; second = ap (λ (p : Pair). p.second) e; distance = ap (λ (p : Pair). p.distance) e; largest = f }

    named-level : ((i : ℕ) → i < length ss → sentence_total o (get_or ss i []) ≡ sentence_total o (get_or ss 0 [])) → move_of best ≡ move_of (record { distance = pos 0; first = 1; second = 2 })
    named-level same = go best-kept
      where
        none : (i j : ℕ) → Pairs i j → far i j ≡ 0
        none i j p = unfold totals_apart in distance_none _ _ (same i (omega (arith, p.ordered, p.inside)) ∙ sym (same j p.inside))

        first : (i j : ℕ) → i < j → NotAfter i j 0 1 → (i ≡ 0) × (j ≡ 1)
        first i j l (inl h) = absurd (omega arith)
        first i j l (inr (e, h)) = (e, omega arith)

        go : Kept no_pair Pairs far best → move_of best ≡ move_of (record { distance = pos 0; first = 1; second = 2 })
        go (nothing e f) = absurd (f 0 1 first-pair)
        go (something i j e f) =
            let w = first i j f.pair.ordered (f.earliest 0 1 first-pair (none 0 1 first-pair ∙ sym (none i j f.pair))) in
            ap move_of (e ∙ ap₂ (pair_of far) w.0 w.1 ∙ ap (λ (n : ℕ). record { distance = pos n; first = 1; second = 2 }) (none 0 1 first-pair))

  -- ---- fewer

  -- one word makes one sentence, and none makes none
  one-sentence : v < 2 → length ss ≤ 1
  one-sentence l =
      let p : v ^ k ≤ 1 ^ k = pow-le-pow_left (omega arith) k in
      omega (arith, length-sentences (usable_over o) k, ones k)
    where
      ones : (j : ℕ) → 1 ^ j ≡ 1
      ones zero = pow-zero 1
      ones (suc j) = pow-suc 1 j ∙ omega (arith, ones j)

  pub named_none : v < 2 → best ≡ no_pair
  named_none l = go best-kept
    where
      go : Kept no_pair Pairs far best → best ≡ no_pair
      go (nothing e f) = e
      go (something i j e f) = absurd (omega (arith, f.pair.ordered, f.pair.inside, one-sentence l))

module _ (base check : List ℤ) (k : ℕ) (words : List ℕ) (totals : List ℤ) where
  abbrev listed : Listed
  listed = listing_outcome (opened base check) k words totals

  -- the listing, with a number and a place that are its own
  listing-named : (number place : ℕ) → listed.listing.number ≡ number → listed.listing.place ≡ place → ListingMeans base check k words totals (record { listing = record { number = number; place = place; sentences = listed.listing.sentences }; words = listed.words; totals = listed.totals })
  listing-named number place e f = rw (sym e, sym f) (listing_means base check k words totals)

  pub move_means : MoveMeans base check k words totals (move_outcome (opened base check) k words totals)
  unfolding move_outcome
  move_means = go (eqb listed.listing.number 0) refl
    where
      place : listed.listing.place ≡ 0
      place = (listing_means base check k words totals).place

      go : (b : Bool) → eqb listed.listing.number 0 ≡ b → MoveMeans base check k words totals (record { move = cond b (move_of (largest_pair (sentences_over (opened base check) k) (sentence_total (opened base check)))) (refused_move listed.listing.number); words = listed.words; totals = listed.totals })
      go false e =
          let n = eqb-false listed.listing.number 0 e in
          record { listing = (listed.listing.sentences, listing-named _ 0 refl place); named = λ z. absurd (n z); level = λ z. absurd (n z); few = λ z. absurd (n z); refused = λ z. refl }
      go true e =
          let z = eqb-true listed.listing.number 0 e in
          let h = (accepted_sized (opened base check) k words totals z).some in
          record {
            listing = (listed.listing.sentences, listing-named 0 0 z place);
            named = λ q. named (opened base check) k h;
            level = λ q. named-level (opened base check) k h;
            few = λ q l. ap move_of (named_none (opened base check) k h l);
            refused = λ n. absurd (n refl);
          }
