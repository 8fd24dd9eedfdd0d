-- The outcome of the largest move, by what the listing answers. Assumes nothing.
use Rattle.std.specs.declared.option.Option.{Option}
use mathlib.Core.Path.{◌≡◌, sym, ap, ◌∙◌}
use mathlib.Core.Bool.{Bool, cond}
use mathlib.Core.List.{List}
use Prim.Native.Nat.{ℕ}
use lib.Dec.{eqb}
use lib.IntN.{ℤ}
use borrow.Author.Tests.{eq-eqb, ne_eqb}
use Rattle.backoff.specs.Store.{Store}
use Rattle.double_array.specs.DoubleArray.{opened}
use Rattle.sentence_totals.specs.Totals.{sentence_total}
use Rattle.sentences.specs.Listing.{Outcome as Listed, sentences_over, listing_outcome}
use Rattle.group_pairs.specs.declared.Pair.{Pair}
use Rattle.largest_move.specs.declared.Move.{Move}
use Rattle.largest_move.specs.Move.{largest_pair, move_of, refused_move, move_outcome}
use Rattle.largest_move.specs.Meaning.{MoveMeans}
use Rattle.largest_move.proofs.Meaning.{move_means}

module _ (base check : List ℤ) (k : ℕ) (words : List ℕ) (totals : List ℤ) (x : Listed) (is : x ≡ listing_outcome (opened base check) k words totals) (m : Move) where
  abbrev o : Option Store
  o = opened base check

  abbrev best : Pair
  best = largest_pair (sentences_over o k) (sentence_total o)

  -- the answer m with the slices as the listing leaves them is the outcome, and means what it should
  abbrev Answers : Type 0
  Answers = (record { move = m; words = x.words; totals = x.totals } ≡ move_outcome o k words totals) × MoveMeans base check k words totals (record { move = m; words = x.words; totals = x.totals })

  answers : m ≡ cond (eqb x.listing.number 0) (move_of best) (refused_move x.listing.number) → Answers
  answers e = let q = same in (q, rw q (move_means base check k words totals))
    where
      same : record { move = m; words = x.words; totals = x.totals } ≡ move_outcome o k words totals
      same =
          ap (λ (y : Move). record { move = y; words = x.words; totals = x.totals }) e
          ∙ (unfold move_outcome in ap (λ (y : Listed). record { move = cond (eqb y.listing.number 0) (move_of best) (refused_move y.listing.number); words = y.words; totals = y.totals }) is)

  pub refused-answers : (x.listing.number ≡ 0 → ⊥) → m ≡ refused_move x.listing.number → Answers
  refused-answers n e = answers (e ∙ ap (λ (b : Bool). cond b (move_of best) (refused_move x.listing.number)) (sym (ne_eqb x.listing.number 0 n)))

  pub found-answers : x.listing.number ≡ 0 → m ≡ move_of best → Answers
  found-answers z e = answers (e ∙ ap (λ (b : Bool). cond b (move_of best) (refused_move x.listing.number)) (sym (eq-eqb x.listing.number 0 z)))

-- the pair that was found, as it is returned
pub returned : (p q : Pair) → p ≡ q → (d : ℤ) → d ≡ p.distance → ◌≡◌ {A = Move} (record { number = 0; place = 0; distance = d; first = p.first; second = p.second }) (move_of q)
returned p q e d f = λ i. record { number = 0; place = 0; distance = (f ∙ ap (λ (x : Pair). x.distance) e) i; first = (e i).first; second = (e i).second }
