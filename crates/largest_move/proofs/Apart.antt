-- Two sentences differ at as many places as their numbers do in digits. Assumes nothing.
use Rattle.std.specs.declared.option.Option.{Option}
use Rattle.std.specs.declared.option.Option.TheVariants.{Some, None}
use mathlib.Core.Path.{◌≡◌, refl, sym, ap, ap₂, ◌∙◌}
use mathlib.Core.Logic.{◌⊎◌, inl, inr}
use mathlib.Core.Bool.{Bool, cond}
use mathlib.Core.List.{List, [], ◌∷◌, ◌++◌}
use Prim.Native.Nat.{ℕ, zero, suc, ◌+◌, ◌/◌, ◌%◌, ◌^◌, ◌≤◌, ◌<◌}
use native.Mathlib.Nat.{mod-lt, div-lt_iff_lt-mul, pow-suc, add_comm}
use native.Mathlib.Decide.{ℕ_discrete}
use native.Mathlib.Omega.{arith}
use lib.Dec.{eqb}
use lib.ListN.{length, get_or}
use borrow.Author.Tests.{eq-eqb, ne_eqb}
use Rattle.integer.proofs.Ranges.{lt_or_ge}
use Rattle.backoff.specs.Limits.{word_limit}
use Rattle.backoff.specs.Store.{Store}
use Rattle.sentence_order.specs.Sentences.{usable, usable_words}
use Rattle.sentence_order.specs.Inner.{sentence_at}
use Rattle.sentence_order.proofs.Passing.{passing-ascends}
use Rattle.sentence_order.proofs.Sentences.{some_word, sentence_nth, length-sentence_at}
use Rattle.sentences.specs.Listing.{usable_over, sentences_over}
use Rattle.largest_pair.specs.Inner.{digits_apart, one_digit}
use Rattle.largest_move.specs.Pairs.{differing, one_apart}
use Rattle.largest_move.specs.Move.{sentences_apart}

differing_snoc : (p q : List ℕ) (x y : ℕ) → length p ≡ length q → differing (p ++ (x ∷ [])) (q ++ (y ∷ [])) ≡ differing p q + cond (eqb x y) 0 1
unfolding differing
differing_snoc [] [] x y e = omega arith
differing_snoc [] (v ∷ q) x y e = absurd (omega arith)
differing_snoc (u ∷ p) [] x y e = absurd (omega arith)
differing_snoc (u ∷ p) (v ∷ q) x y e = omega (arith, differing_snoc p q x y (omega arith))

module _ (us : List ℕ) (ascends : (i j : ℕ) → i < j → j < length us → get_or us i 0 < get_or us j 0) where
  -- no word stands at two places
  same_word : (a b : ℕ) → a < length us → b < length us → eqb (get_or us a 0) (get_or us b 0) ≡ eqb a b
  same_word a b h l = go (ℕ_discrete a b) (lt_or_ge a b)
    where
      go : Dec (a ≡ b) → (a < b) ⊎ (b ≤ a) → eqb (get_or us a 0) (get_or us b 0) ≡ eqb a b
      go (yes q) o = eq-eqb _ _ (ap (λ (n : ℕ). get_or us n 0) q) ∙ sym (eq-eqb a b q)
      go (no q) (inl m) = ne_eqb (get_or us a 0) (get_or us b 0) (λ e. omega (arith, ascends a b m l)) ∙ sym (ne_eqb a b q)
      go (no q) (inr m) = ne_eqb (get_or us a 0) (get_or us b 0) (λ e. omega (arith, ascends b a (omega arith) h)) ∙ sym (ne_eqb a b q)

  differing-digits : (k i j : ℕ) → i < length us ^ k → j < length us ^ k → differing (sentence_at us k i) (sentence_at us k j) ≡ digits_apart (length us) k i j
  unfolding sentence_at digits_apart
  differing-digits zero i j h l = unfold differing in refl
  differing-digits (suc k) i j h l =
      let v = length us in
      let Some : 0 < v = some_word v (suc k) i (omega arith) h in
      let s = sentence_at us k (i / v) in
      let t = sentence_at us k (j / v) in
      differing_snoc s t _ _ (length-sentence_at us k (i / v) ∙ sym (length-sentence_at us k (j / v)))
      ∙ ap₂ (λ (n : ℕ) (b : Bool). n + cond b 0 1) (differing-digits k (i / v) (j / v) ((div-lt_iff_lt-mul Some).1 (rw pow-suc at h)) ((div-lt_iff_lt-mul Some).1 (rw pow-suc at l))) (same_word (i % v) (j % v) (mod-lt i Some) (mod-lt j Some))
      ∙ add_comm _ _

-- usable words ascend
over_ascends : (o : Option Store) (i j : ℕ) → i < j → j < length (usable_over o) → get_or (usable_over o) i 0 < get_or (usable_over o) j 0
unfolding usable_words
over_ascends None i j l h = absurd (omega arith)
over_ascends (Some S) i j l h = passing-ascends (usable S) word_limit i j l h

pub apart_by_digits : (o : Option Store) (k i j : ℕ) → i < j → j < length (usable_over o) ^ k → one_digit (length (usable_over o)) k i j ≡ sentences_apart (sentences_over o k) i j
unfolding one_digit sentences_apart one_apart
apart_by_digits o k i j l h =
    let us = usable_over o in
    ap (λ (n : ℕ). eqb n 1) (sym (ap₂ differing (sentence_nth us k i (omega arith)) (sentence_nth us k j h) ∙ differing-digits us (over_ascends o) k i j (omega arith) h))
