-- The sentences of k words: each is made of the words, every such one is there, they ascend, and so each is there once. Assumes nothing.
use mathlib.Core.Path.{◌≡◌, refl, sym, ap, ◌∙◌}
use mathlib.Core.Logic.{◌⊎◌, inl, inr}
use mathlib.Core.Bool.{Bool, true, false, ◌&&◌, ◌||◌, false≢true}
use mathlib.Core.List.{List, [], ◌∷◌, ◌++◌}
use Prim.Native.Nat.{ℕ, zero, suc, ◌+◌, ◌*◌, ◌/◌, ◌%◌, ◌^◌, ◌≤◌, ◌<◌}
use native.Mathlib.Nat.{pow-zero, pow-suc, mod-lt, le-div_iff_mul-le, div-mul-le_self, div-add-mod', div-lt_iff_lt-mul, mul-add-div_right, mul-add-mod_self_right, div-eq_of_lt, mod-eq_of_lt, mul-le-mul_right}
use native.Mathlib.Decide.{ℕ_discrete}
use native.Mathlib.Omega.{arith}
use lib.Dec.{eqb, ltb}
use lib.ListN.{length, take, get_or, get_or-append}
use lib.Seq.{take-suc, take_all, length-take-le, get_or-take, get_or-append_seam}
use borrow.Author.Tests.{lt-ltb, le-ltb, eq-eqb}
use Rattle.integer.proofs.Ranges.{lt_or_ge}
use Rattle.backoff.specs.Limits.{word_limit}
use Rattle.backoff.specs.Store.{Store}
use Rattle.sentence_order.specs.Sentences.{usable, usable_words, sentences_of}
use Rattle.sentence_order.specs.ListsAll.{precedes, Ascending, ListsAll}
use Rattle.sentence_order.specs.Inner.{sentence_at}
use Rattle.sentence_order.proofs.Passing.{Among, passing-each, passing-every, passing-ascends}
use Rattle.sentence_order.proofs.Sentences.{some_word, length-sentences, sentence_nth, length-sentence_at}

-- ---- the order

precedes_itself : (s : List ℕ) → precedes s s ≡ false
unfolding precedes
precedes_itself [] = refl
precedes_itself (u ∷ s) = rw (le-ltb u u (omega arith), eq-eqb u u refl) (precedes_itself s)

-- one more word behind each
precedes_snoc : (s t : List ℕ) (x y : ℕ) → precedes s t ≡ true → precedes (s ++ (x ∷ [])) (t ++ (y ∷ [])) ≡ true
unfolding precedes
precedes_snoc [] [] x y e = absurd (false≢true e)
precedes_snoc [] (v ∷ t) x y e = absurd (false≢true e)
precedes_snoc (u ∷ s) [] x y e = absurd (false≢true e)
precedes_snoc (u ∷ s) (v ∷ t) x y e = go (ltb u v) (eqb u v) e (precedes_snoc s t x y)
  where
    go : (a b : Bool) → (a || (b && precedes s t)) ≡ true → (precedes s t ≡ true → precedes (s ++ (x ∷ [])) (t ++ (y ∷ [])) ≡ true) → (a || (b && precedes (s ++ (x ∷ [])) (t ++ (y ∷ [])))) ≡ true
    go true b e f = refl
    go false true e f = f e
    go false false e f = absurd (false≢true e)

precedes-last : (s : List ℕ) (x y : ℕ) → x < y → precedes (s ++ (x ∷ [])) (s ++ (y ∷ [])) ≡ true
unfolding precedes
precedes-last [] x y h = rw (lt-ltb x y h)
precedes-last (u ∷ s) x y h = rw (le-ltb u u (omega arith), eq-eqb u u refl) (precedes-last s x y h)

-- ---- sentences of the words us

-- w is one of the words
abbrev In : List ℕ → ℕ → Type 0
In us w = (i : ℕ) × ((i < length us) × (get_or us i 0 ≡ w))

module _ (us : List ℕ) where
  divided : (k i : ℕ) → i < length us ^ suc k → i / length us < length us ^ k
  divided k i h = (div-lt_iff_lt-mul (some_word (length us) (suc k) i (omega arith) h)).1 (rw pow-suc at h)

  -- each word of a sentence is one of us
  made_of : (k i : ℕ) → i < length us ^ k → (j : ℕ) → j < k → In us (get_or (sentence_at us k i) j 0)
  unfolding sentence_at
  made_of zero i h j l = absurd (omega arith)
  made_of (suc k) i h j l = go (lt_or_ge j k) (made_of k (i / length us) (divided k i h) j)
    where
      s : List ℕ
      s = sentence_at us k (i / length us)

      go : (j < k) ⊎ (k ≤ j) → (j < k → In us (get_or s j 0)) → In us (get_or (s ++ (get_or us (i % length us) 0 ∷ [])) j 0)
      go (inl m) ih = rw (get_or-append s (get_or us (i % length us) 0 ∷ []) 0 j (omega (arith, length-sentence_at us k (i / length us)))) (ih m)
      go (inr m) ih =
          let z : j ≡ length s = omega (arith, length-sentence_at us k (i / length us)) in
          rw (z, get_or-append_seam s (get_or us (i % length us) 0) [] 0) (i % length us, (mod-lt i (some_word (length us) (suc k) i (omega arith) h), refl))

  -- every sentence of such words has a number
  numbered : (k : ℕ) (s : List ℕ) → length s ≡ k → ((j : ℕ) → j < k → In us (get_or s j 0)) → (i : ℕ) × ((i < length us ^ k) × (sentence_at us k i ≡ s))
  unfolding sentence_at
  numbered zero [] e f = (0, (omega (arith, pow-zero (length us)), refl))
  numbered zero (x ∷ s) e f = absurd (omega arith)
  numbered (suc k) s e f =
      let r = numbered k (take k s) (length-take-le k s (omega arith)) (λ j l. rw (get_or-take k s j 0 l) (f j (omega arith))) in
      let q = f k (omega arith) in
      put r.0 r.1.0 r.1.1 q.0 q.1.0 q.1.1
    where
      whole : take k s ++ (get_or s k 0 ∷ []) ≡ s
      whole = sym (take-suc s k 0 (omega arith)) ∙ take_all (suc k) s (omega arith)

      put : (i : ℕ) → i < length us ^ k → sentence_at us k i ≡ take k s → (u : ℕ) → u < length us → get_or us u 0 ≡ get_or s k 0 → (i : ℕ) × ((i < length us ^ suc k) × (sentence_at us k (i / length us) ++ (get_or us (i % length us) 0 ∷ []) ≡ s))
      put i l p u m q =
          let v = length us in
          let some : 0 < v = omega arith in
          let d : (i * v + u) / v ≡ i = mul-add-div_right some i u ∙ omega (arith, div-eq_of_lt m) in
          let r : (i * v + u) % v ≡ u = mul-add-mod_self_right i v u ∙ mod-eq_of_lt m in
          let h : suc i * v ≤ v ^ k * v = mul-le-mul_right v l in
          (i * v + u, (rw pow-suc (omega arith), rw (d, r, p, q) whole))

  module _ (ascends : (i j : ℕ) → i < j → j < length us → get_or us i 0 < get_or us j 0) where
    ascending : (k i j : ℕ) → i < j → j < length us ^ k → precedes (sentence_at us k i) (sentence_at us k j) ≡ true
    unfolding sentence_at
    ascending zero i j l h = absurd (omega (arith, pow-zero (length us)))
    ascending (suc k) i j l h = go (ℕ_discrete (i / length us) (j / length us)) (ascending k (i / length us) (j / length us))
      where
        some : 0 < length us
        some = some_word (length us) (suc k) j (omega arith) h

        ordered : i / length us ≤ j / length us
        ordered = (le-div_iff_mul-le some).1 (omega (arith, div-mul-le_self i (length us)))

        go : Dec (i / length us ≡ j / length us) → (i / length us < j / length us → j / length us < length us ^ k → precedes (sentence_at us k (i / length us)) (sentence_at us k (j / length us)) ≡ true) → precedes (sentence_at us k (i / length us) ++ (get_or us (i % length us) 0 ∷ [])) (sentence_at us k (j / length us) ++ (get_or us (j % length us) 0 ∷ [])) ≡ true
        go (yes q) ih =
            let m : i % length us < j % length us = omega (arith, div-add-mod' i (length us), div-add-mod' j (length us), ap (λ (x : ℕ). x * length us) q) in
            rw q (precedes-last (sentence_at us k (j / length us)) _ _ (ascends (i % length us) (j % length us) m (mod-lt j some)))
        go (no q) ih = precedes_snoc (sentence_at us k (i / length us)) (sentence_at us k (j / length us)) _ _ (ih (omega (arith, ordered)) (divided k j h))

-- ---- over the usable words of a store

module _ (S : Store) (k : ℕ) where
  abbrev us : List ℕ
  us = usable_words S

  abbrev ss : List (List ℕ)
  ss = sentences_of k us

  inside : (i : ℕ) → i < length ss → i < length us ^ k
  inside i h = omega (arith, length-sentences us k)

  among : (w : ℕ) → In us w → Among (usable S) word_limit w
  unfolding usable_words
  among w m = rw (sym m.1.1) (passing-each (usable S) word_limit m.0 m.1.0)

  usable-ascends : (i j : ℕ) → i < j → j < length us → get_or us i 0 < get_or us j 0
  unfolding usable_words
  usable-ascends = passing-ascends (usable S) word_limit

  climbs : Ascending ss
  climbs i j l h = rw (sentence_nth us k i (omega (arith, inside j h)), sentence_nth us k j (inside j h)) (ascending us usable-ascends k i j l (inside j h))

  -- "each once"
  pub listed_exactly_once : ListsAll S k ss
  listed_exactly_once = record {
    sentences = λ i h.
        rw (sentence_nth us k i (inside i h))
        (record {
          size = length-sentence_at us k i;
          words = λ j l. let a = among (get_or (sentence_at us k i) j 0) (made_of us k i (inside i h) j l) in (a.low, (a.high, a.passes));
        });
    every = λ s f.
        let n = numbered us k s f.size (λ j l. let w = f.words j l in unfold usable_words in passing-every (usable S) word_limit (get_or s j 0) (record { low = w.0; high = w.1.0; passes = w.1.1 })) in
        (n.0, (omega (arith, n.1.0, length-sentences us k), sentence_nth us k n.0 n.1.0 ∙ n.1.1));
    ascending = climbs;
    once = λ i j h g e. one i j h g e (ℕ_discrete i j) (lt_or_ge i j);
  }
    where
      one : (i j : ℕ) → i < length ss → j < length ss → get_or ss i [] ≡ get_or ss j [] → Dec (i ≡ j) → (i < j) ⊎ (j ≤ i) → i ≡ j
      one i j h g e (yes q) o = q
      one i j h g e (no q) (inl l) = absurd (false≢true (sym (precedes_itself (get_or ss j [])) ∙ ap (λ (s : List ℕ). precedes s (get_or ss j [])) (sym e) ∙ climbs i j l g))
      one i j h g e (no q) (inr l) = absurd (false≢true (sym (precedes_itself (get_or ss i [])) ∙ ap (λ (s : List ℕ). precedes s (get_or ss i [])) e ∙ climbs j i (omega arith) h))
