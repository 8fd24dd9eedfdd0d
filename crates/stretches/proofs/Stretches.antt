-- Stretches of a slice: how long they are, and that what is made of each sentence stands at the sentence's stretch of the whole. Assumes nothing.
use Rattle.std.specs.declared.option.Option.{Option}
use mathlib.Core.Path.{◌≡◌, refl, sym, ap, ap₂, ◌∙◌}
use mathlib.Core.List.{List, [], ◌∷◌, ◌++◌, map, append_assoc}
use Prim.Native.Nat.{ℕ, zero, suc, ◌+◌, ◌-◌, ◌≤◌, ◌<◌}
use native.Mathlib.Omega.{arith}
use lib.ListN.{length, take, drop, get_or, length-append, length-drop}
use lib.Seq.{take_at, length-take-le, drop-append-add}
use Rattle.backoff.specs.Run.{Run}
use Rattle.backoff.specs.Runs.{flat}
use Rattle.backoff.specs.Store.{Store}
use Rattle.sentence_ends.specs.Ends.{last_end, bad_end}
use Rattle.sentence_ends.proofs.Ends.{good-end, good_tail, good-below}
use Rattle.closed_sentence.specs.Sentence.{words_run}
use Rattle.closed_sentence.proofs.Calls.{words_keep, closed-one}
use Rattle.stretches.specs.Stretches.{stretch, sentence, sentences, word_points, word_bytes, closing_bytes}

pub length-stretch : {A : Type 0} (a e : ℕ) (l : List A) → a ≤ e → e ≤ length l → length (stretch a e l) ≡ e - a
length-stretch a e l h k = length-take-le (e - a) (drop a l) (omega (arith, length-drop a l))

-- a stretch behind n items
stretch-behind : {A : Type 0} (n a e : ℕ) (xs ys : List A) → length xs ≡ n → stretch (n + a) (n + e) (xs ++ ys) ≡ stretch a e ys
stretch-behind n a e xs ys h =
    let k : n + e - (n + a) ≡ e - a = omega arith in
    rw k (ap (take (e - a)) (rw (sym h) (drop-append-add xs ys a)))

-- what holds of every stretch within the words and so much room holds of all sentences
pub map-sentences : {B : Type 0} (r : Run) (room : ℕ) (f g : Run → B) → ((a e : ℕ) → a ≤ e → e ≤ length r.words → e ≤ room → f (sentence a e r) ≡ g (sentence a e r)) → (k a : ℕ) (es : List ℕ) → bad_end (length r.words) (suc k) a es ≡ 0 → last_end a es ≤ room → map f (sentences a es r) ≡ map g (sentences a es r)
unfolding sentences last_end
map-sentences r room f g each k a [] b h = refl
map-sentences {B} r room f g each k a (e ∷ es) b h =
    let t = good_tail (length r.words) k a e es b in
    let within = good-end (length r.words) k a (e ∷ es) 0 b (omega arith) in
    ap₂ (λ (x : B) (l : List B). x ∷ l) (each a e t.0 within.1 (omega (arith, t.1.0))) (map-sentences r room f g each (suc k) e es t.1.1 h)

-- f makes of a sentence as many items as it has words
module _ {A : Type 0} (r : Run) (f : Run → List A) (room : ℕ) (each : (a e : ℕ) → a ≤ e → e ≤ room → length (f (sentence a e r)) ≡ e - a) where
  length-all : (k a : ℕ) (es : List ℕ) → bad_end (length r.words) (suc k) a es ≡ 0 → last_end a es ≤ room → a + length (flat (map f (sentences a es r))) ≡ last_end a es
  unfolding sentences flat last_end
  length-all k a [] g h = omega arith
  length-all k a (e ∷ es) g h =
      let t = good_tail (length r.words) k a e es g in
      omega (arith, length-append (f (sentence a e r)) (flat (map f (sentences e es r))), each a e t.0 (omega (arith, t.1.0)), length-all (suc k) e es t.1.1 h, t.0)

  -- the i-th sentence's items lie at its stretch
  stretch-all : (k a : ℕ) (es : List ℕ) (i : ℕ) (past : List A) → bad_end (length r.words) (suc k) a es ≡ 0 → last_end a es ≤ room → i < length es
      → stretch (last_end a (take i es) - a) (get_or es i 0 - a) (flat (map f (sentences a es r)) ++ past) ≡ f (sentence (last_end a (take i es)) (get_or es i 0) r)
  unfolding sentences flat last_end
  stretch-all k a [] i past g h l = absurd (omega arith)
  stretch-all k a (e ∷ es) zero past g h l =
      let t = good_tail (length r.words) k a e es g in
      let own = f (sentence a e r) in
      let others = flat (map f (sentences e es r)) in
      let n : e - a - (a - a) ≡ e - a = omega arith in
      let z : a - a ≡ 0 = omega arith in
      rw (n, z) (ap (take (e - a)) (append_assoc own others past) ∙ take_at own (others ++ past) (e - a) (each a e t.0 (omega (arith, t.1.0))))
  stretch-all k a (e ∷ es) (suc i) past g h l =
      let t = good_tail (length r.words) k a e es g in
      let own = f (sentence a e r) in
      let others = flat (map f (sentences e es r)) in
      let b = good-end (length r.words) (suc k) e es i t.1.1 (omega arith) in
      let low = good-below (length r.words) (suc k) e es i t.1.1 in
      let p : last_end e (take i es) - a ≡ e - a + (last_end e (take i es) - e) = omega (arith, t.0, low) in
      let q : get_or es i 0 - a ≡ e - a + (get_or es i 0 - e) = omega (arith, t.0, low, b.0) in
      rw (p, q)
      (ap (stretch (e - a + (last_end e (take i es) - e)) (e - a + (get_or es i 0 - e))) (append_assoc own others past)
      ∙ stretch-behind (e - a) (last_end e (take i es) - e) (get_or es i 0 - e) own (others ++ past) (each a e t.0 (omega (arith, t.1.0)))
      ∙ stretch-all (suc k) e es i past t.1.1 h (omega arith))

  pub stretch-whole : (es : List ℕ) (i : ℕ) (past : List A) → bad_end (length r.words) 1 0 es ≡ 0 → last_end 0 es ≤ room → i < length es → stretch (last_end 0 (take i es)) (get_or es i 0) (flat (map f (sentences 0 es r)) ++ past) ≡ f (sentence (last_end 0 (take i es)) (get_or es i 0) r)
  stretch-whole es i past g h l =
      let p : last_end 0 (take i es) - 0 ≡ last_end 0 (take i es) = omega arith in
      let q : get_or es i 0 - 0 ≡ get_or es i 0 = omega arith in
      ap₂ (λ (a e : ℕ). stretch a e (flat (map f (sentences 0 es r)) ++ past)) (sym p) (sym q) ∙ stretch-all 0 0 es i past g h l

-- ---- how many items all sentences have

pub closing_long : (o : Option Store) (rs : List Run) → length (closing_bytes o rs) ≡ length rs
unfolding closing_bytes flat
closing_long o [] = refl
closing_long o (r ∷ rs) = rw (closed-one o r) (ap suc (closing_long o rs))

module _ (o : Option Store) (r : Run) where
  -- what the words of one sentence leave is as long as their stretch
  pub points-each : (a e : ℕ) → a ≤ e → e ≤ length r.points → length (words_run o (sentence a e r)).points ≡ e - a
  points-each a e h k = (words_keep o (sentence a e r)).points ∙ length-stretch a e r.points h k

  pub bytes-each : (a e : ℕ) → a ≤ e → e ≤ length r.lengths → length (words_run o (sentence a e r)).lengths ≡ e - a
  bytes-each a e h k = (words_keep o (sentence a e r)).lengths ∙ length-stretch a e r.lengths h k

  -- and that of all words reaches to the last end
  pub points-long : (es : List ℕ) → bad_end (length r.words) 1 0 es ≡ 0 → last_end 0 es ≤ length r.points → length (word_points o (sentences 0 es r)) ≡ last_end 0 es
  unfolding word_points
  points-long es g h = omega (arith, length-all r (λ q. (words_run o q).points) (length r.points) points-each 0 0 es g h)

  pub bytes-long : (es : List ℕ) → bad_end (length r.words) 1 0 es ≡ 0 → last_end 0 es ≤ length r.lengths → length (word_bytes o (sentences 0 es r)) ≡ last_end 0 es
  unfolding word_bytes
  bytes-long es g h = omega (arith, length-all r (λ q. (words_run o q).lengths) (length r.lengths) bytes-each 0 0 es g h)
