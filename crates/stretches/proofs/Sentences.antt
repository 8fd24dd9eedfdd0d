-- Sentence by sentence, as the code's loop has them: those before the i-th are scored, each on its own stretch, and the others are left. Assumes
-- nothing.
use Rattle.std.specs.declared.option.Option.{Option}
use mathlib.Core.Path.{◌≡◌, refl, sym, ap, ap₂, ◌∙◌}
use mathlib.Core.Bool.{true, false, cond}
use mathlib.Core.List.{List, [], ◌∷◌, ◌++◌, map, append_assoc, map-append}
use Prim.Native.Nat.{ℕ, suc, ◌+◌, ◌*◌, ◌-◌, ◌%◌, ◌≤◌, ◌<◌}
use native.Mathlib.Numerals.{add-one}
use native.Mathlib.Omega.{arith}
use lib.ListN.{length, take, drop, get_or, length-append, length-drop, take-append-drop, drop_of_length-le}
use lib.Seq.{take_at, drop_at, drop-drop, drop-cons, take-suc, take_all, length-take-le}
use lib.IntN.{ℤ, pos, nat_abs, ◌+ℤ◌, +ℤ_idr}
use Rattle.integer.specs.Integer.{sum}
use Rattle.integer.proofs.Arithmetic.{abs, add}
use Rattle.integer.proofs.Parts.{drop_more}
use Rattle.integer.proofs.Sums.{sum_append}
use Rattle.backoff.specs.Run.{Run}
use Rattle.backoff.specs.Runs.{flat}
use Rattle.backoff.specs.Store.{Store}
use Rattle.backoff.proofs.Runs.{flat-one}
use Rattle.sentence_ends.specs.Ends.{last_end, bad_end}
use Rattle.sentence_ends.proofs.Ends.{last_end-next, good-end, good-last}
use Rattle.closed_sentence.specs.Sentence.{words_run, closed, is_scored, sentence_total}
use Rattle.closed_sentence.proofs.Calls.{total_limit}
use Rattle.stretches.specs.declared.Counts.{Counts}
use Rattle.stretches.specs.Stretches.{sentence, sentences, word_points, word_bytes, closing_bytes, total_of, first_refused}
use Rattle.stretches.specs.Inner.{counted, Tallied, AllScored, OneRefused}
use Rattle.stretches.proofs.Counters.{Small, tallied_small, tallied_closing, counted_small}

-- ---- sentences in two parts

sentences_append : (a : ℕ) (es fs : List ℕ) (r : Run) → sentences a (es ++ fs) r ≡ sentences a es r ++ sentences (last_end a es) fs r
unfolding sentences last_end
sentences_append a [] fs r = refl
sentences_append a (e ∷ es) fs r = ap (λ (rs : List Run). sentence a e r ∷ rs) (sentences_append e es fs r)

sentences-next : (a : ℕ) (es : List ℕ) (i : ℕ) (r : Run) → i < length es → sentences a (take (i + 1) es) r ≡ sentences a (take i es) r ++ (sentence (last_end a (take i es)) (get_or es i 0) r ∷ [])
sentences-next a es i r h = rw (add-one i, take-suc es i 0 h) (sentences_append a (take i es) (get_or es i 0 ∷ []) r ∙ (unfold sentences in refl))

module _ (o : Option Store) (rs : List Run) (q : Run) where
  word_points-one : word_points o (rs ++ (q ∷ [])) ≡ word_points o rs ++ (words_run o q).points
  unfolding word_points
  word_points-one = ap flat (map-append (λ r. (words_run o r).points) rs (q ∷ [])) ∙ flat-one (map (λ r. (words_run o r).points) rs) (words_run o q).points

  word_bytes-one : word_bytes o (rs ++ (q ∷ [])) ≡ word_bytes o rs ++ (words_run o q).lengths
  unfolding word_bytes
  word_bytes-one = ap flat (map-append (λ r. (words_run o r).lengths) rs (q ∷ [])) ∙ flat-one (map (λ r. (words_run o r).lengths) rs) (words_run o q).lengths

  closing_bytes-one : closing_bytes o (rs ++ (q ∷ [])) ≡ closing_bytes o rs ++ (closed o q).lengths
  unfolding closing_bytes
  closing_bytes-one = ap flat (map-append (λ r. (closed o r).lengths) rs (q ∷ [])) ∙ flat-one (map (λ r. (closed o r).lengths) rs) (closed o q).lengths

  total_of-one : total_of o (rs ++ (q ∷ [])) ≡ total_of o rs +ℤ sentence_total o q
  unfolding total_of
  total_of-one =
      ap sum (map-append (sentence_total o) rs (q ∷ []))
      ∙ sum_append (map (sentence_total o) rs) (sentence_total o q ∷ [])
      ∙ ap (λ (z : ℤ). sum (map (sentence_total o) rs) +ℤ z) (+ℤ_idr (sentence_total o q))

pub sentences-long : (a : ℕ) (es : List ℕ) (r : Run) → length (sentences a es r) ≡ length es
unfolding sentences
sentences-long a [] r = refl
sentences-long a (e ∷ es) r = ap suc (sentences-long e es r)

-- ---- a stretch that comes back into its slice

-- a slice with another stretch from the a-th item up to the e-th, as the language lends it
abbrev pub put_back : {A : Type 0} → ℕ → ℕ → List A → List A → List A
put_back a e new l = take a l ++ (new ++ drop (e - a) (drop a l))

module _ {A : Type 0} (a e : ℕ) (new l : List A) (below : a ≤ e) (within : e ≤ length l) (long : length new ≡ e - a) where
  front_long : length (take a l ++ new) ≡ e
  front_long = omega (arith, length-append (take a l) new, length-take-le a l (omega arith))

  front-first : put_back a e new l ≡ (take a l ++ new) ++ drop (e - a) (drop a l)
  front-first = sym (append_assoc (take a l) new (drop (e - a) (drop a l)))

  take_back : take e (put_back a e new l) ≡ take a l ++ new
  take_back = ap (take e) front-first ∙ take_at (take a l ++ new) (drop (e - a) (drop a l)) e front_long

  drop-back : drop e (put_back a e new l) ≡ drop e l
  drop-back =
      let q : a + (e - a) ≡ e = omega arith in
      ap (drop e) front-first ∙ drop_at (take a l ++ new) (drop (e - a) (drop a l)) e front_long ∙ drop-drop (e - a) a l ∙ ap (λ (k : ℕ). drop k l) q

  length_back : length (put_back a e new l) ≡ length l
  length_back = ap length front-first ∙ length-append (take a l ++ new) (drop (e - a) (drop a l)) ∙ omega (arith, front_long, length-drop (e - a) (drop a l), length-drop a l)

-- what has become of a slice whose first a items are done
pub record Done {A : Type 0} (a : ℕ) (done l₀ l : List A) : Type 0 where
  pub front : take a l ≡ done
  pub past : drop a l ≡ drop a l₀
  pub long : length l ≡ length l₀

module _ {A : Type 0} (a e : ℕ) (done l₀ l new : List A) (below : a ≤ e) (within : e ≤ length l₀) (long : length new ≡ e - a) (d : Done a done l₀ l) where
  done_more : Done e (done ++ new) l₀ (put_back a e new l)
  done_more = record {
    front = take_back a e new l below (omega (arith, d.long)) long ∙ ap (λ (t : List A). t ++ new) d.front;
    past = drop-back a e new l below (omega (arith, d.long)) long ∙ drop_more a e l l₀ below d.past;
    long = length_back a e new l below (omega (arith, d.long)) long ∙ d.long;
  }

done_all : {A : Type 0} (a : ℕ) (done l₀ l : List A) → Done a done l₀ l → l ≡ done ++ drop a l₀
done_all a done l₀ l d = sym (take-append-drop a l) ∙ ap₂ (λ x y. x ++ y) d.front d.past

-- ---- the loop

module _ (o : Option Store) (ends : List ℕ) (r : Run) where
  abbrev before : ℕ → List Run
  before i = sentences 0 (take i ends) r

  -- the sentences before the i-th are scored, and a words with them
  pub record Batching (a i : ℕ) (total : ℤ) (points : List ℤ) (lengths : List ℕ) (counts : Counts) : Type 0 where
    pub at : i ≤ length ends
    pub a_is : a ≡ last_end 0 (take i ends)
    pub rest : first_refused o 1 (sentences 0 ends r) ≡ first_refused o (suc i) (sentences a (drop i ends) r)
    pub points-done : Done a (word_points o (before i)) r.points points
    pub lengths-done : Done a (word_bytes o (before i)) r.lengths lengths
    pub total-is : total ≡ total_of o (before i)
    pub total_small : nat_abs total ≤ i * total_limit
    pub tallied : Tallied (closing_bytes o (before i)) [] counts
    pub counts_small : Small counts i

  pub batching_begins : (counts : Counts) → Tallied [] [] counts → Batching 0 0 (pos 0) r.points r.lengths counts
  unfolding word_points word_bytes closing_bytes total_of sentences flat last_end
  batching_begins counts t = record {
    at = omega arith;
    a_is = refl;
    rest = refl;
    points-done = record { front = refl; past = refl; long = refl };
    lengths-done = record { front = refl; past = refl; long = refl };
    total-is = refl;
    total_small = omega arith;
    tallied = t;
    counts_small = tallied_small [] [] counts t;
  }

  module _ (a i : ℕ) (total : ℤ) (points : List ℤ) (lengths : List ℕ) (counts : Counts) (b : Batching a i total points lengths counts) (h : i < length ends) (e : ℕ) (e-is : e ≡ get_or ends i 0) where
    abbrev next : Run
    next = sentence a e r

    next-left : first_refused o 1 (sentences 0 ends r) ≡ cond (is_scored o next) (first_refused o (suc (suc i)) (sentences e (drop (suc i) ends) r)) (suc i)
    next-left = b.rest ∙ (unfold first_refused sentences in rw (e-is, drop-cons ends i 0 h))

    next-before : before (i + 1) ≡ before i ++ (next ∷ [])
    next-before = sentences-next 0 ends i r h ∙ ap₂ (λ (j k : ℕ). before i ++ (sentence j k r ∷ [])) (sym b.a_is) (sym e-is)

    -- the next sentence is scored
    pub batching_on : (below : a ≤ e) (in_points : e ≤ length r.points) (in_lengths : e ≤ length r.lengths) → is_scored o next ≡ true
        → (ps : List ℤ) → length ps ≡ e - a → ps ≡ (words_run o next).points
        → (bs : List ℕ) → length bs ≡ e - a → bs ≡ (words_run o next).lengths
        → nat_abs (sentence_total o next) ≤ total_limit
        → (closing : ℕ) → (closed o next).lengths ≡ closing ∷ []
        → Batching e (i + 1) (total +ℤ sentence_total o next) (put_back a e ps points) (put_back a e bs lengths) (counted (closing % 8) counts)
    batching_on below in_points in_lengths s ps long-points points_are bs long-bytes bytes_are small closing byte_is = record {
      at = omega arith;
      a_is = e-is ∙ sym (last_end-next 0 ends i h);
      rest = next-left ∙ rw (s, add-one i);
      points-done = rw (next-before, word_points-one o (before i) next, sym points_are) (done_more a e (word_points o (before i)) r.points points ps below in_points long-points b.points-done);
      lengths-done = rw (next-before, word_bytes-one o (before i) next, sym bytes_are) (done_more a e (word_bytes o (before i)) r.lengths lengths bs below in_lengths long-bytes b.lengths-done);
      total-is = rw (next-before, total_of-one o (before i) next, sym b.total-is);
      total_small = omega (arith, add total (sentence_total o next), abs total, abs (sentence_total o next), abs (total +ℤ sentence_total o next), b.total_small);
      tallied = rw (next-before, closing_bytes-one o (before i) next, byte_is) (tallied_closing (closing_bytes o (before i)) counts b.tallied closing);
      counts_small = counted_small (closing % 8) counts b.tallied.eight i b.counts_small;
    }

    -- the next sentence is refused
    pub batching_refused : bad_end (length r.words) 1 0 ends ≡ 0 → last_end 0 ends ≤ length r.points → last_end 0 ends ≤ length r.lengths → is_scored o next ≡ false → (ps : List ℤ) → length ps ≡ e - a → (bs : List ℕ) → length bs ≡ e - a → OneRefused o ends r i (put_back a e ps points) (put_back a e bs lengths)
    batching_refused good in_points in_lengths s ps long-points bs long-bytes =
        let below : a ≤ e = omega (arith, e-is, b.a_is, (good-end (length r.words) 0 0 ends i good h).0) in
        let last : e ≤ last_end 0 ends = omega (arith, e-is, last_end-next 0 ends i h, good-last (length r.words) 0 0 ends (i + 1) good) in
        let points-done = done_more a e (word_points o (before i)) r.points points ps below (omega arith) long-points b.points-done in
        let lengths-done = done_more a e (word_bytes o (before i)) r.lengths lengths bs below (omega arith) long-bytes b.lengths-done in
        record {
          refused-is = next-left ∙ rw s;
          few = h;
          points-past = drop_more e (last_end 0 ends) _ r.points last points-done.past;
          lengths-past = drop_more e (last_end 0 ends) _ r.lengths last lengths-done.past;
          points-long = points-done.long;
          lengths-long = lengths-done.long;
        }

  -- no sentence is left
  pub batching_ends : (a i : ℕ) (total : ℤ) (points : List ℤ) (lengths : List ℕ) (counts : Counts) → Batching a i total points lengths counts → length ends ≤ i → AllScored o ends r (record { total = total; counts = counts }) points lengths
  batching_ends a i total points lengths counts b h = record {
    none-refused = b.rest ∙ (unfold first_refused sentences in rw (drop_of_length-le ends h));
    total-is = b.total-is ∙ ap (λ (es : List ℕ). total_of o (sentences 0 es r)) all;
    points_are = done_all a _ r.points points b.points-done ∙ rw (b.a_is, all);
    lengths_are = done_all a _ r.lengths lengths b.lengths-done ∙ rw (b.a_is, all);
    tallied = rw all at b.tallied;
  }
    where
      all : take i ends ≡ ends
      all = take_all i ends h
