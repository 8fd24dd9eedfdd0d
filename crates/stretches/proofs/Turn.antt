-- One turn of the loop over the sentences: the next one is handed its stretch, from a to e, and is scored or refused. Assumes nothing.
use Rattle.std.specs.declared.option.Option.{Option}
use Rattle.std.specs.declared.option.Option.TheVariants.{Some, None}
use mathlib.Core.Path.{◌≡◌, refl, sym, ap, ap₂, subst, ◌∙◌}
use mathlib.Core.Bool.{true}
use mathlib.Core.List.{List, [], ◌∷◌}
use Prim.Native.Nat.{ℕ, ◌+◌, ◌-◌, ◌%◌, ◌≤◌, ◌<◌}
use native.Mathlib.Omega.{arith}
use lib.ListN.{length, get_or, take}
use lib.IntN.{ℤ, nat_abs, ◌+ℤ◌}
use mir.Syntax.{w64}
use mir.Val.{SFits, of_z, to_z}
use mir.Facts.{to_z-of_z}
use Rattle.integer.proofs.Arithmetic.{zarith, abs, add}
use Rattle.backoff.specs.Limits.{run_limit}
use Rattle.backoff.specs.Run.{Run}
use Rattle.backoff.specs.Store.{Store}
use Rattle.double_array.specs.DoubleArray.{opened}
use Rattle.sentence_ends.specs.Ends.{last_end, bad_end}
use Rattle.sentence_ends.proofs.Ends.{last_end-next, good-end, good-last}
use Rattle.closed_sentence.specs.declared.Sentence.{Sentence}
use Rattle.closed_sentence.specs.Sentence.{closed, is_scored, sentence_total}
use Rattle.closed_sentence.specs.Inner.{SentenceIs}
use Rattle.closed_sentence.proofs.Calls.{closed-one, sentence-whole, sentence-refused, total_limit, sentence-total_small, total-back}
use Rattle.stretches.specs.declared.Counts.{Counts}
use Rattle.stretches.specs.Stretches.{stretch, sentence}
use Rattle.stretches.specs.Inner.{counted, OneRefused}
use Rattle.stretches.proofs.Stretches.{length-stretch}
use Rattle.stretches.proofs.Sentences.{put_back, Batching, batching_on, batching_refused}

-- a stretch lies within slices of so many items
pub record Within (a e words points lengths : ℕ) : Type 0 where
  pub below : a ≤ e
  pub in_words : e ≤ words
  pub in_points : e ≤ points
  pub in_lengths : e ≤ lengths

-- the turn of the i-th sentence: those before it are scored, and nothing refuses the sheet early
pub record Turn (base check : List ℤ) (ends : List ℕ) (r : Run) (a i : ℕ) (total : ℤ) (points : List ℤ) (lengths : List ℕ) (counts : Counts) (e : ℕ) : Type 0 where
  pub so_far : Batching (opened base check) ends r a i total points lengths counts
  pub inside : i < length ends
  pub end_is : e ≡ get_or ends i 0
  pub good : bad_end (length r.words) 1 0 ends ≡ 0
  pub few_words : length r.words ≤ run_limit
  pub few-ends : length ends ≤ run_limit
  pub in_points : last_end 0 ends ≤ length r.points
  pub in_lengths : last_end 0 ends ≤ length r.lengths

pub turn-of : (base check : List ℤ) (ends : List ℕ) (r : Run) {a i : ℕ} {total : ℤ} {points : List ℤ} {lengths : List ℕ} {counts : Counts} → Batching (opened base check) ends r a i total points lengths counts → i < length ends → bad_end (length r.words) 1 0 ends ≡ 0 → length r.words ≤ run_limit → (length ends ≤ run_limit) × ((last_end 0 ends ≤ length r.points) × (last_end 0 ends ≤ length r.lengths)) → Turn base check ends r a i total points lengths counts (get_or ends i 0)
turn-of base check ends r b h good few reach = record { so_far = b; inside = h; end_is = refl; good = good; few_words = few; few-ends = reach.0; in_points = reach.1.0; in_lengths = reach.1.1 }

-- what the call over its stretch answered, and left there
pub record Answered (base check : List ℤ) (words : List ℕ) (points : List ℤ) (lengths : List ℕ) (a e : ℕ) (answer : Option Sentence) (ps : List ℤ) (bs : List ℕ) : Type 0 where
  pub is : SentenceIs (opened base check) (record { words = stretch a e words; points = stretch a e points; lengths = stretch a e lengths }) answer ps bs
  pub points_kept : length ps ≡ length (stretch a e points)
  pub lengths-kept : length bs ≡ length (stretch a e lengths)

module _ {base check : List ℤ} {ends : List ℕ} {r : Run} {a i : ℕ} {total : ℤ} {points : List ℤ} {lengths : List ℕ} {counts : Counts} {e : ℕ} (t : Turn base check ends r a i total points lengths counts e) where
  abbrev o : Option Store
  o = opened base check

  last : e ≤ last_end 0 ends
  last = omega (arith, t.end_is, last_end-next 0 ends i t.inside, good-last (length r.words) 0 0 ends (i + 1) t.good)

  pub next-within : Within a e (length r.words) (length points) (length lengths)
  next-within =
      let g = good-end (length r.words) 0 0 ends i t.good t.inside in
      record {
        below = omega (arith, t.end_is, t.so_far.a_is, g.0);
        in_words = omega (arith, t.end_is, g.1);
        in_points = omega (arith, last, t.in_points, t.so_far.points-done.long);
        in_lengths = omega (arith, last, t.in_lengths, t.so_far.lengths-done.long);
      }

  words_long : length (stretch a e r.words) ≡ e - a
  words_long = length-stretch a e r.words next-within.below next-within.in_words

  points-long : length (stretch a e points) ≡ e - a
  points-long = length-stretch a e points next-within.below next-within.in_points

  lengths-long : length (stretch a e lengths) ≡ e - a
  lengths-long = length-stretch a e lengths next-within.below next-within.in_lengths

  -- the stretches have room for its words
  pub next-room : (length (stretch a e r.words) ≤ run_limit) × ((length (stretch a e r.words) ≤ length (stretch a e points)) × (length (stretch a e r.words) ≤ length (stretch a e lengths)))
  next-room = (omega (arith, words_long, next-within.in_words, t.few_words), (omega (arith, words_long, points-long), omega (arith, words_long, lengths-long)))

  -- no counter is full
  pub next-counts : (k : ℕ) → (get_or counts.matched k 0 < 4294967295) × (counts.unknown < 4294967295)
  next-counts k = (omega (arith, t.so_far.counts_small.matched k, t.inside, t.few-ends), omega (arith, t.so_far.counts_small.unknown, t.inside, t.few-ends))

  -- what it is lent is what stood there at first
  lent_is : record { words = stretch a e r.words; points = stretch a e points; lengths = stretch a e lengths } ≡ sentence a e r
  lent_is =
      ap₂ (λ (ps : List ℤ) (bs : List ℕ). record { words = stretch a e r.words; points = ps; lengths = bs }) (ap (take (e - a)) t.so_far.points-done.past) (ap (take (e - a)) t.so_far.lengths-done.past)

  module _ {answer : Option Sentence} {ps : List ℤ} {bs : List ℕ} (w : Answered base check r.words points lengths a e answer ps bs) where
    next-is : SentenceIs o (sentence a e r) answer ps bs
    next-is = subst (λ (q : Run). SentenceIs o q answer ps bs) lent_is w.is

    pub turn-refused : answer ≡ None → OneRefused o ends r i (put_back a e ps points) (put_back a e bs lengths)
    turn-refused n =
        batching_refused o ends r a i total points lengths counts t.so_far t.inside e t.end_is t.good t.in_points t.in_lengths
        (sentence-refused o (sentence a e r) (sym n ∙ next-is.answer-is)) ps (w.points_kept ∙ points-long) bs (w.lengths-kept ∙ lengths-long)

    module _ (u : Sentence) (whole : answer ≡ Some u) where
      abbrev y : ℤ
      y = u.total

      abbrev c : ℕ
      c = u.closing

      scored : (is_scored o (sentence a e r) ≡ true) × ((y ≡ sentence_total o (sentence a e r)) × (c ≡ get_or (closed o (sentence a e r)).lengths 0 0))
      scored = let s = sentence-whole o (sentence a e r) u (sym whole ∙ next-is.answer-is) in (s.0, (ap (λ (v : Sentence). v.total) s.1, ap (λ (v : Sentence). v.closing) s.1))

      total_small : nat_abs y ≤ total_limit
      total_small = rw scored.1.0 (sentence-total_small base check (sentence a e r))

      -- its total is added to those before
      pub next_fits : SFits w64 (total +ℤ to_z w64 (of_z w64 y))
      next_fits = rw (total-back y total_small) (omega (zarith, add total y, abs total, abs y, t.so_far.total_small, total_small, t.inside, t.few-ends))

      next-added : to_z w64 (of_z w64 (total +ℤ to_z w64 (of_z w64 y))) ≡ total +ℤ y
      next-added = to_z-of_z next_fits ∙ ap (λ (v : ℤ). total +ℤ v) (total-back y total_small)

      pub turn_on : (more : Counts) → more ≡ counted (c % 8) counts → Batching o ends r e (i + 1) (to_z w64 (of_z w64 (total +ℤ to_z w64 (of_z w64 y)))) (put_back a e ps points) (put_back a e bs lengths) more
      turn_on more m =
          let q = sentence a e r in
          rw (next-added, m, scored.1.0)
          (batching_on o ends r a i total points lengths counts t.so_far t.inside e t.end_is next-within.below (omega (arith, last, t.in_points)) (omega (arith, last, t.in_lengths)) scored.0
          ps (w.points_kept ∙ points-long) (next-is.points_are scored.0) bs (w.lengths-kept ∙ lengths-long) (next-is.lengths_are scored.0) (sentence-total_small base check q) c (closed-one o q ∙ ap (λ (k : ℕ). k ∷ []) (sym scored.1.1)))
