-- A sheet is the runs that a caller would make over its sentences, and each of them is refused by 12 alone. Assumes nothing.
use Rattle.std.specs.declared.option.Option.{Option}
use mathlib.Core.Path.{◌≡◌, refl, sym, ap, ◌∙◌}
use mathlib.Core.Bool.{true, false, true≢false}
use mathlib.Core.List.{List}
use Prim.Native.Nat.{ℕ, ◌+◌, ◌-◌, ◌≤◌, ◌<◌}
use native.Mathlib.Omega.{arith}
use lib.ListN.{length}
use lib.Seq.{take_all}
use lib.IntN.{ℤ}
use borrow.Author.Tests.{eq-eqb}
use Rattle.backoff.specs.Run.{Run, refusal}
use Rattle.backoff.specs.Runs.{standing, Alike}
use Rattle.backoff.specs.Store.{Store, run_outcome}
use Rattle.backoff.proofs.Runs.{AnsweredAlike}
use Rattle.backoff.proofs.Store.{run_outcome_blind}
use Rattle.double_array.specs.DoubleArray.{store_in, opened}
use Rattle.score.specs.Answers.{started_over}
use Rattle.score.specs.Meaning.{StuckSentence}
use Rattle.sentence_ends.specs.Ends.{last_end}
use Rattle.sentence_ends.proofs.Ends.{last_end-next, good-end, good-last}
use Rattle.closed_sentence.specs.Sentence.{closing_run, words_run, closed, is_scored, sentence_total}
use Rattle.closed_sentence.proofs.Calls.{words_keep, scored-parts}
use Rattle.stretches.specs.Stretches.{stretch, sentence, sentences, word_points, word_bytes, first_refused}
use Rattle.stretches.proofs.Stretches.{length-stretch, stretch-whole, points-each, bytes-each}
use Rattle.stretches.proofs.FirstRefused.{each-scored}
use Rattle.batch.specs.Sheet.{met, accepted_sheet}
use Rattle.batch.specs.Meaning.{from, to, OwnRun, IsRun}
use Rattle.batch.proofs.Outcome.{Passed, passed}
use Rattle.batch.proofs.Refusals.{fits-full, Judged, scored, refused, judged}

pub standing-whole : {A : Type 0} (q : Run) (slice : List A) {number : ℕ} → number ≡ 0 → length slice ≡ length q.words → standing number q slice ≡ slice
unfolding standing
standing-whole q slice {number} z long = rw (eq-eqb number 0 z) (take_all (length q.words) slice (omega arith))

module _ (base check : List ℤ) (ends : List ℕ) (r : Run) where
  abbrev array : Option Store
  array = opened base check

  abbrev all : List Run
  all = sentences 0 ends r

  abbrev pub own : ℕ → Run
  own i = sentence (from ends i) (to ends i) r

  module _ (m : (met array ends r).number ≡ 0) (i : ℕ) (h : i < length ends) where
    p : Passed base check ends r
    p = passed base check ends r m

    room : (from ends i ≤ to ends i) × (to ends i ≤ length r.words)
    room = good-end (length r.words) 0 0 ends i p.ends-good h

    reaches : to ends i ≤ last_end 0 ends
    reaches = omega (arith, last_end-next 0 ends i h, good-last (length r.words) 0 0 ends (i + 1) p.ends-good)

    own-words : length (own i).words ≡ to ends i - from ends i
    own-words = length-stretch (from ends i) (to ends i) r.words room.0 room.1

    own-points : length (own i).points ≡ to ends i - from ends i
    own-points = length-stretch (from ends i) (to ends i) r.points room.0 (omega (arith, reaches, p.sizes.points-reach))

    own-lengths : length (own i).lengths ≡ to ends i - from ends i
    own-lengths = length-stretch (from ends i) (to ends i) r.lengths room.0 (omega (arith, reaches, p.sizes.lengths-reach))

    pub own-own : OwnRun ends r i (own i)
    own-own = record { words = refl; full = record { points = own-points ∙ sym own-words; lengths = own-lengths ∙ sym own-words } }

    module _ (q : Run) (c : OwnRun ends r i q) where
      pub own-fits : refusal q ≡ 0
      own-fits = fits-full q (omega (arith, ap length c.words, own-words, room.1, p.sizes.few_words)) c.full

      alike : Alike (own i) q
      alike = record { words = sym c.words; room = record { points = own-points ∙ sym (c.full.points ∙ ap length c.words ∙ own-words); lengths = own-lengths ∙ sym (c.full.lengths ∙ ap length c.words ∙ own-words) } }

      answered : AnsweredAlike (own i) q (words_run array (own i)) (words_run array q)
      unfolding words_run
      answered = (run_outcome_blind array).alike (started_over array).state alike

      closed_same : closed array (own i) ≡ closed array q
      unfolding closed
      closed_same = ap (λ (l : List ℤ). run_outcome array l closing_run) answered.end

      scored-same : is_scored array q ≡ is_scored array (own i)
      unfolding is_scored
      scored-same = rw (answered.number, closed_same)

      total-same : sentence_total array (own i) ≡ sentence_total array q
      unfolding sentence_total
      total-same = rw (answered.total, closed_same)

      module _ (s : is_scored array (own i) ≡ true) where
        number-own : (words_run array (own i)).number ≡ 0
        number-own = (scored-parts array (own i) s).1.0

        number_q : (words_run array q).number ≡ 0
        number_q = sym answered.number ∙ number-own

        points-same : (words_run array (own i)).points ≡ (words_run array q).points
        points-same =
            sym (standing-whole (own i) _ number-own ((words_keep array (own i)).points ∙ own-own.full.points))
            ∙ answered.points
            ∙ standing-whole q _ number_q ((words_keep array q).points ∙ c.full.points)

        lengths-same : (words_run array (own i)).lengths ≡ (words_run array q).lengths
        lengths-same =
            sym (standing-whole (own i) _ number-own ((words_keep array (own i)).lengths ∙ own-own.full.lengths))
            ∙ answered.lengths
            ∙ standing-whole q _ number_q ((words_keep array q).lengths ∙ c.full.lengths)

  own-points-at : (m : (met array ends r).number ≡ 0) (i : ℕ) → i < length ends → stretch (from ends i) (to ends i) (accepted_sheet array ends r).points ≡ (words_run array (own i)).points
  unfolding accepted_sheet word_points
  own-points-at m i h = let f = passed base check ends r m in stretch-whole r (λ q. (words_run array q).points) (length r.points) (points-each array r) ends i _ f.ends-good f.sizes.points-reach h

  own-lengths-at : (m : (met array ends r).number ≡ 0) (i : ℕ) → i < length ends → stretch (from ends i) (to ends i) (accepted_sheet array ends r).lengths ≡ (words_run array (own i)).lengths
  unfolding accepted_sheet word_bytes
  own-lengths-at m i h = let f = passed base check ends r m in stretch-whole r (λ q. (words_run array q).lengths) (length r.lengths) (bytes-each array r) ends i _ f.ends-good f.sizes.lengths-reach h

  -- a caller's runs over the sentences of an accepted sheet
  pub each-run : (met array ends r).number ≡ 0 → first_refused array 1 all ≡ 0 → (i : ℕ) → i < length ends → (q : Run) → OwnRun ends r i q → IsRun array ends r (accepted_sheet array ends r) i q
  each-run m n i h q c =
      let s = each-scored array r 0 0 ends i n h in
      record {
        accepted = scored-same m i h q c ∙ s;
        points = own-points-at m i h ∙ points-same m i h q c s;
        lengths = own-lengths-at m i h ∙ lengths-same m i h q c s;
        total = total-same m i h q c;
      }

  -- the i-th sentence, judged
  module _ (m : (met array ends r).number ≡ 0) (i : ℕ) (h : i < length ends) where
    judged-own : Judged base check (passed base check ends r m).array (own i) (own-fits m i h (own i) (own-own m i h))
    judged-own = judged base check (passed base check ends r m).array (own i) (own-fits m i h (own i) (own-own m i h))

    pub own-stuck : is_scored array (own i) ≡ false → StuckSentence (store_in base check) (own i).words
    own-stuck e = go judged-own
      where
        go : Judged base check (passed base check ends r m).array (own i) (own-fits m i h (own i) (own-own m i h)) → StuckSentence (store_in base check) (own i).words
        go (scored s n) = absurd (true≢false (sym s ∙ e))
        go (refused s b t) = t

    pub own-scored : is_scored array (own i) ≡ true → StuckSentence (store_in base check) (own i).words → ⊥
    own-scored e = go judged-own
      where
        go : Judged base check (passed base check ends r m).array (own i) (own-fits m i h (own i) (own-own m i h)) → StuckSentence (store_in base check) (own i).words → ⊥
        go (scored s n) = n
        go (refused s b t) = absurd (true≢false (sym e ∙ s))
