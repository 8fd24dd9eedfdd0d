-- Every scored word has a matched length of 1 to 5, so that the five counts make words and sentences. Assumes nothing.
use Rattle.std.specs.declared.option.Option.{Option}
use mathlib.Core.Path.{◌≡◌, refl, sym, ◌∙◌}
use mathlib.Core.Bool.{Bool, true, false, cond}
use mathlib.Core.List.{List, [], ◌∷◌, ◌++◌}
use Prim.Native.Nat.{ℕ, zero, suc, ◌+◌, ◌%◌, ◌≤◌, ◌<◌}
use native.Mathlib.Omega.{arith}
use lib.ListN.{length, length-append}
use lib.Seq.{take_all}
use lib.IntN.{ℤ}
use lib.Dec.{eqb}
use borrow.Author.Tests.{eqb-true}
use Rattle.backoff.specs.Limits.{order_limit}
use Rattle.backoff.specs.Refusal.{array_head, bad_state}
use Rattle.backoff.specs.Model.{Model, in_backoff, backoff, reach}
use Rattle.backoff.specs.Rule.{replaced}
use Rattle.backoff.specs.Counts.{has_matched, count}
use Rattle.backoff.specs.State.{State, matched_from, extended_from, step_byte, step_next}
use Rattle.backoff.specs.Run.{Run, refused_run, run_bytes}
use Rattle.backoff.specs.Runs.{flat}
use Rattle.backoff.specs.NineNumbers.{state_in, state_ok}
use Rattle.backoff.specs.Store.{Store, model_in, run_in, run_outcome}
use Rattle.backoff.proofs.Counts.{count_append, byte_matched}
use Rattle.backoff.proofs.State.{walk_le}
use Rattle.backoff.proofs.NineNumbers.{Bounded, state_ok_bounded, step_next_bounded}
use Rattle.backoff.proofs.Slices.{run_outcome_keeps}
use Rattle.double_array.specs.DoubleArray.{is_array, store_in, opened}
use Rattle.double_array.proofs.DoubleArray.{opened_some, opened-none, opened-order}
use Rattle.word_walk.specs.Rows.{array_model}
use Rattle.word_walk.proofs.Rows.{rows-in_backoff}
use Rattle.score.specs.Answers.{started_over}
use Rattle.score.proofs.Outcomes.{run_means}
use Rattle.sentence_ends.specs.Ends.{last_end, bad_end}
use Rattle.sentence_ends.proofs.Ends.{good-end, good_tail}
use Rattle.closed_sentence.specs.Sentence.{closing_run, words_run, closed}
use Rattle.closed_sentence.proofs.Calls.{scored-parts}
use Rattle.stretches.specs.Stretches.{sentence, sentences, word_bytes, closing_bytes, first_refused}
use Rattle.stretches.proofs.Stretches.{length-stretch, bytes-each}
use Rattle.stretches.proofs.FirstRefused.{refused_none}

-- bytes whose matched lengths lie in 1 to 5: the five counts are all of them
abbrev pub five_counts : List ℕ → ℕ
five_counts bs = count (has_matched 1) bs + count (has_matched 2) bs + count (has_matched 3) bs + count (has_matched 4) bs + count (has_matched 5) bs

five_append : (bs cs : List ℕ) → five_counts (bs ++ cs) ≡ five_counts bs + five_counts cs
five_append bs cs =
    omega (arith, count_append (has_matched 1) bs cs, count_append (has_matched 2) bs cs, count_append (has_matched 3) bs cs, count_append (has_matched 4) bs cs, count_append (has_matched 5) bs cs)

-- one byte is counted by the one that is its matched length
five-one : (b : ℕ) (bs : List ℕ) → 1 ≤ b % 8 → b % 8 ≤ 5 → five_counts (b ∷ bs) ≡ 1 + five_counts bs
unfolding count
five-one b bs low high = go (b % 8) low high
  where
    go : (m : ℕ) → 1 ≤ m → m ≤ 5 → (cond (eqb m 1) 1 0 + count (has_matched 1) bs) + (cond (eqb m 2) 1 0 + count (has_matched 2) bs) + (cond (eqb m 3) 1 0 + count (has_matched 3) bs) + (cond (eqb m 4) 1 0 + count (has_matched 4) bs) + (cond (eqb m 5) 1 0 + count (has_matched 5) bs) ≡ 1 + five_counts bs
    go zero l h = absurd (omega arith)
    go (suc zero) l h = omega arith
    go (suc (suc zero)) l h = omega arith
    go (suc (suc (suc zero))) l h = omega arith
    go (suc (suc (suc (suc zero)))) l h = omega arith
    go (suc (suc (suc (suc (suc zero))))) l h = omega arith
    go (suc (suc (suc (suc (suc (suc m)))))) l h = absurd (omega arith)

module _ (M : Model) (in_backoff_lem : (l : List ℕ) → in_backoff (backoff M l) ≡ true) (order : reach M < order_limit) where
  step-matched : (s : State) (w : ℕ) → Bounded (reach M) s → (1 ≤ step_byte M s w % 8) × (step_byte M s w % 8 ≤ 5)
  unfolding step_byte matched_from
  step-matched s w b =
      let v = replaced M w in
      let k = walk_le M v s.words in
      let e = byte_matched (matched_from M s v) v (extended_from M s v) (omega (arith, k, b.few)) in
      (omega (arith, e), omega (arith, e, k, b.few))

  five-run_bytes : (ws : List ℕ) (s : State) → Bounded (reach M) s → five_counts (run_bytes M s ws) ≡ length ws
  unfolding run_bytes
  five-run_bytes [] s b = unfold count in refl
  five-run_bytes (w ∷ ws) s b =
      let t = step-matched s w b in
      five-one (step_byte M s w) (run_bytes M (step_next M s w) ws) t.0 t.1 ∙ omega (arith, five-run_bytes ws (step_next M s w) (step_next_bounded M in_backoff_lem s w))

module _ (base check : List ℤ) (l : List ℤ) (r : Run) where
  abbrev S : Store
  S = store_in base check

  -- a run is accepted from a state that passes check 16 alone
  accepted_bounded : (run_outcome (opened base check) l r).number ≡ 0 → Bounded (reach (array_model base check)) (state_in l) × (reach (array_model base check) < order_limit)
  unfolding run_outcome refused_run
  accepted_bounded = go (eqb (length l) 9) refl (is_array base check) refl (state_ok S.order l) refl
    where
      go : (t : Bool) → eqb (length l) 9 ≡ t → (a : Bool) → is_array base check ≡ a → (b : Bool) → state_ok S.order l ≡ b → (cond t (run_in (opened base check) l r) (refused_run bad_state 0 l r)).number ≡ 0 → Bounded (reach (array_model base check)) (state_in l) × (reach (array_model base check) < order_limit)
      go false e a f b g z = absurd (omega arith)
      go true e false f b g z = let q : array_head ≡ 0 = rw (opened-none base check f) at z in absurd (omega arith)
      go true e true f false g z = let q : bad_state ≡ 0 = rw (opened_some base check f, g) at z in absurd (omega arith)
      go true e true f true g z =
          let n : S.order ≤ order_limit = unfold store_in in (opened-order base check f).1 in
          (unfold model_in reach in state_ok_bounded S.order l (eqb-true _ _ e) n g, unfold model_in reach in omega (arith, n))

  -- the bytes of an accepted run that fill its slice
  run-five : length r.lengths ≡ length r.words → (run_outcome (opened base check) l r).number ≡ 0 → five_counts (run_outcome (opened base check) l r).lengths ≡ length r.words
  run-five full z =
      let b = accepted_bounded z in
      let a = run_outcome (opened base check) l r in
      let long : length a.lengths ≡ length r.words = (run_outcome_keeps l r (opened base check)).lengths ∙ full in
      let bytes : a.lengths ≡ run_bytes (array_model base check) (state_in l) r.words = sym (take_all (length r.words) a.lengths (omega arith)) ∙ ((run_means base check l r).accepted z).lengths in
      rw bytes (five-run_bytes (array_model base check) (rows-in_backoff base check) b.1 r.words (state_in l) b.0)

module _ (base check : List ℤ) (r : Run) where
  abbrev o : Option Store
  o = opened base check

  words-five : (q : Run) → length q.lengths ≡ length q.words → (words_run o q).number ≡ 0 → five_counts (words_run o q).lengths ≡ length q.words
  unfolding words_run
  words-five q = run-five base check (started_over o).state q

  pub five-words : (k a : ℕ) (es : List ℕ) → bad_end (length r.words) (suc k) a es ≡ 0 → last_end a es ≤ length r.lengths → first_refused o (suc k) (sentences a es r) ≡ 0 → five_counts (word_bytes o (sentences a es r)) ≡ length (word_bytes o (sentences a es r))
  unfolding word_bytes sentences flat last_end
  five-words k a [] g h z = unfold count in refl
  five-words k a (e ∷ es) g h z =
      let t = good_tail (length r.words) k a e es g in
      let q = sentence a e r in
      let s = refused_none o q (sentences e es r) k z in
      let within = good-end (length r.words) k a (e ∷ es) 0 g (omega arith) in
      let w = length-stretch a e r.words t.0 within.1 in
      let full = length-stretch a e r.lengths t.0 (omega (arith, t.1.0)) ∙ sym w in
      let own : five_counts (words_run o q).lengths ≡ length q.words = words-five q full (scored-parts o q s.0).1.0 in
      five_append (words_run o q).lengths (word_bytes o (sentences e es r))
      ∙ omega (arith, own, w, bytes-each o r a e t.0 (omega (arith, t.1.0)), five-words (suc k) e es t.1.1 h s.1, length-append (words_run o q).lengths (word_bytes o (sentences e es r)))

  closing_five : (q : Run) → (closed o q).number ≡ 0 → five_counts (closed o q).lengths ≡ 1
  unfolding closed
  closing_five q = run-five base check (words_run o q).end closing_run refl

  pub five_closing : (k a : ℕ) (es : List ℕ) → first_refused o (suc k) (sentences a es r) ≡ 0 → five_counts (closing_bytes o (sentences a es r)) ≡ length es
  unfolding closing_bytes sentences flat
  five_closing k a [] z = unfold count in refl
  five_closing k a (e ∷ es) z =
      let q = sentence a e r in
      let s = refused_none o q (sentences e es r) k z in
      five_append (closed o q).lengths (closing_bytes o (sentences e es r)) ∙ omega (arith, closing_five q (scored-parts o q s.0).1.1, five_closing (suc k) e es s.1)
