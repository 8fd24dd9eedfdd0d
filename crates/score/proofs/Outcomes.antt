-- The outcomes of start and run mean what specs/Meaning.antt says, over any lent arrays. Assumes nothing.
use Rattle.std.specs.declared.option.Option.{Option}
use Rattle.std.specs.declared.option.Option.TheVariants.{Some, None}
use mathlib.Core.Path.{◌≡◌, refl, ap, ◌∙◌}
use mathlib.Core.Logic.{◌⊎◌, inl, inr}
use mathlib.Core.Bool.{Bool, true, false, cond, ◌||◌}
use mathlib.Core.List.{List}
use Prim.Native.Nat.{ℕ, suc, ◌<◌}
use native.Mathlib.Numerals.{one-add}
use native.Mathlib.Omega.{arith}
use lib.ListN.{length, drop, replicate, length-replicate}
use lib.Seq.{take_at, drop_at}
use lib.Dec.{eqb, ltb}
use lib.IntN.{ℤ, pos}
use borrow.Author.Tests.{eqb-true, eqb-false, eq-eqb, le-ltb, ltb-true, ltb-false}
use Rattle.backoff.specs.Limits.{run_limit, start_word}
use Rattle.backoff.specs.Refusal.{array_head, broken_node, word_count, short_slice, bad_state}
use Rattle.backoff.specs.FirstMet.{Line, FirstMet}
use Rattle.backoff.specs.State.{empty, step_next, start}
use Rattle.backoff.specs.Run.{Run, size_refusal, refusal, accepted, written, refused_run, accepted_run, run_points, run_bytes, run_end}
use Rattle.backoff.specs.NineNumbers.{nine, nine_zeros, state_in, state_ok}
use Rattle.backoff.specs.Store.{Store, word_step, step, run_over, refused_at, broken_run, ran_answer, run_in, run_outcome, refused_start, start_step, start_in, start_outcome}
use Rattle.backoff.proofs.FirstMet.{met_when, not_when, not-false, met_at, not_at}
use Rattle.backoff.proofs.Run.{Fits, fits, length-run_points, length-run_bytes}
use Rattle.backoff.proofs.Store.{stuck_at, step_is}
use Rattle.double_array.specs.DoubleArray.{is_array, order_in, store_in, opened}
use Rattle.double_array.proofs.DoubleArray.{opened_some, opened-none}
use Rattle.word_walk.specs.Rows.{array_model}
use Rattle.score.specs.Inner.{early_refusal}
use Rattle.score.specs.Meaning.{start_refusals, StartMeans, run_refusals, RunMeans}
use Rattle.score.proofs.Refusals.{start_told, start-scored, Told, first-stuck, none_stuck, first-stuck_or_none}

-- ---- the outcome of a run, by what meets it before its words are scored

module _ (l : List ℤ) (nine-long : length l ≡ 9) (r : Run) where
  sizes-refuse : size_refusal (length r.words) (length r.points) (length r.lengths) ≡ refusal r
  unfolding refusal
  sizes-refuse = refl

  pub refused_early : (o : Option Store) (number : ℕ) → number ≡ early_refusal o l (size_refusal (length r.words) (length r.points) (length r.lengths)) → (number ≡ 0 → ⊥) → run_outcome o l r ≡ refused_run number 0 l r
  unfolding run_outcome
  refused_early None number e n = rw (eq-eqb (length l) 9 nine-long, e)
  refused_early (Some S) number e n = rw (eq-eqb (length l) 9 nine-long) (go (state_ok S.order l) (accepted r) refl (e ∙ ap (λ (k : ℕ). cond (state_ok S.order l) k bad_state) sizes-refuse))
    where
      go : (t u : Bool) → accepted r ≡ u → number ≡ cond t (refusal r) bad_state → cond t (cond u (ran_answer l r (run_over S r.words (state_in l) 1)) (refused_run (refusal r) 0 l r)) (refused_run bad_state 0 l r) ≡ refused_run number 0 l r
      go true true q k = absurd (n (k ∙ eqb-true (refusal r) 0 (unfold accepted in q)))
      go true false q k = rw k
      go false u q k = rw k

-- what is known where nothing does
pub record Passed (base check : List ℤ) (l : List ℤ) (r : Run) : Type 0 where
  pub array : is_array base check ≡ true
  pub state : state_ok (order_in check) l ≡ true
  pub sizes : Fits r

module _ (base check : List ℤ) (l : List ℤ) (r : Run) (none-meets : early_refusal (opened base check) l (size_refusal (length r.words) (length r.points) (length r.lengths)) ≡ 0) where
  pub passed-all : Passed base check l r
  passed-all = go (is_array base check) refl (state_ok (order_in check) l) refl none-meets
    where
      go : (t : Bool) → is_array base check ≡ t → (u : Bool) → state_ok (order_in check) l ≡ u → early_refusal (opened base check) l (size_refusal (length r.words) (length r.points) (length r.lengths)) ≡ 0 → Passed base check l r
      go false e u f z = let q : array_head ≡ 0 = rw (opened-none base check e) at z in absurd (omega arith)
      go true e false f z = let q : bad_state ≡ 0 = unfold store_in in rw (opened_some base check e, f) at z in absurd (omega arith)
      go true e true f z = record { array = e; state = f; sizes = fits r (unfold refusal store_in in rw (opened_some base check e, f) at z) }

-- its words are scored
pub passed-run : (base check : List ℤ) (l : List ℤ) (r : Run) → Passed base check l r → length l ≡ 9 → run_outcome (opened base check) l r ≡ ran_answer l r (run_over (store_in base check) r.words (state_in l) 1)
unfolding run_outcome store_in
passed-run base check l r p e = rw (eq-eqb (length l) 9 e, opened_some base check p.array, p.state, accepted-run)
  where
    accepted-run : accepted r ≡ true
    accepted-run = unfold accepted refusal in rw (le-ltb run_limit (length r.words) p.sizes.few, le-ltb (length r.points) (length r.words) p.sizes.points, le-ltb (length r.lengths) (length r.words) p.sizes.lengths)

-- ---- the outcome of start, by what 11 says

module _ (base check : List ℤ) where
  pub start-refused : is_array base check ≡ false → start_outcome (opened base check) nine_zeros ≡ refused_start array_head
  unfolding start_outcome
  start-refused e = rw (opened-none base check e)

  -- the step at `<s>` is that of any word which is not 3
  pub start_steps : is_array base check ≡ true → start_outcome (opened base check) nine_zeros ≡ start_step (word_step (store_in base check) empty start_word)
  unfolding start_outcome step
  start_steps e = rw (opened_some base check e)

-- ---- what the outcomes mean

module _ (base check : List ℤ) where
  abbrev S : Store
  S = store_in base check

  pub start_means : (l : List ℤ) → StartMeans base check l (start_outcome (opened base check) l).number (start_outcome (opened base check) l).place (start_outcome (opened base check) l).state
  unfolding start_outcome
  start_means l = nine_or_not (eqb (length l) 9) refl
    where
      refused-start : length l ≡ 9 → (number : ℕ) → (number ≡ 0 → ⊥) → FirstMet (start_refusals base check l) number 0 → StartMeans base check l number 0 nine_zeros
      refused-start e number n v = record { verdict = v; accepted = λ z. absurd (n z); refused = λ z h. refl; untouched = λ h. absurd (h e) }

      go : length l ≡ 9 → (t : Bool) → is_array base check ≡ t → (u : Bool) → stuck_at S empty start_word ≡ u → StartMeans base check l (start_in (opened base check)).number (start_in (opened base check)).place (start_in (opened base check)).state
      go e false q u p = rw (opened-none base check q) (refused-start e array_head (λ z. omega arith) (inr (not_when (λ h. h e), inl (met_when q))))
      go e true q true p =
          rw (opened_some base check q, step_is S empty start_word, p)
          (refused-start e broken_node (λ z. omega arith) (inr (not_when (λ h. h e), inr (not-false q, inl (met_when (start_told base check p))))))
      go e true q false p =
          rw (opened_some base check q, step_is S empty start_word, p)
          (record {
            verdict = inr (not_when (λ h. h e), inr (not-false q, inr (not_when (start-scored base check p), (refl, refl))));
            accepted = λ z. unfold step_next start in refl;
            refused = λ n. absurd (n refl);
            untouched = λ h. absurd (h e);
          })

      nine_or_not : (t : Bool) → eqb (length l) 9 ≡ t → StartMeans base check l (cond t (start_in (opened base check)) (record { number = bad_state; place = 0; state = l })).number (cond t (start_in (opened base check)) (record { number = bad_state; place = 0; state = l })).place (cond t (start_in (opened base check)) (record { number = bad_state; place = 0; state = l })).state
      nine_or_not true e = go (eqb-true _ _ e) (is_array base check) refl (stuck_at S empty start_word) refl
      nine_or_not false e = let h = eqb-false _ _ e in record { verdict = inl (met_when h); accepted = λ z. absurd (omega arith); refused = λ z q. absurd (h q); untouched = λ z. refl }

  module _ (l : List ℤ) (r : Run) where
    refused-run : (number : ℕ) → (number ≡ 0 → ⊥) → FirstMet (run_refusals base check l r) number 0 → RunMeans base check l r (refused_run number 0 l r)
    unfolding refused_run
    refused-run number n v = record { verdict = v; accepted = λ e. absurd (n e); refused = λ e. (refl, refl); points-past = refl; lengths-past = refl }

    broken-run : (k : ℕ) → FirstMet (run_refusals base check l r) broken_node k → RunMeans base check l r (broken_run k l r)
    unfolding broken_run written
    broken-run k v = record {
      verdict = v;
      accepted = λ e. absurd (omega arith);
      refused = λ e. (refl, refl);
      points-past = rw (length-replicate (length r.words) (pos 0)) (drop_at (replicate (length r.words) (pos 0)) _ _ (length-replicate (length r.words) (pos 0)));
      lengths-past = rw (length-replicate {A = ℕ} (length r.words) 0) (drop_at (replicate {A = ℕ} (length r.words) 0) _ _ (length-replicate {A = ℕ} (length r.words) 0));
    }

    scored-run : FirstMet (run_refusals base check l r) 0 0 → RunMeans base check l r (accepted_run (nine (run_end (array_model base check) (state_in l) r.words)) (run_points (array_model base check) (state_in l) r.words) (run_bytes (array_model base check) (state_in l) r.words) r)
    unfolding accepted_run written
    scored-run v = record {
      verdict = v;
      accepted = λ e. record { points = take_at points _ _ long-points; lengths = take_at lengths _ _ long-lengths; total = refl; end = refl };
      refused = λ n. absurd (n refl);
      points-past = rw long-points (drop_at points _ _ long-points);
      lengths-past = rw long-lengths (drop_at lengths _ _ long-lengths);
    }
      where
        points : List ℤ
        points = run_points (array_model base check) (state_in l) r.words

        lengths : List ℕ
        lengths = run_bytes (array_model base check) (state_in l) r.words

        long-points : length points ≡ length r.words
        long-points = length-run_points (array_model base check) (state_in l) r.words

        long-lengths : length lengths ≡ length r.words
        long-lengths = length-run_bytes (array_model base check) (state_in l) r.words

    -- the lines behind 16, which are met where it is passed
    abbrev behind : List Line
    behind = drop 3 (run_refusals base check l r)

    past-state : length l ≡ 9 → is_array base check ≡ true → state_ok (order_in check) l ≡ true → (number place : ℕ) → FirstMet behind number place → FirstMet (run_refusals base check l r) number place
    past-state e p q number place v = inr (not_when (λ h. h e), inr (not-false p, inr (not-false q, v)))

    sizes-met : accepted r ≡ false → FirstMet behind (refusal r) 0
    unfolding accepted refusal
    sizes-met = go (ltb run_limit (length r.words)) refl (ltb (length r.points) (length r.words)) refl (ltb (length r.lengths) (length r.words)) refl
      where
        go : (a : Bool) → ltb run_limit (length r.words) ≡ a → (b : Bool) → ltb (length r.points) (length r.words) ≡ b → (c : Bool) → ltb (length r.lengths) (length r.words) ≡ c → eqb (cond a word_count (cond (b || c) short_slice 0)) 0 ≡ false → FirstMet behind (cond a word_count (cond (b || c) short_slice 0)) 0
        go true p b f c g h = inl (met_when (ltb-true _ _ p))
        go false p true f c g h = inr (not_when (λ z. let m = ltb-false run_limit (length r.words) p in omega arith), inl (met_when (inl (ltb-true _ _ f))))
        go false p false f true g h = inr (not_when (λ z. let m = ltb-false run_limit (length r.words) p in omega arith), inl (met_when (inr (ltb-true _ _ g))))
        go false p false f false g h = absurd (eqb-false 0 0 h refl)

    past-sizes : accepted r ≡ true → (number place : ℕ) → FirstMet (drop 2 behind) number place → FirstMet behind number place
    past-sizes k number place v = inr (not_when (λ z. let m = f.few in omega arith), inr (not_when short, v))
      where
        f : Fits r
        f = fits r (eqb-true (refusal r) 0 (unfold accepted in k))

        short : (length r.points < length r.words) ⊎ (length r.lengths < length r.words) → ⊥
        short (inl z) = let m = f.points in omega arith
        short (inr z) = let m = f.lengths in omega arith

    pub run_means : RunMeans base check l r (run_outcome (opened base check) l r)
    unfolding run_outcome store_in
    run_means = nine_or_not (eqb (length l) 9) refl
      where
        go : length l ≡ 9 → (t : Bool) → is_array base check ≡ t → (u : Bool) → state_ok (order_in check) l ≡ u → (v : Bool) → accepted r ≡ v → Told base check r.words (state_in l) 1 → RunMeans base check l r (run_in (opened base check) l r)
        go e false p u q v k o = rw (opened-none base check p) (refused-run array_head (λ z. omega arith) (inr (not_when (λ h. h e), inl (met_when p))))
        go e true p false q v k o = rw (opened_some base check p, q) (refused-run bad_state (λ z. omega arith) (inr (not_when (λ h. h e), inr (not-false p, inl (met_when q)))))
        go e true p true q false k o = rw (opened_some base check p, q, k) (refused-run (refusal r) (eqb-false (refusal r) 0 (unfold accepted in k)) (past-state e p q _ _ (sizes-met k)))
        go e true p true q true k (first-stuck i o t f) = rw (opened_some base check p, q, k, o ∙ ap refused_at (one-add i)) (broken-run (suc i) (past-state e p q _ _ (past-sizes k _ _ (inl (met_at i t f)))))
        go e true p true q true k (none_stuck o n) = rw (opened_some base check p, q, k, o) (scored-run (past-state e p q _ _ (past-sizes k _ _ (inr (not_at n, (refl, refl))))))

        nine_or_not : (t : Bool) → eqb (length l) 9 ≡ t → RunMeans base check l r (cond t (run_in (opened base check) l r) (refused_run bad_state 0 l r))
        nine_or_not false e = refused-run bad_state (λ z. omega arith) (inl (met_when (eqb-false _ _ e)))
        nine_or_not true e = go (eqb-true _ _ e) (is_array base check) refl (state_ok (order_in check) l) refl (accepted r) refl (first-stuck_or_none base check r.words (state_in l) 1)
