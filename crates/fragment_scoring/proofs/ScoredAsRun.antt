-- A fragment is scored and refused as a run is that begins with nothing, over any arrays, built or not. Assumes nothing.
use Rattle.std.specs.declared.option.Option.{Option}
use Rattle.std.specs.declared.option.Option.TheVariants.{Some, None}
use mathlib.Core.Path.{◌≡◌, refl}
use mathlib.Core.Bool.{Bool, true, false, cond}
use Prim.Native.Nat.{ℕ, ◌≤◌}
use lib.ListN.{length}
use lib.Dec.{eqb, ltb}
use borrow.Author.Tests.{le-ltb}
use Rattle.backoff.specs.Limits.{run_limit}
use Rattle.backoff.specs.Refusal.{array_head, word_count}
use Rattle.backoff.specs.State.{empty}
use Rattle.backoff.specs.Run.{Run, refusal, accepted, refused_run, accepted_run}
use Rattle.backoff.specs.NineNumbers.{nine_zeros}
use Rattle.backoff.specs.Store.{Store, Ran, ran, refused_at, run_over, broken_run, ran_answer, run_outcome}
use Rattle.backoff.proofs.NineNumbers.{length-nine}
use Rattle.carried_state.proofs.Carried.{zeros_ok, zeros-empty, numbers-state_from}
use Rattle.fragments.specs.Fragment.{no_words}
use Rattle.fragments.specs.Outcome.{refused_by, crossed}
use Rattle.fragment_scoring.specs.Outcome.{scored_as, fragment_outcome, SameResult}

module _ (r : Run) (points : length r.words ≤ length r.points) (lengths : length r.words ≤ length r.lengths) where
  -- 14 or nothing
  refusal_is : refusal r ≡ cond (ltb run_limit (length r.words)) word_count 0
  unfolding refusal
  refusal_is = rw (le-ltb (length r.points) (length r.words) points, le-ltb (length r.lengths) (length r.words) lengths)

  refused-alike : (number : ℕ) → SameResult (crossed (refused_by number 0)) (refused_run number 0 nine_zeros r)
  unfolding refused_run no_words
  refused-alike number = record { number = refl; place = refl; total = refl; state = numbers-state_from nine_zeros refl }

  ran-alike : (n : ℕ) (y : Ran) → SameResult (crossed (scored_as n r.words y)) (ran_answer nine_zeros r y)
  unfolding accepted_run broken_run no_words
  ran-alike n (ran ps bs s) = record { number = refl; place = refl; total = refl; state = numbers-state_from _ (length-nine s) }
  ran-alike n (refused_at k) = record { number = refl; place = refl; total = refl; state = numbers-state_from nine_zeros refl }

  -- "refuses by 11, 14 and 12 as a run does": number, place, total and end state, where the run's slices have room
  pub fragment-is_a_run : (o : Option Store) → SameResult (fragment_outcome o r.words) (run_outcome o nine_zeros r)
  unfolding fragment_outcome run_outcome accepted
  fragment-is_a_run None = refused-alike array_head
  fragment-is_a_run (Some S) = rw (zeros_ok S.order, zeros-empty, refusal_is) (go (ltb run_limit (length r.words)))
    where
      y : Ran
      y = run_over S r.words empty 1

      go : (b : Bool) → SameResult (crossed (cond b (refused_by word_count 0) (scored_as S.order r.words y))) (cond (eqb (cond b word_count 0) 0) (ran_answer nine_zeros r y) (refused_run (cond b word_count 0) 0 nine_zeros r))
      go true = refused-alike word_count
      go false = ran-alike S.order y
