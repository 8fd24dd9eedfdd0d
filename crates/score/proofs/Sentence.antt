-- A sentence that is scored from `<s>`: check 16 lets every state pass that it comes to, so that 12 alone refuses its runs, exactly where their words meet it.
-- Assumes nothing.
use Rattle.std.specs.declared.option.Option.{Option}
use mathlib.Core.Path.{◌≡◌, refl, sym, ap, ◌∙◌}
use mathlib.Core.Bool.{Bool, true, false, cond}
use mathlib.Core.List.{List, [], ◌∷◌}
use Prim.Native.Nat.{ℕ, ◌≤◌}
use lib.IntN.{ℤ}
use borrow.Author.Tests.{eq-eqb}
use Rattle.backoff.specs.Limits.{order_limit, start_word}
use Rattle.backoff.specs.Refusal.{broken_node}
use Rattle.backoff.specs.Model.{Model}
use Rattle.backoff.specs.State.{State, empty, step_points, step_byte, step_next, start}
use Rattle.backoff.specs.Run.{Run, Answer, refusal, accepted, accepted_run, run_end}
use Rattle.backoff.specs.NineNumbers.{nine, nine_zeros, state_in, state_ok}
use Rattle.backoff.specs.Store.{Store, scored, stuck, model_in, broken_run, ran_answer, run_over, run_outcome, Started, start_step, start_outcome}
use Rattle.backoff.proofs.NineNumbers.{length-nine, run_end_ok, state_in-run_end}
use Rattle.backoff.proofs.Store.{stuck_at, step_is}
use Rattle.double_array.specs.DoubleArray.{is_array, order_in, store_in, opened}
use Rattle.double_array.proofs.DoubleArray.{opened_some, opened-order}
use Rattle.carried_state.proofs.Carried.{zeros_ok, zeros-empty}
use Rattle.word_walk.specs.Rows.{array_model}
use Rattle.word_walk.proofs.Rows.{rows-in_backoff, rows-in_words}
use Rattle.score.specs.Meaning.{Unwalkable, StuckWords}
use Rattle.score.proofs.Refusals.{start_told, start-scored, Told, first-stuck, none_stuck, first-stuck_or_none}
use Rattle.score.proofs.Outcomes.{start_means, run_means}

-- the number is 12 where A holds, and else 0
pub data Twelve (A : Type 0) (number : ℕ) : Type 0 where
  not-met : number ≡ 0 → (A → ⊥) → Twelve A number
  met : number ≡ broken_node → A → Twelve A number

module _ (base check : List ℤ) (array : is_array base check ≡ true) where
  abbrev S : Store
  S = store_in base check

  abbrev M : Model
  M = array_model base check

  abbrev o : Option Store
  o = opened base check

  pub start_twelve : Twelve (Unwalkable S empty start_word) (start_outcome o nine_zeros).number
  unfolding start_outcome
  start_twelve = rw (opened_some base check array, step_is S empty start_word) (go (stuck_at S empty start_word) refl)
    where
      go : (b : Bool) → stuck_at S empty start_word ≡ b → Twelve (Unwalkable S empty start_word) (start_step (cond b stuck (scored (step_points M empty start_word) (step_byte M empty start_word) (step_next M empty start_word)))).number
      go true e = met refl (start_told base check e)
      go false e = not-met refl (start-scored base check e)

  -- ---- the state that the words us leave, from start's

  order : M.order ≤ order_limit
  unfolding model_in store_in
  order = (opened-order base check array).1

  after-start : (us : List ℕ) → run_end M (state_in nine_zeros) (start_word ∷ us) ≡ run_end M (start M) us
  unfolding run_end step_next start
  after-start us = rw zeros-empty

  state_ok_lem : (us : List ℕ) → state_ok S.order (nine (run_end M (start M) us)) ≡ true
  unfolding model_in
  state_ok_lem us = rw (sym (after-start us)) (run_end_ok M (rows-in_backoff base check) (rows-in_words base check) order nine_zeros refl (zeros_ok M.order) (start_word ∷ us))

  state_in_lem : (us : List ℕ) → state_in (nine (run_end M (start M) us)) ≡ run_end M (start M) us
  state_in_lem us = rw (sym (after-start us)) (state_in-run_end M (rows-in_backoff base check) (rows-in_words base check) order nine_zeros refl (zeros_ok M.order) (start_word ∷ us))

  pub start-state : (start_outcome o nine_zeros).number ≡ 0 → (start_outcome o nine_zeros).state ≡ nine (run_end M (start M) [])
  unfolding run_end
  start-state = (start_means base check nine_zeros).accepted

  module _ (us : List ℕ) (r : Run) where
    abbrev l : List ℤ
    l = nine (run_end M (start M) us)

    pub run_twelve : refusal r ≡ 0 → Twelve (StuckWords S (run_end M (start M) us) r.words) (run_outcome o l r).number
    unfolding run_outcome accepted_run broken_run
    run_twelve f = rw (eq-eqb _ 9 (length-nine (run_end M (start M) us)), opened_some base check array, state_ok_lem us, fits, state_in_lem us) (go (first-stuck_or_none base check r.words (run_end M (start M) us) 1))
      where
        fits : accepted r ≡ true
        fits = unfold accepted in eq-eqb (refusal r) 0 f

        go : Told base check r.words (run_end M (start M) us) 1 → Twelve (StuckWords S (run_end M (start M) us) r.words) (ran_answer l r (run_over S r.words (run_end M (start M) us) 1)).number
        go (first-stuck i e t n) = rw e (met refl (i, t))
        go (none_stuck e n) = rw e (not-met refl (λ t. n t.0 t.1))

  pub run-state : (r : Run) → (run_outcome o (nine (start M)) r).number ≡ 0 → (run_outcome o (nine (start M)) r).end ≡ nine (run_end M (start M) r.words)
  unfolding run_end
  run-state r z = ((run_means base check (nine (start M)) r).accepted z).end ∙ ap (λ (s : State). nine (run_end M s r.words)) (state_in_lem [])

  -- ---- 16 passes start's answer, and that of a run from it

  module _ (s : Started) (is : s ≡ start_outcome o nine_zeros) (z : s.number ≡ 0) where
    begun : s.state ≡ nine (start M)
    unfolding run_end
    begun = ap (λ (x : Started). x.state) is ∙ start-state (ap (λ (x : Started). x.number) (sym is) ∙ z)

    pub begun_ok : state_ok (order_in check) s.state ≡ true
    unfolding store_in run_end
    begun_ok = rw begun (state_ok_lem [])

    pub ran_ok : (r : Run) (a : Answer (List ℤ)) → a ≡ run_outcome o s.state r → a.number ≡ 0 → state_ok (order_in check) a.end ≡ true
    unfolding store_in
    ran_ok r a e y = rw ended (state_ok_lem r.words)
      where
        from_start_lem : a ≡ run_outcome o (nine (start M)) r
        from_start_lem = e ∙ ap (λ (l : List ℤ). run_outcome o l r) begun

        ended : a.end ≡ nine (run_end M (start M) r.words)
        ended = ap (λ (x : Answer (List ℤ)). x.end) from_start_lem ∙ run-state r (ap (λ (x : Answer (List ℤ)). x.number) (sym from_start_lem) ∙ y)
