-- Two stores of one order n that have the same for sequences of at most n words: start and every run over them answer alike, as nothing longer is asked
-- for. Assumes nothing.
use Rattle.std.specs.declared.option.Option.{Option}
use Rattle.std.specs.declared.option.Option.TheVariants.{Some, None}
use mathlib.Core.Path.{◌≡◌, refl, ap, ap₂, ◌∙◌, fun_ext}
use mathlib.Core.Bool.{Bool, true, false, cond}
use mathlib.Core.List.{List, [], ◌∷◌, ◌++◌}
use Prim.Native.Nat.{ℕ, zero, suc, ◌≤◌, min}
use native.Mathlib.Omega.{arith}
use borrow.Author.Tests.{eqb-true}
use lib.Dec.{eqb}
use lib.ListN.{length, take, length-take}
use lib.IntN.{ℤ}
use Rattle.backoff.specs.Limits.{order_limit, unknown_word, start_word, end_word}
use Rattle.backoff.specs.Refusal.{bad_state}
use Rattle.backoff.specs.Model.{Model, is_some, probability_of, backoff_of, extended_of, continued_of, listed, probability, backoff, extended, continued, live, reach}
use Rattle.backoff.specs.Rule.{replaced}
use Rattle.backoff.specs.State.{State, empty, climb, backoffs_of, newest, live_length, walk, matched_from, points_from, extended_from, next_from, step_next, start}
use Rattle.backoff.specs.Run.{Run, refused_run}
use Rattle.backoff.specs.NineNumbers.{state_in, state_ok}
use Rattle.backoff.specs.Store.{Look, Store, entry_of, is_broken, model_in, scored, stuck, walked_word, ends_broken, step_from, word_step, step, before, onward, run_over, run_in, run_outcome, start_outcome}
use Rattle.backoff.proofs.Climb.{largest-same}
use Rattle.backoff.proofs.State.{live_length_le}
use Rattle.backoff.proofs.NineNumbers.{state_ok_bounded}
use Rattle.backoff.proofs.Store.{stuck_at, step_is}

module _ (S T : Store) (order : S.order ≡ T.order) (look : (l : List ℕ) → length l ≤ S.order → S.look l ≡ T.look l) where
  abbrev M : Model
  M = model_in S

  abbrev K : Model
  K = model_in T

  reach_agrees : reach M ≡ reach K
  unfolding reach model_in
  reach_agrees = rw order

  -- ---- one sequence

  module _ (l : List ℕ) (h : length l ≤ S.order) where
    listed_agrees : listed M l ≡ listed K l
    unfolding listed model_in
    listed_agrees = ap (λ (x : Look). is_some (entry_of x)) (look l h)

    probability_agrees : probability M l ≡ probability K l
    unfolding probability model_in
    probability_agrees = ap (λ (x : Look). probability_of (entry_of x)) (look l h)

    backoff_agrees : backoff M l ≡ backoff K l
    unfolding backoff model_in
    backoff_agrees = ap (λ (x : Look). backoff_of (entry_of x)) (look l h)

    extended_agrees : extended M l ≡ extended K l
    unfolding extended model_in
    extended_agrees = ap (λ (x : Look). extended_of (entry_of x)) (look l h)

    continued_agrees : continued M l ≡ continued K l
    unfolding continued model_in
    continued_agrees = ap (λ (x : Look). continued_of (entry_of x)) (look l h)

    live_agrees : live M l ≡ live K l
    unfolding live
    live_agrees = rw (backoff_agrees, continued_agrees)

  -- ---- the newest words of a sequence

  module _ (g : List ℕ) (h : length g ≤ S.order) where
    part : (i : ℕ) → length (take i g) ≤ S.order
    part i = omega (arith, length-take i g)

    backoffs_of_agrees : (k : ℕ) → backoffs_of M k g ≡ backoffs_of K k g
    unfolding backoffs_of
    backoffs_of_agrees zero = refl
    backoffs_of_agrees (suc k) = ap₂ (λ (l : List ℤ) (b : ℤ). l ++ (b ∷ [])) (backoffs_of_agrees k) (backoff_agrees (take (suc k) g) (part (suc k)))

    newest_agrees : (k : ℕ) → newest M k g ≡ newest K k g
    unfolding newest
    newest_agrees k = λ i. record { words = take k g; backoffs = backoffs_of_agrees k i }

    live_length_agrees : (k : ℕ) → live_length M k g ≡ live_length K k g
    unfolding live_length
    live_length_agrees k = largest-same _ _ k (λ i o u. live_agrees (take i g) (part i))

  -- ---- one word from a state of at most n − 1 words

  module _ (s : State) (h : suc (length s.words) ≤ S.order) where
    walked_part : (v i : ℕ) → length (v ∷ take i s.words) ≤ S.order
    walked_part v i = omega (arith, length-take i s.words)

    walk_agrees : (v : ℕ) → walk M v s.words ≡ walk K v s.words
    unfolding walk
    walk_agrees v = ap (λ (P : ℕ → Bool). climb P (length s.words) 0) (fun_ext (λ i. listed_agrees (v ∷ take i s.words) (walked_part v i)))

    points_from_agrees : (v : ℕ) → points_from M s v ≡ points_from K s v
    unfolding points_from
    points_from_agrees v = rw (walk_agrees v, probability_agrees (v ∷ take (walk K v s.words) s.words) (walked_part v (walk K v s.words)))

    matched_from_agrees : (v : ℕ) → matched_from M s v ≡ matched_from K s v
    unfolding matched_from
    matched_from_agrees v = rw (walk_agrees v)

    extended_from_agrees : (v : ℕ) → extended_from M s v ≡ extended_from K s v
    unfolding extended_from
    extended_from_agrees v = rw (walk_agrees v, extended_agrees (v ∷ take (walk K v s.words) s.words) (walked_part v (walk K v s.words)))

    next_from_agrees : (v : ℕ) → next_from M s v ≡ next_from K s v
    unfolding next_from
    next_from_agrees v = rw (matched_from_agrees v, reach_agrees, live_length_agrees (v ∷ s.words) h _) (newest_agrees (v ∷ s.words) h _)

    ends_broken_agrees : (v : ℕ) → ends_broken S s.words v ≡ ends_broken T s.words v
    unfolding ends_broken
    ends_broken_agrees v = rw (walk_agrees v) (ap is_broken (look (v ∷ take (suc (walk K v s.words)) s.words) (walked_part v (suc (walk K v s.words)))))

    step_from_agrees : (o : Option ℕ) → step_from S s o ≡ step_from T s o
    unfolding step_from
    step_from_agrees None = refl
    step_from_agrees (Some v) = rw (ends_broken_agrees v, points_from_agrees v, matched_from_agrees v, extended_from_agrees v, next_from_agrees v)

    word_step_agrees : (w : ℕ) → word_step S s w ≡ word_step T s w
    unfolding word_step walked_word
    word_step_agrees w = rw (look (w ∷ []) (omega arith), look (unknown_word ∷ []) (omega arith)) (step_from_agrees _)

    -- and the state that is left is such a one
    next-short : (v : ℕ) → suc (length (next_from M s v).words) ≤ S.order
    unfolding next_from newest reach model_in
    next-short v =
        let g = v ∷ s.words in
        let k = min (reach M) (matched_from M s v) in
        omega (arith, length-take (live_length M k g) g, live_length_le M k g)

  -- ---- runs

  module _ (s : State) (h : suc (length s.words) ≤ S.order) (w : ℕ) where
    step_agrees : step S s w ≡ step T s w
    unfolding step
    step_agrees = rw (word_step_agrees s h w, word_step_agrees empty (omega arith) start_word)

    step-short : suc (length (step_next M s w).words) ≤ S.order
    unfolding step_next start
    step-short = elim (eqb w end_word) as (λ e. suc (length (cond e (start M) (next_from M s (replaced M w))).words) ≤ S.order) [ true ↦ next-short empty (omega arith) (replaced M start_word) | false ↦ next-short s h (replaced M w) ]

  run_over_agrees : (ws : List ℕ) (s : State) (k : ℕ) → suc (length s.words) ≤ S.order → run_over S ws s k ≡ run_over T ws s k
  unfolding run_over
  run_over_agrees [] s k h = refl
  run_over_agrees (w ∷ ws) s k h =
      go (stuck_at S s w) _ _ (step_is S s w) (run_over_agrees ws (step_next M s w) (suc k) (step-short s h w))
      ∙ ap (onward (λ (t : State). run_over T ws t (suc k)) k) (step_agrees s h w)
    where
      go : (b : Bool) (p : ℤ) (y : ℕ) → step S s w ≡ cond b stuck (scored p y (step_next M s w)) → run_over S ws (step_next M s w) (suc k) ≡ run_over T ws (step_next M s w) (suc k)
          → onward (λ (t : State). run_over S ws t (suc k)) k (step S s w) ≡ onward (λ (t : State). run_over T ws t (suc k)) k (step S s w)
      go true p y e ih = rw e
      go false p y e ih = rw e (ap (before p y) ih)

  module _ (low : 1 ≤ S.order) where
    pub start_outcome_agrees : (l : List ℤ) → start_outcome (Some S) l ≡ start_outcome (Some T) l
    unfolding start_outcome
    start_outcome_agrees l = rw (step_agrees empty low start_word)

    pub run_outcome_agrees : S.order ≤ order_limit → (l : List ℤ) (r : Run) → run_outcome (Some S) l r ≡ run_outcome (Some T) l r
    unfolding run_outcome
    run_outcome_agrees high l r = go (eqb (length l) 9) refl (state_ok S.order l) refl
      where
        bounded : length l ≡ 9 → state_ok S.order l ≡ true → suc (length (state_in l).words) ≤ S.order
        bounded e ok = omega (arith, (state_ok_bounded S.order l e high ok).few)

        go : (a : Bool) → eqb (length l) 9 ≡ a → (b : Bool) → state_ok S.order l ≡ b → cond a (run_in (Some S) l r) (refused_run bad_state 0 l r) ≡ cond a (run_in (Some T) l r) (refused_run bad_state 0 l r)
        go false e b f = refl
        go true e false f = let g : state_ok T.order l ≡ false = rw order at f in rw (f, g)
        go true e true f = let g : state_ok T.order l ≡ true = rw order at f in rw (f, g, run_over_agrees r.words (state_in l) 1 (bounded (eqb-true (length l) 9 e) f))
