-- What the calls for one sentence come to: start, the words that it shares with others, its last word and its 3; and the same by a run over its words and a
-- run of its 3, over any lent arrays. Assumes nothing.
use Rattle.std.specs.declared.option.Option.{Option}
use Rattle.std.specs.declared.option.Option.TheVariants.{Some, None}
use mathlib.Core.Path.{◌≡◌, refl, sym, ap, ap₂, ◌∙◌}
use mathlib.Core.Logic.{◌⊎◌, inl, inr}
use mathlib.Core.Bool.{Bool, true, false, cond, ◌&&◌, false≢true}
use mathlib.Core.List.{List, [], ◌∷◌, ◌++◌, append_assoc}
use Prim.Native.Nat.{ℕ, ◌≤◌, ◌<◌}
use native.Mathlib.Omega.{arith}
use lib.Dec.{eqb}
use lib.ListN.{length, length-append}
use lib.IntN.{ℤ, nat_abs, ◌+ℤ◌}
use mir.Syntax.{w64}
use mir.Val.{SFits}
use Rattle.integer.specs.Integer.{sum}
use Rattle.integer.proofs.Arithmetic.{zarith, abs}
use borrow.Author.Tests.{eq-eqb, ne_eqb, le-ltb, eqb-true}
use Rattle.backoff.specs.Limits.{start_word, end_word, sentence_limit, order_limit, run_limit}
use Rattle.backoff.specs.Refusal.{number_in, broken_node, array_head}
use Rattle.backoff.specs.Model.{Model}
use Rattle.backoff.specs.State.{State as Carried, empty}
use Rattle.backoff.specs.Run.{refusal, accepted, accepted_run, run_end, Answer, run_points, run_bytes}
use Rattle.backoff.specs.NineNumbers.{nine, state_in, state_ok}
use Rattle.backoff.specs.Store.{Store, Step, scored, stuck, word_step, Ran, ran, refused_at, run_over, model_in, broken_run, ran_answer, run_outcome, Started, start_step}
use Rattle.backoff.proofs.NineNumbers.{length-nine, run_end_ok, state_in-run_end}
use Rattle.backoff.proofs.Store.{model_ran, run_over_cases}
use Rattle.child_slots.specs.Children.{root_child}
use Rattle.double_array.specs.DoubleArray.{is_array, order_in, store_in, opened}
use Rattle.double_array.proofs.DoubleArray.{opened_some, opened-order}
use Rattle.carried_state.specs.declared.State.{State}
use Rattle.carried_state.specs.Numbers.{numbers_of, state_from}
use Rattle.carried_state.proofs.Carried.{numbers-state_from}
use Rattle.word_walk.specs.Rows.{array_model}
use Rattle.word_walk.proofs.Rows.{rows-in_backoff, rows-in_words}
use Rattle.word_step.specs.Inner.{replaced}
use Rattle.run_answer.specs.declared.Ran.{Ran as Sum}
use Rattle.run_answer.specs.Answers.{total_in, end_in}
use Rattle.std.specs.declared.result.Result.{Result}
use Rattle.std.specs.declared.result.Result.TheVariants.{Ok, Err}
use Rattle.std.specs.Result.{result_ok}
use Rattle.run_answer.proofs.Refused.{some-number}
use Rattle.backoff.specs.declared.Refusal.{Refusal}
use Rattle.score.specs.Answers.{started_over}
use Rattle.score.proofs.Sizes.{run_total, run-total_small}
use Rattle.score.proofs.Sentence.{start-state, begun_ok}
use Rattle.score.proofs.Outcomes.{start_steps, start-refused}
use Rattle.sums.specs.Sums.{Summed, summed_of, summed}
use Rattle.sums.specs.Closing.{plus, points_over}
use Rattle.sums.proofs.Closing.{closed_of, closed-is-run, closed-behind, none-behind}
use Rattle.sentence_order.specs.Inner.{usable_child}
use Rattle.sentence_totals.specs.Totals.{own_run, run_from_start, runs_through, closed, sentence_total, is_scored, words_run, three_run, InRuns}
use Rattle.sentence_totals.specs.Inner.{Begins}

-- a call that is accepted, and one that is not
pub is_ok_of : {A : Type 0} (r : Result A (Refusal ℕ)) (a : A) → Some a ≡ result_ok r → r ≡ Ok a
is_ok_of (Ok b) a e = cc
is_ok_of {A} (Err refusal) a e = let z : ◌≡◌ {A = ℕ} 0 1 = cc in absurd (omega arith)

pub refused : {A : Type 0} (r : Result A (Refusal ℕ)) → None ≡ result_ok r → number_in r ≡ 0 → ⊥
refused (Ok b) e z = let z : ◌≡◌ {A = ℕ} 0 1 = cc in omega arith
refused (Err refusal) e z = some-number refusal.reason z

-- what a run over the words ws from start's state comes to
abbrev total_of : Option Store → List ℕ → Option ℤ
total_of o ws = cond (runs_through o ws) (Some (run_from_start o ws).total) None

module _ (o : Option Store) (ws : List ℕ) where
  told_scored : (t : ℤ) → total_of o ws ≡ Some t → (runs_through o ws ≡ true) × (t ≡ (run_from_start o ws).total)
  told_scored t e = go (runs_through o ws) e
    where
      go : (b : Bool) → cond b (Some (run_from_start o ws).total) None ≡ Some t → (b ≡ true) × (t ≡ (run_from_start o ws).total)
      go true q = (refl, cc)
      go false q = let z : ◌≡◌ {A = ℕ} 0 1 = cc in absurd (omega arith)

  told_refused : total_of o ws ≡ None → runs_through o ws ≡ false
  told_refused e = go (runs_through o ws) e
    where
      go : (b : Bool) → cond b (Some (run_from_start o ws).total) None ≡ None → b ≡ false
      go true q = let z : ◌≡◌ {A = ℕ} 0 1 = cc in absurd (omega arith)
      go false q = refl

-- a usable word is scored as itself
pub usable-replaced : (check : List ℤ) (w : ℕ) → usable_child check w ≡ true → w ≡ replaced check w
unfolding usable_child
usable-replaced check w u = go (root_child check w) refl
  where
    go : (c : Option ℕ) → root_child check w ≡ c → w ≡ replaced check w
    go (Some t) e = rw e
    go None e = absurd (false≢true (rw e at u))

-- without start no sentence is scored
pub start_unscored : (o : Option Store) (s : Started) → s ≡ started_over o → (s.number ≡ 0 → ⊥) → (ws : List ℕ) → is_scored o ws ≡ false
unfolding is_scored runs_through
start_unscored o s e n ws = rw (ne_eqb (started_over o).number 0 (λ z. n (ap (λ (x : Started). x.number) e ∙ z)))

-- ---- from start's state

module _ (base check : List ℤ) (state : State) (b : Begins base check state) where
  abbrev o : Option Store
  o = opened base check

  abbrev S : Store
  S = store_in base check

  abbrev M : Model
  M = array_model base check

  abbrev l : List ℤ
  l = numbers_of state

  opens : o ≡ Some S
  opens = opened_some base check b.array

  order-high : M.order ≤ order_limit
  unfolding model_in store_in
  order-high = (opened-order base check b.array).1

  nine-long : length l ≡ 9
  nine-long = ap length (b.numbers ∙ start-state base check b.array b.started) ∙ length-nine _

  -- check 16 lets start's state pass
  pub start_ok : state_ok M.order l ≡ true
  unfolding model_in store_in
  start_ok = ap (state_ok (order_in check)) b.numbers ∙ begun_ok base check b.array (started_over o) refl b.started

  -- and what a run from there leaves, which is read back from its nine numbers
  end_ok : (ws : List ℕ) → state_ok M.order (nine (run_end M (state_in l) ws)) ≡ true
  end_ok = run_end_ok M (rows-in_backoff base check) (rows-in_words base check) order-high l nine-long start_ok

  left_in : (ws : List ℕ) → state_in (nine (run_end M (state_in l) ws)) ≡ run_end M (state_in l) ws
  left_in = state_in-run_end M (rows-in_backoff base check) (rows-in_words base check) order-high l nine-long start_ok

  -- start's own step
  start_steps_to : (A : Type 0) → ((x : ℤ) (y : ℕ) (t : Carried) → word_step S empty start_word ≡ scored x y t → A) → A
  start_steps_to A f = go (word_step S empty start_word) refl
    where
      go : (z : Step) → word_step S empty start_word ≡ z → A
      go (scored x y t) e = f x y t e
      go stuck e =
          let q : broken_node ≡ 0 = sym (ap (λ (s : Started). s.number) (start_steps base check b.array ∙ ap start_step e)) ∙ b.started in
          absurd (omega arith)

  module _ (ws : List ℕ) (short : length ws ≤ 5) where
    -- a run from any state that check 16 lets pass
    run_over_lem : (m : List ℤ) → length m ≡ 9 → state_ok M.order m ≡ true → run_outcome o m (own_run ws) ≡ ran_answer m (own_run ws) (run_over S ws (state_in m) 1)
    unfolding run_outcome accepted refusal
    run_over_lem m e k = rw (opens, eq-eqb (length m) 9 e) (unfold model_in in rw (k, le-ltb run_limit (length ws) (omega arith), le-ltb 5 (length ws) short))

    run_is : run_from_start o ws ≡ ran_answer l (own_run ws) (run_over S ws (state_in l) 1)
    unfolding run_from_start
    run_is = ap (λ (m : List ℤ). run_outcome o m (own_run ws)) (sym b.numbers) ∙ run_over_lem l nine-long start_ok

    total_over : total_of o ws ≡ closed_of (run_over S ws (state_in l) 1)
    unfolding runs_through
    total_over = rw (eq-eqb (started_over o).number 0 b.started, run_is) (go (run_over S ws (state_in l) 1))
      where
        go : (r : Ran) → cond (eqb (ran_answer l (own_run ws) r).number 0) (Some (ran_answer l (own_run ws) r).total) None ≡ closed_of r
        go (ran ps bs t) = unfold accepted_run in refl
        go (refused_at k) = unfold broken_run in refl

  -- ---- the words that sentences share

  module _ (front : List ℕ) (x : Result Sum (Refusal ℕ)) (is : summed_of l x ≡ summed l (run_over S front (state_in l) 1)) where
    -- where they are refused
    front-stuck : (number_in x ≡ 0 → ⊥) → (vs : List ℕ) → closed_of (run_over S (front ++ vs) (state_in l) 1) ≡ None
    front-stuck n vs = go (run_over S front (state_in l) 1) refl
      where
        go : (r : Ran) → run_over S front (state_in l) 1 ≡ r → closed_of (run_over S (front ++ vs) (state_in l) 1) ≡ None
        go (ran ps bs t) e = absurd (n (ap (λ (s : Summed). s.number) (is ∙ ap (summed l) e)))
        go (refused_at j) e = none-behind S front vs (state_in l) 1 j e

    module _ (z : number_in x ≡ 0) where
      ran_on : run_over S front (state_in l) 1 ≡ model_ran M (state_in l) front
      ran_on = go (run_over_cases S front (state_in l) 1)
        where
          go : ((j : ℕ) × (run_over S front (state_in l) 1 ≡ refused_at j)) ⊎ (run_over S front (state_in l) 1 ≡ model_ran M (state_in l) front) → run_over S front (state_in l) 1 ≡ model_ran M (state_in l) front
          go (inl (j, e)) = let q : broken_node ≡ 0 = sym (ap (λ (s : Summed). s.number) (is ∙ ap (summed l) e)) ∙ z in absurd (omega arith)
          go (inr e) = e

      is-scored : summed_of l x ≡ summed l (model_ran M (state_in l) front)
      is-scored = is ∙ ap (summed l) ran_on

      end_is : end_in l x ≡ nine (run_end M (state_in l) front)
      end_is = ap (λ (s : Summed). s.end) is-scored

      pub front_ok : state_ok (order_in check) (end_in l x) ≡ true
      unfolding model_in store_in
      front_ok = ap (state_ok (order_in check)) end_is ∙ end_ok front

      -- a last word behind them, and the 3
      front_on : (w : ℕ) → (w ≡ end_word → ⊥) → (c : Option ℤ) → c ≡ points_over S (w ∷ end_word ∷ []) (state_in (end_in l x)) → closed_of (run_over S (front ++ (w ∷ end_word ∷ [])) (state_in l) 1) ≡ plus (total_in x) c
      front_on w n c e =
          closed-behind S front (w ∷ end_word ∷ []) (state_in l) 1 _ _ _ ran_on
          ∙ ap₂ plus (ap (λ (s : Summed). s.total) (sym is-scored)) (sym (e ∙ ap (points_over S (w ∷ end_word ∷ [])) left ∙ as_run))
        where
          left : state_in (end_in l x) ≡ run_end M (state_in l) front
          left = ap state_in end_is ∙ left_in front

          as_run : points_over S (w ∷ end_word ∷ []) (run_end M (state_in l) front) ≡ closed_of (run_over S (w ∷ end_word ∷ []) (run_end M (state_in l) front) 1)
          as_run = start_steps_to _ (λ p q t f. closed-is-run S (run_end M (state_in l) front) w 1 n p q t f)

    -- ---- the sentence

    module _ (w : ℕ) (short : length front < sentence_limit) where
      abbrev s : List ℕ
      s = front ++ (w ∷ [])

      regrouped : closed s ≡ front ++ (w ∷ end_word ∷ [])
      regrouped = append_assoc front (w ∷ []) (end_word ∷ [])

      comes_to : (c : Option ℤ) → closed_of (run_over S (front ++ (w ∷ end_word ∷ [])) (state_in l) 1) ≡ c → total_of o (closed s) ≡ c
      comes_to c e = total_over (closed s) (omega (arith, length-append s (end_word ∷ []), length-append front (w ∷ []))) ∙ ap (λ (ws : List ℕ). closed_of (run_over S ws (state_in l) 1)) regrouped ∙ e

      pub front_unscored : (number_in x ≡ 0 → ⊥) → is_scored o s ≡ false
      unfolding is_scored
      front_unscored n = told_refused o (closed s) (comes_to None (front-stuck n (w ∷ end_word ∷ [])))

      module _ (z : number_in x ≡ 0) (n : w ≡ end_word → ⊥) where
        pub last_unscored : None ≡ points_over S (w ∷ end_word ∷ []) (state_in (end_in l x)) → is_scored o s ≡ false
        unfolding is_scored
        last_unscored e = told_refused o (closed s) (comes_to None (front_on z w n None e))

        pub last-scored : (y : ℤ) → Some y ≡ points_over S (w ∷ end_word ∷ []) (state_in (end_in l x)) → (is_scored o s ≡ true) × (total_in x +ℤ y ≡ sentence_total o s)
        unfolding is_scored sentence_total
        last-scored y e = told_scored o (closed s) (total_in x +ℤ y) (comes_to (Some (total_in x +ℤ y)) (front_on z w n (Some y) e))

  -- ---- a run over a sentence's words, and a run of its 3

  module _ (s : List ℕ) (short : length s ≤ sentence_limit) where
    words_over : words_run o s ≡ ran_answer l (own_run s) (run_over S s (state_in l) 1)
    words_over = unfold run_from_start in run_is s (omega arith)

    whole : total_of o (closed s) ≡ closed_of (run_over S (s ++ (end_word ∷ [])) (state_in l) 1)
    whole = total_over (closed s) (omega (arith, length-append s (end_word ∷ [])))

    -- the words are refused
    words-stuck : (j : ℕ) → run_over S s (state_in l) 1 ≡ refused_at j → InRuns o s
    unfolding is_scored
    words-stuck j e = record { scored = unscored ∙ sym none; total = λ q. absurd (false≢true (sym unscored ∙ q)) }
      where
        unscored : runs_through o (closed s) ≡ false
        unscored = told_refused o (closed s) (whole ∙ none-behind S s (end_word ∷ []) (state_in l) 1 j e)

        number : (words_run o s).number ≡ broken_node
        number = ap (λ (a : Answer (List ℤ)). a.number) (words_over ∙ ap (ran_answer l (own_run s)) e) ∙ (unfold broken_run in refl)

        none : (eqb (started_over o).number 0 && (eqb (words_run o s).number 0 && eqb (three_run o s).number 0)) ≡ false
        none = ap₂ (λ (x y : ℕ). eqb x 0 && (eqb y 0 && eqb (three_run o s).number 0)) b.started number

    -- or scored as over the rows
    module _ (e : run_over S s (state_in l) 1 ≡ model_ran M (state_in l) s) where
      abbrev left : Carried
      left = run_end M (state_in l) s

      abbrev points : ℤ
      points = sum (run_points M (state_in l) s)

      words_are : words_run o s ≡ accepted_run (nine left) (run_points M (state_in l) s) (run_bytes M (state_in l) s) (own_run s)
      words_are = words_over ∙ ap (ran_answer l (own_run s)) e

      words-number : (words_run o s).number ≡ 0
      words-number = ap (λ (a : Answer (List ℤ)). a.number) words_are ∙ (unfold accepted_run in refl)

      words-total : (words_run o s).total ≡ points
      words-total = ap (λ (a : Answer (List ℤ)). a.total) words_are ∙ (unfold accepted_run in refl)

      words-end : (words_run o s).end ≡ nine left
      words-end = ap (λ (a : Answer (List ℤ)). a.end) words_are ∙ (unfold accepted_run in refl)

      three_over : three_run o s ≡ ran_answer (nine left) (own_run (end_word ∷ [])) (run_over S (end_word ∷ []) left 1)
      three_over =
          ap (λ (m : List ℤ). run_outcome o m (own_run (end_word ∷ []))) words-end
          ∙ run_over_lem (end_word ∷ []) (omega arith) (nine left) (length-nine left) (end_ok s)
          ∙ ap (λ (t : Carried). ran_answer (nine left) (own_run (end_word ∷ [])) (run_over S (end_word ∷ []) t 1)) (left_in s)

      both : total_of o (closed s) ≡ plus points (closed_of (run_over S (end_word ∷ []) left 1))
      both = whole ∙ closed-behind S s (end_word ∷ []) (state_in l) 1 _ _ _ e

      words-scored : InRuns o s
      unfolding is_scored sentence_total
      words-scored = go (run_over S (end_word ∷ []) left 1) refl
        where
          numbers : (n : ℕ) → (three_run o s).number ≡ n → (eqb (started_over o).number 0 && (eqb (words_run o s).number 0 && eqb (three_run o s).number 0)) ≡ eqb n 0
          numbers n q = rw (b.started, words-number, q)

          go : (r : Ran) → run_over S (end_word ∷ []) left 1 ≡ r → InRuns o s
          go (ran qs cs t) q =
              let three = three_over ∙ ap (ran_answer (nine left) (own_run (end_word ∷ []))) q in
              let told = told_scored o (closed s) (points +ℤ sum qs) (both ∙ ap (λ (r : Ran). plus points (closed_of r)) q) in
              record {
                scored = told.0 ∙ sym (numbers 0 (ap (λ (a : Answer (List ℤ)). a.number) three ∙ (unfold accepted_run in refl)));
                total = λ f. sym told.1 ∙ ap₂ (λ (x y : ℤ). x +ℤ y) (sym words-total) (sym (ap (λ (a : Answer (List ℤ)). a.total) three ∙ (unfold accepted_run in refl)));
              }
          go (refused_at j) q =
              let three = three_over ∙ ap (ran_answer (nine left) (own_run (end_word ∷ []))) q in
              let told = told_refused o (closed s) (both ∙ ap (λ (r : Ran). plus points (closed_of r)) q) in
              record {
                scored = told ∙ sym (numbers broken_node (ap (λ (a : Answer (List ℤ)). a.number) three ∙ (unfold broken_run in refl)));
                total = λ f. absurd (false≢true (sym told ∙ f));
              }

    started_in_runs : InRuns o s
    started_in_runs = go (run_over_cases S s (state_in l) 1)
      where
        go : ((j : ℕ) × (run_over S s (state_in l) 1 ≡ refused_at j)) ⊎ (run_over S s (state_in l) 1 ≡ model_ran M (state_in l) s) → InRuns o s
        go (inl (j, e)) = words-stuck j e
        go (inr e) = words-scored e

-- ---- whatever start answers

module _ (base check : List ℤ) (s : List ℕ) (short : length s ≤ sentence_limit) where
  abbrev first : Started
  first = started_over (opened base check)

  unstarted : eqb first.number 0 ≡ false → InRuns (opened base check) s
  unfolding is_scored runs_through
  unstarted e = record { scored = rw e; total = λ q. absurd (false≢true (rw e at q)) }

  begins : first.number ≡ 0 → Begins base check (state_from first.state)
  begins z = go (is_array base check) refl
    where
      go : (t : Bool) → is_array base check ≡ t → Begins base check (state_from first.state)
      go true e = record { array = e; started = z; numbers = numbers-state_from first.state (ap length (start-state base check e z) ∙ length-nine _) }
      go false e = let q : array_head ≡ 0 = sym (ap (λ (x : Started). x.number) (start-refused base check e)) ∙ z in absurd (omega arith)

  pub total_in_runs : InRuns (opened base check) s
  total_in_runs = go (eqb first.number 0) refl
    where
      go : (t : Bool) → eqb first.number 0 ≡ t → InRuns (opened base check) s
      go false e = unstarted e
      go true e = started_in_runs base check _ (begins (eqb-true first.number 0 e)) s short

-- a sentence's total is no larger than a run's, and fits
module _ (base check : List ℤ) (s : List ℕ) where
  pub total_small : nat_abs (sentence_total (opened base check) s) ≤ run_total
  unfolding sentence_total run_from_start
  total_small = run-total_small base check _ _

  pub total-fits : SFits w64 (sentence_total (opened base check) s)
  total-fits = omega (zarith, total_small, abs (sentence_total (opened base check) s))
