-- One misheard word over the outcomes of build, run and plain scoring. Assumes nothing.
use Rattle.std.specs.declared.option.Option.TheVariants.{Some}
use mathlib.Core.Path.{◌≡◌, refl, sym, ap, ◌∙◌}
use mathlib.Core.Bool.{Bool, true, false}
use mathlib.Core.List.{List, []}
use Prim.Native.Nat.{ℕ, ◌+◌, ◌≤◌}
use native.Mathlib.Omega.{arith}
use lib.ListN.{length}
use lib.IntN.{ℤ}
use lib.Dec.{eqb}
use borrow.Author.Tests.{eqb-true, eqb-false, ne_eqb}
use Rattle.backoff.specs.Limits.{order_limit}
use Rattle.backoff.specs.Refusal.{bad_state}
use Rattle.backoff.specs.Model.{Model, AcceptedModel, reach}
use Rattle.backoff.specs.Rule.{rule_points, rule_bytes}
use Rattle.backoff.specs.State.{after}
use Rattle.backoff.specs.Run.{Run, Answer, refusal, accepted, refused_run, accepted_run, front, run_points, run_bytes, run_end, plain}
use Rattle.backoff.specs.NineNumbers.{nine, state_in, state_ok}
use Rattle.backoff.specs.Runs.{SameRoom, joined, last_state}
use Rattle.backoff.specs.Store.{Store, model_in, run_outcome}
use Rattle.backoff.specs.Refusal.{Accepted}
use Rattle.backoff.proofs.Rule.{length-rule_points, length-rule_bytes}
use Rattle.backoff.proofs.Run.{length-run_points, length-run_bytes, run_end-is-after}
use Rattle.backoff.proofs.Runs.{standing-written, standing-refused, equal_states_score_alike as score-alike}
use Rattle.backoff.proofs.NineNumbers.{Bounded, state_ok_bounded, after_bounded}
use Rattle.backoff.proofs.Store.{Whole, run_over-is, run_outcome_blind}
use Rattle.one_word.specs.OneWord.{DifferAt, distance, closer_move, OneWordMoves}
use Rattle.one_word.proofs.OneWord.{one-word-from_a_state, one-word-ends, one-word_by_the_rule}
use Rattle.one_word.proofs.OneWordByTheRule.{one-word-closer}
use Rattle.list.specs.ListModel.{model_of}
use Rattle.list.proofs.ListModel.{accepted-model}
use Rattle.double_array.specs.DoubleArray.{store_in}
use Rattle.double_array.proofs.DoubleArray.{opened_some}
use Rattle.placed_list.specs.Build.{Built}
use Rattle.build.specs.Build.{build_outcome}
use Rattle.build.proofs.Built.{build_accepted, build_holds}
use Rattle.plain.specs.Plain.{plain_outcome}
use Rattle.theorems.specs.RunsInARow.{array_of, first_state, RunsInARow}
use Rattle.theorems.specs.OneWord.{AnswersMove, OneMisheardWord}
use Rattle.theorems.proofs.RunsInARow.{plain-accepted, plain-number, runs_in_a_row}

-- two accepted answers with such points and length bytes
accepted-move : {S : Type 0} (n i : ℕ) (r q : Run) (s t : S) (ps qs : List ℤ) (bs cs : List ℕ) → length ps ≡ length r.words → length qs ≡ length q.words → length bs ≡ length r.words → length cs ≡ length q.words → OneWordMoves n i ps qs bs cs → AnswersMove n i r q (accepted_run s ps bs r) (accepted_run t qs cs q)
unfolding accepted_run
accepted-move n i r q s t ps qs bs cs e f g h m = record {
  moves = rw (standing-written r ps r.points e, standing-written q qs q.points f, standing-written r bs r.lengths g, standing-written q cs q.lengths h) m;
  total = m.totals;
  refused = λ k. absurd (k refl);
}

-- two answers refused by one number
nothing-moves : (n i : ℕ) → OneWordMoves n i [] [] [] []
nothing-moves n i = record {
  points = record { before = λ j l. refl; behind = λ j l. refl };
  lengths = record { before = λ j l. refl; behind = λ j l. refl };
  each = λ j. omega arith;
  totals = omega arith;
}

refused-move : {S : Type 0} (n i number : ℕ) (r q : Run) (s t : S) → (number ≡ 0 → ⊥) → AnswersMove n i r q (refused_run number 0 s r) (refused_run number 0 t q)
unfolding refused_run
refused-move n i number r q s t k =
    let e : eqb number 0 ≡ false = ne_eqb number 0 k in
    record {
      moves = rw (standing-refused number r r.points e, standing-refused number q q.points e, standing-refused number r r.lengths e, standing-refused number q q.lengths e) (nothing-moves n i);
      total = omega arith;
      refused = λ l. (refl, refl);
    }

refusal-alike : (r q : Run) (i : ℕ) → DifferAt i r.words q.words → SameRoom r q → refusal r ≡ refusal q
unfolding refusal
refusal-alike r q i d s = rw (d.same_length, s.points, s.lengths)

-- an answer is accepted, with these points and length bytes and this state, or refused with the state t
pub data Answered {S : Type 0} (t end : S) (points : List ℤ) (lengths : List ℕ) (r : Run) (a : Answer S) : Type 0 where
  granted : a ≡ accepted_run end points lengths r → a.number ≡ 0 → Answered t end points lengths r a
  denied : (number : ℕ) → (number ≡ 0 → ⊥) → a ≡ refused_run number 0 t r → a.number ≡ number → Answered t end points lengths r a

grant : {S : Type 0} (t end : S) (points : List ℤ) (lengths : List ℕ) (r : Run) (a : Answer S) → a ≡ accepted_run end points lengths r → Answered t end points lengths r a
grant {S} t end points lengths r a e = granted e (unfold accepted_run in ap (λ (x : Answer S). x.number) e)

deny : {S : Type 0} (t end : S) (points : List ℤ) (lengths : List ℕ) (r : Run) (a : Answer S) (number : ℕ) → (number ≡ 0 → ⊥) → a ≡ refused_run number 0 t r → Answered t end points lengths r a
deny {S} t end points lengths r a number n e = denied number n e (unfold refused_run in ap (λ (x : Answer S). x.number) e)

answers-move : {S : Type 0} (n i : ℕ) (r q : Run) (t x y : S) (ps qs : List ℤ) (bs cs : List ℕ) (a c : Answer S) → Answered t x ps bs r a → Answered t y qs cs q c → a.number ≡ c.number → length ps ≡ length r.words → length qs ≡ length q.words → length bs ≡ length r.words → length cs ≡ length q.words → OneWordMoves n i ps qs bs cs → AnswersMove n i r q a c
answers-move n i r q t x y ps qs bs cs a c (granted e u) (granted f v) z k l k' l' m = rw (e, f) (accepted-move n i r q x y ps qs bs cs k l k' l' m)
answers-move n i r q t x y ps qs bs cs a c (granted e u) (denied w o f v) z k l k' l' m = absurd (o (sym v ∙ sym z ∙ u))
answers-move n i r q t x y ps qs bs cs a c (denied w o e u) (granted f v) z k l k' l' m = absurd (o (sym u ∙ z ∙ v))
answers-move n i r q t x y ps qs bs cs a c (denied w o e u) (denied w' o' f v) z k l k' l' m =
    let g : w' ≡ w = sym v ∙ sym z ∙ u in
    rw (e, f, g) (refused-move n i w r q t t o)

-- ---- by the list alone

module _ (M : Model) (A : AcceptedModel M) where
  plain-answered : (b : Bool) (r : Run) → Answered tt tt (rule_points M (front b) r.words) (rule_bytes M (front b) r.words) r (plain M b r)
  plain-answered b r = go (accepted r) refl
    where
      go : (t : Bool) → accepted r ≡ t → Answered tt tt (rule_points M (front b) r.words) (rule_bytes M (front b) r.words) r (plain M b r)
      go true e = grant tt tt _ _ r _ (unfold plain in rw e)
      go false e = deny tt tt _ _ r _ (refusal r) (eqb-false (refusal r) 0 (unfold accepted in e)) (unfold plain in rw e)

  plain-moves : (b : Bool) (r q : Run) (i : ℕ) → DifferAt i r.words q.words → (plain M b r).number ≡ (plain M b q).number → AnswersMove M.order i r q (plain M b r) (plain M b q)
  plain-moves b r q i d z =
      answers-move M.order i r q tt tt tt _ _ _ _ _ _ (plain-answered b r) (plain-answered b q) z (length-rule_points M (front b) r.words) (length-rule_points M (front b) q.words) (length-rule_bytes M (front b) r.words) (length-rule_bytes M (front b) q.words) (one-word_by_the_rule M A (front b) i r.words q.words d)

  plain_close : (b : Bool) (r q : Run) (i : ℕ) → DifferAt i r.words q.words → (plain M b r).number ≡ (plain M b q).number → distance (plain M b r).total (plain M b q).total ≤ closer_move M.order
  plain_close b r q i d z = go (plain-answered b r) (plain-answered b q)
    where
      go : Answered tt tt (rule_points M (front b) r.words) (rule_bytes M (front b) r.words) r (plain M b r) → Answered tt tt (rule_points M (front b) q.words) (rule_bytes M (front b) q.words) q (plain M b q) → distance (plain M b r).total (plain M b q).total ≤ closer_move M.order
      go (granted e u) (granted f v) = rw (e, f) (unfold accepted_run in one-word-closer M A (front b) i r.words q.words d)
      go (granted e u) (denied w o f v) = absurd (o (sym v ∙ sym z ∙ u))
      go (denied w o e u) (granted f v) = absurd (o (sym u ∙ z ∙ v))
      go (denied w o e u) (denied w' o' f v) = rw (e, f) (unfold refused_run in omega arith)

-- ---- a run from any state

module _ (S : Store) (W : Whole S) (A : AcceptedModel (model_in S)) (l : List ℤ) where
  abbrev M : Model
  M = model_in S

  order-high : S.order ≤ order_limit
  order-high = unfold model_in in A.order-high

  -- what a run from nine numbers answers
  run-answered : (r : Run) → Answered l (nine (run_end M (state_in l) r.words)) (run_points M (state_in l) r.words) (run_bytes M (state_in l) r.words) r (run_outcome (Some S) l r)
  run-answered r = go (eqb (length l) 9) refl (state_ok S.order l) refl (accepted r) refl
    where
      go : (a : Bool) → eqb (length l) 9 ≡ a → (b : Bool) → state_ok S.order l ≡ b → (c : Bool) → accepted r ≡ c → Answered l (nine (run_end M (state_in l) r.words)) (run_points M (state_in l) r.words) (run_bytes M (state_in l) r.words) r (run_outcome (Some S) l r)
      go false e b f c g = deny l _ _ _ r _ bad_state (λ z. omega arith) (unfold run_outcome in rw e)
      go true e false f c g = deny l _ _ _ r _ bad_state (λ z. omega arith) (unfold run_outcome in rw (e, f))
      go true e true f false g = deny l _ _ _ r _ (refusal r) (eqb-false (refusal r) 0 (unfold accepted in g)) (unfold run_outcome in rw (e, f, g))
      go true e true f true g = grant l _ _ _ r _ (unfold run_outcome in rw (e, f, g, run_over-is S W r.words (state_in l) 1))

  numbers-alike : (r q : Run) → refusal r ≡ refusal q → (run_outcome (Some S) l r).number ≡ (run_outcome (Some S) l q).number
  numbers-alike r q e = go (eqb (length l) 9) refl (state_ok S.order l) refl (accepted r) refl
    where
      same : accepted q ≡ accepted r
      same = unfold accepted in ap (λ (n : ℕ). eqb n 0) (sym e)

      go : (a : Bool) → eqb (length l) 9 ≡ a → (b : Bool) → state_ok S.order l ≡ b → (c : Bool) → accepted r ≡ c → (run_outcome (Some S) l r).number ≡ (run_outcome (Some S) l q).number
      go false f b g c h = unfold run_outcome refused_run in rw f
      go true f false g c h = unfold run_outcome refused_run in rw (f, g)
      go true f true g false h = unfold run_outcome refused_run in rw (f, g, same, h) e
      go true f true g true h = unfold run_outcome accepted_run in rw (f, g, same, h, run_over-is S W r.words (state_in l) 1, run_over-is S W q.words (state_in l) 1)

  module _ (r q : Run) (i : ℕ) (d : DifferAt i r.words q.words) (z : (run_outcome (Some S) l r).number ≡ (run_outcome (Some S) l q).number) where
    -- an accepted run's state passes check 16
    bounded : (run_outcome (Some S) l r).number ≡ 0 → Bounded (reach M) (state_in l)
    bounded n = go (eqb (length l) 9) refl (state_ok S.order l) refl
      where
        go : (a : Bool) → eqb (length l) 9 ≡ a → (b : Bool) → state_ok S.order l ≡ b → Bounded (reach M) (state_in l)
        go false e b f = absurd (let k : bad_state ≡ 0 = unfold run_outcome refused_run in rw e at n in omega arith)
        go true e false f = absurd (let k : bad_state ≡ 0 = unfold run_outcome refused_run in rw (e, f) at n in omega arith)
        go true e true f = unfold model_in reach in state_ok_bounded S.order l (eqb-true _ _ e) order-high f

    run-moves : AnswersMove M.order i r q (run_outcome (Some S) l r) (run_outcome (Some S) l q)
    run-moves = go (run-answered r) (run-answered q)
      where
        go : Answered l (nine (run_end M (state_in l) r.words)) (run_points M (state_in l) r.words) (run_bytes M (state_in l) r.words) r (run_outcome (Some S) l r) → Answered l (nine (run_end M (state_in l) q.words)) (run_points M (state_in l) q.words) (run_bytes M (state_in l) q.words) q (run_outcome (Some S) l q) → AnswersMove M.order i r q (run_outcome (Some S) l r) (run_outcome (Some S) l q)
        go (granted e u) c =
            answers-move M.order i r q l _ _ _ _ _ _ _ _ (granted e u) c z (length-run_points M (state_in l) r.words) (length-run_points M (state_in l) q.words) (length-run_bytes M (state_in l) r.words) (length-run_bytes M (state_in l) q.words) (one-word-from_a_state M A (state_in l) (bounded u) i r.words q.words d)
        go (denied w o e u) (granted f v) = absurd (o (sym u ∙ z ∙ v))
        go (denied w o e u) (denied w' o' f v) =
            let g : w' ≡ w = sym v ∙ sym z ∙ u in
            rw (e, f, g) (refused-move M.order i w r q l l o)

    run_ends : i + M.order ≤ length r.words → (run_outcome (Some S) l r).end ≡ (run_outcome (Some S) l q).end
    run_ends k = go (run-answered r) (run-answered q)
      where
        go : Answered l (nine (run_end M (state_in l) r.words)) (run_points M (state_in l) r.words) (run_bytes M (state_in l) r.words) r (run_outcome (Some S) l r) → Answered l (nine (run_end M (state_in l) q.words)) (run_points M (state_in l) q.words) (run_bytes M (state_in l) q.words) q (run_outcome (Some S) l q) → (run_outcome (Some S) l r).end ≡ (run_outcome (Some S) l q).end
        go (granted e u) (granted f v) = rw (e, f) (unfold accepted_run in ap nine (one-word-ends M A (state_in l) (bounded u) i r.words q.words d k))
        go (granted e u) (denied w o f v) = absurd (o (sym v ∙ sym z ∙ u))
        go (denied w o e u) (granted f v) = absurd (o (sym u ∙ z ∙ v))
        go (denied w o e u) (denied w' o' f v) = rw (e, f) (unfold refused_run in refl)

-- ---- over the array that an accepted build left, and over its list

module _ (table base check : List ℤ) (work : List ℕ) (built : (build_outcome table base check work).answer ≡ Accepted) where
  abbrev left : Built
  left = build_outcome table base check work

  abbrev L : Model
  L = model_of table

  in_a_row : (started : Bool) (lent : List ℤ) → length lent ≡ 9 → (rs : List Run) → RunsInARow (array_of left) L started lent rs (plain_outcome table started)
  in_a_row = runs_in_a_row table base check work built

  -- the last states of two lists of runs whose joined words differ at one place, n words or more before their end
  same-last : AcceptedModel L → (started : Bool) (lent : List ℤ) → length lent ≡ 9 → (rs qs : List Run) (i : ℕ) → DifferAt i (joined rs) (joined qs) → i + L.order ≤ length (joined rs) → last_state (run_outcome (array_of left)) (first_state (array_of left) started lent) rs ≡ last_state (run_outcome (array_of left)) (first_state (array_of left) started lent) qs
  same-last A started lent n rs qs i d k =
      (in_a_row started lent n rs).state
      ∙ ap nine (sym (run_end-is-after L A (front started) (joined rs)) ∙ one-word-ends L A (after L (front started)) (after_bounded L A.in_backoff_lem (front started)) i (joined rs) (joined qs) d k ∙ run_end-is-after L A (front started) (joined qs))
      ∙ sym (in_a_row started lent n qs).state

  pub one_misheard_word : OneMisheardWord (array_of left) (plain_outcome table) L.order
  one_misheard_word =
      let holds = build_holds table base check work built in
      let accepted-list = (build_accepted table base check work built).accepted in
      let A : AcceptedModel L = accepted-model table accepted-list in
      let S = store_in left.base left.check in
      let opens : array_of left ≡ Some S = unfold array_of in opened_some left.base left.check holds.array in
      let AS : AcceptedModel (model_in S) = rw holds.model A in
      let same : S.order ≡ L.order = unfold model_in in ap (λ (N : Model). N.order) holds.model in
      record {
        plain-refused = λ started r q i d s. rw (← plain-accepted table started L accepted-list refl) (plain-number L started r ∙ refusal-alike r q i d s ∙ sym (plain-number L started q));
        plain = λ started r q i d. rw (← plain-accepted table started L accepted-list refl) (plain-moves L A started r q i d);
        plain-closer = λ started r q i d. rw (← plain-accepted table started L accepted-list refl) (plain_close L A started r q i d);
        run-refused = λ l r q i d s. rw opens (numbers-alike S holds.whole AS l r q (refusal-alike r q i d s));
        run = λ l r q i d. rw (opens, ← same) (unfold model_in in run-moves S holds.whole AS l r q i d);
        run_end_lem = λ l r q i d. rw (opens, ← same) (unfold model_in in run_ends S holds.whole AS l r q i d);
        runs = λ started lent n rs qs i d.
            rw ((in_a_row started lent n rs).scored.points, (in_a_row started lent n qs).scored.points, (in_a_row started lent n rs).lengths, (in_a_row started lent n qs).lengths) (one-word_by_the_rule L A (front started) i _ _ d);
        runs-total = λ started lent n rs qs i d.
            rw ((in_a_row started lent n rs).scored.total, (in_a_row started lent n qs).scored.total) (one-word_by_the_rule L A (front started) i _ _ d).totals;
        runs-closer = λ started lent n rs qs i d.
            rw ((in_a_row started lent n rs).scored.total, (in_a_row started lent n qs).scored.total) (one-word-closer L A (front started) i _ _ d);
        continued = λ started lent n rs qs i d k ts us l. score-alike (run_outcome_blind (array_of left)) (same-last A started lent n rs qs i d k) l;
      }
