-- The three calls of one sentence: what they answer together, and how large its total gets. Assumes nothing.
use Rattle.std.specs.declared.option.Option.{Option}
use Rattle.std.specs.declared.option.Option.TheVariants.{Some, None}
use Rattle.std.specs.declared.result.Result.{Result}
use Rattle.std.specs.declared.result.Result.TheVariants.{Ok, Err}
use Rattle.std.specs.Result.{result_ok}
use Rattle.run_answer.proofs.Refused.{some-number}
use Rattle.backoff.specs.declared.Refusal.{Refusal}
use Rattle.backoff.specs.Refusal.{number_in}
use mathlib.Core.Path.{◌≡◌, refl, sym, ap, ap₂, ◌∙◌}
use mathlib.Core.Bool.{Bool, true, false, cond, ◌&&◌, true≢false}
use mathlib.Core.List.{List, [], ◌∷◌}
use Prim.Native.Nat.{ℕ, ◌*◌, ◌≤◌}
use native.Mathlib.Omega.{arith}
use lib.ListN.{length, get_or}
use lib.IntN.{ℤ, nat_abs, ◌+ℤ◌}
use lib.Dec.{eqb}
use mir.Syntax.{w64}
use mir.Val.{SFits, of_z, to_z}
use mir.Facts.{to_z-of_z}
use borrow.Author.Tests.{eq-eqb, ne_eqb, eqb-true, eqb-false}
use Rattle.integer.proofs.Arithmetic.{zarith, abs, add, and_no}
use Rattle.integer.proofs.Ranges.{and_left, and_right}
use Rattle.backoff.specs.Run.{Run, Answer}
use Rattle.backoff.specs.Store.{Store, Started, run_outcome}
use Rattle.backoff.proofs.Slices.{Keeps, run_outcome_keeps}
use Rattle.double_array.specs.DoubleArray.{opened}
use Rattle.score.specs.Answers.{started_over}
use Rattle.score.proofs.Sizes.{run_total, run-total_small}
use Rattle.closed_sentence.specs.declared.Sentence.{Sentence}
use Rattle.closed_sentence.specs.Sentence.{closing_run, words_run, closed, is_scored, sentence_total}
use Rattle.closed_sentence.specs.Inner.{closing_of, sentence_of, SentenceIs}

-- ---- a call that is accepted, and one that is not

pub accepted : {A : Type 0} (r : Result A (Refusal ℕ)) (a : A) → Some a ≡ result_ok r → r ≡ Ok a
accepted (Ok b) a e = cc
accepted {A} (Err refusal) a e = let z : ◌≡◌ {A = ℕ} 0 1 = cc in absurd (omega arith)

pub refused : {A : Type 0} (r : Result A (Refusal ℕ)) → None ≡ result_ok r → number_in r ≡ 0 → ⊥
refused (Ok b) e z = let z : ◌≡◌ {A = ℕ} 0 1 = cc in omega arith
refused (Err refusal) e z = some-number refusal.reason z

-- ---- an answer by a test: a sentence, or none

module _ (t : Bool) (s : Sentence) where
  told_whole : (u : Sentence) → Some u ≡ cond t (Some s) None → (t ≡ true) × (u ≡ s)
  told_whole u e = go t e
    where
      go : (b : Bool) → Some u ≡ cond b (Some s) None → (b ≡ true) × (u ≡ s)
      go true q = (refl, cc)
      go false q = let z : ◌≡◌ {A = ℕ} 0 1 = cc in absurd (omega arith)

  told_refused : None ≡ cond t (Some s) None → t ≡ false
  told_refused e = go t e
    where
      go : (b : Bool) → None ≡ cond b (Some s) None → b ≡ false
      go true q = let z : ◌≡◌ {A = ℕ} 0 1 = cc in absurd (omega arith)
      go false q = refl

-- ---- the closing 3

module _ {a b : Answer (List ℤ)} (e : b ≡ a) where
  pub closing_no : (b.number ≡ 0 → ⊥) → None ≡ closing_of a
  closing_no n = rw (sym e, ne_eqb b.number 0 n)

  pub closing_yes : b.number ≡ 0 → (x : ℤ) → x ≡ b.total → Some (record { total = x; closing = get_or b.lengths 0 0 }) ≡ closing_of a
  closing_yes z x t = rw (sym e, eq-eqb b.number 0 z, t)

module _ (a : Answer (List ℤ)) where
  closing_whole : (u : Sentence) → Some u ≡ closing_of a → (a.number ≡ 0) × (u ≡ record { total = a.total; closing = get_or a.lengths 0 0 })
  closing_whole u e = let t = told_whole (eqb a.number 0) (record { total = a.total; closing = get_or a.lengths 0 0 }) u e in (eqb-true _ _ t.0, t.1)

  closing_refused : None ≡ closing_of a → a.number ≡ 0 → ⊥
  closing_refused e = eqb-false a.number 0 (told_refused (eqb a.number 0) (record { total = a.total; closing = get_or a.lengths 0 0 }) e)

list_of-one : (l : List ℕ) → length l ≡ 1 → l ≡ get_or l 0 0 ∷ []
list_of-one [] h = absurd (omega arith)
list_of-one (x ∷ []) h = refl
list_of-one (x ∷ y ∷ l) h = absurd (omega arith)

module _ (o : Option Store) (r : Run) where
  -- it has one length byte
  pub closed-long : length (closed o r).lengths ≡ 1
  unfolding closed
  closed-long = (run_outcome_keeps (words_run o r).end closing_run o).lengths

  pub closed-one : (closed o r).lengths ≡ get_or (closed o r).lengths 0 0 ∷ []
  closed-one = list_of-one (closed o r).lengths closed-long

  -- ---- the three calls

  -- the words leave as many items as they were lent
  pub words_keep : Keeps r (words_run o r)
  unfolding words_run
  words_keep = run_outcome_keeps (started_over o).state r o

  pub start_refuses : ((started_over o).number ≡ 0 → ⊥) → is_scored o r ≡ false
  unfolding is_scored
  start_refuses n = rw (ne_eqb (started_over o).number 0 n)

  pub words-refuse : ((words_run o r).number ≡ 0 → ⊥) → is_scored o r ≡ false
  unfolding is_scored
  words-refuse n = and_no (eqb (started_over o).number 0) _ (rw (ne_eqb (words_run o r).number 0 n))

  pub closing_refuses : ((closed o r).number ≡ 0 → ⊥) → is_scored o r ≡ false
  unfolding is_scored
  closing_refuses n = and_no (eqb (started_over o).number 0) _ (and_no (eqb (words_run o r).number 0) _ (ne_eqb (closed o r).number 0 n))

  pub none_refuses : (started_over o).number ≡ 0 → (words_run o r).number ≡ 0 → (closed o r).number ≡ 0 → is_scored o r ≡ true
  unfolding is_scored
  none_refuses p q s = rw (eq-eqb (started_over o).number 0 p, eq-eqb (words_run o r).number 0 q, eq-eqb (closed o r).number 0 s)

  pub scored-parts : is_scored o r ≡ true → ((started_over o).number ≡ 0) × (((words_run o r).number ≡ 0) × ((closed o r).number ≡ 0))
  unfolding is_scored
  scored-parts e =
      let s = eqb (started_over o).number 0 in
      let w = eqb (words_run o r).number 0 in
      let c = eqb (closed o r).number 0 in
      let rest = and_right s (w && c) e in
      (eqb-true _ _ (and_left s (w && c) e), (eqb-true _ _ (and_left w c rest), eqb-true _ _ (and_right w c rest)))

  refused-sentence : is_scored o r ≡ false → (points : List ℤ) (lengths : List ℕ) → SentenceIs o r None points lengths
  refused-sentence e points lengths = record { answer-is = rw e; points_are = λ t. absurd (true≢false (sym t ∙ e)); lengths_are = λ t. absurd (true≢false (sym t ∙ e)) }

  whole-sentence : is_scored o r ≡ true → (total : ℤ) → total ≡ sentence_total o r → (closing : ℕ) → closing ≡ get_or (closed o r).lengths 0 0 → (points : List ℤ) → points ≡ (words_run o r).points → (lengths : List ℕ) → lengths ≡ (words_run o r).lengths → SentenceIs o r (Some (record { total = total; closing = closing })) points lengths
  whole-sentence s total t closing c points p lengths l = record { answer-is = rw (s, t, c); points_are = λ e. p; lengths_are = λ e. l }

  pub sentence-whole : (u : Sentence) → Some u ≡ sentence_of o r → (is_scored o r ≡ true) × (u ≡ record { total = sentence_total o r; closing = get_or (closed o r).lengths 0 0 })
  sentence-whole = told_whole (is_scored o r) (record { total = sentence_total o r; closing = get_or (closed o r).lengths 0 0 })

  pub sentence-refused : None ≡ sentence_of o r → is_scored o r ≡ false
  sentence-refused = told_refused (is_scored o r) (record { total = sentence_total o r; closing = get_or (closed o r).lengths 0 0 })

-- a run that was answered from start's state, and a 3 from the state that it left
module _ (o : Option Store) (s : Started) (s-is : s ≡ started_over o) where
  number_is : s.number ≡ (started_over o).number
  number_is = ap (λ (x : Started). x.number) s-is

  -- start is refused
  pub no_start : (s.number ≡ 0 → ⊥) → (r : Run) (points : List ℤ) (lengths : List ℕ) → SentenceIs o r None points lengths
  no_start n r = refused-sentence o r (start_refuses o r (λ e. n (number_is ∙ e)))

  module _ (r : Run) (a : Answer (List ℤ)) (a_is : a ≡ run_outcome o s.state r) where
    words_run-is : a ≡ words_run o r
    unfolding words_run
    words_run-is = a_is ∙ ap (λ (x : Started). run_outcome o x.state r) s-is

    closed_is : run_outcome o a.end closing_run ≡ closed o r
    unfolding closed
    closed_is = ap (λ (x : Answer (List ℤ)). run_outcome o x.end closing_run) words_run-is

    -- the words are refused
    pub no_words_lem : (a.number ≡ 0 → ⊥) → (points : List ℤ) (lengths : List ℕ) → SentenceIs o r None points lengths
    no_words_lem n = refused-sentence o r (words-refuse o r (λ e. n (ap (λ (x : Answer (List ℤ)). x.number) words_run-is ∙ e)))

    -- the 3 is refused
    pub no_closing : None ≡ closing_of (run_outcome o a.end closing_run) → (points : List ℤ) (lengths : List ℕ) → SentenceIs o r None points lengths
    no_closing e = refused-sentence o r (closing_refuses o r (closing_refused (closed o r) (e ∙ ap closing_of closed_is)))

    -- none is
    pub all_three : s.number ≡ 0 → a.number ≡ 0 → (u : Sentence) → Some u ≡ closing_of (run_outcome o a.end closing_run) → (total : ℤ) → total ≡ a.total +ℤ u.total → SentenceIs o r (Some (record { total = total; closing = u.closing })) a.points a.lengths
    all_three p q u e total t =
        let w = closing_whole (closed o r) u (e ∙ ap closing_of closed_is) in
        whole-sentence o r
        (none_refuses o r (sym number_is ∙ p) (sym (ap (λ (x : Answer (List ℤ)). x.number) words_run-is) ∙ q) w.0)
        total (t ∙ ap₂ (λ (u v : ℤ). u +ℤ v) (ap (λ (x : Answer (List ℤ)). x.total) words_run-is) (ap (λ (v : Sentence). v.total) w.1) ∙ (unfold sentence_total in refl))
        u.closing (ap (λ (v : Sentence). v.closing) w.1)
        a.points (ap (λ (x : Answer (List ℤ)). x.points) words_run-is)
        a.lengths (ap (λ (x : Answer (List ℤ)). x.lengths) words_run-is)

-- ---- how large totals get, over any lent arrays

-- no total of a sentence gets further from 0
abbrev pub total_limit : ℕ
total_limit = 2 * run_total

module _ (base check : List ℤ) where
  pub run-answer_small : (l : List ℤ) (r : Run) (a : Answer (List ℤ)) → a ≡ run_outcome (opened base check) l r → nat_abs a.total ≤ run_total
  run-answer_small l r a e = rw e (run-total_small base check l r)

  pub closing_small : (l : List ℤ) (r : Run) (u : Sentence) → Some u ≡ closing_of (run_outcome (opened base check) l r) → nat_abs u.total ≤ run_total
  closing_small l r u e = rw (ap (λ (v : Sentence). v.total) (closing_whole (run_outcome (opened base check) l r) u e).1) (run-total_small base check l r)

  pub sentence-total_small : (r : Run) → nat_abs (sentence_total (opened base check) r) ≤ total_limit
  unfolding sentence_total words_run closed
  sentence-total_small r =
      let o = opened base check in
      let x = (words_run o r).total in
      let y = (closed o r).total in
      omega (arith, run-total_small base check (started_over o).state r, run-total_small base check (words_run o r).end closing_run, add x y, abs x, abs y, abs (x +ℤ y))

pub total-back : (x : ℤ) → nat_abs x ≤ total_limit → to_z w64 (of_z w64 x) ≡ x
total-back x h = let f : SFits w64 x = omega (zarith, abs x) in to_z-of_z f

-- two totals of runs, added
module _ (x y : ℤ) (p : nat_abs x ≤ run_total) (q : nat_abs y ≤ run_total) where
  pub two_fit : SFits w64 (to_z w64 (of_z w64 x) +ℤ to_z w64 (of_z w64 y))
  two_fit = rw (total-back x (omega (arith, p)), total-back y (omega (arith, q))) (omega (zarith, add x y, abs x, abs y))

  pub two-added : to_z w64 (of_z w64 (to_z w64 (of_z w64 x) +ℤ to_z w64 (of_z w64 y))) ≡ x +ℤ y
  two-added = to_z-of_z two_fit ∙ ap₂ (λ (u v : ℤ). u +ℤ v) (total-back x (omega (arith, p))) (total-back y (omega (arith, q)))
