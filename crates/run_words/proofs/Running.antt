-- A word's step, and the words of a run as the code's loop has them: those before the i-th are scored, and what is left is the run of the others from
-- the state that is carried. Assumes nothing.
use Rattle.std.specs.declared.option.Option.{Option}
use Rattle.std.specs.declared.option.Option.TheVariants.{Some, None}
use mathlib.Core.Path.{◌≡◌, refl, sym, ap, ap₂, ◌∙◌}
use mathlib.Core.Bool.{Bool, true, false, cond}
use mathlib.Core.List.{List, [], ◌∷◌, ◌++◌, append_assoc, append-nil}
use Prim.Native.Nat.{ℕ, suc, ◌+◌, ◌*◌, ◌≤◌, ◌<◌}
use native.Mathlib.Numerals.{add-one}
use native.Mathlib.Omega.{arith}
use lib.Dec.{eqb}
use lib.ListN.{length, take, drop, get_or, set, replicate, length-set, length-replicate, drop_of_length-le, take-append-drop}
use lib.Seq.{drop-cons, take-suc-set, drop-set-lt, length-take-le}
use lib.IntN.{ℤ, pos, nat_abs, ◌+ℤ◌, +ℤ_idr}
use Rattle.integer.specs.Integer.{sum}
use Rattle.integer.proofs.Arithmetic.{abs, add}
use Rattle.integer.proofs.Parts.{drop_more}
use Rattle.integer.proofs.Sums.{sum_append}
use Rattle.backoff.specs.Limits.{start_word, end_word, order_limit, largest_backoff}
use Rattle.backoff.specs.Refusal.{broken_node}
use Rattle.backoff.specs.State.{State as Carried, empty}
use Rattle.backoff.specs.Run.{written, accepted_run}
use Rattle.backoff.specs.NineNumbers.{nine}
use Rattle.backoff.specs.Store.{Store, Step, scored, stuck, restarted, word_step, step, Ran, ran, refused_at, before, onward, run_over, broken_run, ran_answer}
use Rattle.run_words.specs.Next.{left_by, next_state}
use Rattle.run_words.proofs.Sizes.{SmallTotal}

-- scored words in front of those that are left
abbrev pub before_all : List ℤ → List ℕ → Ran → Ran
before_all ps bs (ran qs cs t) = ran (ps ++ qs) (bs ++ cs) t
before_all ps bs (refused_at k) = refused_at k

pub before-none : (r : Ran) → r ≡ before_all [] [] r
before-none (ran ps bs t) = refl
before-none (refused_at k) = refl

before-one : (ps : List ℤ) (bs : List ℕ) (x : ℤ) (y : ℕ) (r : Ran) → before_all ps bs (before x y r) ≡ before_all (ps ++ (x ∷ [])) (bs ++ (y ∷ [])) r
before-one ps bs x y (ran qs cs t) = ap₂ (λ (p : List ℤ) (b : List ℕ). ran p b t) (sym (append_assoc ps (x ∷ []) qs)) (sym (append_assoc bs (y ∷ []) cs))
before-one ps bs x y (refused_at k) = refl

-- ---- a word's step, by what its walk came to

-- its points and its byte, and the state that the next word is scored from
abbrev pub step_to : ℤ → ℕ → Option Carried → Step
step_to x y (Some next) = scored x y next
step_to x y None = stuck

module _ (S : Store) (s : Carried) (w : ℕ) where
  pub step-refused : word_step S s w ≡ stuck → step S s w ≡ stuck
  unfolding step
  step-refused e = rw e (go (eqb w end_word))
    where
      go : (t : Bool) → cond t (restarted stuck (word_step S empty start_word)) stuck ≡ stuck
      go true = refl
      go false = refl

  pub step-next : (x : ℤ) (y : ℕ) (left : Carried) → word_step S s w ≡ scored x y left → step S s w ≡ step_to x y (next_state S w left)
  unfolding step
  step-next x y left e = rw e (go (eqb w end_word) (word_step S empty start_word))
    where
      go : (t : Bool) (first : Step) → cond t (restarted (scored x y left) first) (scored x y left) ≡ step_to x y (cond t (left_by first) (Some left))
      go true (scored p b begun) = refl
      go true stuck = refl
      go false first = refl

-- ---- the loop

-- the words before the i-th are scored: `points` and `lengths` are the slices now, `carried` and `total` what they leave
pub record Running (S : Store) (s : Carried) (ws : List ℕ) (points₀ : List ℤ) (lengths₀ : List ℕ) (carried : Carried) (total : ℤ) (i : ℕ) (points : List ℤ) (lengths : List ℕ) : Type 0 where
  pub at : i ≤ length ws
  pub rest : run_over S ws s 1 ≡ before_all (take i points) (take i lengths) (run_over S (drop i ws) carried (suc i))
  pub points-past : drop i points ≡ drop i points₀
  pub lengths-past : drop i lengths ≡ drop i lengths₀
  pub points-long : length points ≡ length points₀
  pub lengths-long : length lengths ≡ length lengths₀
  pub total-is : total ≡ sum (take i points)
  pub total_small : SmallTotal i total

module _ (S : Store) (s : Carried) (ws : List ℕ) (points₀ : List ℤ) (lengths₀ : List ℕ) where
  pub running_begins : (carried : Carried) → carried ≡ s → Running S s ws points₀ lengths₀ carried (pos 0) 0 points₀ lengths₀
  running_begins carried e = record {
    at = omega arith;
    rest = rw e (before-none (run_over S ws s 1));
    points-past = refl;
    lengths-past = refl;
    points-long = refl;
    lengths-long = refl;
    total-is = refl;
    total_small = omega arith;
  }

  module _ (carried : Carried) (total : ℤ) (i : ℕ) (points : List ℤ) (lengths : List ℕ) (r : Running S s ws points₀ lengths₀ carried total i points lengths) where
    -- the next word
    next_word_lem : i < length ws → run_over S (drop i ws) carried (suc i) ≡ onward (λ (t : Carried). run_over S (drop (i + 1) ws) t (suc (i + 1))) (suc i) (step S carried (get_or ws i 0))
    unfolding run_over
    next_word_lem h = rw (drop-cons ws i 0 h, add-one)

    -- is scored
    pub running_on : (x : ℤ) (y : ℕ) (next : Carried) → i < length ws → length ws ≤ length points₀ → length ws ≤ length lengths₀ → nat_abs x ≤ order_limit * largest_backoff → step S carried (get_or ws i 0) ≡ scored x y next → Running S s ws points₀ lengths₀ next (total +ℤ x) (i + 1) (set points i x) (set lengths i y)
    running_on x y next h k m z e = record {
      at = omega arith;
      rest = rw (points-taken, lengths-taken) (r.rest ∙ ap (before_all (take i points) (take i lengths)) (next_word_lem h ∙ ap (onward (λ (t : Carried). run_over S (drop (i + 1) ws) t (suc (i + 1))) (suc i)) e) ∙ before-one (take i points) (take i lengths) x y (run_over S (drop (i + 1) ws) next (suc (i + 1))));
      points-past = drop-set-lt (i + 1) points i x (omega arith) ∙ drop_more i (i + 1) points points₀ (omega arith) r.points-past;
      lengths-past = drop-set-lt (i + 1) lengths i y (omega arith) ∙ drop_more i (i + 1) lengths lengths₀ (omega arith) r.lengths-past;
      points-long = length-set points i x ∙ r.points-long;
      lengths-long = length-set lengths i y ∙ r.lengths-long;
      total-is = rw (points-taken, r.total-is) (ap (λ (u : ℤ). sum (take i points) +ℤ u) (sym (+ℤ_idr x)) ∙ sym (sum_append (take i points) (x ∷ [])));
      total_small = omega (arith, add total x, abs total, abs x, abs (total +ℤ x), r.total_small);
    }
      where
        points-taken : take (i + 1) (set points i x) ≡ take i points ++ (x ∷ [])
        points-taken = rw add-one (take-suc-set points i x (omega (arith, r.points-long)))

        lengths-taken : take (i + 1) (set lengths i y) ≡ take i lengths ++ (y ∷ [])
        lengths-taken = rw add-one (take-suc-set lengths i y (omega (arith, r.lengths-long)))

    -- is refused: so is the run, and its slices are cleared to what they would have been at first
    pub running_refused : i < length ws → step S carried (get_or ws i 0) ≡ stuck → (l ps : List ℤ) (bs : List ℕ) → ps ≡ written (replicate (length ws) (pos 0)) points → bs ≡ written (replicate (length ws) 0) lengths → record { number = broken_node; place = i + 1; total = pos 0; end = l; points = ps; lengths = bs } ≡ ran_answer l (record { words = ws; points = points₀; lengths = lengths₀ }) (run_over S ws s 1)
    running_refused h e l ps bs p b = sym (ap (ran_answer l (record { words = ws; points = points₀; lengths = lengths₀ })) refused ∙ answered)
      where
        left : run_over S (drop i ws) carried (suc i) ≡ refused_at (i + 1)
        left = next_word_lem h ∙ rw (e, add-one)

        refused : run_over S ws s 1 ≡ refused_at (i + 1)
        refused = r.rest ∙ ap (before_all (take i points) (take i lengths)) left

        answered : broken_run (i + 1) l (record { words = ws; points = points₀; lengths = lengths₀ }) ≡ record { number = broken_node; place = i + 1; total = pos 0; end = l; points = ps; lengths = bs }
        answered = unfold broken_run written in rw (p, b, length-replicate (length ws) (pos 0), length-replicate {A = ℕ} (length ws) 0, drop_more i (length ws) points points₀ r.at r.points-past, drop_more i (length ws) lengths lengths₀ r.at r.lengths-past)

    -- no word is left
    pub running_ends : length ws ≤ i → length ws ≤ length points₀ → length ws ≤ length lengths₀ → (l : List ℤ) → record { number = 0; place = 0; total = total; end = nine carried; points = points; lengths = lengths } ≡ ran_answer l (record { words = ws; points = points₀; lengths = lengths₀ }) (run_over S ws s 1)
    running_ends h k m l = sym (ap (ran_answer l (record { words = ws; points = points₀; lengths = lengths₀ })) all-scored ∙ answered)
      where
        none_left : run_over S (drop i ws) carried (suc i) ≡ ran [] [] carried
        none_left = unfold run_over in rw (drop_of_length-le ws h)

        all-scored : run_over S ws s 1 ≡ ran (take i points) (take i lengths) carried
        all-scored = r.rest ∙ ap (before_all (take i points) (take i lengths)) none_left ∙ ap₂ (λ (p : List ℤ) (b : List ℕ). ran p b carried) (append-nil (take i points)) (append-nil (take i lengths))

        answered : accepted_run (nine carried) (take i points) (take i lengths) (record { words = ws; points = points₀; lengths = lengths₀ }) ≡ record { number = 0; place = 0; total = total; end = nine carried; points = points; lengths = lengths }
        answered = unfold accepted_run written in rw (length-take-le i points (omega (arith, r.points-long, r.at)), length-take-le i lengths (omega (arith, r.lengths-long, r.at)), sym r.points-past, sym r.lengths-past, take-append-drop i points, take-append-drop i lengths, sym r.total-is)
