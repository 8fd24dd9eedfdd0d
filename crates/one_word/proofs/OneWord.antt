-- One misheard word, over any accepted model: two sequences that differ at one place, scored from the same state or after the same history, differ in points at
-- most at that word and the n − 1 after it, whether or not a 3 stands among them, and so their totals lie at most n × (2n − 1) × the largest back-off apart. So it is
-- with the length bytes, and the states after those words are equal.
-- The state may be any that check 16 passes, a caller's own too. Assumes nothing.
use mathlib.Core.Path.{◌≡◌, refl, sym, ap, ap₂, subst, ◌∙◌}
use mathlib.Core.Logic.{◌⊎◌, inl, inr}
use mathlib.Core.Bool.{Bool, true, false, cond}
use mathlib.Core.List.{List, [], ◌∷◌, ◌++◌}
use Prim.Native.Nat.{ℕ, zero, suc, ◌+◌, ◌*◌, ◌-◌, ◌≤◌, ◌<◌}
use native.Mathlib.Nat.{mul_assoc, mul-le-mul_right}
use native.Mathlib.Omega.{arith}
use lib.ListN.{length, take, drop, get_or, length-take, length-drop, take-append-drop, drop_of_length-le, get_or-append}
use lib.Seq.{split_at, length-take-le, get_or-append-add, get_or-take, get_or-drop, ext_get_or}
use lib.IntN.{ℤ, pos, nat_abs, ◌+ℤ◌, ◌-ℤ◌}
use lib.Dec.{eqb}
use Rattle.integer.specs.Integer.{sum}
use Rattle.integer.proofs.Arithmetic.{zarith, up, down, abs, add, sub}
use Rattle.integer.proofs.Ranges.{between-low, between-high, lt_or_ge}
use Rattle.integer.proofs.Sums.{sum_append, sum_bound}
use Rattle.backoff.specs.Limits.{start_word, end_word, largest_backoff, least_probability}
use Rattle.backoff.specs.Model.{Model, AcceptedModel, in_probability, probability, reach}
use Rattle.backoff.specs.Rule.{replaced, rule_points, rule_bytes}
use Rattle.backoff.specs.State.{State, empty, walk, state_of, after, points_from, next_from, step_points, step_next, start}
use Rattle.backoff.specs.Run.{run_points, run_bytes, run_end}
use Rattle.backoff.proofs.State.{next_from-is, next_from_forgets}
use Rattle.backoff.proofs.Locality.{take-fewer, state_of_local}
use Rattle.backoff.proofs.Run.{length-run_points, length-run_bytes, run_points_append, run_bytes_append, run_end_append, run_points-is-rule, run_bytes-is-rule}
use Rattle.backoff.proofs.NineNumbers.{Bounded, step_next_bounded, run_end_bounded, after_bounded}
use Rattle.backoff.proofs.Sizes.{backoff-size, each-in_backoff}
use Rattle.one_word.specs.OneWord.{DifferAt, distance, word_move, total_move, AlikeOutside, OneWordMoves}

-- ---- the points of one word

-- points that a word can have where the order is n
pub record Scorable (n : ℕ) (z : ℤ) : Type 0 where
  pub low : down z ≤ up z + n * largest_backoff
  pub high : up z ≤ down z + (n - 1) * largest_backoff

distance_scorable : (n : ℕ) (a b : ℤ) → 1 ≤ n → Scorable n a → Scorable n b → distance a b ≤ word_move n
distance_scorable n a b o s t = omega (arith, sub a b, abs (a -ℤ b), s.low, s.high, t.low, t.high)

scorable_zero : (n : ℕ) → Scorable n (pos 0)
scorable_zero n = record { low = omega arith; high = omega arith }

pub probability_window : (p : ℤ) → in_probability p ≡ true → (up p ≤ down p) × (down p ≤ up p + largest_backoff)
unfolding in_probability
probability_window p e =
    let l = between-low least_probability (pos 0) p e in
    let h = between-high least_probability (pos 0) p e in
    (omega zarith, omega zarith)

-- ---- lists of points that differ in a window of at most n words

distance_self : (z : ℤ) → distance z z ≡ 0
distance_self z = omega (arith, sub z z, abs (z -ℤ z))

pub same_close : (k : ℕ) {a b : ℤ} → a ≡ b → distance a b ≤ k
same_close k {a} {b} e = subst (λ (z : ℤ). distance a z ≤ k) e (omega (arith, distance_self a))

apart_more : (k l : ℕ) (x y a b : ℤ) → distance x y ≤ k → distance a b ≤ l * k → distance (x +ℤ a) (y +ℤ b) ≤ suc l * k
apart_more k l x y a b h g =
    omega (arith, add x a, add y b, sub x y, sub a b, sub (x +ℤ a) (y +ℤ b), abs (x -ℤ y), abs (a -ℤ b), abs ((x +ℤ a) -ℤ (y +ℤ b)))

apart-inside : (a b c e : ℤ) → distance (a +ℤ (b +ℤ e)) (a +ℤ (c +ℤ e)) ≡ distance b c
apart-inside a b c e = ap nat_abs same
  where
    same : (a +ℤ (b +ℤ e)) -ℤ (a +ℤ (c +ℤ e)) ≡ b -ℤ c
    same = omega (zarith, add a (b +ℤ e), add b e, add a (c +ℤ e), add c e, sub (a +ℤ (b +ℤ e)) (a +ℤ (c +ℤ e)), sub b c)

from_first : (l j : ℕ) → l ≤ j → j ≡ l + (j - l)
from_first l j h = omega arith

-- two lists that differ in a window: behind `a`, b or c, before e
module _ {A : Type 0} (none : A) where
  early : (a u v : List A) (j : ℕ) → j < length a → get_or (a ++ u) j none ≡ get_or (a ++ v) j none
  early a u v j l = get_or-append a u none j l ∙ sym (get_or-append a v none j l)

  late : (b c e : List A) → length b ≡ length c → (m : ℕ) → length b ≤ m → get_or (b ++ e) m none ≡ get_or (c ++ e) m none
  late b c e same m l =
      let k = m - length b in
      let p : m ≡ length b + k = omega arith in
      let q : m ≡ length c + k = omega arith in
      ap (λ (i : ℕ). get_or (b ++ e) i none) p
      ∙ get_or-append-add b e k none
      ∙ sym (get_or-append-add c e k none)
      ∙ ap (λ (i : ℕ). get_or (c ++ e) i none) (sym q)

  alike-outside : (n : ℕ) (a b c e : List A) → length b ≡ length c → length b ≤ n → AlikeOutside none n (length a) (a ++ (b ++ e)) (a ++ (c ++ e))
  alike-outside n a b c e same few = record {
    before = early a (b ++ e) (c ++ e);
    behind = λ j l.
        let m = j - length a in
        rw (from_first (length a) j (omega arith)) (get_or-append-add a (b ++ e) m none ∙ late b c e same m (omega arith) ∙ sym (get_or-append-add a (c ++ e) m none));
  }

module _ (n : ℕ) (o : 1 ≤ n) where
  sums_apart : (ps qs : List ℤ) → length ps ≡ length qs → ((j : ℕ) → Scorable n (get_or ps j (pos 0))) → ((j : ℕ) → Scorable n (get_or qs j (pos 0))) → distance (sum ps) (sum qs) ≤ length ps * word_move n
  sums_apart [] [] e f g = omega arith
  sums_apart [] (y ∷ qs) e f g = absurd (omega arith)
  sums_apart (x ∷ ps) [] e f g = absurd (omega arith)
  sums_apart (x ∷ ps) (y ∷ qs) e f g =
      apart_more (word_move n) (length ps) x y (sum ps) (sum qs) (distance_scorable n x y o (f 0) (g 0)) (sums_apart ps qs (omega arith) (λ j. f (suc j)) (λ j. g (suc j)))

  module _ (a b c e : List ℤ) (same : length b ≡ length c) (few : length b ≤ n) (f : (j : ℕ) → Scorable n (get_or b j (pos 0))) (g : (j : ℕ) → Scorable n (get_or c j (pos 0))) where
    -- the m-th from the window's first on
    close : (m : ℕ) → distance (get_or (b ++ e) m (pos 0)) (get_or (c ++ e) m (pos 0)) ≤ word_move n
    close m = go (lt_or_ge m (length b))
      where
        go : (m < length b) ⊎ (length b ≤ m) → distance (get_or (b ++ e) m (pos 0)) (get_or (c ++ e) m (pos 0)) ≤ word_move n
        go (inl l) = rw (get_or-append b e (pos 0) m l, get_or-append c e (pos 0) m (omega arith)) (distance_scorable n _ _ o (f m) (g m))
        go (inr l) = same_close (word_move n) (late (pos 0) b c e same m l)

    each_close : (j : ℕ) → distance (get_or (a ++ (b ++ e)) j (pos 0)) (get_or (a ++ (c ++ e)) j (pos 0)) ≤ word_move n
    each_close j = go (lt_or_ge j (length a))
      where
        go : (j < length a) ⊎ (length a ≤ j) → distance (get_or (a ++ (b ++ e)) j (pos 0)) (get_or (a ++ (c ++ e)) j (pos 0)) ≤ word_move n
        go (inl l) = same_close (word_move n) (early (pos 0) a (b ++ e) (c ++ e) j l)
        go (inr l) = rw (from_first (length a) j l) (rw (get_or-append-add a (b ++ e) (j - length a) (pos 0), get_or-append-add a (c ++ e) (j - length a) (pos 0)) (close (j - length a)))

    totals_close : distance (sum (a ++ (b ++ e))) (sum (a ++ (c ++ e))) ≤ total_move n
    totals_close =
        rw (sum_append a (b ++ e), sum_append b e, sum_append a (c ++ e), sum_append c e, apart-inside (sum a) (sum b) (sum c) (sum e))
        (omega (arith, sums_apart b c same f g, mul-le-mul_right (word_move n) few, mul_assoc n (2 * n - 1) largest_backoff))

-- ---- the words around the place

module _ (i : ℕ) (us vs : List ℕ) (d : DifferAt i us vs) where
  pub split_first : us ≡ take i us ++ (get_or us i 0 ∷ drop (suc i) us)
  split_first = split_at us i 0 d.inside

  same-front : take i vs ≡ take i us
  same-front =
      ext_get_or 0 (take i vs) (take i us) (omega (arith, length-take i vs, length-take i us, d.same_length))
      (λ j l.
      let k : j < i = omega (arith, length-take i vs) in
      get_or-take i vs j 0 k ∙ sym (d.alike j (λ e. omega arith)) ∙ sym (get_or-take i us j 0 k))

  same_rest : drop (suc i) vs ≡ drop (suc i) us
  same_rest =
      ext_get_or 0 (drop (suc i) vs) (drop (suc i) us) (omega (arith, length-drop (suc i) vs, length-drop (suc i) us, d.same_length))
      (λ j l. get_or-drop (suc i) vs j 0 ∙ sym (d.alike (suc i + j) (λ e. omega arith)) ∙ sym (get_or-drop (suc i) us j 0))

  pub split_second : vs ≡ take i us ++ (get_or vs i 0 ∷ drop (suc i) us)
  split_second =
      split_at vs i 0 (omega (arith, d.inside, d.same_length))
      ∙ ap₂ (λ (x y : List ℕ). x ++ (get_or vs i 0 ∷ y)) same-front same_rest

-- ---- over an accepted model

module _ (M : Model) (A : AcceptedModel M) where
  -- the words that a state stands for once w is scored after g; those of g are replaced already, or a caller's own
  abbrev left : List ℕ → ℕ → List ℕ
  left g w = cond (eqb w end_word) (replaced M start_word ∷ []) (replaced M w ∷ g)

  step_next-left : (s : State) (w : ℕ) → step_next M s w ≡ state_of M (left s.words w)
  unfolding step_next start
  step_next-left s w = go (eqb w end_word)
    where
      go : (e : Bool) → cond e (next_from M empty (replaced M start_word)) (next_from M s (replaced M w)) ≡ state_of M (cond e (replaced M start_word ∷ []) (replaced M w ∷ s.words))
      go true = next_from_forgets M A empty (replaced M start_word)
      go false = next_from_forgets M A s (replaced M w)

  step_next-state_of : (g : List ℕ) (w : ℕ) → step_next M (state_of M g) w ≡ state_of M (left g w)
  unfolding step_next start
  step_next-state_of g w = go (eqb w end_word)
    where
      go : (e : Bool) → cond e (next_from M empty (replaced M start_word)) (next_from M (state_of M g) (replaced M w)) ≡ state_of M (cond e (replaced M start_word ∷ []) (replaced M w ∷ g))
      go true = next_from_forgets M A empty (replaced M start_word)
      go false = next_from-is M A g (replaced M w)

  left-alike : (i : ℕ) (g k : List ℕ) (w : ℕ) → take i g ≡ take i k → take (suc i) (left g w) ≡ take (suc i) (left k w)
  left-alike i g k w e = go (eqb w end_word)
    where
      go : (b : Bool) → take (suc i) (cond b (replaced M start_word ∷ []) (replaced M w ∷ g)) ≡ take (suc i) (cond b (replaced M start_word ∷ []) (replaced M w ∷ k))
      go true = refl
      go false = ap (λ (l : List ℕ). replaced M w ∷ l) e

  ends-alike : (i : ℕ) (g k ws : List ℕ) → reach M ≤ length ws + i → take i g ≡ take i k → run_end M (state_of M g) ws ≡ run_end M (state_of M k) ws
  unfolding run_end
  ends-alike i g k [] l e = state_of_local M g k (take-fewer (reach M) i g k (omega arith) e)
  ends-alike i g k (w ∷ ws) l e = rw (step_next-state_of g w, step_next-state_of k w) (ends-alike (suc i) (left g w) (left k w) ws (omega arith) (left-alike i g k w e))

  -- n − 1 words on, nothing shows of two words, whatever they are and whatever stood before them
  settled : (s : State) (v w : ℕ) (ws : List ℕ) → reach M ≤ length ws → run_end M s (v ∷ ws) ≡ run_end M s (w ∷ ws)
  unfolding run_end
  settled s v w ws l = rw (step_next-left s v, step_next-left s w) (ends-alike 0 (left s.words v) (left s.words w) ws (omega arith) refl)

  word_scorable : (s : State) → Bounded (reach M) s → (w : ℕ) → Scorable M.order (step_points M s w)
  unfolding step_points points_from reach
  word_scorable s b w =
      let v = replaced M w in
      let j = walk M v s.words in
      let bs = drop j s.backoffs in
      let p = probability M (v ∷ take j s.words) in
      let q = probability_window p (A.in_probability_lem (v ∷ take j s.words)) in
      let t = sum_bound largest_backoff bs (λ i h. backoff-size (get_or bs i (pos 0)) (rw (get_or-drop j s.backoffs i (pos 0)) (each-in_backoff s.backoffs b.in_backoffs (j + i)))) in
      let few : length bs + 1 ≤ M.order = omega (arith, length-drop j s.backoffs, b.even, b.few, A.order-low) in
      record {
        low = omega (arith, add p (sum bs), q, t, few);
        high = omega (arith, add p (sum bs), q, t, few);
      }

  points_scorable : (ws : List ℕ) (s : State) → Bounded (reach M) s → (j : ℕ) → Scorable M.order (get_or (run_points M s ws) j (pos 0))
  unfolding run_points
  points_scorable [] s b j = scorable_zero M.order
  points_scorable (w ∷ ws) s b zero = word_scorable s b w
  points_scorable (w ∷ ws) s b (suc j) = points_scorable ws (step_next M s w) (step_next_bounded M A.in_backoff_lem s w) j

  module _ (s : State) (b : Bounded (reach M) s) (us : List ℕ) (ws : List ℕ) where
    abbrev t : State
    t = run_end M s us

    -- the word and the n − 1 after it, and what comes then
    abbrev window : ℕ → List ℕ
    window v = v ∷ take (reach M) ws

    abbrev later : List ℕ
    later = drop (reach M) ws

    words_are : (v : ℕ) → us ++ (v ∷ ws) ≡ us ++ (window v ++ later)
    words_are v = ap (λ (l : List ℕ). us ++ (v ∷ l)) (sym (take-append-drop (reach M) ws))

    parts : (v : ℕ) → run_points M s (us ++ (v ∷ ws)) ≡ run_points M s us ++ (run_points M t (window v) ++ run_points M (run_end M t (window v)) later)
    parts v =
        ap (run_points M s) (words_are v)
        ∙ run_points_append M s us (window v ++ later)
        ∙ ap (λ (l : List ℤ). run_points M s us ++ l) (run_points_append M t (window v) later)

    byte_parts : (v : ℕ) → run_bytes M s (us ++ (v ∷ ws)) ≡ run_bytes M s us ++ (run_bytes M t (window v) ++ run_bytes M (run_end M t (window v)) later)
    byte_parts v =
        ap (run_bytes M s) (words_are v)
        ∙ run_bytes_append M s us (window v ++ later)
        ∙ ap (λ (l : List ℕ). run_bytes M s us ++ l) (run_bytes_append M t (window v) later)

    same_later : {A : Type 0} (f : State → List ℕ → List A) → ((s : State) → f s [] ≡ []) → (v w : ℕ) → f (run_end M t (window v)) later ≡ f (run_end M t (window w)) later
    same_later f none v w = go (lt_or_ge (length ws) (reach M))
      where
        go : (length ws < reach M) ⊎ (reach M ≤ length ws) → f (run_end M t (window v)) later ≡ f (run_end M t (window w)) later
        go (inl l) = let e : drop (reach M) ws ≡ [] = drop_of_length-le ws {i = reach M} (omega arith) in rw e (none _ ∙ sym (none _))
        go (inr l) = ap (λ (x : State). f x later) (settled t v w (take (reach M) ws) (omega (arith, length-take-le (reach M) ws l)))

    few : (v : ℕ) → length (window v) ≤ M.order
    few v = unfold reach in omega (arith, length-take (reach M) ws, A.order-low)

    points-alike : (v w : ℕ) → AlikeOutside (pos 0) M.order (length us) (run_points M s (us ++ (v ∷ ws))) (run_points M s (us ++ (w ∷ ws)))
    points-alike v w =
        rw (parts v, parts w, same_later (run_points M) (λ x. unfold run_points in refl) w v, ← length-run_points M s us)
        (alike-outside (pos 0) M.order (run_points M s us) (run_points M t (window v)) (run_points M t (window w)) _ (length-run_points M t (window v) ∙ sym (length-run_points M t (window w))) (omega (arith, few v, length-run_points M t (window v))))

    lengths-alike : (v w : ℕ) → AlikeOutside 0 M.order (length us) (run_bytes M s (us ++ (v ∷ ws))) (run_bytes M s (us ++ (w ∷ ws)))
    lengths-alike v w =
        rw (byte_parts v, byte_parts w, same_later (run_bytes M) (λ x. unfold run_bytes in refl) w v, ← length-run_bytes M s us)
        (alike-outside 0 M.order (run_bytes M s us) (run_bytes M t (window v)) (run_bytes M t (window w)) _ (length-run_bytes M t (window v) ∙ sym (length-run_bytes M t (window w))) (omega (arith, few v, length-run_bytes M t (window v))))

    moves : (v w : ℕ) → OneWordMoves M.order (length us) (run_points M s (us ++ (v ∷ ws))) (run_points M s (us ++ (w ∷ ws))) (run_bytes M s (us ++ (v ∷ ws))) (run_bytes M s (us ++ (w ∷ ws)))
    moves v w =
        let u : Bounded (reach M) t = run_end_bounded M A.in_backoff_lem us s b in
        let a = run_points M s us in
        let x = run_points M t (window v) in
        let y = run_points M t (window w) in
        let e = run_points M (run_end M t (window v)) later in
        let same : length x ≡ length y = length-run_points M t (window v) ∙ sym (length-run_points M t (window w)) in
        let short : length x ≤ M.order = omega (arith, few v, length-run_points M t (window v)) in
        let f = points_scorable (window v) t u in
        let g = points_scorable (window w) t u in
        let q : run_points M s (us ++ (w ∷ ws)) ≡ a ++ (y ++ e) = parts w ∙ ap (λ (l : List ℤ). a ++ (y ++ l)) (same_later (run_points M) (λ x. unfold run_points in refl) w v) in
        record {
          points = points-alike v w;
          lengths = lengths-alike v w;
          each = rw (parts v, q) (each_close M.order A.order-low a x y e same short f g);
          totals = rw (parts v, q) (totals_close M.order A.order-low a x y e same short f g);
        }

    -- where n − 1 words come after the place, the states that are left are one
    ends : (v w : ℕ) → reach M ≤ length ws → run_end M s (us ++ (v ∷ ws)) ≡ run_end M s (us ++ (w ∷ ws))
    ends v w l = run_end_append M s us (v ∷ ws) ∙ settled t v w ws l ∙ sym (run_end_append M s us (w ∷ ws))

  -- from any state that check 16 passes
  pub one-word-from_a_state : (s : State) → Bounded (reach M) s → (i : ℕ) (us vs : List ℕ) → DifferAt i us vs → OneWordMoves M.order i (run_points M s us) (run_points M s vs) (run_bytes M s us) (run_bytes M s vs)
  one-word-from_a_state s b i us vs d =
      subst (λ (k : ℕ). OneWordMoves M.order k (run_points M s us) (run_points M s vs) (run_bytes M s us) (run_bytes M s vs)) (length-take-le i us (omega (arith, d.inside)))
      (subst (λ (l : List ℕ). OneWordMoves M.order (length (take i us)) (run_points M s l) (run_points M s vs) (run_bytes M s l) (run_bytes M s vs)) (sym (split_first i us vs d))
      (rw (split_second i us vs d) (moves s b (take i us) (drop (suc i) us) (get_or us i 0) (get_or vs i 0))))

  pub one-word-ends : (s : State) → Bounded (reach M) s → (i : ℕ) (us vs : List ℕ) → DifferAt i us vs → i + M.order ≤ length us → run_end M s us ≡ run_end M s vs
  one-word-ends s b i us vs d l =
      ap (run_end M s) (split_first i us vs d)
      ∙ ends s b (take i us) (drop (suc i) us) (get_or us i 0) (get_or vs i 0) (unfold reach in omega (arith, length-drop (suc i) us))
      ∙ sym (ap (run_end M s) (split_second i us vs d))

  -- by the rule, after any preceding words
  pub one-word_by_the_rule : (h : List ℕ) (i : ℕ) (us vs : List ℕ) → DifferAt i us vs → OneWordMoves M.order i (rule_points M h us) (rule_points M h vs) (rule_bytes M h us) (rule_bytes M h vs)
  one-word_by_the_rule h i us vs d =
      rw (← run_points-is-rule M A h us, ← run_points-is-rule M A h vs, ← run_bytes-is-rule M A h us, ← run_bytes-is-rule M A h vs) (one-word-from_a_state (after M h) (after_bounded M A.in_backoff_lem h) i us vs d)
