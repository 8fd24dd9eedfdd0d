-- Over a double array 12 refuses a word exactly where its walk meets one of the conditions of document 01's table, and a run at the first such word.
-- Assumes nothing.
use Rattle.std.specs.declared.option.Option.{Option}
use Rattle.std.specs.declared.option.Option.TheVariants.{Some, None}
use mathlib.Core.Path.{◌≡◌, refl, sym, ap, ◌∙◌}
use mathlib.Core.Logic.{◌⊎◌, inl, inr}
use mathlib.Core.Bool.{Bool, true, false, not, cond, ◌&&◌, ◌||◌, or-true, true≢false, false≢true}
use mathlib.Core.List.{List, [], ◌∷◌, ◌++◌}
use Prim.Native.Nat.{ℕ, zero, suc, ◌+◌, ◌<◌}
use native.Mathlib.Nat.{add-zero}
use native.Mathlib.Omega.{arith}
use lib.Dec.{eqb}
use lib.IntN.{ℤ}
use lib.ListN.{length, take, drop, take-append-drop}
use lib.Seq.{take_all}
use borrow.Author.Tests.{eq-eqb, eqb-true}
use Rattle.backoff.specs.Limits.{unknown_word, start_word, end_word}
use Rattle.backoff.specs.Model.{Entry, listed, is_some}
use Rattle.backoff.specs.Rule.{replaced}
use Rattle.backoff.specs.State.{State, empty, walk, step_next}
use Rattle.backoff.specs.Run.{run_end, run_points, run_bytes}
use Rattle.backoff.specs.Store.{Look, absent, broken, here, Store, entry_of, is_broken, model_in, ends_broken, refused_at, before, onward, run_over}
use Rattle.backoff.proofs.Climb.{climb-stopped}
use Rattle.backoff.proofs.Store.{model_ran, word_stuck, stuck_at, step-stuck, onward-scored}
use Rattle.markers.specs.Markers.{Marker, Sound, Broken}
use Rattle.child_slots.specs.Children.{child_at}
use Rattle.double_array.specs.DoubleArray.{marker_at, down_to, look_from, store_in}
use Rattle.double_array.proofs.DoubleArray.{look-here, look-down, look-broken}
use Rattle.score.specs.Meaning.{Unwalkable, broken-walk, broken-unknown, no-unknown, Stuck, at-the-word, at-start, StuckWord, StuckWords}

module _ (base check : List ℤ) where
  abbrev S : Store
  S = store_in base check

  -- ---- the walk

  -- a walk that has come to no node, or to one without a sound marker, comes to the same with more words
  from_stays : (k s : ℕ) (us vs : List ℕ) (x : Look) → entry_of x ≡ None → look_from base check k s us ≡ x → look_from base check k s (us ++ vs) ≡ x
  from_stays k s [] vs x n e = go (marker_at base check k s) refl
    where
      go : (m : Marker) → marker_at base check k s ≡ m → look_from base check k s vs ≡ x
      go (Sound p b c f) m = absurd (let q : ◌≡◌ {A = ℕ} 1 0 = ap (λ (l : Look). cond (is_some (entry_of l)) 1 0) (sym (look-here base check k s p b c f m) ∙ e) ∙ rw n in omega arith)
      go Broken m = look-broken base check k s vs m ∙ sym (look-broken base check k s [] m) ∙ e
  from_stays k s (w ∷ us) vs x n e = go (marker_at base check k s) refl (λ t. from_stays (suc k) t us vs x n)
    where
      down : (c : Option ℕ) → ((t : ℕ) → look_from base check (suc k) t us ≡ x → look_from base check (suc k) t (us ++ vs) ≡ x) → down_to c (λ (t : ℕ). look_from base check (suc k) t us) ≡ x → down_to c (λ (t : ℕ). look_from base check (suc k) t (us ++ vs)) ≡ x
      down (Some t) ih h = ih t h
      down None ih h = h

      go : (m : Marker) → marker_at base check k s ≡ m → ((t : ℕ) → look_from base check (suc k) t us ≡ x → look_from base check (suc k) t (us ++ vs) ≡ x) → look_from base check k s (w ∷ (us ++ vs)) ≡ x
      go (Sound p b c f) m ih = look-down base check k s p b c f w (us ++ vs) m ∙ down (child_at base check s w) ih (sym (look-down base check k s p b c f w us m) ∙ e)
      go Broken m ih = look-broken base check k s (w ∷ (us ++ vs)) m ∙ sym (look-broken base check k s (w ∷ us) m) ∙ e

  look_stays : (v i : ℕ) (ws : List ℕ) (x : Look) → entry_of x ≡ None → S.look (v ∷ take i ws) ≡ x → S.look (v ∷ ws) ≡ x
  unfolding store_in
  look_stays v i ws x n e = ap (λ (l : List ℕ). S.look (v ∷ l)) (sym (take-append-drop i ws)) ∙ from_stays 0 0 (v ∷ take i ws) (drop i ws) x n e

  -- the walk from a node that is there ends at a broken one exactly if one lies on its way
  ends-broken : (v : ℕ) (ws : List ℕ) → ends_broken S ws v ≡ true → S.look (v ∷ ws) ≡ broken
  unfolding ends_broken
  ends-broken v ws e = go (S.look (v ∷ take (suc (walk (model_in S) v ws)) ws)) refl e
    where
      go : (l : Look) → S.look (v ∷ take (suc (walk (model_in S) v ws)) ws) ≡ l → is_broken l ≡ true → S.look (v ∷ ws) ≡ broken
      go absent q h = absurd (false≢true h)
      go broken q h = look_stays v (suc (walk (model_in S) v ws)) ws broken refl q
      go (here x) q h = absurd (false≢true h)

  broken-ends : (v : ℕ) (ws : List ℕ) → S.look (v ∷ ws) ≡ broken → ends_broken S ws v ≡ true
  unfolding ends_broken walk listed model_in
  broken-ends v ws e = go (S.look (v ∷ take (suc j) ws)) refl (climb-stopped (λ i. is_some (entry_of (S.look (v ∷ take i ws)))) (length ws) 0)
    where
      j : ℕ
      j = walk (model_in S) v ws

      clash : {x : Look} → S.look (v ∷ ws) ≡ x → is_broken x ≡ true
      clash q = ap is_broken (sym q ∙ e)

      go : (l : Look) → S.look (v ∷ take (suc j) ws) ≡ l → (j ≡ 0 + length ws) ⊎ (is_some (entry_of (S.look (v ∷ take (suc j) ws))) ≡ false) → is_broken (S.look (v ∷ take (suc j) ws)) ≡ true
      go absent q c = absurd (false≢true (clash (look_stays v (suc j) ws absent refl q)))
      go broken q c = ap is_broken q
      go (here x) q (inl z) = absurd (false≢true (clash (ap (λ (l : List ℕ). S.look (v ∷ l)) (sym (take_all (suc j) ws (omega arith))) ∙ q)))
      go (here x) q (inr z) = absurd (true≢false (ap (λ (l : Look). is_some (entry_of l)) (sym q) ∙ z))

  -- ---- a word

  refused_unwalkable : (s : State) (w : ℕ) → word_stuck S s w ≡ true → Unwalkable S s w
  unfolding word_stuck replaced listed model_in
  refused_unwalkable s w = go (S.look (w ∷ [])) refl (S.look (unknown_word ∷ [])) refl
    where
      go : (a : Look) → S.look (w ∷ []) ≡ a → (b : Look) → S.look (unknown_word ∷ []) ≡ b → ((is_broken a || (not (is_some (entry_of a)) && not (is_some (entry_of b)))) || ends_broken S s.words (cond (is_some (entry_of a)) w unknown_word)) ≡ true → Unwalkable S s w
      go broken p b q h = broken-walk (look_stays w 0 s.words broken refl p)
      go absent p absent q h = no-unknown p q
      go absent p broken q h = broken-unknown p (look_stays unknown_word 0 s.words broken refl q)
      go absent p (here x) q h = broken-unknown p (ends-broken unknown_word s.words h)
      go (here x) p b q h = broken-walk (ends-broken w s.words h)

  walk_refused : (s : State) (w : ℕ) → Unwalkable S s w → word_stuck S s w ≡ true
  unfolding word_stuck replaced listed model_in
  walk_refused s w = go (S.look (w ∷ [])) refl (S.look (unknown_word ∷ [])) refl
    where
      differ : {x : Entry} {l : Look} → l ≡ here x → l ≡ absent → ⊥
      differ q e = true≢false (ap (λ (k : Look). is_some (entry_of k)) (sym q ∙ e))

      go : (a : Look) → S.look (w ∷ []) ≡ a → (b : Look) → S.look (unknown_word ∷ []) ≡ b → Unwalkable S s w → ((is_broken a || (not (is_some (entry_of a)) && not (is_some (entry_of b)))) || ends_broken S s.words (cond (is_some (entry_of a)) w unknown_word)) ≡ true
      go broken p b q u = refl
      go absent p absent q u = refl
      go absent p broken q u = refl
      go absent p (here x) q (broken-walk e) = absurd (true≢false (ap is_broken (sym e ∙ look_stays w 0 s.words absent refl p)))
      go absent p (here x) q (broken-unknown z e) = broken-ends unknown_word s.words e
      go absent p (here x) q (no-unknown z e) = absurd (differ q e)
      go (here x) p b q (broken-walk e) = broken-ends w s.words e
      go (here x) p b q (broken-unknown z e) = absurd (differ p z)
      go (here x) p b q (no-unknown z e) = absurd (differ p z)

  stuck_told : (s : State) (w : ℕ) → stuck_at S s w ≡ true → Stuck S s w
  unfolding stuck_at
  stuck_told s w = go (word_stuck S s w) refl (eqb w end_word) refl
    where
      go : (a : Bool) → word_stuck S s w ≡ a → (b : Bool) → eqb w end_word ≡ b → (a || (b && word_stuck S empty start_word)) ≡ true → Stuck S s w
      go true p b q h = at-the-word (refused_unwalkable s w p)
      go false p true q h = at-start (eqb-true w end_word q) (refused_unwalkable empty start_word h)
      go false p false q h = absurd (false≢true h)

  stuck-refused : (s : State) (w : ℕ) → Stuck S s w → stuck_at S s w ≡ true
  unfolding stuck_at
  stuck-refused s w (at-the-word u) = rw (walk_refused s w u)
  stuck-refused s w (at-start z u) = rw (eq-eqb w end_word z, walk_refused empty start_word u) (or-true (word_stuck S s w))

  -- start's own word is none given as 3
  pub start_told : stuck_at S empty start_word ≡ true → Unwalkable S empty start_word
  start_told e = go (stuck_told empty start_word e)
    where
      go : Stuck S empty start_word → Unwalkable S empty start_word
      go (at-the-word u) = u
      go (at-start z u) = u

  pub start-scored : stuck_at S empty start_word ≡ false → Unwalkable S empty start_word → ⊥
  start-scored e u = true≢false (sym (stuck-refused empty start_word (at-the-word u)) ∙ e)

  -- ---- the words of a run, numbered from k

  pub data Told (ws : List ℕ) (s : State) (k : ℕ) : Type 0 where
    first-stuck : (i : ℕ) → run_over S ws s k ≡ refused_at (k + i) → StuckWord S s ws i → ((j : ℕ) → j < i → StuckWord S s ws j → ⊥) → Told ws s k
    none_stuck : run_over S ws s k ≡ model_ran (model_in S) s ws → ((i : ℕ) → StuckWord S s ws i → ⊥) → Told ws s k

  module _ (w : ℕ) (ws : List ℕ) (s : State) where
    -- a stuck word behind the first is one of the rest
    later : (i : ℕ) → StuckWord S s (w ∷ ws) (suc i) → StuckWord S (step_next (model_in S) s w) ws i
    unfolding run_end
    later i t = (let h = t.0 in omega arith, t.1)

    not_first : stuck_at S s w ≡ false → (i : ℕ) → ((j : ℕ) → j < i → StuckWord S (step_next (model_in S) s w) ws j → ⊥) → (j : ℕ) → j < suc i → StuckWord S s (w ∷ ws) j → ⊥
    unfolding run_end
    not_first e i n zero l t = true≢false (sym (stuck-refused s w t.1) ∙ e)
    not_first e i n (suc j) l t = n j (omega arith) (later j t)

  pub first-stuck_or_none : (ws : List ℕ) (s : State) (k : ℕ) → Told ws s k
  unfolding run_over run_points run_bytes run_end
  first-stuck_or_none [] s k = none_stuck refl (λ i t. let h = t.0 in omega arith)
  first-stuck_or_none (w ∷ ws) s k = go (stuck_at S s w) refl (first-stuck_or_none ws (step_next (model_in S) s w) (suc k))
    where
      go : (b : Bool) → stuck_at S s w ≡ b → Told ws (step_next (model_in S) s w) (suc k) → Told (w ∷ ws) s k
      go true e ih = first-stuck 0 (ap (onward (λ (t : State). run_over S ws t (suc k)) k) (step-stuck S s w e) ∙ ap refused_at (sym (add-zero k))) (omega arith, stuck_told s w e) (λ j l. absurd (omega arith))
      go false e (first-stuck i q t n) = first-stuck (suc i) (onward-scored S w ws s k e ∙ ap (before _ _) q ∙ ap refused_at (omega arith)) (let h = t.0 in omega arith, t.1) (not_first w ws s e i n)
      go false e (none_stuck q n) = none_stuck (onward-scored S w ws s k e ∙ ap (before _ _) q) (λ j. not_first w ws s e (suc j) (λ i l. n i) j (omega arith))

-- ---- the words of two runs, the second from the state that the first leaves

module _ (T : Store) (vs : List ℕ) where
  behind-first : (w : ℕ) (ws : List ℕ) (s : State) → StuckWords T (step_next (model_in T) s w) ws → StuckWords T s (w ∷ ws)
  unfolding run_end
  behind-first w ws s (i, (l, t)) = (suc i, (omega arith, t))

  pub stuck_split : (us : List ℕ) (s : State) → StuckWords T s (us ++ vs) → StuckWords T s us ⊎ StuckWords T (run_end (model_in T) s us) vs
  unfolding run_end
  stuck_split [] s t = inr t
  stuck_split (w ∷ us) s (zero, (l, t)) = inl (0, (omega arith, t))
  stuck_split (w ∷ us) s (suc i, (l, t)) = go (stuck_split us (step_next (model_in T) s w) (i, (omega arith, t)))
    where
      go : StuckWords T (step_next (model_in T) s w) us ⊎ StuckWords T (run_end (model_in T) (step_next (model_in T) s w) us) vs → StuckWords T s (w ∷ us) ⊎ StuckWords T (run_end (model_in T) (step_next (model_in T) s w) us) vs
      go (inl x) = inl (behind-first w us s x)
      go (inr x) = inr x

  pub stuck-both : (us : List ℕ) (s : State) → StuckWords T s us ⊎ StuckWords T (run_end (model_in T) s us) vs → StuckWords T s (us ++ vs)
  unfolding run_end
  stuck-both [] s (inl (i, (l, t))) = absurd (omega arith)
  stuck-both [] s (inr x) = x
  stuck-both (w ∷ us) s (inl (zero, (l, t))) = (0, (omega arith, t))
  stuck-both (w ∷ us) s (inl (suc i, (l, t))) = behind-first w (us ++ vs) s (stuck-both us (step_next (model_in T) s w) (inl (i, (omega arith, t))))
  stuck-both (w ∷ us) s (inr x) = behind-first w (us ++ vs) s (stuck-both us (step_next (model_in T) s w) (inr x))
