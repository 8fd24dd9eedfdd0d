-- One word from a state over a double array: the step of crate backoff from what the code reads. Assumes nothing.
use Rattle.std.specs.declared.option.Option.{Option}
use Rattle.std.specs.declared.option.Option.TheVariants.{Some, None}
use mathlib.Core.Path.{◌≡◌, refl, sym, ap, ap₂, ◌∙◌}
use mathlib.Core.Bool.{Bool, true, false, cond, true≢false}
use mathlib.Core.List.{List, [], ◌∷◌, map}
use Prim.Native.Nat.{ℕ, suc, ◌+◌, ◌-◌, ◌≤◌, ◌<◌, min}
use native.Mathlib.Numerals.{add-one}
use native.Mathlib.Omega.{arith}
use borrow.Author.Tests.{leb-true}
use lib.Dec.{leb, eqb}
use lib.ListN.{length, take}
use lib.Seq.{take-take, length-take-le}
use lib.IntN.{ℤ}
use Rattle.integer.proofs.Ranges.{and_right}
use Rattle.backoff.specs.Limits.{unknown_word, word_limit, order_limit}
use Rattle.backoff.specs.Words.{is_word, radix}
use Rattle.backoff.specs.Model.{Model, in_backoff, reach}
use Rattle.backoff.specs.Rule.{length_byte}
use Rattle.backoff.specs.State.{State as Carried, backoffs_of, newest, points_from, matched_from, extended_from, next_from}
use Rattle.backoff.specs.NineNumbers.{all}
use Rattle.backoff.specs.Store.{Look, absent, broken, here, model_in, Step, scored, stuck, unknown_at, word_at, walked_word, step_from, word_step}
use Rattle.backoff.proofs.State.{take-backoffs_of, live_length_le, walk_le}
use Rattle.backoff.proofs.NineNumbers.{next_from_bounded}
use Rattle.markers.specs.Markers.{Marker, Sound, Broken, look_marker}
use Rattle.child_slots.specs.Children.{child_at, root_child, is_child}
use Rattle.child_slots.proofs.Children.{child_told}
use Rattle.double_array.specs.DoubleArray.{marker_at, down_to, look_from, is_array, order_in, store_in}
use Rattle.double_array.proofs.DoubleArray.{root-sound, root-child, look-down, opened-order}
use Rattle.carried_state.specs.declared.Packed.{Packed}
use Rattle.carried_state.specs.Packed.{digits, pushed, held_in, Carries}
use Rattle.carried_state.proofs.Digits.{length_digits, digits-pushed}
use Rattle.word_walk.specs.declared.Kept.{Kept}
use Rattle.word_walk.specs.declared.Walked.{Walked}
use Rattle.word_walk.specs.Rows.{array_model}
use Rattle.word_walk.specs.Walk.{meets_broken, Read, WalkedOver}
use Rattle.word_walk.proofs.Rows.{rows-in_backoff}
use Rattle.word_step.specs.declared.Kind.TheVariants.{Known, Unknown}
use Rattle.word_step.specs.declared.Stepped.{Stepped}
use Rattle.word_step.specs.Answers.{byte_of, step_of}
use Rattle.word_step.specs.Inner.{replaced, kind_of, Answerable, answered, SteppedTo}

-- w is walked where its node is there, whatever would take its place
own-word : (w : ℕ) (m : Marker) (other : Option ℕ) → word_at w (look_marker m) other ≡ word_at w (look_marker m) None
own-word w (Sound p b e f) other = refl
own-word w Broken other = refl

other_word : (l : Look) → unknown_at l ≡ word_at unknown_word l None
other_word absent = refl
other_word broken = refl
other_word (here e) = refl

-- ---- a word w that is scored as v

module _ (base check : List ℤ) (h : is_array base check ≡ true) where
  at-child : (w : ℕ) (c : Option ℕ) → child_at base check 0 w ≡ c → (store_in base check).look (w ∷ []) ≡ down_to c (λ (t : ℕ). look_marker (marker_at base check 1 t))
  unfolding store_in look_from
  at-child w c e = look-down base check 0 0 _ _ _ _ w [] (root-sound base check h) ∙ ap (λ (k : Option ℕ). down_to k (λ (t : ℕ). look_marker (marker_at base check 1 t))) e

  module _ (w v : ℕ) (e : v ≡ replaced check w) where
    chosen : (c : Option ℕ) → child_at base check 0 w ≡ c → v ≡ cond (is_child c) w unknown_word
    chosen c p = e ∙ ap (λ (k : Option ℕ). cond (is_child k) w unknown_word) (root-child base check h w ∙ p)

    -- v is walked
    walked_word_lem : walked_word (store_in base check) w ≡ word_at v ((store_in base check).look (v ∷ [])) None
    unfolding walked_word
    walked_word_lem = go (child_at base check 0 w) refl
      where
        go : (c : Option ℕ) → child_at base check 0 w ≡ c → word_at w ((store_in base check).look (w ∷ [])) (unknown_at ((store_in base check).look (unknown_word ∷ []))) ≡ word_at v ((store_in base check).look (v ∷ [])) None
        go (Some t) p = rw (chosen (Some t) p, at-child w (Some t) p) (own-word w (marker_at base check 1 t) (unknown_at ((store_in base check).look (unknown_word ∷ []))))
        go None p = rw (chosen None p, at-child w None p) (other_word ((store_in base check).look (unknown_word ∷ [])))

    step_of_lem : (s : Carried) (l : Look) → (store_in base check).look (v ∷ []) ≡ l → word_step (store_in base check) s w ≡ step_from (store_in base check) s (word_at v l None)
    unfolding word_step
    step_of_lem s l q = ap (step_from (store_in base check) s) (walked_word_lem ∙ ap (λ (k : Look). word_at v k None) q)

    -- w is refused where the root has no child for v
    pub missing_refused : (s : Carried) → root_child check v ≡ None → word_step (store_in base check) s w ≡ stuck
    unfolding step_from
    missing_refused s q = step_of_lem s absent (at-child v None (sym (root-child base check h v) ∙ q))

    -- and where the walk meets a broken node
    broken-refused : (s : Carried) → meets_broken (store_in base check) s.words v ≡ true → word_step (store_in base check) s w ≡ stuck
    unfolding step_from
    broken-refused s m = go ((store_in base check).look (v ∷ [])) refl
      where
        go : (l : Look) → (store_in base check).look (v ∷ []) ≡ l → word_step (store_in base check) s w ≡ stuck
        go absent q = step_of_lem s absent q
        go broken q = step_of_lem s broken q
        go (here x) q = step_of_lem s (here x) q ∙ rw (rw q at m)

    -- and is scored else
    sound-scored : (s : Carried) (slot : ℕ) → child_at base check 0 v ≡ Some slot → meets_broken (store_in base check) s.words v ≡ false → word_step (store_in base check) s w ≡ scored (points_from (array_model base check) s v) (length_byte (matched_from (array_model base check) s v) v (extended_from (array_model base check) s v)) (next_from (array_model base check) s v)
    unfolding step_from
    sound-scored s slot c m = go (marker_at base check 1 slot) refl
      where
        go : (x : Marker) → marker_at base check 1 slot ≡ x → word_step (store_in base check) s w ≡ scored (points_from (array_model base check) s v) (length_byte (matched_from (array_model base check) s v) v (extended_from (array_model base check) s v)) (next_from (array_model base check) s v)
        go (Sound p b x f) q =
            let l = at-child v (Some slot) c ∙ ap look_marker q in
            step_of_lem s _ l ∙ rw (rw l at m)
        go Broken q = absurd (true≢false (rw (at-child v (Some slot) c ∙ ap look_marker q) at m))

-- what an answer says of the step that it is
pub step_told : {n : ℕ} {expected : Step} {r : Option Stepped} {backoffs : List ℤ} → SteppedTo n expected r backoffs → (x : Option Stepped) → r ≡ x → expected ≡ step_of x backoffs
step_told {backoffs = backoffs} a x e = sym a.is ∙ ap (λ (y : Option Stepped). step_of y backoffs) e

-- the answer to a word that is refused
pub refused : {n : ℕ} {expected : Step} {backoffs : List ℤ} → expected ≡ stuck → SteppedTo n expected None backoffs
refused e = record { is = sym e; carries = λ stepped q. let z : ◌≡◌ {A = ℕ} 0 1 = cc in absurd (omega arith) }

-- ---- the state that a word leaves

-- the paper's length byte, by the code's kind
kind_byte_lem : (v matched : ℕ) (e : Bool) → byte_of (kind_of v matched) e ≡ length_byte matched v e
unfolding length_byte
kind_byte_lem v matched e = go (eqb v unknown_word)
  where
    go : (t : Bool) → byte_of (cond t (Unknown matched) (Known matched)) e ≡ matched + cond t 8 0 + cond e 16 0
    go true = refl
    go false = omega arith

-- the word v in slot `slot`, walked over the state that is carried
module _ (base check : List ℤ) (h : is_array base check ≡ true) (c : Packed) (given : List ℤ) (held : Carries (order_in check) c given) (v slot : ℕ) (child : child_at base check 0 v ≡ Some slot) where
  abbrev M : Model
  M = array_model base check

  abbrev s : Carried
  s = held_in c given

  order-high : order_in check ≤ order_limit
  order-high = (opened-order base check h).1

  few-held : length s.words ≡ c.count
  few-held = length-take-le c.count (digits 4 c.words) (omega (arith, held.few, order-high, length_digits 4 c.words))

  reach-is : reach M ≡ order_in check - 1
  unfolding reach model_in store_in
  reach-is = refl

  word-is-word : is_word v ≡ true
  word-is-word = (child_told base check 0 v slot child).word

  word-high : v < radix
  unfolding is_word
  word-high = let l = leb-true v word_limit (and_right (leb 1 v) (leb v word_limit) word-is-word) in omega arith

  -- what the walk has read, and left in the lent array
  module _ (points : ℤ) (passed : ℕ) (kept : Kept) (extended : Bool) (backoffs : List ℤ) (d : Read (store_in base check) s v points passed kept extended backoffs) where
    passed-held : passed ≤ length s.words
    passed-held = omega (arith, d.passed_is, walk_le M v s.words)

    passed-few : passed ≤ 4
    passed-few = omega (arith, passed-held, few-held, held.few, order-high)

    kept-least : kept.count ≤ min (reach M) (suc passed)
    kept-least = omega (arith, d.kept-is, live_length_le M (min (reach M) (suc passed)) (v ∷ s.words))

    byte_is : byte_of (kind_of v (passed + 1)) extended ≡ length_byte (matched_from M s v) v (extended_from M s v)
    unfolding matched_from
    byte_is = kind_byte_lem v (passed + 1) extended ∙ rw add-one (ap₂ (λ (k : ℕ) (e : Bool). length_byte (suc k) v e) d.passed_is d.extended-is)

    next-newest : next_from M s v ≡ newest M kept.count (v ∷ s.words)
    unfolding next_from matched_from
    next-newest = rw (sym d.passed_is, sym d.kept-is)

    -- the state in the packed form
    abbrev next : Packed
    next = record { count = kept.count; words = pushed v c.words; owed = kept.owed }

    row_words_lem : take kept.count (digits 4 (pushed v c.words)) ≡ take kept.count (v ∷ s.words)
    row_words_lem =
        ap (take kept.count) (digits-pushed v c.words word-high)
        ∙ take-take kept.count 4 (v ∷ digits 4 c.words) (omega (arith, kept-least, reach-is, order-high))
        ∙ sym (take-take kept.count (suc c.count) (v ∷ digits 4 c.words) (omega (arith, kept-least, passed-held, few-held)))

    row-backoffs : take kept.count backoffs ≡ backoffs_of M kept.count (v ∷ s.words)
    row-backoffs =
        sym (take-take kept.count (suc passed) backoffs (omega (arith, kept-least)))
        ∙ ap (take kept.count) d.read
        ∙ take-backoffs_of M (suc passed) kept.count (v ∷ s.words) (omega (arith, kept-least))

    next-held : held_in next backoffs ≡ next_from M s v
    unfolding newest
    next-held = (λ i. record { words = row_words_lem i; backoffs = row-backoffs i }) ∙ sym next-newest

    next-carries : Carries (order_in check) next backoffs
    next-carries = record {
      five = d.five;
      few = omega (arith, kept-least, reach-is);
      in_backoffs = ap (λ (t : Carried). all (map in_backoff t.backoffs)) next-held ∙ (next_from_bounded M (rows-in_backoff base check) s v).in_backoffs;
      owed = d.owed;
    }

  pub answerable : (walked : Walked) (backoffs : List ℤ) → WalkedOver (store_in base check) s v (Some walked) backoffs → Answerable v walked
  answerable walked backoffs d = (word-is-word, passed-few walked.points walked.passed walked.kept walked.extended backoffs d)

  -- so the word's step is what the code makes of the walk
  pub walk_refused : (n w : ℕ) → v ≡ replaced check w → (backoffs : List ℤ) → meets_broken (store_in base check) s.words v ≡ true → SteppedTo n (word_step (store_in base check) s w) None backoffs
  walk_refused n w e backoffs m = refused (broken-refused base check h w v e s m)

  pub stepped : (w : ℕ) → v ≡ replaced check w → (walked : Walked) (backoffs : List ℤ) → WalkedOver (store_in base check) s v (Some walked) backoffs → (r : Stepped) → r ≡ answered c.words v walked → SteppedTo (order_in check) (word_step (store_in base check) s w) (Some r) backoffs
  stepped w e k backoffs d r q =
      rw q
      (record {
        is = rw (d.points_are, byte_is k.points k.passed k.kept k.extended backoffs d, next-held k.points k.passed k.kept k.extended backoffs d) (sym (sound-scored base check h w v e s slot child d.sound));
        carries = λ stepped z. rw (sym (next-is stepped z)) (next-carries k.points k.passed k.kept k.extended backoffs d);
      })
    where
      some_inj : {x y : Stepped} → ◌≡◌ {A = Option Stepped} (Some x) (Some y) → x ≡ y
      some_inj z = cc

      next-is : (stepped : Stepped) → ◌≡◌ {A = Option Stepped} (Some (answered c.words v k)) (Some stepped) → record { count = k.kept.count; words = pushed v c.words; owed = k.kept.owed } ≡ stepped.next
      next-is stepped z = ap (λ (x : Stepped). x.next) (some_inj z)
