-- The usable words of an array are those for which the root has a child: what the code looks at. Assumes nothing.
use Rattle.std.specs.declared.option.Option.{Option}
use Rattle.std.specs.declared.option.Option.TheVariants.{Some, None}
use mathlib.Core.Path.{◌≡◌, refl, sym, ap, ◌∙◌}
use mathlib.Core.Bool.{Bool, true, false, cond, ◌&&◌, ◌||◌, true≢false}
use mathlib.Core.List.{List, [], ◌∷◌, ◌++◌}
use Prim.Native.Nat.{ℕ, suc, ◌≤◌, ◌<◌, ◌+◌, min}
use native.Mathlib.Numerals.{add-one}
use native.Mathlib.Omega.{arith}
use lib.Dec.{eqb}
use lib.IntN.{ℤ}
use lib.ListN.{length, take, set, length-set, length-append}
use lib.Seq.{length-take-le, take-suc-set}
use borrow.Author.Tests.{le-ltb}
use Rattle.integer.proofs.Arithmetic.{and_no}
use Rattle.backoff.specs.Limits.{word_limit, usable_limit, start_word, end_word}
use Rattle.backoff.specs.Words.{is_word}
use Rattle.markers.specs.Markers.{Marker, Sound, Broken, look_marker}
use Rattle.child_slots.specs.Children.{child_slot, root_child, is_child}
use Rattle.double_array.specs.DoubleArray.{marker_at, down_to, look_from, is_array, store_in}
use Rattle.double_array.proofs.DoubleArray.{root-sound, root-child}
use Rattle.sentence_order.specs.Sentences.{passing, is_there, is_other, usable, usable_words}
use Rattle.sentence_order.specs.Inner.{usable_child}
use Rattle.sentence_order.proofs.Passing.{passing-same, passing-more, passing_skip, passing_grows, passing_stops}

-- ---- one word

pub reserved_unusable : (check : List ℤ) (w : ℕ) → (eqb w start_word || eqb w end_word) ≡ true → usable_child check w ≡ false
unfolding usable_child
reserved_unusable check w e = and_no (is_child (root_child check w)) (is_other w) (rw e)

pub usable-not-end : (check : List ℤ) (w : ℕ) → usable_child check w ≡ true → w ≡ end_word → ⊥
usable-not-end check w u e = true≢false (sym u ∙ reserved_unusable check w (rw e))

-- a word without a slot
slotless_unusable : (check : List ℤ) (w : ℕ) → length check ≤ w → usable_child check w ≡ false
unfolding usable_child
slotless_unusable check w h = rw (le-ltb (child_slot false 1 w) (length check) (omega arith)) (elim (is_word w) as (λ b. (is_child (cond b None None) && is_other w) ≡ false) [ true ↦ refl | false ↦ refl ])

pub all-looked_for : (check : List ℤ) (w : ℕ) → w ≤ word_limit → min (length check) word_limit ≤ w → passing (usable_child check) word_limit ≡ passing (usable_child check) w
all-looked_for check w h l = passing_stops (usable_child check) w word_limit h (λ v m n. slotless_unusable check v (omega arith))

-- ---- the words so far, in an array that holds sixteen

pub record Holding (P : ℕ → Bool) (words : List ℕ) (count w : ℕ) : Type 0 where
  pub within : w ≤ word_limit
  pub few : count ≤ usable_limit
  pub long : length words ≡ usable_limit
  pub are : passing P w ≡ take count words

module _ (P : ℕ → Bool) (words : List ℕ) (count w : ℕ) (h : Holding P words count w) (more : w < word_limit) where
  pub holding_skip : P (w + 1) ≡ false → Holding P words count (w + 1)
  holding_skip e = record {
    within = omega arith;
    few = h.few;
    long = h.long;
    are = rw add-one (passing_skip P w (rw add-one at e) ∙ h.are);
  }

  pub holding_more : P (w + 1) ≡ true → (count ≡ usable_limit → ⊥) → Holding P (set words count (w + 1)) (count + 1) (w + 1)
  holding_more e n = record {
    within = omega arith;
    few = omega (arith, h.few);
    long = length-set words count (w + 1) ∙ h.long;
    are =
        rw (add-one w, add-one count)
        (passing-more P w (rw add-one at e) ∙ ap (λ l. l ++ (suc w ∷ [])) h.are ∙ sym (take-suc-set words count (suc w) (omega (arith, h.few, h.long))));
  }

  pub holding_full : P (w + 1) ≡ true → count ≡ usable_limit → usable_limit < length (passing P word_limit)
  holding_full e f =
      let sixteen : length (passing P w) ≡ usable_limit = ap length h.are ∙ length-take-le count words (omega (arith, h.few, h.long)) ∙ f in
      let m : length (passing P (suc w)) ≡ length (passing P w) + 1 = ap length (passing-more P w (rw add-one at e)) ∙ length-append (passing P w) (suc w ∷ []) in
      omega (arith, passing_grows P (suc w) word_limit (omega arith))

-- ---- all of them

marker_there : (m : Marker) → is_there (look_marker m) ≡ true
marker_there (Sound p b e f) = refl
marker_there Broken = refl

module _ (base check : List ℤ) (array : is_array base check ≡ true) where
  child_there : (c : Option ℕ) → is_there (down_to c (λ (t : ℕ). look_from base check 1 t [])) ≡ is_child c
  unfolding look_from
  child_there (Some t) = marker_there (marker_at base check 1 t)
  child_there None = refl

  usable-is-child : (w : ℕ) → usable (store_in base check) w ≡ usable_child check w
  unfolding usable usable_child store_in look_from
  usable-is-child w =
      rw (root-sound base check array, ← root-child base check array w) (ap (λ b. b && is_other w) (child_there (root_child check w)))

  pub usable-words_are : usable_words (store_in base check) ≡ passing (usable_child check) word_limit
  unfolding usable_words
  usable-words_are = passing-same (usable (store_in base check)) (usable_child check) usable-is-child word_limit
