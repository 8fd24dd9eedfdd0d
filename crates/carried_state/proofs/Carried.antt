-- The code's state and the nine numbers that it is: check 16 part by part, the state that they hold, and the same state as a run carries it.
-- Assumes nothing.
use mathlib.Core.Path.{◌≡◌, refl, sym, ap, ◌∙◌}
use mathlib.Core.Bool.{Bool, true, false, ◌&&◌, and_assoc, and-true}
use mathlib.Core.List.{List, [], ◌∷◌, ◌++◌, map}
use Prim.Native.Nat.{ℕ, ◌-◌, ◌≤◌}
use native.Mathlib.Omega.{arith}
use lib.ListN.{length, take, drop, get_or, length-append, length-drop, take-append-drop}
use lib.Seq.{take_at, drop_at, drop-cons, drop-drop, take_all, take-append-le, length-take-le}
use lib.IntN.{ℤ, pos, nat_abs}
use lib.Signed.{le_z, lt_z, ◌≤ℤ◌}
use lib.Dec.{ltb}
use native.Mathlib.Decide.{dec_le}
use borrow.Author.Tests.{lt-ltb, le-ltb}
use Rattle.integer.specs.Integer.{between, sum}
use Rattle.integer.proofs.Arithmetic.{zarith, abs}
use Rattle.integer.proofs.Ranges.{between-rest, between-yes}
use Rattle.backoff.specs.Limits.{word_limit, order_limit}
use Rattle.backoff.specs.Words.{key}
use Rattle.backoff.specs.Model.{in_backoff}
use Rattle.backoff.specs.State.{empty}
use Rattle.backoff.specs.NineNumbers.{all, nine_zeros, count_of, state_in, state_ok}
use Rattle.backoff.proofs.Rule.{take-map}
use Rattle.backoff.proofs.NineNumbers.{Bounded, count-is, state_ok_bounded, four-in_backoff, four-in_words, four-sum}
use Rattle.carried_state.specs.declared.State.{State}
use Rattle.carried_state.specs.declared.Packed.{Packed}
use Rattle.carried_state.specs.Numbers.{numbers_of, state_from}
use Rattle.carried_state.specs.Packed.{part_ok, digits, packed_as, held_in, Carries}
use Rattle.carried_state.proofs.Digits.{length_digits, digits-key}

-- a state's two arrays have four items each
pub record Four (s : State) : Type 0 where
  pub words : length s.words ≡ 4
  pub backoffs : length s.backoffs ≡ 4

five_tests : (a b c d e : Bool) → all (a ∷ b ∷ c ∷ d ∷ e ∷ []) ≡ (a && ((b && c) && (d && e)))
unfolding all
five_tests a b c d e = simp (and_assoc, and-true)

module _ (s : State) (four : Four s) where
  pub length-numbers : length (numbers_of s) ≡ 9
  unfolding numbers_of
  length-numbers = omega (arith, length-append s.words s.backoffs)

  -- the words and the back-offs among the nine
  words_among : take 4 (drop 1 (numbers_of s)) ≡ s.words
  unfolding numbers_of
  words_among = take_at s.words s.backoffs 4 four.words

  backoffs_among : take 4 (drop 5 (numbers_of s)) ≡ s.backoffs
  unfolding numbers_of
  backoffs_among = ap (take 4) (drop_at s.words s.backoffs 4 four.words) ∙ take_all 4 s.backoffs (omega arith)

  pub state_from-numbers : state_from (numbers_of s) ≡ s
  unfolding state_from numbers_of
  state_from-numbers = λ i. record { count = s.count; words = words_among i; backoffs = backoffs_among i }

  -- check 16: the count, the words, the back-offs
  pub state_ok-parts : (n : ℕ) → state_ok n (numbers_of s) ≡ (between (pos 0) (pos (n - 1)) s.count && (part_ok (between (pos 1) (pos word_limit)) (nat_abs s.count) s.words && part_ok in_backoff (nat_abs s.count) s.backoffs))
  unfolding state_ok numbers_of count_of part_ok
  state_ok-parts n = rw (words_among, backoffs_among) (five_tests _ _ _ _ _)

pub numbers-state_from : (l : List ℤ) → length l ≡ 9 → numbers_of (state_from l) ≡ l
unfolding numbers_of state_from
numbers-state_from l e =
    ap (λ (r : List ℤ). get_or l 0 (pos 0) ∷ (take 4 (drop 1 l) ++ r)) (take_all 4 (drop 5 l) (omega (arith, length-drop 5 l)) ∙ sym (drop-drop 4 1 l))
    ∙ ap (λ (r : List ℤ). get_or l 0 (pos 0) ∷ r) (take-append-drop 4 (drop 1 l))
    ∙ sym (drop-cons l 0 (pos 0) (omega arith))

-- the code's test of a count that is not negative
pub between-count : (n : ℕ) (z : ℤ) → pos 0 ≤ℤ z → 1 ≤ n → between (pos 0) (pos (n - 1)) z ≡ ltb (nat_abs z) n
between-count n z l o = go (dec_le n (nat_abs z))
  where
    go : Dec (n ≤ nat_abs z) → between (pos 0) (pos (n - 1)) z ≡ ltb (nat_abs z) n
    go (yes h) =
        let low : lt_z z (pos 0) ≡ false = omega zarith in
        let high : le_z z (pos (n - 1)) ≡ false = omega (zarith, abs z) in
        between-rest (pos 0) (pos (n - 1)) z low ∙ high ∙ sym (le-ltb (nat_abs z) n h)
    go (no h) = between-yes (pos 0) (pos (n - 1)) z l (omega (zarith, abs z)) ∙ sym (lt-ltb (nat_abs z) n (omega arith))

-- a state that check 16 lets pass where the order is n
module _ (n : ℕ) (s : State) (four : Four s) (o : n ≤ order_limit) (ok : state_ok n (numbers_of s) ≡ true) where
  abbrev count : ℕ
  count = nat_abs s.count

  counted : (s.count ≡ pos count) × (count ≤ n - 1)
  unfolding numbers_of count_of
  counted = count-is n (numbers_of s) (length-numbers s four) o ok

  count_low : pos 0 ≤ℤ s.count
  count_low = omega (zarith, counted)

  held-words : (state_in (numbers_of s)).words ≡ map nat_abs (take count s.words)
  unfolding state_in numbers_of count_of
  held-words = ap (map nat_abs) (take-append-le count s.words s.backoffs (omega (arith, counted, four.words)))

  held-backoffs : (state_in (numbers_of s)).backoffs ≡ take count s.backoffs
  unfolding state_in numbers_of count_of
  held-backoffs = ap (take count) (drop_at s.words s.backoffs 4 four.words)

  all-in_backoff : all (map in_backoff s.backoffs) ≡ true
  all-in_backoff = ap (λ (l : List ℤ). all (map in_backoff l)) (sym (backoffs_among s four)) ∙ four-in_backoff n (numbers_of s) (length-numbers s four) o ok

  all-in_words : all (map (between (pos 0) (pos word_limit)) s.words) ≡ true
  all-in_words = ap (λ (l : List ℤ). all (map (between (pos 0) (pos word_limit)) l)) (sym (words_among s four)) ∙ four-in_words n (numbers_of s) (length-numbers s four) o ok

  -- so it can be packed
  pub packable : (pos 0 ≤ℤ s.count) × ((all (map (between (pos 0) (pos word_limit)) s.words) ≡ true) × (all (map in_backoff s.backoffs) ≡ true))
  packable = (count_low, (all-in_words, all-in_backoff))

  abbrev lent : List ℤ
  lent = s.backoffs ++ (pos 0 ∷ [])

  lent_used : take count lent ≡ take count s.backoffs
  lent_used = take-append-le count s.backoffs (pos 0 ∷ []) (omega (arith, counted, four.backoffs))

  -- packed and lent, it is the same state
  pub packed-held : held_in (packed_as s) lent ≡ state_in (numbers_of s)
  packed-held = λ i. record { words = words_are i; backoffs = (lent_used ∙ sym held-backoffs) i }
    where
      words_are : take count (digits 4 (key (map nat_abs s.words))) ≡ (state_in (numbers_of s)).words
      words_are =
          ap (take count) (ap (λ (k : ℕ). digits k (key (map nat_abs s.words))) (sym four.words) ∙ digits-key s.words all-in_words)
          ∙ take-map nat_abs count s.words
          ∙ sym held-words

  pub packed-carries : Carries n (packed_as s) lent
  packed-carries = record {
    five = omega (arith, length-append s.backoffs (pos 0 ∷ []), four.backoffs);
    few = counted.1;
    in_backoffs = rw (lent_used, ← held-backoffs) (state_ok_bounded n (numbers_of s) (length-numbers s four) o ok).in_backoffs;
    owed = ap sum (sym (backoffs_among s four)) ∙ four-sum n (numbers_of s) (length-numbers s four) o ok ∙ ap sum (held-backoffs ∙ sym lent_used);
  }

-- a state that is carried is no larger than one that check 16 lets pass
pub carries_bounded : (n : ℕ) → n ≤ order_limit → (c : Packed) (backoffs : List ℤ) → Carries n c backoffs → Bounded (n - 1) (held_in c backoffs)
carries_bounded n o c backoffs h =
    let w : length (take c.count (digits 4 c.words)) ≡ c.count = length-take-le c.count (digits 4 c.words) (omega (arith, h.few, length_digits 4 c.words)) in
    let b : length (take c.count backoffs) ≡ c.count = length-take-le c.count backoffs (omega (arith, h.few, h.five)) in
    record { few = omega (arith, h.few); even = b ∙ sym w; in_backoffs = h.in_backoffs }

-- nine zeros pass check 16, and are the empty state
pub zeros_ok : (n : ℕ) → state_ok n nine_zeros ≡ true
unfolding state_ok count_of all
zeros_ok n = rw (between-yes (pos 0) (pos (n - 1)) (pos 0) (omega zarith) (omega zarith))

pub zeros-empty : state_in nine_zeros ≡ empty
unfolding state_in count_of
zeros-empty = refl
