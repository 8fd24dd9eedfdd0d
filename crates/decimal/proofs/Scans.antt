-- Turns of the loops that go through a text from its front: what is left of it begins with the character at hand. Assumes nothing.
use mathlib.Core.Path.{◌≡◌, refl, sym, ap, ◌∙◌}
use mathlib.Core.Bool.{Bool, true, ◌&&◌}
use mathlib.Core.List.{List, ◌∷◌}
use Prim.Native.Nat.{ℕ, ◌+◌, ◌*◌, ◌-◌, ◌≤◌, ◌<◌}
use native.Mathlib.Numerals.{add-one}
use lib.Dec.{leb}
use Rattle.std.specs.List.{list_all}
use Rattle.std.proofs.lemmas.List.Recursion.{same_from_clauses}
use lib.ListN.{length, get_or, drop, drop_of_length-le}
use lib.Seq.{drop-cons}
use Rattle.decimal.specs.Digits.{all_digits, value_from}
use Rattle.decimal.proofs.Digits.{digit_range}

-- what is left begins with the character at i
pub front : (text : List ℕ) (i : ℕ) → i < length text → drop i text ≡ get_or text i 0 ∷ drop (i + 1) text
front text i h = rw (add-one, drop-cons text i 0)

module _ (text : List ℕ) (i : ℕ) where
  pub digit_here : i < length text → all_digits (drop i text) ≡ true → (48 ≤ get_or text i 0) × (get_or text i 0 ≤ 57) × (all_digits (drop (i + 1) text) ≡ true)
  digit_here h e = digit_range (get_or text i 0) (drop (i + 1) text) (ap all_digits (sym (front text i h)) ∙ e)

  pub value_step : (v : ℕ) → i < length text → value_from v (drop i text) ≡ value_from (10 * v + (get_or text i 0 - 48)) (drop (i + 1) text)
  unfolding value_from
  value_step v h = rw (front text i h) refl

  pub value_end : (v : ℕ) → length text ≤ i → value_from v (drop i text) ≡ v
  unfolding value_from
  value_end v h = rw (drop_of_length-le text h)

-- ---- what the code's chains and patterns say

abbrev is_digit : ℕ → Bool
is_digit c = leb 48 c && leb c 57

pub all_digits_list : (text : List ℕ) → all_digits text ≡ list_all is_digit text
unfolding all_digits
all_digits_list = same_from_clauses all_digits (list_all is_digit) (λ c b. is_digit c && b) refl (λ _ _. refl) (λ _ _. refl)
