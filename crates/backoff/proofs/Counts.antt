-- Laws of counts, and of what a length byte tells. Assumes nothing.
use mathlib.Core.Path.{◌≡◌, refl, ◌∙◌}
use mathlib.Core.Bool.{Bool, true, false, cond}
use mathlib.Core.List.{List, [], ◌∷◌, ◌++◌, map}
use Prim.Native.Nat.{ℕ, suc, ◌+◌, ◌/◌, ◌%◌, ◌≤◌, ◌<◌}
use native.Mathlib.Omega.{arith}
use native.Mathlib.Numerals.{add-one}
use lib.ListN.{length, take, get_or}
use lib.Seq.{take-suc}
use lib.Dec.{eqb}
use borrow.Author.Tests.{eq-eqb, ne_eqb}
use Rattle.backoff.specs.Limits.{unknown_word}
use Rattle.backoff.specs.Rule.{length_byte}
use Rattle.backoff.specs.Runs.{flat}
use Rattle.backoff.specs.Counts.{says_unknown, count}

module _ (P : ℕ → Bool) where
  pub count_append : (ns ms : List ℕ) → count P (ns ++ ms) ≡ count P ns + count P ms
  unfolding count
  count_append [] ms = omega arith
  count_append (n ∷ ns) ms = omega (arith, count_append ns ms)

  pub count-one : (ns : List ℕ) (n : ℕ) → count P (ns ++ (n ∷ [])) ≡ count P ns + cond (P n) 1 0
  count-one ns n = count_append ns (n ∷ []) ∙ (unfold count in omega arith)

  -- one more of the first i
  pub count_next : (ns : List ℕ) (i : ℕ) → i < length ns → count P (take (i + 1) ns) ≡ count P (take i ns) + cond (P (get_or ns i 0)) 1 0
  count_next ns i h = rw (add-one, take-suc ns i 0 h) (count-one (take i ns) (get_or ns i 0))

  -- two lists for each item, taken apart or together
  pub count-both : {A : Type 0} (f g : A → List ℕ) (xs : List A) → count P (flat (map f xs)) + count P (flat (map g xs)) ≡ count P (flat (map (λ x. f x ++ g x) xs))
  unfolding flat
  count-both f g [] = unfold count in refl
  count-both f g (x ∷ xs) =
      omega (arith, count_append (f x) (flat (map f xs)), count_append (g x) (flat (map g xs)), count_append (f x ++ g x) (flat (map (λ x. f x ++ g x) xs)), count_append (f x) (g x), count-both f g xs)

  pub count_le : (ns : List ℕ) → count P ns ≤ length ns
  unfolding count
  count_le [] = omega arith
  count_le (n ∷ ns) = elim (P n) as (λ t. cond t 1 0 + count P ns ≤ suc (length ns)) [ true ↦ omega (arith, count_le ns) | false ↦ omega (arith, count_le ns) ]

-- ---- the length byte of a word that is scored as v

module _ (m v : ℕ) (e : Bool) (h : m < 8) where
  pub byte_matched : length_byte m v e % 8 ≡ m
  unfolding length_byte
  byte_matched = go (eqb v unknown_word) e
    where
      go : (b c : Bool) → (m + cond b 8 0 + cond c 16 0) % 8 ≡ m
      go true true = omega arith
      go true false = omega arith
      go false true = omega arith
      go false false = omega arith

  pub byte_unknown : says_unknown (length_byte m v e) ≡ eqb v unknown_word
  unfolding length_byte
  byte_unknown = go (eqb v unknown_word) e
    where
      go : (b c : Bool) → eqb ((m + cond b 8 0 + cond c 16 0) / 8 % 2) 1 ≡ b
      go true true = eq-eqb ((m + 8 + 16) / 8 % 2) 1 (omega arith)
      go true false = eq-eqb ((m + 8 + 0) / 8 % 2) 1 (omega arith)
      go false true = ne_eqb ((m + 0 + 16) / 8 % 2) 1 (λ z. omega arith)
      go false false = ne_eqb ((m + 0 + 0) / 8 % 2) 1 (λ z. omega arith)
