-- Laws of words: held as signed numbers, and replaced by 1 where they are unlisted. Assumes nothing.
use mathlib.Core.Path.{◌≡◌, refl}
use mathlib.Core.Bool.{Bool, true, false}
use mathlib.Core.List.{[], ◌∷◌}
use Prim.Native.Nat.{ℕ, suc, ◌<◌, ◌≤◌}
use native.Mathlib.Omega.{arith}
use lib.IntN.{ℤ, pos}
use Rattle.integer.specs.Integer.{between}
use Rattle.integer.proofs.Arithmetic.{zarith, abs}
use Rattle.integer.proofs.Ranges.{false_unless, between-low, up_to_in, up_to_out}
use Rattle.backoff.specs.Limits.{word_limit, unknown_word}
use Rattle.backoff.specs.Words.{are_words}
use Rattle.backoff.specs.Model.{Model, AcceptedModel, listed}
use Rattle.backoff.specs.Rule.{replaced}
use Rattle.backoff.proofs.Words.{first_some, first_limit}
use Rattle.backoff.proofs.Rule.{replaced-listed}
use Rattle.rows.specs.Table.{word_of}

-- a number that is some word is that word
pub word_of-some : (z : ℤ) (w : ℕ) → word_of z ≡ suc w → z ≡ pos (suc w)
word_of-some z w e = go (between (pos 0) (pos word_limit) z) refl
  where
    go : (b : Bool) → between (pos 0) (pos word_limit) z ≡ b → z ≡ pos (suc w)
    go true q =
        let l = between-low (pos 0) (pos word_limit) z q in
        let f = up_to_in (pos word_limit) z q in
        omega (zarith, abs z)
    go false q = let f = up_to_out (pos word_limit) z q in absurd (omega arith)

module _ (M : Model) (w : ℕ) where
  pub replaced-known : listed M (w ∷ []) ≡ true → replaced M w ≡ w
  unfolding replaced
  replaced-known e = rw e

  pub replaced-unknown : listed M (w ∷ []) ≡ false → replaced M w ≡ unknown_word
  unfolding replaced
  replaced-unknown e = rw e

  module _ (A : AcceptedModel M) where
    pub replaced-is-word : are_words (replaced M w ∷ []) ≡ true
    replaced-is-word = A.in_words (replaced M w ∷ []) (replaced-listed M A w)

    -- "one outside 1..65,535 is unlisted"
    pub replaced-outside : (0 < w → w ≤ word_limit → ⊥) → replaced M w ≡ unknown_word
    replaced-outside h =
        replaced-unknown (false_unless _ (λ e. let a = A.in_words (w ∷ []) e in h (first_some w [] a) (first_limit w [] a)))
