-- Which of the sentences is refused first, and that none is where each is scored. Assumes nothing.
use Rattle.std.specs.declared.option.Option.{Option}
use mathlib.Core.Path.{◌≡◌, refl}
use mathlib.Core.Bool.{Bool, true, false, cond}
use mathlib.Core.List.{List, [], ◌∷◌}
use Prim.Native.Nat.{ℕ, zero, suc, ◌+◌, ◌<◌}
use native.Mathlib.Omega.{arith}
use lib.ListN.{length, take, get_or}
use Rattle.backoff.specs.Run.{Run}
use Rattle.backoff.specs.Store.{Store}
use Rattle.sentence_ends.specs.Ends.{last_end}
use Rattle.closed_sentence.specs.Sentence.{is_scored}
use Rattle.stretches.specs.Stretches.{sentence, sentences, first_refused}

module _ (o : Option Store) where
  pub refused_none : (q : Run) (rs : List Run) (k : ℕ) → first_refused o (suc k) (q ∷ rs) ≡ 0 → (is_scored o q ≡ true) × (first_refused o (suc (suc k)) rs ≡ 0)
  unfolding first_refused
  refused_none q rs k = go (is_scored o q) refl
    where
      go : (b : Bool) → is_scored o q ≡ b → cond b (first_refused o (suc (suc k)) rs) (suc k) ≡ 0 → (is_scored o q ≡ true) × (first_refused o (suc (suc k)) rs ≡ 0)
      go true e z = (e, z)
      go false e z = absurd (omega arith)

  module _ (r : Run) where
    pub each-scored : (k a : ℕ) (es : List ℕ) (i : ℕ) → first_refused o (suc k) (sentences a es r) ≡ 0 → i < length es → is_scored o (sentence (last_end a (take i es)) (get_or es i 0) r) ≡ true
    unfolding sentences last_end
    each-scored k a [] i z h = absurd (omega arith)
    each-scored k a (e ∷ es) zero z h = (refused_none (sentence a e r) (sentences e es r) k z).0
    each-scored k a (e ∷ es) (suc i) z h = each-scored (suc k) e es i (refused_none (sentence a e r) (sentences e es r) k z).1 (omega arith)

    pub none-refused : (k a : ℕ) (es : List ℕ) → ((i : ℕ) → i < length es → is_scored o (sentence (last_end a (take i es)) (get_or es i 0) r) ≡ true) → first_refused o k (sentences a es r) ≡ 0
    unfolding sentences last_end first_refused
    none-refused k a [] each = refl
    none-refused k a (e ∷ es) each = rw (each 0 (omega arith)) (none-refused (suc k) e es (λ i h. each (suc i) (omega arith)))

    -- the first that is refused, numbered from suc k
    pub record FirstRefused (k a : ℕ) (es : List ℕ) : Type 0 where
      pub i : ℕ
      pub is : first_refused o (suc k) (sentences a es r) ≡ suc k + i
      pub inside : i < length es
      pub refused : is_scored o (sentence (last_end a (take i es)) (get_or es i 0) r) ≡ false
      pub before : (j : ℕ) → j < i → is_scored o (sentence (last_end a (take j es)) (get_or es j 0) r) ≡ true

    pub first-refused : (k a : ℕ) (es : List ℕ) → (first_refused o (suc k) (sentences a es r) ≡ 0 → ⊥) → FirstRefused k a es
    unfolding sentences last_end first_refused
    first-refused k a [] n = absurd (n refl)
    first-refused k a (e ∷ es) n = go (is_scored o (sentence a e r)) refl n (first-refused (suc k) e es)
      where
        later : is_scored o (sentence a e r) ≡ true → (f : FirstRefused (suc k) e es) → (j : ℕ) → j < suc f.i → is_scored o (sentence (last_end a (take j (e ∷ es))) (get_or (e ∷ es) j 0) r) ≡ true
        later p f zero l = p
        later p f (suc j) l = f.before j (omega arith)

        go : (b : Bool) → is_scored o (sentence a e r) ≡ b → (cond b (first_refused o (suc (suc k)) (sentences e es r)) (suc k) ≡ 0 → ⊥) → ((first_refused o (suc (suc k)) (sentences e es r) ≡ 0 → ⊥) → FirstRefused (suc k) e es) → FirstRefused k a (e ∷ es)
        go true p n ih = let f = ih n in record { i = suc f.i; is = rw p (omega (arith, f.is)); inside = omega (arith, f.inside); refused = f.refused; before = later p f }
        go false p n ih = record { i = 0; is = rw p (omega arith); inside = omega arith; refused = p; before = λ j l. absurd (omega arith) }
