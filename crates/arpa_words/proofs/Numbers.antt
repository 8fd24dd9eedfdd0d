-- Laws of numbers that are 0 where there is none. Assumes nothing.
use Rattle.std.proofs.Common.{◌≡◌, ℕ, zero, suc, ◌+◌, ◌<◌, List, true, false, refl, arith, Some, None, is_some}
use mathlib.Core.Bool.{Bool, cond}
use mathlib.Core.Logic.{⊎_elim}
use Rattle.std.specs.declared.option.Option.{Option}
use Rattle.integer.specs.Integer.{or_else}
use Rattle.word_index.specs.Texts.{texts_of, given_by, record_with}
use Rattle.arpa_words.specs.Words.{zeroed, some_missing}
use Rattle.arpa_words.specs.Held.{unless_zero, all_numbers}
use Rattle.arpa_words.proofs.Searches.{search_told}

pub unless-some : (n k : ℕ) → ◌≡◌ {A = Option ℕ} (Some k) (unless_zero n) → (n ≡ k) × (0 < k)
unless-some zero k e = absurd cc
unless-some (suc n) k e = let f : suc n ≡ k = cc in (f, omega arith)

pub unless-none : (n : ℕ) → ◌≡◌ {A = Option ℕ} None (unless_zero n) → n ≡ 0
unless-none zero e = refl
unless-none (suc n) e = absurd cc

pub unless-cond : (b : Bool) (k : ℕ) → 0 < k → cond b None (Some k) ≡ unless_zero (cond b 0 k)
unless-cond true k l = refl
unless-cond false zero l = absurd (omega arith)
unless-cond false (suc k) l = refl

pub unless-is-none : (n : ℕ) → is_some (unless_zero n) ≡ false → n ≡ 0
unless-is-none zero e = refl
unless-is-none (suc n) e = absurd cc

pub unless-is-some : (n : ℕ) → is_some (unless_zero n) ≡ true → n ≡ 0 → ⊥
unless-is-some zero e f = absurd cc
unless-is-some (suc n) e f = absurd cc

pub given-unless : (n m : ℕ) → given_by (unless_zero n) m ≡ or_else n m
given-unless zero m = refl
given-unless (suc n) m = refl

-- the words that a search finds count from 4
pub unless-found : (s : List ℕ) (words : ℕ) (text : List ℕ) → record_with s words text ≡ unless_zero (given_by (record_with s words text) 0)
unfolding record_with
unless-found s words text =
    ⊎_elim
    (λ p. rw p.0 refl)
    (λ p. let z : 4 + p.0 ≡ suc (3 + p.0) = omega arith in rw (p.1.found, z) refl)
    (search_told text 4 (texts_of s words))

pub all-missing : (ks : List ℕ) → some_missing ks ≡ true → None ≡ all_numbers ks
unfolding all_numbers
all-missing ks e = rw e refl

pub present : (ks numbers : List ℕ) → Some numbers ≡ all_numbers ks → (some_missing ks ≡ false) × (numbers ≡ zeroed 5 ks)
unfolding all_numbers
present ks numbers e = go (some_missing ks) refl e
  where
    go : (b : Bool) → some_missing ks ≡ b → Some numbers ≡ cond b None (Some (zeroed 5 ks)) → (some_missing ks ≡ false) × (numbers ≡ zeroed 5 ks)
    go true f g = absurd cc
    go false f g = (f, cc)

pub absent : (ks : List ℕ) → None ≡ all_numbers ks → some_missing ks ≡ true
unfolding all_numbers
absent ks e = go (some_missing ks) refl e
  where
    go : (b : Bool) → some_missing ks ≡ b → None ≡ cond b None (Some (zeroed 5 ks)) → some_missing ks ≡ true
    go true f g = f
    go false f g = absurd cc

pub all-present : (ks numbers : List ℕ) → false ≡ some_missing ks → numbers ≡ zeroed 5 ks → Some numbers ≡ all_numbers ks
unfolding all_numbers
all-present ks numbers e f = rw (← e, f) refl
