-- Keys with zeros put in front, and their last digits: how many words a key has, and when its last digits are not below a bound. Assumes nothing.
use mathlib.Core.Path.{◌≡◌, refl, sym, ap, ◌∙◌}
use mathlib.Core.Logic.{⊎_elim}
use mathlib.Core.Bool.{true}
use mathlib.Core.List.{List, [], ◌∷◌}
use Prim.Native.Nat.{ℕ, zero, suc, ◌+◌, ◌*◌, ◌-◌, ◌≤◌, ◌<◌}
use native.Mathlib.Omega.{arith}
use lib.ListN.{length, drop}
use Rattle.integer.proofs.Ranges.{lt_or_ge}
use Rattle.backoff.specs.Limits.{order_limit}
use Rattle.backoff.specs.Words.{are_words, radix, key}
use Rattle.backoff.proofs.Words.{first_some, first_limit, words-rest}
use Rattle.rows.specs.Keys.{key_of}
use Rattle.filled_list.specs.Next.{zeros, power}

pub zeros_le : (j a b : ℕ) → a ≤ b → zeros j a ≤ zeros j b
unfolding zeros
zeros_le zero a b l = l
zeros_le (suc j) a b l = let h = zeros_le j a b l in omega arith

pub zeros-zeros : (j i k : ℕ) → zeros j (zeros i k) ≡ zeros (j + i) k
unfolding zeros
zeros-zeros zero i k = let e : 0 + i ≡ i = omega arith in rw e
zeros-zeros (suc j) i k = let e : suc j + i ≡ suc (j + i) = omega arith in rw (e, zeros-zeros j i k)

zeros-some : (n x : ℕ) → x ≤ zeros n x
unfolding zeros
zeros-some zero x = omega arith
zeros-some (suc n) x = let h = zeros-some n x in omega arith

zeros-last : (n x : ℕ) → zeros (suc n) x ≡ zeros n (radix * x)
zeros-last n x = let e : n + 1 ≡ suc n = omega arith in sym (zeros-zeros n 1 x ∙ ap (λ (j : ℕ). zeros j x) e) ∙ ap (zeros n) (unfold zeros in refl)

pub zeros-none : (j x : ℕ) → zeros (j - 0) x ≡ zeros j x
zeros-none j x = let e : j - 0 ≡ j = omega arith in rw e

pub zeros-end : (j i x : ℕ) → j ≤ i → x ≡ zeros (j - i) x
unfolding zeros
zeros-end j i x l = let e : j - i ≡ 0 = omega arith in rw e

-- one zero more in front of a key, as long as there is room for five words
module _ (j i high low : ℕ) (l : i < j) (room : zeros (j - i) (key_of high low) ≤ power order_limit) where
  pub room-left : high < radix
  unfolding power zeros
  room-left =
      let e : j - i ≡ suc (j - i - 1) = omega arith in
      let r : zeros (suc (j - i - 1)) (key_of high low) ≤ power order_limit = rw e at room in
      let s = zeros-some (j - i - 1) (key_of high low) in
      omega arith

  pub zero_more : (high' low' : ℕ) → key_of high' low' ≡ radix * key_of high low → zeros (j - (i + 1)) (key_of high' low') ≡ zeros (j - i) (key_of high low)
  zero_more high' low' q =
      let e : j - i ≡ suc (j - (i + 1)) = omega arith in
      ap (zeros (j - (i + 1))) q ∙ sym (zeros-last (j - (i + 1)) (key_of high low)) ∙ ap (λ (n : ℕ). zeros n (key_of high low)) (sym e)

-- a key is not below j zeros and `floor` exactly if its digits past the first j are not below `floor`
pub above-end : (j floor : ℕ) (ws : List ℕ) → are_words ws ≡ true → j ≤ length ws → zeros j floor ≤ key ws → floor ≤ key (drop j ws)
unfolding zeros key
above-end zero floor ws e l h = h
above-end (suc j) floor [] e l h = absurd (omega arith)
above-end (suc j) floor (w ∷ ws) e l h = above-end j floor ws (words-rest w ws e) (omega arith) (let u = first_limit w ws e in omega arith)

pub end-above : (j floor : ℕ) (ws : List ℕ) → j ≤ length ws → floor ≤ key (drop j ws) → zeros j floor ≤ key ws
unfolding zeros key
end-above zero floor ws l h = h
end-above (suc j) floor [] l h = absurd (omega arith)
end-above (suc j) floor (w ∷ ws) l h = let i = end-above j floor ws (omega arith) h in omega arith

pub power_le : (i j : ℕ) → i ≤ j → power i ≤ power j
unfolding power
power_le i j l = let e : j ≡ i + (j - i) = omega arith in rw (e, ← zeros-zeros i (j - i) 1) (zeros_le i 1 (zeros (j - i) 1) (zeros-some (j - i) 1))

-- the bound of rows of k words has room
pub bound_room : (m k floor : ℕ) → m ≤ k → k ≤ order_limit → floor ≤ power m → zeros (k - m) floor ≤ power order_limit
unfolding power
bound_room m k floor l n h =
    let a = zeros_le (k - m) floor (zeros m 1) h in
    let e : k - m + m ≡ k = omega arith in
    let b : zeros (k - m) (zeros m 1) ≡ zeros k 1 = zeros-zeros (k - m) m 1 ∙ ap (λ (j : ℕ). zeros j 1) e in
    let c = power_le k order_limit n in
    omega arith

-- a key has as many digits as there are words
pub key_below : (ws : List ℕ) → are_words ws ≡ true → key ws < power (length ws)
unfolding power zeros key
key_below [] e = omega arith
key_below (w ∷ ws) e = let h = key_below ws (words-rest w ws e) in let u = first_limit w ws e in omega arith

key_above : (w : ℕ) (ws : List ℕ) → are_words (w ∷ ws) ≡ true → power (length ws) ≤ key (w ∷ ws)
unfolding power zeros key
key_above w [] e = let s = first_some w [] e in omega arith
key_above w (v ∷ vs) e = let h = key_above v vs (words-rest w (v ∷ vs) e) in omega arith

-- so a key from `power (m − 1)` on and below `power m` has m words
pub long-enough : (m : ℕ) (ws : List ℕ) → are_words ws ≡ true → power m ≤ key ws → m < length ws
long-enough m ws e l = ⊎_elim (λ p. p) (λ p. absurd (let a = key_below ws e in let b = power_le (length ws) m p in omega arith)) (lt_or_ge m (length ws))

pub short-enough : (m : ℕ) (ws : List ℕ) → are_words ws ≡ true → key ws < power m → length ws ≤ m
short-enough m [] e l = omega arith
short-enough m (w ∷ ws) e l = ⊎_elim (λ p. p) (λ (p : m ≤ length ws). absurd (let a = key_above w ws e in let b = power_le m (length ws) p in omega arith)) (lt_or_ge (length ws) m)
