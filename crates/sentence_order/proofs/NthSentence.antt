-- The sentence with the number i as the code makes it, digit by digit from the last word. Assumes nothing.
use mathlib.Core.Path.{◌≡◌, refl, sym, ap, ap₂, ◌∙◌}
use mathlib.Core.List.{List, [], ◌∷◌, ◌++◌, append_assoc, append-nil}
use Prim.Native.Nat.{ℕ, zero, suc, ◌/◌, ◌%◌, ◌-◌, ◌≤◌, ◌<◌}
use native.Mathlib.Nat.{mod-lt}
use native.Mathlib.Omega.{arith}
use lib.ListN.{length, take, drop, get_or, set, replicate, length-set, length-take, take-append-drop, drop_of_length-le}
use lib.Seq.{length-take-le, drop-cons, get_or-set_same, get_or-take, take-set-lt, drop-set-lt}
use Rattle.backoff.specs.Limits.{usable_limit, sentence_limit}
use Rattle.sentence_order.specs.Inner.{sentence_at}

-- the words from the j-th on are there, and 0s behind the k-th; the first j are still to come, from what is left of the number
pub record Filling (us : List ℕ) (k i : ℕ) (sentence : List ℕ) (rest j : ℕ) : Type 0 where
  pub below : j ≤ k
  pub long : length sentence ≡ 4
  pub done : sentence_at us k i ≡ sentence_at us j rest ++ drop j (take k sentence)
  pub behind : drop k sentence ≡ replicate (4 - k) 0

drop-replicate : {A : Type 0} (n k : ℕ) (x : A) → drop k (replicate n x) ≡ replicate (n - k) x
drop-replicate n zero x = let e : n - 0 ≡ n = omega arith in rw e
drop-replicate zero (suc k) x = let e : 0 - suc k ≡ 0 = omega arith in rw e
drop-replicate (suc n) (suc k) x = let e : suc n - suc k ≡ n - k = omega arith in rw e (drop-replicate n k x)

pub filling-none : (us : List ℕ) (k i : ℕ) → Filling us k i (replicate 4 0) i k
filling-none us k i = record {
  below = omega arith;
  long = refl;
  done = sym (append-nil _) ∙ ap (λ (l : List ℕ). sentence_at us k i ++ l) (sym nothing);
  behind = drop-replicate 4 k 0;
}
  where
    nothing : drop k (take k (replicate {A = ℕ} 4 0)) ≡ []
    nothing = drop_of_length-le (take k (replicate {A = ℕ} 4 0)) {i = k} (omega (arith, length-take k (replicate {A = ℕ} 4 0)))

module _ (us : List ℕ) (k i : ℕ) (few : k ≤ sentence_limit) (s : List ℕ) (rest : ℕ) where
  next_word_lem : (m : ℕ) (x : ℕ) → x ≡ get_or us (rest % length us) 0 → Filling us k i s rest (suc m) → Filling us k i (set s m x) (rest / length us) m
  unfolding sentence_at
  next_word_lem m x e f = record {
    below = omega (arith, f.below);
    long = length-set s m x ∙ f.long;
    done =
        f.done
        ∙ append_assoc (sentence_at us m (rest / length us)) (get_or us (rest % length us) 0 ∷ []) (drop (suc m) (take k s))
        ∙ ap (λ (l : List ℕ). sentence_at us m (rest / length us) ++ l) (ap (λ (y : ℕ). y ∷ drop (suc m) (take k s)) (sym e) ∙ sym written);
    behind = drop-set-lt k s m x (omega (arith, f.below)) ∙ f.behind;
  }
    where
      long : length (take k s) ≡ k
      long = length-take-le k s (omega (arith, f.long))

      written : drop m (take k (set s m x)) ≡ x ∷ drop (suc m) (take k s)
      written =
          ap (drop m) (take-set-lt k s m x (omega (arith, f.below)))
          ∙ drop-cons (set (take k s) m x) m 0 (omega (arith, f.below, long, length-set (take k s) m x))
          ∙ ap₂ (λ (y : ℕ) (l : List ℕ). y ∷ l) (get_or-set_same (take k s) m x 0 (omega (arith, f.below, long))) (drop-set-lt (suc m) (take k s) m x (omega arith))

  pub filling-next : (j x : ℕ) → 0 < j → x ≡ get_or us (rest % length us) 0 → Filling us k i s rest j → Filling us k i (set s (j - 1) x) (rest / length us) (j - 1)
  filling-next zero x h e f = absurd (omega arith)
  filling-next (suc m) x h e f = let z : suc m - 1 ≡ m = omega arith in rw z (next_word_lem m x e f)

  pub filling-done : (j : ℕ) → j ≤ 0 → Filling us k i s rest j → s ≡ sentence_at us k i ++ replicate (4 - k) 0
  unfolding sentence_at
  filling-done (suc j) h f = absurd (omega arith)
  filling-done zero h f = sym (take-append-drop k s) ∙ ap₂ (λ (x y : List ℕ). x ++ y) (sym f.done) f.behind

-- the words in front of an array of sixteen
module _ (usable : List ℕ) (sixteen : length usable ≡ usable_limit) (count : ℕ) (few : count ≤ usable_limit) where
  pub front_long : length (take count usable) ≡ count
  front_long = length-take-le count usable (omega arith)

  pub front-word : (n : ℕ) → 0 < count → get_or usable (n % count) 0 ≡ get_or (take count usable) (n % length (take count usable)) 0
  front-word n h = rw front_long (sym (get_or-take count usable (n % count) 0 (mod-lt n h)))
