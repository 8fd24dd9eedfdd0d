-- The last words of a row: where they stand in the table, how many they are, and that they are a row of the filled list. Assumes nothing.
use mathlib.Core.Path.{◌≡◌, refl, sym, ap, ◌∙◌}
use mathlib.Core.Logic.{inr}
use mathlib.Core.Bool.{true}
use mathlib.Core.List.{List, [], ◌∷◌, ◌++◌}
use Prim.Native.Nat.{ℕ, zero, suc, ◌+◌, ◌*◌, ◌-◌, ◌≤◌, ◌<◌}
use native.Mathlib.Omega.{arith}
use lib.ListN.{length, get_or, take, drop, length-drop, take-append-drop}
use lib.Seq.{drop-cons, drop-drop}
use lib.IntN.{ℤ}
use Rattle.integer.proofs.Parts.{drop-take}
use Rattle.backoff.specs.Words.{are_words}
use Rattle.backoff.specs.Refusal.{Accepted}
use Rattle.rows.specs.Table.{rows_of, length_of, words_of, words}
use Rattle.rows.specs.Good.{GoodRow}
use Rattle.rows.proofs.Table.{row_in, words-length}
use Rattle.rows.proofs.Good.{are_words_lem}
use Rattle.list.specs.Check.{verdict_for}
use Rattle.filled_list.specs.Next.{last_words}
use Rattle.filled_list.proofs.WithoutFirstWords.{are_words-behind}
use Rattle.filled_list.proofs.FilledRows.{EndOf, last_alone}

drop-words_of : (j : ℕ) (zs : List ℤ) → drop j (words_of zs) ≡ words_of (drop j zs)
unfolding words_of
drop-words_of zero zs = refl
drop-words_of (suc j) [] = refl
drop-words_of (suc j) (z ∷ zs) = drop-words_of j zs

-- the m places up to the last word of row i, which has k words, hold its last m words
pub places-last : (t : List ℤ) (i k m : ℕ) → k ≡ length_of t i → m ≤ k → words_of (take (8 * i + (k + 1) - (8 * i + (k + 1) - m)) (drop (8 * i + (k + 1) - m) t)) ≡ last_words t i m
unfolding last_words words
places-last t i k m e l =
    let x : length_of t i - (length_of t i - m) ≡ 8 * i + (k + 1) - (8 * i + (k + 1) - m) = omega arith in
    let y : 8 * i + 1 + (length_of t i - m) ≡ 8 * i + (k + 1) - m = omega arith in
    sym
    (drop-words_of (length_of t i - m) (take (length_of t i) (drop (8 * i + 1) t))
    ∙ ap words_of (drop-take (length_of t i - m) (length_of t i) (drop (8 * i + 1) t) ∙ ap (take (length_of t i - (length_of t i - m))) (drop-drop (length_of t i - m) (8 * i + 1) t))
    ∙ rw (x, y))

pub last-are_words : (t : List ℤ) (i m : ℕ) → GoodRow t i → are_words (last_words t i m) ≡ true
unfolding last_words
last-are_words t i m g =
    are_words-behind (take (length_of t i - m) (words t i)) (drop (length_of t i - m) (words t i)) (ap are_words (take-append-drop (length_of t i - m) (words t i)) ∙ are_words_lem t i g)

pub last-size : (t : List ℤ) (i m : ℕ) → i < rows_of t → m ≤ length_of t i → length (last_words t i m) ≡ m
unfolding last_words
last-size t i m l h = omega (arith, length-drop (length_of t i - m) (words t i), words-length t i (row_in t i l))

pub last-all : (t : List ℤ) (i : ℕ) → last_words t i (length_of t i) ≡ words t i
unfolding last_words
last-all t i = let e : length_of t i - length_of t i ≡ 0 = omega arith in rw e

-- one word more
pub last_cons : (t : List ℤ) (i m : ℕ) → i < rows_of t → m < length_of t i → last_words t i (suc m) ≡ get_or (words t i) (length_of t i - suc m) 0 ∷ last_words t i m
unfolding last_words
last_cons t i m l h =
    let e : suc (length_of t i - suc m) ≡ length_of t i - m = omega arith in
    drop-cons (words t i) (length_of t i - suc m) 0 (omega (arith, words-length t i (row_in t i l)))
    ∙ ap {B = List ℕ} (λ k. get_or (words t i) (length_of t i - suc m) 0 ∷ drop k (words t i)) e

-- they are a row of the filled list
pub last-words-end : (t : List ℤ) → verdict_for true t ≡ Accepted → (i m : ℕ) → i < rows_of t → 0 < m → m ≤ length_of t i → EndOf t (last_words t i m)
last-words-end t a i m l s h = go (last_words t i m) refl
  where
    split : words t i ≡ take (length_of t i - m) (words t i) ++ last_words t i m
    split = unfold last_words in sym (take-append-drop (length_of t i - m) (words t i))

    go : (ws : List ℕ) → last_words t i m ≡ ws → EndOf t ws
    go [] e = absurd (omega (arith, last-size t i m l h, ap length e))
    go (y ∷ []) e = last_alone t a i l (take (length_of t i - m) (words t i)) y (split ∙ ap (λ (ws : List ℕ). take (length_of t i - m) (words t i) ++ ws) e)
    go (x ∷ y ∷ ws) e = record {
      at = i;
      within = l;
      front = take (length_of t i - m) (words t i);
      same = split ∙ ap (λ (ws : List ℕ). take (length_of t i - m) (words t i) ++ ws) e;
      long = inr (omega arith);
    }
