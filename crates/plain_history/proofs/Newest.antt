-- Laws of the history as the code holds it, in four places: the part that is in use, and one word more behind it. Assumes nothing.
use mathlib.Core.Path.{◌≡◌, refl, ap, ◌∙◌}
use mathlib.Core.Bool.{true}
use mathlib.Core.List.{List, [], ◌∷◌, ◌++◌, map-append, reverse}
use Prim.Native.Nat.{ℕ, zero, suc, ◌-◌, ◌≤◌}
use native.Mathlib.Omega.{arith}
use lib.ListN.{length, take, drop, length-drop, length-append, length-map}
use lib.Seq.{take_all}
use lib.IntN.{ℤ, pos}
use Rattle.backoff.specs.Words.{are_words}
use Rattle.backoff.proofs.Words.{words_more, first_some, first_limit, are_words_snoc}
use Rattle.rows.specs.Table.{word_of, words_of}
use Rattle.rows.proofs.Table.{are_words-drop}
use Rattle.rows.proofs.Rows.{word_of-pos}
use Rattle.plain_history.specs.declared.Recent.{Recent}
use Rattle.plain_history.specs.History.{IsRecent, in_use}

data Four : List ℤ → Type 0 where
  places : (a b c d : ℤ) → Four (a ∷ b ∷ c ∷ d ∷ [])

four-places : (l : List ℤ) → length l ≡ 4 → Four l
four-places [] h = absurd (omega arith)
four-places (a ∷ []) h = absurd (omega arith)
four-places (a ∷ b ∷ []) h = absurd (omega arith)
four-places (a ∷ b ∷ c ∷ []) h = absurd (omega arith)
four-places (a ∷ b ∷ c ∷ d ∷ []) h = places a b c d
four-places (a ∷ b ∷ c ∷ d ∷ e ∷ l) h = absurd (omega arith)

module _ (r : Recent) (k : IsRecent r) where
  -- the history as the code hands it on
  pub history_part : words_of (take (4 - (4 - r.count)) (drop (4 - r.count) r.words)) ≡ in_use r
  unfolding in_use
  history_part = ap words_of (take_all (4 - (4 - r.count)) (drop (4 - r.count) r.words) (rw length-drop (omega (arith, k.four))))

  pub history-are_words : are_words (in_use r) ≡ true
  unfolding in_use
  history-are_words = are_words-drop (4 - r.count) r.words k.are_words_lem

  pub history-length : length (in_use r) ≡ r.count
  unfolding in_use words_of
  history-length = length-map (drop (4 - r.count) r.words) _ ∙ rw length-drop (omega (arith, k.four, k.few))

  pub history-newest : reverse (in_use r) ≡ take r.count (reverse (words_of r.words))
  unfolding in_use words_of
  history-newest = go r.count k.few (four-places r.words k.four)
    where
      go : {ws : List ℤ} (i : ℕ) → i ≤ 4 → Four ws → reverse (words_of (drop (4 - i) ws)) ≡ take i (reverse (words_of ws))
      go zero l (places a b c d) = refl
      go (suc zero) l (places a b c d) = refl
      go (suc (suc zero)) l (places a b c d) = refl
      go (suc (suc (suc zero))) l (places a b c d) = refl
      go (suc (suc (suc (suc zero)))) l (places a b c d) = refl
      go (suc (suc (suc (suc (suc i))))) l q = absurd (omega arith)

module _ (ws : List ℤ) (v : ℕ) (four : length ws ≡ 4) (a : are_words (v ∷ []) ≡ true) where
  pub newest_shifted : reverse (words_of (drop 1 ws ++ (pos v ∷ []))) ≡ v ∷ take 3 (reverse (words_of ws))
  unfolding words_of
  newest_shifted = go (four-places ws four)
    where
      go : {ws : List ℤ} → Four ws → reverse (words_of (drop 1 ws ++ (pos v ∷ []))) ≡ v ∷ take 3 (reverse (words_of ws))
      go (places x y z u) = rw (word_of-pos v (first_limit v [] a))

  pub length_shifted : length (drop 1 ws ++ (pos v ∷ [])) ≡ 4
  length_shifted = rw (length-append, length-drop) (omega (arith, four))

  words_shifted : words_of (drop 1 ws ++ (pos v ∷ [])) ≡ words_of (drop 1 ws) ++ (v ∷ [])
  unfolding words_of
  words_shifted =
      map-append (λ (z : ℤ). word_of z) (drop 1 ws) (pos v ∷ [])
      ∙ ap (λ (u : ℕ). words_of (drop 1 ws) ++ (u ∷ [])) (word_of-pos v (first_limit v [] a))

  pub shifted_are_words : are_words (words_of ws) ≡ true → are_words (words_of (drop 1 ws ++ (pos v ∷ []))) ≡ true
  shifted_are_words e = rw (words_shifted, are_words_snoc) (words_more v (words_of (drop 1 ws)) (first_some v [] a) (first_limit v [] a) (are_words-drop 1 ws e))
