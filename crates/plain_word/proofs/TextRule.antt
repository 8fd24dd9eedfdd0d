-- The rule in the order of the text, call by call: what a listed row answers, what the answer for the shorter history is added to, and how large points
-- get. Assumes nothing.
use mathlib.Core.Path.{◌≡◌, refl, sym, ap, ◌∙◌}
use mathlib.Core.Bool.{Bool, true, false, cond, true≢false}
use mathlib.Core.List.{List, [], ◌∷◌, reverse}
use Prim.Native.Nat.{ℕ, suc, ◌+◌, ◌*◌, ◌-◌, ◌<◌, ◌≤◌, min}
use native.Mathlib.Numerals.{add-one}
use native.Mathlib.Decide.{dec_le}
use native.Mathlib.Omega.{arith}
use lib.ListN.{length, take, drop, length-reverse, length-map, length-take, length-drop}
use lib.Seq.{take_all}
use lib.IntN.{ℤ, pos, ◌+ℤ◌}
use mir.Syntax.{w32}
use mir.Val.{SFits}
use Rattle.integer.proofs.Arithmetic.{zarith, up, down, add}
use Rattle.integer.proofs.Ranges.{false_unless, between-low, between-high}
use Rattle.backoff.specs.Limits.{order_limit, least_probability, largest_backoff}
use Rattle.backoff.specs.Model.{Model, AcceptedModel, in_probability, listed, probability, backoff}
use Rattle.backoff.specs.Rule.{add_points, row_score, text_rule}
use Rattle.backoff.proofs.Model.{dead_backoff, unlisted_dead}
use Rattle.backoff.proofs.Sizes.{backoff-size}
use Rattle.rows.specs.Table.{words_of}
use Rattle.row_search.specs.declared.Row.{Row}
use Rattle.list.specs.ListModel.{model_of}
use Rattle.plain_word.specs.declared.Score.{Score}
use Rattle.plain_word.specs.Score.{IsScore}
use Rattle.plain_word.proofs.Rows.{IsRow}

module _ (M : Model) (v : ℕ) where
  pub text-here : (h : List ℕ) → listed M (v ∷ reverse h) ≡ true → text_rule M h v ≡ row_score M (v ∷ reverse h) (length h + 1)
  unfolding text_rule
  text-here [] e = refl
  text-here (o ∷ h) e = rw (e, add-one)

  -- a word that is listed by itself, and not with the history
  pub history-some : (h : List ℕ) → listed M (v ∷ []) ≡ true → listed M (v ∷ reverse h) ≡ false → 0 < length h
  history-some [] l e = absurd (true≢false (sym l ∙ e))
  history-some (o ∷ h) l e = omega arith

  text_shorter : (h : List ℕ) → 0 < length h → listed M (v ∷ reverse h) ≡ false → text_rule M h v ≡ add_points (backoff M (reverse h)) (text_rule M (drop 1 h) v)
  unfolding text_rule
  text_shorter [] l e = absurd (omega arith)
  text_shorter (o ∷ h) l e = rw e

  -- no more words are matched than the history and the word
  pub text-matched : (h : List ℕ) → (text_rule M h v).matched ≤ length h + 1
  unfolding text_rule add_points
  text-matched [] = omega arith
  text-matched (o ∷ h) = go (listed M (v ∷ reverse (o ∷ h))) (text-matched h)
    where
      go : (b : Bool) → (text_rule M h v).matched ≤ length h + 1 → (cond b (row_score M (v ∷ reverse (o ∷ h)) (suc (length (o ∷ h)))) (add_points (backoff M (reverse (o ∷ h))) (text_rule M h v))).matched ≤ length (o ∷ h) + 1
      go true l = omega arith
      go false l = omega (arith, l)

-- a history of n words or more has no back-off
module _ {M : Model} (A : AcceptedModel M) where
  long-unlisted : (l : List ℕ) → M.order < length l → listed M l ≡ false
  long-unlisted l h = false_unless _ (λ e. omega (arith, A.short l e))

  long-backoff : (l : List ℕ) → order_limit ≤ length l → backoff M l ≡ pos 0
  long-backoff l h = go (dec_le (length l) M.order)
    where
      go : Dec (length l ≤ M.order) → backoff M l ≡ pos 0
      go (yes q) = A.longest l (omega (arith, A.order-high))
      go (no q) = dead_backoff M l (unlisted_dead M l (long-unlisted l (omega arith)))

-- at most the largest back-off for the row and for each history passed that may be listed
pub record Small (z : ℤ) (histories : ℕ) : Type 0 where
  pub low : down z ≤ up z + largest_backoff * suc histories
  pub high : up z ≤ down z + largest_backoff * suc histories

module _ {M : Model} (A : AcceptedModel M) where
  probability_small : (l : List ℕ) (k : ℕ) → Small (probability M l) k
  unfolding in_probability
  probability_small l k =
      let n = between-low least_probability (pos 0) (probability M l) (A.in_probability_lem l) in
      let h = between-high least_probability (pos 0) (probability M l) (A.in_probability_lem l) in
      record { low = omega zarith; high = omega zarith }

  text_small : (h : List ℕ) (v : ℕ) → Small (text_rule M h v).points (min 4 (length h))
  unfolding text_rule add_points
  text_small [] v = probability_small (v ∷ []) 0
  text_small (o ∷ h) v = go (listed M (v ∷ reverse (o ∷ h))) (text_small h v)
    where
      b : ℤ
      b = backoff M (reverse (o ∷ h))

      p : ℤ
      p = (text_rule M h v).points

      more : Small p (min 4 (length h)) → Dec (length (o ∷ h) ≤ 4) → Small (b +ℤ p) (min 4 (length (o ∷ h)))
      more s (yes q) =
          let z = backoff-size b (A.in_backoff_lem (reverse (o ∷ h))) in
          record { low = omega (arith, s.low, add b p, z); high = omega (arith, s.high, add b p, z) }
      more s (no q) =
          let z : b ≡ pos 0 = long-backoff A (reverse (o ∷ h)) (rw length-reverse (omega arith)) in
          record { low = omega (zarith, s.low, add b p); high = omega (zarith, s.high, add b p) }

      go : (c : Bool) → Small p (min 4 (length h)) → Small (cond c (row_score M (v ∷ reverse (o ∷ h)) (suc (length (o ∷ h)))) (add_points b (text_rule M h v))).points (min 4 (length (o ∷ h)))
      go true s = probability_small (v ∷ reverse (o ∷ h)) (min 4 (length (o ∷ h)))
      go false s = more s (dec_le (length (o ∷ h)) 4)

  pub probability-fits : (l : List ℕ) → SFits w32 (probability M l)
  probability-fits l = let s = probability_small l 0 in omega (zarith, s.low, s.high)

  pub backoff-fits : (l : List ℕ) → SFits w32 (backoff M l)
  backoff-fits l = let z = backoff-size (backoff M l) (A.in_backoff_lem l) in omega (zarith, z)

  pub text-fits : (h : List ℕ) (v : ℕ) → SFits w32 (text_rule M h v).points
  text-fits h v = let s = text_small h v in omega (zarith, s.low, s.high)

  -- a back-off and points fit 32 bits together
  pub sum_fits : (l h : List ℕ) (v : ℕ) → SFits w32 (backoff M l +ℤ (text_rule M h v).points)
  sum_fits l h v =
      let z = backoff-size (backoff M l) (A.in_backoff_lem l) in
      let s = text_small h v in
      omega (zarith, z, s.low, s.high)

-- the history without its oldest word, as the code hands it on
abbrev shorter_part : List ℤ → List ℤ
shorter_part zs = take (length zs - 1) (drop 1 zs)

pub shorter_length : (zs : List ℤ) → length (shorter_part zs) ≡ length zs - 1
shorter_length zs = rw (length-take, length-drop) (omega arith)

pub shorter_words : (zs : List ℤ) → words_of (shorter_part zs) ≡ drop 1 (words_of zs)
unfolding words_of
shorter_words [] = refl
shorter_words (z ∷ zs) = ap words_of (take_all (suc (length zs) - 1) zs (omega arith))

-- the score of a call, by the row of history and word, and by the call for the shorter history
module _ {t : List ℤ} (v : ℕ) (zs : List ℤ) where
  pub score_here : {row : Row} {x : ℤ} → IsRow t (v ∷ reverse (words_of zs)) row → x ≡ row.p → IsScore t (text_rule (model_of t) (words_of zs) v) (record { points = x; matched = length zs + 1; row = row.at })
  score_here k e =
      let size : length zs ≡ length (words_of zs) = unfold words_of in sym (length-map zs _) in
      rw (text-here (model_of t) v (words_of zs) k.is_listed, size)
      (record { points_are = e ∙ k.p-is; matched-is = refl; row_is = k.at-is })

  pub score_shorter : {s : Score} {x : ℤ} → 0 < length zs → listed (model_of t) (v ∷ reverse (words_of zs)) ≡ false → x ≡ backoff (model_of t) (reverse (words_of zs)) +ℤ (text_rule (model_of t) (drop 1 (words_of zs)) v).points → IsScore t (text_rule (model_of t) (drop 1 (words_of zs)) v) s → IsScore t (text_rule (model_of t) (words_of zs) v) (record { points = x; matched = s.matched; row = s.row })
  score_shorter l u e k =
      let some : 0 < length (words_of zs) = unfold words_of in rw length-map l in
      rw (text_shorter (model_of t) v (words_of zs) some u)
      (unfold add_points in record { points_are = e; matched-is = k.matched-is; row_is = k.row_is })
