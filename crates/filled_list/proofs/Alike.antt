-- A model with rows added scores every word as before: an added row has the points that the rule gave without it, and a back-off of 0 as an unlisted
-- history has. Assumes nothing.
use mathlib.Core.Path.{◌≡◌, refl, sym, ap, ap₂, ◌∙◌}
use mathlib.Core.Logic.{◌⊎◌, inl, inr}
use mathlib.Core.Bool.{Bool, true, false}
use mathlib.Core.List.{List, [], ◌∷◌, map}
use Prim.Native.Nat.{ℕ, zero, suc, ◌≤◌}
use native.Mathlib.Omega.{arith}
use lib.ListN.{take, length-take}
use lib.Seq.{take-take}
use lib.IntN.{ℤ, pos, ◌+ℤ◌}
use Rattle.backoff.specs.Limits.{unknown_word}
use Rattle.backoff.specs.Model.{Model, listed, probability, backoff}
use Rattle.backoff.specs.Rule.{Score, add_points, replaced, score_after, history_length, rule, grow, rule_points, history}
use Rattle.backoff.proofs.Model.{dead_backoff, unlisted_dead}
use Rattle.backoff.proofs.Rule.{history_length-same, score_after-here, score_after-down, take-map, history_length-length, history_length-reach}
use Rattle.filled_list.specs.Added.{own_points, Kept, Added, Extends}

module _ (M : Model) where
  -- only the k newest words of the history count
  score_after-newest : (k j : ℕ) (g : List ℕ) (v : ℕ) → k ≤ j → score_after M k (take j g) v ≡ score_after M k g v
  unfolding score_after
  score_after-newest zero j g v l = refl
  score_after-newest (suc k) j g v l = rw (take-take (suc k) j g l, score_after-newest k j g v (omega arith))

  module _ (u : listed M (unknown_word ∷ []) ≡ true) where
    -- a word that was replaced is not replaced again
    replaced-twice : (w : ℕ) → replaced M (replaced M w) ≡ replaced M w
    unfolding replaced
    replaced-twice w = go (listed M (w ∷ [])) refl
      where
        go : (b : Bool) → listed M (w ∷ []) ≡ b → replaced M (replaced M w) ≡ replaced M w
        go true e = rw (e, e)
        go false e = rw (e, u)

    replaced-all : (h : List ℕ) → map (replaced M) (map (replaced M) h) ≡ map (replaced M) h
    replaced-all [] = refl
    replaced-all (w ∷ h) = ap₂ ◌∷◌ (replaced-twice w) (replaced-all h)

    -- what an added row is given: the points after its own words, all of which stand as they are
    own-points_are : (h : List ℕ) (w k : ℕ) → k ≤ history_length M (map (replaced M) h)
        → own_points M (replaced M w ∷ take k (map (replaced M) h)) ≡ (score_after M k (map (replaced M) h) (replaced M w)).points
    unfolding own_points rule history_length
    own-points_are h w k l =
        ap (λ (s : Score). s.points)
        (ap (λ (t : List ℕ). score_after M (history_length M t) t (replaced M (replaced M w))) kept
        ∙ ap₂ (λ (n : ℕ) (v : ℕ). score_after M n (take k g) v) size (replaced-twice w)
        ∙ score_after-newest k k g (replaced M w) (omega arith))
      where
        g : List ℕ
        g = map (replaced M) h

        kept : map (replaced M) (take k g) ≡ take k g
        kept = sym (take-map (replaced M) k g) ∙ ap (take k) (replaced-all h)

        size : history_length M (take k g) ≡ k
        size = omega (arith, length-take k g, history_length-length M g, history_length-reach M g)

-- two models that score each word alike after every history score texts alike; the history that a text leaves is one for all models
module _ (M N : Model) where
  pub history-alike : (h ws : List ℕ) → history N h ws ≡ history M h ws
  unfolding history grow
  history-alike h [] = refl
  history-alike h (w ∷ ws) = history-alike (grow M h w) ws

  pub rule_points-alike : ((h : List ℕ) (w : ℕ) → (rule N h w).points ≡ (rule M h w).points) → (h ws : List ℕ) → rule_points N h ws ≡ rule_points M h ws
  unfolding rule_points grow
  rule_points-alike e h [] = refl
  rule_points-alike e h (w ∷ ws) = ap₂ ◌∷◌ (e h w) (rule_points-alike e (grow M h w) ws)

module _ (M N : Model) (E : Extends M N) where
  single_as : (w : ℕ) → listed N (w ∷ []) ≡ listed M (w ∷ [])
  single_as w = go (E.each (w ∷ []))
    where
      go : Kept M N (w ∷ []) ⊎ Added M N (w ∷ []) → listed N (w ∷ []) ≡ listed M (w ∷ [])
      go (inl k) = k.listed_as
      go (inr a) = absurd (let l = a.two in omega arith)

  single-probability : (w : ℕ) → probability N (w ∷ []) ≡ probability M (w ∷ [])
  single-probability w = go (E.each (w ∷ []))
    where
      go : Kept M N (w ∷ []) ⊎ Added M N (w ∷ []) → probability N (w ∷ []) ≡ probability M (w ∷ [])
      go (inl k) = k.probability_as
      go (inr a) = absurd (let l = a.two in omega arith)

  -- an added row has the back-off of an unlisted one
  backoff-alike : (l : List ℕ) → backoff N l ≡ backoff M l
  backoff-alike l = go (E.each l)
    where
      unlisted : listed M l ≡ false → backoff M l ≡ pos 0
      unlisted e = dead_backoff M l (unlisted_dead M l e)

      go : Kept M N l ⊎ Added M N l → backoff N l ≡ backoff M l
      go (inl k) = k.backoff_as
      go (inr a) = a.no-backoff ∙ sym (unlisted a.absent)

  replaced-alike : (w : ℕ) → replaced N w ≡ replaced M w
  unfolding replaced
  replaced-alike w = rw (single_as w)

  replaced-all-alike : (h : List ℕ) → map (replaced N) h ≡ map (replaced M) h
  replaced-all-alike [] = refl
  replaced-all-alike (w ∷ h) = ap₂ ◌∷◌ (replaced-alike w) (replaced-all-alike h)

  module _ (u : listed M (unknown_word ∷ []) ≡ true) (h : List ℕ) (w : ℕ) where
    abbrev g : List ℕ
    g = map (replaced M) h

    abbrev v : ℕ
    v = replaced M w

    abbrev points_in : Model → ℕ → ℤ
    points_in A k = (score_after A k g v).points

    -- the rule goes the same way in both, or ends earlier in N at the sum that M comes to
    score_after-alike : (k : ℕ) → k ≤ history_length M g → points_in N k ≡ points_in M k
    unfolding add_points
    score_after-alike zero l = unfold score_after in single-probability v
    score_after-alike (suc k) l = go (score_after-alike k (omega arith)) (E.each (v ∷ take (suc k) g)) (listed M (v ∷ take (suc k) g)) refl
      where
        go : points_in N k ≡ points_in M k → Kept M N (v ∷ take (suc k) g) ⊎ Added M N (v ∷ take (suc k) g)
            → (b : Bool) → listed M (v ∷ take (suc k) g) ≡ b → points_in N (suc k) ≡ points_in M (suc k)
        go ih (inl a) true e =
            ap (λ (s : Score). s.points) (score_after-here N k g v (a.listed_as ∙ e))
            ∙ a.probability_as
            ∙ sym (ap (λ (s : Score). s.points) (score_after-here M k g v e))
        go ih (inl a) false e =
            ap (λ (s : Score). s.points) (score_after-down N k g v (a.listed_as ∙ e))
            ∙ ap₂ ◌+ℤ◌ (backoff-alike (take (suc k) g)) ih
            ∙ sym (ap (λ (s : Score). s.points) (score_after-down M k g v e))
        go ih (inr a) b e =
            ap (λ (s : Score). s.points) (score_after-here N k g v a.present)
            ∙ a.own-points
            ∙ own-points_are M u h w (suc k) l

    pub rule-alike : (rule N h w).points ≡ (rule M h w).points
    unfolding rule
    rule-alike =
        ap (λ (s : Score). s.points)
        (ap₂ (λ (t : List ℕ) (x : ℕ). score_after N (history_length N t) t x) (replaced-all-alike h) (replaced-alike w)
        ∙ ap (λ (n : ℕ). score_after N n g v) (history_length-same M N E.order_as g))
        ∙ score_after-alike (history_length M g) (omega arith)

  -- so the p of an added row is the same, whichever of the rows are there already
  pub own_points-alike : listed M (unknown_word ∷ []) ≡ true → (l : List ℕ) → own_points N l ≡ own_points M l
  unfolding own_points
  own_points-alike u [] = refl
  own_points-alike u (v ∷ g) = rule-alike u g v
