-- The loop over the words of a run: i words are scored by the rule, each after all before it, and the rest are left. Assumes nothing.
use mathlib.Core.Path.{◌≡◌, ap, ◌∙◌}
use mathlib.Core.Bool.{Bool}
use mathlib.Core.List.{List, [], ◌∷◌}
use Prim.Native.Nat.{ℕ, ◌+◌, ◌<◌, ◌≤◌}
use native.Mathlib.Numerals.{add-one}
use native.Mathlib.Omega.{arith}
use lib.ListN.{length, get_or, drop, set, drop_of_length-le}
use lib.Seq.{drop-cons}
use lib.IntN.{ℤ, pos, ◌+ℤ◌}
use mir.Syntax.{w32, w64}
use mir.Val.{SFits}
use Rattle.integer.specs.Integer.{sum}
use Rattle.backoff.specs.Limits.{run_limit}
use Rattle.backoff.specs.Model.{Model, AcceptedModel, reach}
use Rattle.backoff.specs.Rule.{Score, grow, rule, rule_byte, rule_points, rule_bytes}
use Rattle.backoff.specs.Run.{front, written}
use Rattle.plain_history.specs.declared.Recent.{Recent}
use Rattle.plain_history.specs.History.{first_history}
use Rattle.plain_history.proofs.Preceding.{Holds, begun-holds, rule-held, pushed-holds}
use Rattle.plain.specs.declared.Next.{Next}
use Rattle.plain.specs.Held.{IsNext}
use Rattle.plain.proofs.Progress.{Progress, progress_none, progress_more, progress_end, Summed, summed-none, summed-more, summed-end, total-fits}

-- the rule over the words that are left
module _ (M : Model) (h ws : List ℕ) (i : ℕ) where
  points-step : i < length ws → rule_points M h (drop i ws) ≡ (rule M h (get_or ws i 0)).points ∷ rule_points M (grow M h (get_or ws i 0)) (drop (i + 1) ws)
  unfolding rule_points
  points-step l = rw (drop-cons ws i 0 l, add-one)

  bytes-step : i < length ws → rule_bytes M h (drop i ws) ≡ rule_byte M h (get_or ws i 0) ∷ rule_bytes M (grow M h (get_or ws i 0)) (drop (i + 1) ws)
  unfolding rule_bytes
  bytes-step l = rw (drop-cons ws i 0 l, add-one)

  points-end : length ws ≤ i → rule_points M h (drop i ws) ≡ []
  unfolding rule_points
  points-end l = rw (drop_of_length-le ws l)

  bytes-end : length ws ≤ i → rule_bytes M h (drop i ws) ≡ []
  unfolding rule_bytes
  bytes-end l = rw (drop_of_length-le ws l)

-- The run's words are ws, after `<s>` where b says so; `points₀` and `lengths₀` are the lent slices at entry.
pub record Scoring (M : Model) (b : Bool) (ws : List ℕ) (points₀ : List ℤ) (lengths₀ : List ℕ) (points : List ℤ) (lengths : List ℕ) (recent : Recent) (total : ℤ) (i : ℕ) : Type 0 where
  pub within : i ≤ length ws
  pub before : List ℕ
  pub holds : Holds M recent before
  pub points-left : Progress (rule_points M (front b) ws) (rule_points M before (drop i ws)) points₀ points i
  pub lengths-left : Progress (rule_bytes M (front b) ws) (rule_bytes M before (drop i ws)) lengths₀ lengths i
  pub total_left : Summed (rule_points M (front b) ws) (rule_points M before (drop i ws)) total i

pub scoring_none : {M : Model} → AcceptedModel M → (b : Bool) (ws : List ℕ) (points : List ℤ) (lengths : List ℕ) → Scoring M b ws points lengths points lengths (first_history (reach M) b) (pos 0) 0
scoring_none A b ws points lengths = record {
  within = omega arith;
  before = front b;
  holds = begun-holds A b;
  points-left = progress_none _ _;
  lengths-left = progress_none _ _;
  total_left = summed-none _;
}

module _ {M : Model} {b : Bool} {ws : List ℕ} {points₀ : List ℤ} {lengths₀ : List ℕ} {points : List ℤ} {lengths : List ℕ} {recent : Recent} {total : ℤ} {i : ℕ} (s : Scoring M b ws points₀ lengths₀ points lengths recent total i) where
  pub scored-all : length ws ≤ i → (total ≡ sum (rule_points M (front b) ws)) × ((points ≡ written (rule_points M (front b) ws) points₀) × (lengths ≡ written (rule_bytes M (front b) ws) lengths₀))
  scored-all l =
      let e = points-end M s.before ws i l in (
        summed-end (rw e at s.total_left),
        (progress_end (rw e at s.points-left), progress_end (rw (bytes-end M s.before ws i l) at s.lengths-left)),
      )

  -- one word more
  module _ (A : AcceptedModel M) (l : i < length ws) {r : Next} (k : IsNext M (reach M) recent (get_or ws i 0) r) (f : SFits w32 r.points) where
    points-rest : rule_points M s.before (drop i ws) ≡ r.points ∷ rule_points M (grow M s.before (get_or ws i 0)) (drop (i + 1) ws)
    points-rest =
        rw (k.points_are ∙ ap (λ (q : Score). q.points) (rule-held A s.holds (get_or ws i 0))) (points-step M s.before ws i l)

    bytes_rest : rule_bytes M s.before (drop i ws) ≡ r.byte ∷ rule_bytes M (grow M s.before (get_or ws i 0)) (drop (i + 1) ws)
    unfolding rule_byte
    bytes_rest = rw (k.byte_is, rule-held A s.holds (get_or ws i 0)) (bytes-step M s.before ws i l)

    pub scoring_more : length ws ≤ length points₀ → length ws ≤ length lengths₀ → Scoring M b ws points₀ lengths₀ (set points i r.points) (set lengths i r.byte) r.recent (total +ℤ r.points) (i + 1)
    scoring_more room space =
        rw k.recent_is
        (record {
          within = omega arith;
          before = grow M s.before (get_or ws i 0);
          holds = pushed-holds A s.holds (get_or ws i 0);
          points-left = progress_more (rw points-rest at s.points-left) (omega arith);
          lengths-left = progress_more (rw bytes_rest at s.lengths-left) (omega arith);
          total_left = summed-more (rw points-rest at s.total_left) f;
        })

    pub total-added : length ws ≤ run_limit → SFits w64 (total +ℤ r.points)
    total-added h = total-fits (rw points-rest at s.total_left) f (omega arith)
