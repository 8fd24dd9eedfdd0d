-- A sentence over arrays that hold an accepted model is scored by the rule over their rows. Assumes nothing.
use mathlib.Core.Path.{◌≡◌, refl, sym, ap, ◌∙◌}
use mathlib.Core.Bool.{Bool, true, false, cond}
use Rattle.std.specs.List.{count_by}
use Rattle.std.proofs.lemmas.List.Recursion.{is_count_by}
use mathlib.Core.List.{List, [], ◌∷◌}
use Prim.Native.Nat.{ℕ, zero, suc, ◌+◌, ◌≤◌}
use native.Mathlib.Omega.{arith}
use borrow.Author.Tests.{le-ltb}
use lib.IntN.{ℤ}
use lib.ListN.{length, take, length-take}
use lib.Seq.{take-append-le}
use Rattle.integer.specs.Integer.{sum}
use Rattle.backoff.specs.Limits.{start_word}
use Rattle.backoff.specs.Model.{Model, AcceptedModel}
use Rattle.backoff.specs.Rule.{replaced, rule, rule_byte, grow, rule_points, rule_bytes}
use Rattle.backoff.specs.Counts.{says_unknown, count}
use Rattle.backoff.specs.State.{start}
use Rattle.backoff.specs.Run.{Run, Answer, refusal, accepted, accepted_run, written, run}
use Rattle.backoff.specs.Store.{run_outcome}
use Rattle.backoff.proofs.Rule.{matched-few}
use Rattle.backoff.proofs.Counts.{byte_unknown}
use Rattle.backoff.proofs.State.{start-is-after}
use Rattle.backoff.proofs.Run.{length-run_bytes, run_points-is-rule, run_bytes-is-rule}
use Rattle.backoff.proofs.Store.{Whole, packed, run_outcome-is}
use Rattle.double_array.specs.DoubleArray.{store_in, opened}
use Rattle.double_array.proofs.DoubleArray.{opened_some}
use Rattle.word_walk.specs.Rows.{array_model}
use Rattle.totals_sentence.specs.Sentence.{unknown_in}
use Rattle.totals_sentence.specs.Steps.{Ready}

-- ---- unknown words

-- counting, as std counts
pub count_list : (bytes : List ℕ) → count says_unknown bytes ≡ count_by says_unknown bytes
unfolding count
count_list = is_count_by (count says_unknown) says_unknown refl (λ n ns. go (says_unknown n) (count says_unknown ns))
  where
    go : (b : Bool) (k : ℕ) → cond b 1 0 + k ≡ cond b (1 + k) k
    go true k = refl
    go false k = omega arith

module _ (M : Model) (A : AcceptedModel M) where
  -- the bytes of the first k words tell how many of them are unknown
  bytes-unknown : (k : ℕ) (h ws : List ℕ) → count says_unknown (take k (rule_bytes M h ws)) ≡ unknown_in M (take k ws)
  unfolding count unknown_in rule_bytes rule_byte
  bytes-unknown zero h ws = refl
  bytes-unknown (suc k) h [] = refl
  bytes-unknown (suc k) h (w ∷ ws) = rw (byte_unknown (rule M h w).matched (replaced M w) (rule M h w).extended (omega (arith, matched-few M A h w)), bytes-unknown k (grow M h w) ws) refl

-- ---- an answer that is the run's from start's state

module _ {base check state : List ℤ} (R : Ready base check state) (r : Run) (few : length r.words ≤ 65) (points : length r.points ≡ 65) (lengths : length r.lengths ≡ 65) {a : Answer (List ℤ)} (e : a ≡ run_outcome (opened base check) state r) where
  abbrev M : Model
  M = array_model base check

  accepts : accepted r ≡ true
  unfolding accepted refusal
  accepts = rw (le-ltb 65535 (length r.words) (omega arith), le-ltb (length r.points) (length r.words) (omega arith), le-ltb (length r.lengths) (length r.words) (omega arith)) refl

  whole : Whole (store_in base check)
  whole = record { sound = R.sound; unknown-here = R.rows.unknown-listed }

  ran : a ≡ packed (run M (start M) r)
  ran = e ∙ rw (R.state-is, opened_some base check R.array, start-is-after M R.rows) (run_outcome-is (store_in base check) whole R.rows (start_word ∷ []) r)

  pub scored-total : a.total ≡ sum (rule_points M (start_word ∷ []) r.words)
  unfolding packed run accepted_run
  scored-total = ap (λ (b : Answer (List ℤ)). b.total) ran ∙ rw (accepts, start-is-after M R.rows) (ap sum (run_points-is-rule M R.rows (start_word ∷ []) r.words))

  pub scored-unknown : (k : ℕ) → k ≤ length r.words → count says_unknown (take k a.lengths) ≡ unknown_in M (take k r.words)
  unfolding packed run accepted_run written
  scored-unknown k h =
      ap (λ (b : Answer (List ℤ)). count says_unknown (take k b.lengths)) ran
      ∙ rw (accepts, start-is-after M R.rows, run_bytes-is-rule M R.rows (start_word ∷ []) r.words)
      (ap (count says_unknown) (take-append-le k (rule_bytes M (start_word ∷ []) r.words) _ (omega (arith, long))) ∙ bytes-unknown M R.rows k (start_word ∷ []) r.words)
    where
      long : length (rule_bytes M (start_word ∷ []) r.words) ≡ length r.words
      long = ap length (sym (run_bytes-is-rule M R.rows (start_word ∷ []) r.words)) ∙ length-run_bytes M _ r.words

pub short-take : {A : Type 0} (n : ℕ) (l : List A) → n ≤ 64 → length (take n l) ≤ 64
short-take n l h = omega (arith, length-take n l)
