-- A sentence that nothing refuses early is refused by 12 alone, over any lent arrays, and exactly where its walks meet it. Assumes nothing.
use Rattle.std.specs.declared.option.Option.{Option}
use mathlib.Core.Path.{◌≡◌, refl, sym, ◌∙◌}
use mathlib.Core.Logic.{◌⊎◌, inl, inr}
use mathlib.Core.Bool.{true, false, true≢false}
use mathlib.Core.List.{List, [], ◌∷◌}
use Prim.Native.Nat.{◌≤◌}
use native.Mathlib.Omega.{arith}
use lib.ListN.{length}
use lib.IntN.{ℤ}
use borrow.Author.Tests.{le-ltb}
use Rattle.backoff.specs.Limits.{run_limit, start_word, end_word}
use Rattle.backoff.specs.Model.{Model}
use Rattle.backoff.specs.State.{empty, start}
use Rattle.backoff.specs.Run.{Run, refusal, run_end}
use Rattle.backoff.specs.NineNumbers.{nine}
use Rattle.backoff.specs.Store.{Store}
use Rattle.double_array.specs.DoubleArray.{is_array, store_in, opened}
use Rattle.word_walk.specs.Rows.{array_model}
use Rattle.score.specs.Answers.{started_over}
use Rattle.score.specs.Meaning.{Unwalkable, StuckWords, StuckSentence}
use Rattle.score.proofs.Refusals.{stuck_split, stuck-both}
use Rattle.score.proofs.Sentence.{Twelve, not-met, met, start_twelve, start-state, run_twelve, run-state}
use Rattle.closed_sentence.specs.Sentence.{closing_run, words_run, closed, is_scored}
use Rattle.closed_sentence.proofs.Calls.{start_refuses, words-refuse, closing_refuses, none_refuses}
use Rattle.batch.specs.Meaning.{FullRun, ByTwelve}

-- a run whose slices are as long as its words
pub fits-full : (q : Run) → length q.words ≤ run_limit → FullRun q → refusal q ≡ 0
unfolding refusal
fits-full q few full = rw (full.points, full.lengths, le-ltb run_limit (length q.words) few, le-ltb (length q.words) (length q.words) (omega arith))

module _ (base check : List ℤ) (array : is_array base check ≡ true) (q : Run) (f : refusal q ≡ 0) where
  abbrev S : Store
  S = store_in base check

  abbrev M : Model
  M = array_model base check

  abbrev o : Option Store
  o = opened base check

  -- what the sentence q is: scored, or refused by 12
  pub data Judged : Type 0 where
    scored : is_scored o q ≡ true → (StuckSentence S q.words → ⊥) → Judged
    refused : is_scored o q ≡ false → ByTwelve o q → StuckSentence S q.words → Judged

  words_twelve : (started_over o).number ≡ 0 → Twelve (StuckWords S (start M) q.words) (words_run o q).number
  unfolding words_run run_end
  words_twelve x = rw (start-state base check array x) (run_twelve base check array [] q f)

  closed_twelve : (started_over o).number ≡ 0 → (words_run o q).number ≡ 0 → Twelve (StuckWords S (run_end M (start M) q.words) (end_word ∷ [])) (closed o q).number
  unfolding closed
  closed_twelve x y = rw end (run_twelve base check array q.words closing_run (unfold refusal in refl))
    where
      state : (started_over o).state ≡ nine (start M)
      state = unfold run_end in start-state base check array x

      end : (words_run o q).end ≡ nine (run_end M (start M) q.words)
      end = unfold words_run in rw state (run-state base check array q (rw state at y))

  pub judged : Judged
  judged = first (start_twelve base check array)
    where
      none : (Unwalkable S empty start_word → ⊥) → (StuckWords S (start M) q.words → ⊥) → (StuckWords S (run_end M (start M) q.words) (end_word ∷ []) → ⊥) → StuckSentence S q.words → ⊥
      none m n k (inl u) = m u
      none m n k (inr t) = go (stuck_split S (end_word ∷ []) q.words (start M) t)
        where
          go : StuckWords S (start M) q.words ⊎ StuckWords S (run_end M (start M) q.words) (end_word ∷ []) → ⊥
          go (inl u) = n u
          go (inr u) = k u

      third : (started_over o).number ≡ 0 → (Unwalkable S empty start_word → ⊥) → (words_run o q).number ≡ 0 → (StuckWords S (start M) q.words → ⊥) → Twelve (StuckWords S (run_end M (start M) q.words) (end_word ∷ [])) (closed o q).number → Judged
      third x m y n (not-met z k) = scored (none_refuses o q x y z) (none m n k)
      third x m y n (met z t) = refused (closing_refuses o q (λ e. let g = sym e ∙ z in omega arith)) (inr (inr z)) (inr (stuck-both S (end_word ∷ []) q.words (start M) (inr t)))

      second : (started_over o).number ≡ 0 → (Unwalkable S empty start_word → ⊥) → Twelve (StuckWords S (start M) q.words) (words_run o q).number → Judged
      second x m (not-met y n) = third x m y n (closed_twelve x y)
      second x m (met y t) = refused (words-refuse o q (λ e. let g = sym e ∙ y in omega arith)) (inr (inl y)) (inr (stuck-both S (end_word ∷ []) q.words (start M) (inl t)))

      first : Twelve (Unwalkable S empty start_word) (started_over o).number → Judged
      first (not-met x m) = second x m (words_twelve x)
      first (met x u) = refused (start_refuses o q (λ e. let g = sym e ∙ x in omega arith)) (inl x) (inl u)

  pub refused_by_12 : is_scored o q ≡ false → ByTwelve o q
  refused_by_12 n = go judged
    where
      go : Judged → ByTwelve o q
      go (scored e s) = absurd (true≢false (sym e ∙ n))
      go (refused e b s) = b
