-- Laws of the outcome of plain scoring: each answer is the outcome's, and means what it says. Assumes nothing.
use Rattle.std.specs.declared.result.Result.TheVariants.{Ok, Err}
use mathlib.Core.Path.{◌≡◌, refl, sym, ◌∙◌}
use mathlib.Core.Logic.{inl, inr}
use mathlib.Core.Bool.{Bool, true, false, cond, ◌||◌}
use mathlib.Core.List.{List}
use Prim.Native.Nat.{ℕ, ◌<◌}
use native.Mathlib.Omega.{arith}
use lib.ListN.{length}
use lib.Seq.{take_at, drop_at}
use lib.Dec.{ltb, lit<}
use lib.IntN.{ℤ, pos}
use borrow.Author.Tests.{ne_eqb, ltb-true, ltb-false}
use Rattle.integer.specs.Integer.{sum}
use Rattle.backoff.specs.Limits.{run_limit}
use Rattle.backoff.specs.declared.Reason.{Reason}
use Rattle.backoff.specs.declared.Reason.TheVariants.{TableLength, ArrayLength, RowLength, RowWords, RowProbability, RowBackoff, RowOrder, ShorterRow, ReservedWord, NoRoom, ArrayHead, BrokenNode, TextLine, WordCount, ShortSlice, BadState, LineForm, UnlistedText, SectionCount, SentenceEnd, BadFragment, ListingSize}
use Rattle.backoff.specs.declared.Refusal.{Refusal}
use Rattle.backoff.specs.Refusal.{word_count, short_slice, reason_number, Accepted, Refused}
use Rattle.backoff.specs.Rule.{rule_points, rule_bytes}
use Rattle.backoff.specs.Run.{Run, refusal, accepted, written, refused_run, accepted_run, front, plain}
use Rattle.backoff.proofs.Rule.{length-rule_points, length-rule_bytes}
use Rattle.list.specs.Check.{verdict}
use Rattle.list.specs.ListModel.{model_of}
use Rattle.list.proofs.ListModel.{accepted-model}
use Rattle.list.proofs.Meaning.{none-meets, refused-verdict}
use Rattle.plain.specs.Plain.{plain_outcome, Answers, PlainRefusedBy, bad_list, too_many_words, too_short, PlainMeans}

-- no reason has the number 0
reason-some : (reason : Reason) → 0 < reason_number reason
reason-some TableLength = lit< tt
reason-some ArrayLength = lit< tt
reason-some RowLength = lit< tt
reason-some RowWords = lit< tt
reason-some RowProbability = lit< tt
reason-some RowBackoff = lit< tt
reason-some RowOrder = lit< tt
reason-some ShorterRow = lit< tt
reason-some ReservedWord = lit< tt
reason-some NoRoom = lit< tt
reason-some ArrayHead = lit< tt
reason-some BrokenNode = lit< tt
reason-some TextLine = lit< tt
reason-some WordCount = lit< tt
reason-some ShortSlice = lit< tt
reason-some BadState = lit< tt
reason-some LineForm = lit< tt
reason-some UnlistedText = lit< tt
reason-some SectionCount = lit< tt
reason-some SentenceEnd = lit< tt
reason-some BadFragment = lit< tt
reason-some ListingSize = lit< tt

module _ (t : List ℤ) (b : Bool) (r : Run) where
  answer-refused : (e : Refusal ℕ) → (reason_number e.reason ≡ 0 → ⊥) → PlainRefusedBy t r (reason_number e.reason) e.place → plain_outcome t b r ≡ refused_run (reason_number e.reason) e.place tt r → Answers (plain_outcome t b r) (Err e) r.points r.lengths × PlainMeans t b r (reason_number e.reason) e.place (pos 0) r.points r.lengths
  unfolding refused_run
  answer-refused e l by is = (
    rw is (record { number_is = refl; place_is = refl; total-is = refl; points_are = refl; lengths_are = refl }),
    record {
      accepted = λ z. absurd (l z);
      no_place = λ z. absurd (l z);
      refused = λ _. by;
      untouched = λ _. record { total-is = refl; points_are = refl; lengths_are = refl };
      points-past = refl;
      lengths-past = refl;
    },
  )

  -- 1, 3 to 8, or 9
  pub answer-list : (e : Refusal ℕ) → Refused (reason_number e.reason) e.place ≡ verdict t → Answers (plain_outcome t b r) (Err e) r.points r.lengths × PlainMeans t b r (reason_number e.reason) e.place (pos 0) r.points r.lengths
  answer-list e is =
      let some : reason_number e.reason ≡ 0 → ⊥ = λ z. omega (arith, z, reason-some e.reason) in
      answer-refused e some (bad_list _ _ some (refused-verdict false t _ _ (sym is))) (unfold plain_outcome in rw (← is) refl)

  module _ (v : verdict t ≡ Accepted) where
    sizes_told : (refusal r ≡ 0 → ⊥) → PlainRefusedBy t r (refusal r) 0
    unfolding refusal
    sizes_told = go (ltb run_limit (length r.words)) refl (ltb (length r.points) (length r.words)) refl (ltb (length r.lengths) (length r.words)) refl
      where
        go : (x : Bool) → ltb run_limit (length r.words) ≡ x → (y : Bool) → ltb (length r.points) (length r.words) ≡ y → (z : Bool) → ltb (length r.lengths) (length r.words) ≡ z → (cond x word_count (cond (y || z) short_slice 0) ≡ 0 → ⊥) → PlainRefusedBy t r (cond x word_count (cond (y || z) short_slice 0)) 0
        go true p y f z g h = too_many_words (none-meets false t v) (ltb-true _ _ p)
        go false p true f z g h = too_short (none-meets false t v) (ltb-false _ _ p) (inl (ltb-true _ _ f))
        go false p false f true g h = too_short (none-meets false t v) (ltb-false _ _ p) (inr (ltb-true _ _ g))
        go false p false f false g h = absurd (h refl)

    run-refused : (n : ℕ) → n ≡ refusal r → (n ≡ 0 → ⊥) → plain_outcome t b r ≡ refused_run n 0 tt r
    unfolding plain_outcome plain accepted
    run-refused n e l = rw (v, ← e, ne_eqb n 0 l)

    -- 14 or 15
    pub answer-run : (reason : Reason) → reason_number reason ≡ refusal r → Answers (plain_outcome t b r) (Err (record { reason = reason; place = 0 })) r.points r.lengths × PlainMeans t b r (reason_number reason) 0 (pos 0) r.points r.lengths
    answer-run reason e =
        let some : reason_number reason ≡ 0 → ⊥ = λ z. omega (arith, z, reason-some reason) in
        answer-refused (record { reason = reason; place = 0 }) some (rw e (sizes_told (λ z. some (e ∙ z)))) (run-refused _ e some)

    pub answer-scored : refusal r ≡ 0 → (total : ℤ) (points : List ℤ) (lengths : List ℕ) → total ≡ sum (rule_points (model_of t) (front b) r.words) → points ≡ written (rule_points (model_of t) (front b) r.words) r.points → lengths ≡ written (rule_bytes (model_of t) (front b) r.words) r.lengths → Answers (plain_outcome t b r) (Ok total) points lengths × PlainMeans t b r 0 0 total points lengths
    unfolding plain_outcome plain accepted accepted_run written
    answer-scored e total points lengths f g h =
        let p = length-rule_points (model_of t) (front b) r.words in
        let q = length-rule_bytes (model_of t) (front b) r.words in (
          rw (v, e) (record { number_is = refl; place_is = refl; total-is = f; points_are = g; lengths_are = h }),
          record {
            accepted = λ _. record { model = accepted-model t v; points_begin = rw g (take_at _ _ _ p); lengths_begin = rw h (take_at _ _ _ q); total-is = f };
            no_place = λ _. refl;
            refused = λ n. absurd (n refl);
            untouched = λ n. absurd (n refl);
            points-past = rw (g, p) (drop_at (rule_points (model_of t) (front b) r.words) _ _ p);
            lengths-past = rw (h, q) (drop_at (rule_bytes (model_of t) (front b) r.words) _ _ q);
          },
        )
