-- `totals_sentence::print_sentence`: the line of a sentence, or of a refusal.
use Rattle.std.proofs.Common.{◌≡◌, ℕ, ◌+◌, ◌≤◌, List, ◌∷◌, [], ◌++◌, true, length, take, Some, sym, refl, ap, ◌∙◌, arith}
use Rattle.backoff.specs.Limits.{end_word}
use Rattle.backoff.specs.Run.{written}
use Rattle.word_walk.specs.Rows.{array_model}
use Rattle.totals_text.specs.Lines.{is_text_line, text_words, text_answer, refused_line}
use Rattle.totals_sentence.proofs.Sentences.{not-in_form, in_form_lem, words-few, closed-count, refused_output, sentence-is}
use Rattle.totals_sentence.proofs.print_sentence.Goals as goal

pub returns-in_default : goal.returns-in_default
returns-in_default c =
    let r = c.refused_line-length.ensures in
    let a = c.args in
    let e = not-in_form a.line.now (sym c.in_default.ensures.answer) in
    let q = ap (λ (n : ℕ). refused_line n a.number) c.from.ensures ∙ refused_output (array_model a.base.now a.check.now) a.number a.line.now e in
    record { accepted = sym e; length = r.length ∙ ap length q; room = r.room; text = r.text ∙ ap (λ (l : List ℕ). written l a.out.now) q }

-- the closing word stands behind the words, and there is room for both
there : (line words : List ℕ) (n : ℕ) → text_answer line ≡ Some n → (is_text_line line ≡ true → take (length (text_words line) + 1) words ≡ text_words line ++ (end_word ∷ []))
    → (n + 1 ≤ length words) × (n + 1 ≡ length (take (n + 1) words))
there line words n e closed = closed-count line words n (words-few line n e).0 (closed (in_form_lem line n e))

pub slice_bounds-words-end : goal.slice_bounds-words-end
slice_bounds-words-end c = (there c.args.line.now _ _ (sym c.in-Some.ensures.answer) c.in-Some.ensures.words).0

pub slice_bounds-score_sentence-end : goal.slice_bounds-score_sentence-end
slice_bounds-score_sentence-end c = (there c.args.line.now _ _ (sym c.in-Some.ensures.answer) c.in-Some.ensures.words).1

pub score_sentence-length-requires : goal.score_sentence-length-requires
score_sentence-length-requires c =
    let e = sym c.in-Some.ensures.answer in
    let counted = (there c.args.line.now _ _ e c.in-Some.ensures.words).1 in
    record { ready = c.requires; in_bounds = (omega (arith, counted), omega (arith, counted, (words-few c.args.line.now _ e).1)) }

pub returns : goal.returns
returns c =
    let a = c.args in
    let r = c.score_sentence-length.ensures in
    let n = sym c.in-Some.ensures.answer in
    let e = in_form_lem a.line.now _ n in
    let few = words-few a.line.now _ n in
    let q = sentence-is (array_model a.base.now a.check.now) a.number a.line.now _ _ _ _ e (ap (λ (k : ℕ). take (k + 1) c.in-Some.sentence.words) few.0 ∙ c.in-Some.ensures.words e) few.0 refl refl in
    record { accepted = sym e; length = r.length ∙ ap length q; room = r.room; text = r.text ∙ ap (λ (l : List ℕ). written l a.out.now) q }
