-- The row is written where table and store have room, and the text where it was not met. Assumes nothing.
use Rattle.std.proofs.Common.{◌≡◌, ◌⊎◌, refl, sym, ap, ap₂, ◌∙◌, subst, ℕ, ℤ, ◌-◌, ◌/◌, ◌≤◌, [], ◌∷◌, length, is_some, inl, inr, not, cond, ltb, ◌+◌}
use mir.Facts.{to_z-of_z}
use borrow.Author.Tests.{lt-ltb, le-ltb}
use Rattle.integer.specs.Integer.{or_else}
use Rattle.word_index.specs.Texts.{texts_from, given_by}
use Rattle.arpa_words.specs.Words.{reserved_number, number_met, number_given}
use Rattle.arpa_words.specs.Held.{unless_zero, TextAdded}
use Rattle.arpa_words.proofs.Numbers.{unless-is-none, unless-is-some, given-unless}
use Rattle.arpa_lines.specs.Held.{word_row}
use Rattle.arpa_lines.proofs.WordSteps.{first-searchable, row-refused, record_refused, first-given, first_adding, word-step-held}
use Rattle.arpa_lines.proofs.word_step.Goals as goal
use Rattle.arpa_lines.proofs.word_step.Goals.{then-table-progress-via-then-table-progress, then-table-progress-via-else-table-progress+then-store-word, then-is_none, else-is_none, then-word-words, else-word-words}

-- the number that the text gets
given : (met : ℕ) (m : ℕ) (w : ℕ) (r : ℕ) → w ≡ given_by (unless_zero met) (or_else r m) → w ≡ or_else met (or_else r m)
given met m w r e = e ∙ given-unless met (or_else r m)

pub number_met-met-requires : goal.number_met-met-requires
number_met-met-requires c =
    (first-searchable (length c.args.table.now) (length c.args.store.now) c.args.table.now c.args.store.now c.args.progress c.requires.0.0 c.requires.0.1 c.requires.1, c.requires.2)

pub returns-then-table-progress : goal.returns-then-table-progress
returns-then-table-progress c a h =
    let t = c.args.table.now in
    let s = c.args.store.now in
    let text = c.args.text.now in
    let met = number_met (texts_from s 1 (c.args.progress.words - 1)) text in
    elim c.then-table-progress.branch [
      | then-table-progress-via-then-table-progress w ↦
          row-refused (length t) (length s) t s c.args.progress a h c.requires.1 (record { p = c.args.p; b = c.args.b; texts = text ∷ [] }) text (number_given a.texts text) w.if-table-progress.true
      | then-table-progress-via-else-table-progress+then-store-word w ↦
          record_refused (length t) (length s) t s c.args.progress a h c.requires.1 (record { p = c.args.p; b = c.args.b; texts = text ∷ [] }) text (number_given a.texts text)
          (subst (λ (k : ℕ). length s / 64 ≤ k)
          (first-given (length t) (length s) t s c.args.progress a h c.requires.1 text c.requires.2 met c.number_given-word.result refl
          (given met c.args.progress.words c.number_given-word.result (reserved_number text) (c.number_given-word.ensures ∙ ap (λ o. given_by o (or_else (reserved_number text) c.args.progress.words)) c.number_met-met.ensures)))
          w.if-store-word.true)
    ]

pub add_text-requires : goal.add_text-requires
add_text-requires c =
    let t = c.args.table.now in
    let s = c.args.store.now in
    let text = c.args.text.now in
    let met = number_met (texts_from s 1 (c.args.progress.words - 1)) text in
    first_adding (length t) (length s) t s c.args.progress c.requires.0.0 c.requires.0.1 c.requires.1 text c.requires.2 met c.number_given-word.result refl
    (given met c.args.progress.words c.number_given-word.result (reserved_number text) (c.number_given-word.ensures ∙ ap (λ o. given_by o (or_else (reserved_number text) c.args.progress.words)) c.number_met-met.ensures))
    (unless-is-none met (ap is_some (sym c.number_met-met.ensures) ∙ c.if-is_none.ensures)) c.if-store-word.false c.if-table-progress.false

pub returns : goal.returns
returns c a h =
    let t = c.args.table.now in
    let s = c.args.store.now in
    let text = c.args.text.now in
    let words = c.args.progress.words in
    let met = number_met (texts_from s 1 (words - 1)) text in
    let word = c.number_given-word.result in
    let same : is_some (unless_zero met) ≡ is_some c.number_met-met.result = ap is_some (sym c.number_met-met.ensures) in
    let came : ((met ≡ 0) × TextAdded t c.if-is_none.table s c.if-is_none.store c.args.progress.buckets words word text)
    ⊎ ((met ≡ 0 → ⊥) × (c.if-is_none.table ≡ t) × (c.if-is_none.store ≡ s)) =
    elim c.if-is_none.branch [
      | then-is_none w ↦ inl (unless-is-none met (same ∙ c.is_none.ensures ∙ ap not w.if-is_none.true), rw (w.table-is, w.store-is) w.add_text.ensures)
      | else-is_none w ↦ inr (unless-is-some met (same ∙ c.is_none.ensures ∙ ap not w.if-is_none.false), w.table-is, w.store-is)
    ] in
    let next : c.if-word-words.next ≡ cond (ltb word words) words (words + 1) =
    elim c.if-word-words.branch [
      | then-word-words w ↦ w.next-is ∙ rw (lt-ltb word words w.if-word-words.true) refl
      | else-word-words w ↦ w.next-is ∙ rw (le-ltb word words w.if-word-words.false) refl
    ] in
    word-step-held (length t) (length s) t s c.args.progress a h c.requires.1 text c.requires.2 met word refl
    (given met words word (reserved_number text) (c.number_given-word.ensures ∙ ap (λ o. given_by o (or_else (reserved_number text) words)) c.number_met-met.ensures))
    c.if-store-word.false c.if-is_none.table c.if-is_none.store came c.if-table-progress.false
    (record { p = c.args.p; b = c.args.b; texts = text ∷ [] }) c.write_word_row.new.table
    (c.write_word_row.ensures ∙ ap₂ (λ (x y : ℤ). word_row c.if-is_none.table c.args.progress.rows word x y) (to_z-of_z c.ranges.p) (to_z-of_z c.ranges.b))
    c.if-word-words.next next c.row_added.result c.row_added.ensures
