-- `totals_text::read_text_line`: a line in form is its words, and another leaves the words as they were.
use Rattle.std.proofs.Common.{◌≡◌, ℕ, ℤ, ◌*◌, ◌/◌, ◌%◌, ◌≤◌, ◌<◌, zero, suc, [], ◌∷◌, ◌≤ℤ◌, w32, add-one, Bool, true, false, cond, List, map, pos, length, get_or, drop, Option, Some, None, sym, refl, subst, ap, ◌∙◌, arith, length-take, length-drop}
use lib.ListN.{length-map, drop_of_length-le}
use mir.Val.{SFits, to_z, of_z}
use mir.Facts.{to_z-of_z}
use Rattle.std.proofs.lemmas.List.Edits.{sets}
use Rattle.integer.proofs.Arithmetic.{zarith}
use Rattle.decimal.proofs.Scans.{front}
use Rattle.columns.specs.Columns.{greatest_number}
use borrow.Author.Tests.{le-leb, lt-leb, eq-eqb, ne_eqb}
use Rattle.backoff.specs.Run.{written}
use Rattle.totals_text.specs.Lines.{text_width, columns, all_in_form, column_value, is_text_line, text_words, text_answer, TextLineMeans}
use Rattle.totals_text.proofs.Lines.{length-words, text-line_form, words_of, text_line_means}
use Rattle.totals_text.proofs.Stores.{sets-written}
use Rattle.totals_text.proofs.read_text_line.Goals.{then-line-gt-LONGEST_TEXT-via-then-line-gt-LONGEST_TEXT, then-line-gt-LONGEST_TEXT-via-else-line-gt-LONGEST_TEXT+then-line-ne0}
use Rattle.totals_text.proofs.read_text_line.Goals as goal

-- what the contract says of an answer and the words as they are left
record Settled (line words₀ : List ℕ) (r : Option ℕ) (words : List ℕ) : Type 0 where
  answer : r ≡ text_answer line
  left : words ≡ cond (is_text_line line) (written (text_words line) words₀) words₀
  meaning : TextLineMeans line r words

refused : (line words : List ℕ) → is_text_line line ≡ false → Settled line words None words
unfolding text_answer
refused line words e = record { answer = rw e refl; left = rw e refl; meaning = rw e at (text_line_means line words) }

accepted : (line words₀ words : List ℕ) → is_text_line line ≡ true → words ≡ written (text_words line) words₀ → Settled line words₀ (Some (length line / text_width)) words
unfolding text_answer
accepted line words₀ words e f = record {
  answer = rw (e, length-words line) refl;
  left = rw e f;
  meaning = subst (TextLineMeans line (Some (length line / text_width))) (sym f) (rw (e, length-words line) at (text_line_means line words₀));
}

-- a line is in form where its columns are
in_form_line : (line : List ℕ) → length line ≤ 64 * text_width → length line % text_width ≡ 0 → is_text_line line ≡ all_in_form (pos 0) (columns text_width (length line / text_width) line)
unfolding is_text_line
in_form_line line h e = rw (le-leb (length line) (64 * text_width) h, eq-eqb (length line % text_width) 0 e) refl

-- what was read is all columns of the line
all_read : (line : List ℕ) (n : ℕ) (r b : Bool) → n ≡ length line / text_width → r ≡ all_in_form (pos 0) (columns text_width n line) → r ≡ b
    → all_in_form (pos 0) (columns text_width (length line / text_width) line) ≡ b
all_read line n r b l e f = ap (λ (k : ℕ). all_in_form (pos 0) (columns text_width k line)) (sym l) ∙ sym e ∙ f

words_read : (line : List ℕ) (n : ℕ) (numbers : List ℤ) → n ≡ length line / text_width → all_in_form (pos 0) (columns text_width (length line / text_width) line) ≡ true
    → numbers ≡ map column_value (columns text_width n line) → numbers ≡ map pos (text_words line)
unfolding text_words
words_read line n numbers l e f = f ∙ ap (λ (k : ℕ). map column_value (columns text_width k line)) l ∙ words_of (columns text_width (length line / text_width) line) e

word_at : (ws : List ℕ) (i : ℕ) → get_or (map pos ws) i (pos 0) ≡ pos (get_or ws i 0)
word_at [] i = refl
word_at (w ∷ ws) zero = refl
word_at (w ∷ ws) (suc i) = word_at ws i

-- the number at i, as the code has it, is the word at i
word_here : (line : List ℕ) (numbers : List ℤ) (i : ℕ) → is_text_line line ≡ true → numbers ≡ map pos (text_words line) → i < length (text_words line)
    → (to_z w32 (of_z w32 (get_or numbers i (pos 0))) ≡ pos (get_or (text_words line) i 0)) × (get_or (text_words line) i 0 < 2147483648)
word_here line numbers i e f h =
    let w = get_or (text_words line) i 0 in
    let x : get_or numbers i (pos 0) ≡ pos w = ap (λ (zs : List ℤ). get_or zs i (pos 0)) f ∙ word_at (text_words line) i in
    let g : pos w ≤ℤ greatest_number = rw (word_at (text_words line) i) at ((text-line_form line e).held i (omega (arith, length-map (text_words line) pos))).greatest in
    let s : SFits w32 (pos w) = omega zarith in
    (ap (λ (z : ℤ). to_z w32 (of_z w32 z)) x ∙ to_z-of_z s, omega zarith)

pub returns-then-line-gt-LONGEST_TEXT : goal.returns-then-line-gt-LONGEST_TEXT
unfolding is_text_line
returns-then-line-gt-LONGEST_TEXT c =
    let line = c.args.line.now in
    let e : is_text_line line ≡ false =
    elim c.then-line-gt-LONGEST_TEXT.branch [
      | then-line-gt-LONGEST_TEXT-via-then-line-gt-LONGEST_TEXT w ↦ rw (lt-leb (length line) (64 * text_width) w.if-line-gt-LONGEST_TEXT.true) refl
      | then-line-gt-LONGEST_TEXT-via-else-line-gt-LONGEST_TEXT+then-line-ne0 w ↦
          rw (le-leb (length line) (64 * text_width) w.if-line-gt-LONGEST_TEXT.false, ne_eqb (length line % text_width) 0 w.if-line-ne0.true) refl
    ] in
    let s = refused line c.args.words.now e in
    record { answer = s.answer; words = s.left; meaning = s.meaning }

pub returns-then-not-read_columns : goal.returns-then-not-read_columns
returns-then-not-read_columns c =
    let line = c.args.line.now in
    let s = refused line c.args.words.now (in_form_line line c.if-line-gt-LONGEST_TEXT.false c.if-line-ne0.false ∙ all_read line _ _ false (omega (arith, length-take {A = ℤ}, length-drop {A = ℤ})) c.read_columns.ensures.answer c.if-not-read_columns.true) in
    record { answer = s.answer; words = s.left; meaning = s.meaning }

pub overflow_cast-words : goal.overflow_cast-words
overflow_cast-words c =
    let line = c.args.line.now in
    let a : all_in_form (pos 0) (columns text_width (length line / text_width) line) ≡ true = all_read line _ _ true (omega (arith, length-take {A = ℤ}, length-drop {A = ℤ})) c.read_columns.ensures.answer c.if-not-read_columns.false in
    let f = words_read line _ c.read_columns.new.numbers (omega (arith, length-take {A = ℤ}, length-drop {A = ℤ})) a (c.read_columns.ensures.numbers c.if-not-read_columns.false) in
    let w = word_here line c.read_columns.new.numbers c.loop-i.i (in_form_line line c.if-line-gt-LONGEST_TEXT.false c.if-line-ne0.false ∙ a) f (omega (arith, length-words line)) in
    rw w.0 (tt, record { fits = omega arith })

pub loop-i-preserved : goal.loop-i-preserved
loop-i-preserved c =
    let line = c.args.line.now in
    let i = c.loop-i.i in
    let ws = text_words line in
    let a : all_in_form (pos 0) (columns text_width (length line / text_width) line) ≡ true = all_read line _ _ true (omega (arith, length-take {A = ℤ}, length-drop {A = ℤ})) c.read_columns.ensures.answer c.if-not-read_columns.false in
    let f = words_read line _ c.read_columns.new.numbers (omega (arith, length-take {A = ℤ}, length-drop {A = ℤ})) a (c.read_columns.ensures.numbers c.if-not-read_columns.false) in
    let l : i < length ws = omega (arith, length-words line) in
    let w = word_here line c.read_columns.new.numbers i (in_form_line line c.if-line-gt-LONGEST_TEXT.false c.if-line-ne0.false ∙ a) f l in
    c.loop-i.invariant ∙ ap (sets c.loop-i.words i) (front ws i l) ∙ rw (w.0, add-one i) refl

pub returns : goal.returns
returns c =
    let line = c.args.line.now in
    let ws = text_words line in
    let a : all_in_form (pos 0) (columns text_width (length line / text_width) line) ≡ true = all_read line _ _ true (omega (arith, length-take {A = ℤ}, length-drop {A = ℤ})) c.read_columns.ensures.answer c.if-not-read_columns.false in
    let n = length-words line in
    let none : drop c.loop-i.i ws ≡ [] = drop_of_length-le ws (omega arith) in
    let left : c.loop-i.words ≡ written ws c.args.words.now =
    ap (sets c.loop-i.words c.loop-i.i) (sym none) ∙ sym c.loop-i.invariant ∙ sets-written c.args.words.now ws (omega arith) in
    let s = accepted line c.args.words.now c.loop-i.words (in_form_line line c.if-line-gt-LONGEST_TEXT.false c.if-line-ne0.false ∙ a) left in
    record { answer = s.answer; words = s.left; meaning = s.meaning }
