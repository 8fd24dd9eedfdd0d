-- Laws of a sentence's words and its closing word. Assumes nothing.
use mathlib.Core.Path.{◌≡◌, refl, sym, ap, ◌∙◌}
use mathlib.Core.Bool.{Bool, true, false, cond}
use mathlib.Core.List.{List, [], ◌∷◌, ◌++◌}
use Prim.Native.Nat.{ℕ, ◌+◌, ◌-◌, ◌≤◌, ◌<◌}
use native.Mathlib.Omega.{arith}
use native.Mathlib.Numerals.{add-one}
use borrow.Author.Tests.{leb-true}
use lib.IntN.{ℤ}
use lib.ListN.{length, take, set, length-append, length-take}
use lib.Seq.{take-suc-set, take_at, take-append_seam, length-take-le}
use Rattle.integer.specs.Integer.{sum}
use Rattle.integer.proofs.Ranges.{and_left}
use Rattle.backoff.specs.Limits.{start_word, end_word}
use Rattle.backoff.specs.Refusal.{text_line}
use Rattle.backoff.specs.Model.{Model}
use Rattle.backoff.specs.Rule.{rule_points}
use Rattle.backoff.specs.Run.{written}
use Rattle.backoff.proofs.Slices.{length-written}
use Rattle.std.specs.Prelude.{Some, None}
use Rattle.totals_text.specs.Lines.{is_text_line, text_words, text_answer, sentence_line, refused_line}
use Rattle.totals_text.proofs.Lines.{length-words}
use Rattle.totals_sentence.specs.Sentence.{unknown_in, total_of, sentence_output}
use Rattle.totals_sentence.specs.Steps.{line_output}

-- a line that is in form is answered with its words
pub not-words : (line : List ℕ) → is_text_line line ≡ true → text_answer line ≡ None → ⊥
unfolding text_answer
not-words line e f = let z : ◌≡◌ {A = ℕ} 0 1 = cc (rw e at f) in omega arith

-- how many words are answered: all, and at most 64
pub words-few : (line : List ℕ) (n : ℕ) → text_answer line ≡ Some n → (n ≡ length (text_words line)) × (n ≤ 64)
unfolding text_answer is_text_line
words-few line n e = go (is_text_line line) refl
  where
    go : (b : Bool) → is_text_line line ≡ b → (n ≡ length (text_words line)) × (n ≤ 64)
    go true q =
        let w : n ≡ length (text_words line) = cc (rw q at e) in
        let h : length line ≤ 512 = leb-true (length line) 512 (and_left _ _ q) in
        (w, omega (arith, length-words line))
    go false q = let z : ◌≡◌ {A = ℕ} 0 1 = cc (rw q at e) in absurd (omega arith)

-- a line that is answered by its absence is not in form
pub not-in_form : (line : List ℕ) → text_answer line ≡ None → is_text_line line ≡ false
unfolding text_answer
not-in_form line e = go (is_text_line line) refl
  where
    go : (b : Bool) → is_text_line line ≡ b → is_text_line line ≡ false
    go true q = let z : ◌≡◌ {A = ℕ} 0 1 = cc (rw q at e) in absurd (omega arith)
    go false q = q

pub in_form_lem : (line : List ℕ) (n : ℕ) → text_answer line ≡ Some n → is_text_line line ≡ true
unfolding text_answer
in_form_lem line n e = go (is_text_line line) refl
  where
    go : (b : Bool) → is_text_line line ≡ b → is_text_line line ≡ true
    go true q = q
    go false q = let z : ◌≡◌ {A = ℕ} 0 1 = cc (rw q at e) in absurd (omega arith)

-- the words and the closing word stand at the front
pub closed : (line words₀ words : List ℕ) (n : ℕ) → is_text_line line ≡ true → n ≡ length (text_words line) → n < length words₀ → words ≡ cond (is_text_line line) (written (text_words line) words₀) words₀ → take (length (text_words line) + 1) (set words n end_word) ≡ text_words line ++ (end_word ∷ [])
unfolding written
closed line words₀ words n e f h g =
    rw (← f, add-one)
    (take-suc-set words n end_word (omega (arith, ap length (rw e at g), length-written (text_words line) words₀ (omega arith)))
    ∙ ap (λ (l : List ℕ). l ++ (end_word ∷ [])) (ap (λ (l : List ℕ). take n l) (rw e at g) ∙ take_at (text_words line) _ n (sym f)))

-- the line of a sentence whose words were counted and scored with the closing word behind them
pub sentence-is : (M : Model) (k : ℕ) (line words : List ℕ) (n unknown : ℕ) (total : ℤ) → is_text_line line ≡ true → words ≡ text_words line ++ (end_word ∷ []) → n ≡ length (text_words line) → unknown ≡ unknown_in M (take (length words - 1) words) → total ≡ sum (rule_points M (start_word ∷ []) words) → sentence_line k n unknown total ≡ line_output M k line
unfolding line_output sentence_output total_of
sentence-is M k line words n unknown total e f g u t =
    let ws = text_words line in
    let long : length (ws ++ (end_word ∷ [])) - 1 ≡ length ws = omega (arith, length-append ws (end_word ∷ [])) in
    rw (e, g, u, t, f, long, take-append_seam ws (end_word ∷ [])) refl

-- so many words of a closed sentence are there
pub closed-count : (line words : List ℕ) (n : ℕ) → n ≡ length (text_words line) → take (length (text_words line) + 1) words ≡ text_words line ++ (end_word ∷ []) → (n + 1 ≤ length words) × (n + 1 ≡ length (take (n + 1) words))
closed-count line words n e f =
    let k : n + 1 ≤ length words = omega (arith, ap length f, length-append (text_words line) (end_word ∷ []), length-take (length (text_words line) + 1) words) in
    (k, sym (length-take-le (n + 1) words k))

pub refused_output : (M : Model) (k : ℕ) (line : List ℕ) → is_text_line line ≡ false → refused_line text_line k ≡ line_output M k line
unfolding line_output
refused_output M k line e = rw e refl
