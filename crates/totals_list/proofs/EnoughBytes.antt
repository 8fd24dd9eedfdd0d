-- How many bytes of LIST decide. Assumes nothing.
use mathlib.Core.Path.{◌≡◌, refl, sym, ap, ◌∙◌}
use mathlib.Core.Bool.{Bool, true, false, cond, false≢true}
use mathlib.Core.List.{List, [], ◌∷◌}
use Prim.Native.Nat.{ℕ, zero, suc, ◌+◌, ◌*◌, ◌-◌, ◌≤◌, ◌<◌, min}
use native.Mathlib.Omega.{arith}
use native.Mathlib.Decide.{dec_le}
use borrow.Author.Tests.{eqb-true, ne_eqb}
use lib.Dec.{eqb, leb}
use lib.ListN.{length, take, drop, length-take}
use lib.Seq.{take-take}
use Rattle.integer.proofs.Parts.{drop-take}
use Rattle.text_parts.specs.Parts.{before}
use Rattle.totals_text.specs.Lines.{list_width, is_list_line, list_row}
use Rattle.totals_list.specs.List.{Line, ended, unended, longer, lines_of, line_end, ListText, not_in_form, behind, read_list}
use Rattle.totals_list.proofs.Lines.{line_ended, line_unended, line_end_le}
use Rattle.totals_list.proofs.Listing.{read_bad, read-good}

line_end-take : (n : ℕ) (text : List ℕ) → line_end (take n text) ≡ min n (line_end text)
unfolding before
line_end-take zero text = omega arith
line_end-take (suc n) [] = omega arith
line_end-take (suc n) (c ∷ text) = go (line_end-take n text) (eqb c 10) refl
  where
    go : line_end (take n text) ≡ min n (line_end text) → (b : Bool) → eqb c 10 ≡ b → line_end (c ∷ take n text) ≡ min (suc n) (line_end (c ∷ text))
    go ih true e = rw e (omega arith)
    go ih false e = rw e (omega arith)

-- the characters of a line of LIST
abbrev long : ℕ
long = 8 * list_width

-- the bytes that decide: 512 lines with their LF, and one more
abbrev pub enough_bytes : ℕ
enough_bytes = suc long * 512 + 1

-- a first line that is not of so many characters is refused, and so is any line 513
module _ (k : ℕ) where
  not-long : (l : List ℕ) → (length l ≡ long → ⊥) → is_list_line l ≡ false
  unfolding is_list_line
  not-long l n = rw (ne_eqb (length l) long n) refl

  -- the first line is longer than that, or does not end
  first_bad_lem : (text : List ℕ) → 0 < length text → (line_end text < length text → line_end text ≡ long → ⊥) → read_list k (lines_of text) ≡ not_in_form k
  first_bad_lem text h n = go (dec_le (suc (line_end text)) (length text))
    where
      go : Dec (suc (line_end text) ≤ length text) → read_list k (lines_of text) ≡ not_in_form k
      go (yes q) = rw (line_ended text q) (read_bad k (take (line_end text) text) _ (not-long (take (line_end text) text) (λ e. n q (omega (arith, length-take (line_end text) text)))))
      go (no q) = rw (line_unended text (omega (arith, line_end_le text)) h) (unfold read_list in refl)

list_line_long : (l : List ℕ) → is_list_line l ≡ true → length l ≡ long
unfolding is_list_line
list_line_long l e = go (eqb (length l) long) refl
  where
    go : (b : Bool) → eqb (length l) long ≡ b → length l ≡ long
    go true q = eqb-true (length l) long q
    go false q = absurd (false≢true (rw q at e))

-- a line 513, whatever it holds
line_513 : (c : ℕ) (text : List ℕ) → read_list 513 (lines_of (c ∷ text)) ≡ not_in_form 513
unfolding lines_of read_list longer
line_513 c text = go (eqb c 10) (lines_of text)
  where
    go : (b : Bool) (ls : List Line) → read_list 513 (cond b (ended [] ∷ ls) (longer c ls)) ≡ not_in_form 513
    go true ls = refl
    go false [] = refl
    go false (ended l ∷ ls) = refl
    go false (unended l ∷ ls) = refl

-- the lines from number i + 1 on, where j more may follow: the characters of j lines and one more decide
Decided : ℕ → Type 0
Decided j = (i n : ℕ) (text : List ℕ) → i + j ≡ 512 → suc long * j + 1 ≤ n → read_list (suc i) (lines_of (take n text)) ≡ read_list (suc i) (lines_of text)

no_more : Decided 0
unfolding Decided
no_more i zero text e h = absurd (omega arith)
no_more i (suc n) [] e h = refl
no_more i (suc n) (c ∷ text) e h =
    let q : suc i ≡ 513 = omega arith in
    rw q (line_513 c (take n text) ∙ sym (line_513 c text))

one_more : (j : ℕ) → Decided j → Decided (suc j)
unfolding Decided
one_more j ih i zero text e h = absurd (omega arith)
one_more j ih i (suc n) [] e h = refl
one_more j ih i (suc n) (c ∷ text) e h = go (dec_le (suc (line_end all)) (length all)) (dec_le (line_end all) long)
  where
    all : List ℕ
    all = c ∷ text

    read : List ℕ
    read = take (suc n) all

    sized : length read ≡ min (suc n) (length all)
    sized = length-take (suc n) all

    same_end : line_end read ≡ min (suc n) (line_end all)
    same_end = line_end-take (suc n) all

    go : Dec (suc (line_end all) ≤ length all) → Dec (line_end all ≤ long) → read_list (suc i) (lines_of read) ≡ read_list (suc i) (lines_of all)
    go (yes q) (yes s) = line_here (is_list_line (take (line_end all) all)) refl
      where
        here : lines_of all ≡ ended (take (line_end all) all) ∷ lines_of (drop (suc (line_end all)) all)
        here = line_ended all q

        there : lines_of read ≡ ended (take (line_end all) all) ∷ lines_of (take (suc n - suc (line_end all)) (drop (suc (line_end all)) all))
        there =
            let f : line_end read ≡ line_end all = omega (arith, same_end) in
            line_ended read (omega (arith, sized, same_end)) ∙ rw (f, take-take (line_end all) (suc n) all (omega arith), drop-take (suc (line_end all)) (suc n) all) refl

        line_here : (b : Bool) → is_list_line (take (line_end all) all) ≡ b → read_list (suc i) (lines_of read) ≡ read_list (suc i) (lines_of all)
        line_here false f = rw (here, there) (read_bad (suc i) (take (line_end all) all) _ f ∙ sym (read_bad (suc i) (take (line_end all) all) _ f))
        line_here true f =
            let l : line_end all ≡ long = omega (arith, list_line_long (take (line_end all) all) f, length-take (line_end all) all) in
            rw (here, there)
            (read-good (suc i) (take (line_end all) all) _ f
            ∙ ap (λ (x : ListText). cond (leb (suc i) 512) (behind (list_row (take (line_end all) all)) x) (not_in_form (suc i))) (ih (suc i) (suc n - suc (line_end all)) (drop (suc (line_end all)) all) (omega arith) (omega arith))
            ∙ sym (read-good (suc i) (take (line_end all) all) _ f))
    go (yes q) (no s) =
        first_bad_lem (suc i) read (omega (arith, sized)) (λ l k. omega (arith, sized, same_end)) ∙ sym (first_bad_lem (suc i) all (omega arith) (λ l k. omega arith))
    go (no q) s =
        first_bad_lem (suc i) read (omega (arith, sized)) (λ l k. omega (arith, sized, same_end, line_end_le all)) ∙ sym (first_bad_lem (suc i) all (omega arith) (λ l k. omega arith))

decided : (j : ℕ) → Decided j
decided zero = no_more
decided (suc j) = one_more j (decided j)

-- so many bytes of LIST decide
pub list-bytes : (n : ℕ) (list : List ℕ) → enough_bytes ≤ n → read_list 1 (lines_of (take n list)) ≡ read_list 1 (lines_of list)
unfolding Decided
list-bytes n list h = decided 512 0 n list refl h
