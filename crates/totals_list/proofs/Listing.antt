-- Laws of reading LIST line by line. Assumes nothing.
use mathlib.Core.Path.{◌≡◌, refl, sym, ap, subst, ◌∙◌}
use mathlib.Core.Bool.{Bool, true, false, cond, ◌&&◌}
use mathlib.Core.List.{List, [], ◌∷◌, ◌++◌, append_assoc, append-nil}
use Prim.Native.Nat.{ℕ, suc, ◌+◌, ◌*◌, ◌-◌, ◌≤◌, ◌<◌}
use native.Mathlib.Omega.{arith}
use native.Mathlib.Numerals.{add-one, lt_of_le_of_ne}
use borrow.Author.Tests.{le-leb, lt-leb}
use lib.Dec.{leb}
use lib.IntN.{ℤ}
use lib.ListN.{length, take, drop, length-drop, drop_of_length-le}
use lib.Seq.{paste, take-paste, take_all, length-paste, drop-drop}
use Rattle.totals_text.specs.Lines.{is_list_line, list_row}
use Rattle.totals_text.proofs.Lines.{list_line_length}
use Rattle.totals_list.specs.List.{Line, ended, lines_of, line_end, ListText, rows, not_in_form, behind, read_list, ReadAs}
use Rattle.std.specs.Prelude.{Result, Ok}
use Rattle.totals_list.proofs.Lines.{line_end_le, line_ended, line_unended}

-- what is left of LIST behind its first i lines, which begins at `at`
unfoldable pub rest : List ℕ → ℕ → ℕ → ListText
rest text at i = read_list (suc i) (lines_of (drop at text))

-- the first i rows stand in the table
pub record Reading (text : List ℕ) (table : List ℤ) (at i : ℕ) : Type 0 where
  pub within : at ≤ length text
  pub few : i ≤ 512
  pub size : length table ≡ 4096
  pub list : read_list 1 (lines_of text) ≡ behind (take (8 * i) table) (rest text at i)

pub reading-start : (text : List ℕ) (table : List ℤ) → length table ≡ 4096 → Reading text table 0 0
unfolding rest
reading-start text table e = record { within = omega arith; few = omega arith; size = e; list = go (read_list 1 (lines_of text)) }
  where
    go : (x : ListText) → x ≡ behind [] x
    go (rows t) = refl
    go (not_in_form k) = refl

behind-behind : (s t : List ℤ) (x : ListText) → behind s (behind t x) ≡ behind (s ++ t) x
behind-behind s t (rows u) = ap rows (sym (append_assoc s t u))
behind-behind s t (not_in_form k) = refl

-- a line that is not in form, and one that is
pub read_bad : (k : ℕ) (l : List ℕ) (ls : List Line) → is_list_line l ≡ false → read_list k (ended l ∷ ls) ≡ not_in_form k
unfolding read_list
read_bad k l ls e = rw e (go (leb k 512))
  where
    go : (b : Bool) → cond (b && false) (behind (list_row l) (read_list (suc k) ls)) (not_in_form k) ≡ not_in_form k
    go true = refl
    go false = refl

pub read-good : (k : ℕ) (l : List ℕ) (ls : List Line) → is_list_line l ≡ true → read_list k (ended l ∷ ls) ≡ cond (leb k 512) (behind (list_row l) (read_list (suc k) ls)) (not_in_form k)
unfolding read_list
read-good k l ls e = rw e (go (leb k 512))
  where
    go : (b : Bool) → cond (b && true) (behind (list_row l) (read_list (suc k) ls)) (not_in_form k) ≡ cond b (behind (list_row l) (read_list (suc k) ls)) (not_in_form k)
    go true = refl
    go false = refl

-- the line that begins here; `end` is where the code found its end
module _ (text : List ℕ) (table : List ℤ) (at i end : ℕ) (R : Reading text table at i) (more : at < length text) (e : end ≡ at + line_end (drop at text)) where
  abbrev here : List ℕ
  here = drop at text

  long : length here ≡ length text - at
  long = length-drop at text

  end_is : end ≡ at + line_end here
  end_is = e

  end-within : end ≤ length text
  end-within = omega (arith, end_is, long, line_end_le here)

  refuses : rest text at i ≡ not_in_form (i + 1) → read_list 1 (lines_of text) ≡ not_in_form (i + 1)
  refuses q = R.list ∙ rw q refl

  pub reading_unended : end ≡ length text → read_list 1 (lines_of text) ≡ not_in_form (i + 1)
  unfolding rest read_list
  reading_unended q = refuses (rw (line_unended here (omega (arith, end_is, long)) (omega (arith, long)), add-one) refl)

  -- the line as the code lends it
  abbrev given : List ℕ
  given = take (end - at) (drop at text)

  module _ (ends : end ≡ length text → ⊥) where
    first : lines_of here ≡ ended given ∷ lines_of (drop (suc (end - at)) here)
    first =
        let n : end - at ≡ line_end here = omega (arith, end_is) in
        rw n (line_ended here (omega (arith, lt_of_le_of_ne end-within ends, end_is, long)))

    pub reading-last : i ≡ 512 → read_list 1 (lines_of text) ≡ not_in_form (i + 1)
    unfolding rest read_list
    reading-last q = refuses (rw (first, lt-leb (suc i) 512 (omega arith), add-one) refl)

    pub reading_bad : is_list_line given ≡ false → read_list 1 (lines_of text) ≡ not_in_form (i + 1)
    unfolding rest
    reading_bad q = refuses (rw (first, add-one) (read_bad (suc i) given _ q))

    module _ (few : i ≡ 512 → ⊥) (good : is_list_line given ≡ true) where
      abbrev after : List ℤ
      after = paste table (8 * i) (list_row given) 8

      below : i < 512
      below = lt_of_le_of_ne R.few few

      next-rest : rest text at i ≡ behind (list_row given) (rest text (end + 1) (i + 1))
      unfolding rest read_list
      next-rest =
          let q : at + suc (end - at) ≡ end + 1 = omega (arith, end_is) in
          rw (first, le-leb (suc i) 512 below, good, drop-drop (suc (end - at)) at text, q, add-one i) refl

      next-rows : take (8 * (i + 1)) after ≡ take (8 * i) table ++ list_row given
      next-rows =
          let q : 8 * (i + 1) ≡ 8 * i + 8 = omega arith in
          rw q (take-paste table (8 * i) (list_row given) 8 (omega (arith, R.size, below)) (omega (arith, list_line_length given)) ∙ ap (λ (l : List ℤ). take (8 * i) table ++ l) (take_all 8 (list_row given) (omega (arith, list_line_length given))))

      reading-after : Reading text after (end + 1) (i + 1)
      reading-after = record {
        within = omega (arith, lt_of_le_of_ne end-within ends);
        few = omega (arith, below);
        size = length-paste table (8 * i) (list_row given) 8 (omega (arith, R.size, below)) (omega (arith, list_line_length given)) ∙ R.size;
        list = R.list ∙ ap (behind (take (8 * i) table)) next-rest ∙ behind-behind (take (8 * i) table) (list_row given) (rest text (end + 1) (i + 1)) ∙ ap (λ (t : List ℤ). behind t (rest text (end + 1) (i + 1))) (sym next-rows);
      }

      pub reading-next : {left : List ℤ} → left ≡ cond (is_list_line given) after table → Reading text left (end + 1) (i + 1)
      reading-next q = subst (λ (t : List ℤ). Reading text t (end + 1) (i + 1)) (sym (q ∙ rw good refl)) reading-after

pub reading-end : (text : List ℕ) (table : List ℤ) (at i : ℕ) → Reading text table at i → length text ≤ at → read_list 1 (lines_of text) ≡ rows (take (8 * i) table)
unfolding rest lines_of read_list
reading-end text table at i R h = R.list ∙ rw (drop_of_length-le text h) (ap rows (append-nil (take (8 * i) table)))

pub rows_few : (text : List ℕ) (table : List ℤ) (n : ℕ) {r : Result ℕ ℕ} → r ≡ Ok n → ReadAs text r table → n ≤ 512
rows_few text table n e a = (subst (λ (x : Result ℕ ℕ). ReadAs text x table) e a).0
