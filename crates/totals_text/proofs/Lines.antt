-- Laws of specs/Lines.antt: a line that is accepted is its numbers printed, and only such a line is. Assumes nothing.
use Rattle.std.specs.declared.option.Option.{Option}
use Rattle.std.specs.declared.option.Option.TheVariants.{Some, None}
use mathlib.Core.Path.{◌≡◌, refl, sym, ap, ap₂, subst, ◌∙◌}
use mathlib.Core.Bool.{Bool, true, false, cond, ◌&&◌, false≢true}
use mathlib.Core.List.{List, [], ◌∷◌, ◌++◌, map}
use Prim.Native.Nat.{ℕ, zero, suc, ◌+◌, ◌*◌, ◌-◌, ◌/◌, ◌%◌, ◌^◌, ◌≤◌, ◌<◌, max}
use native.Mathlib.Omega.{arith}
use native.Mathlib.Nat.{mul-le-mul_left}
use native.Mathlib.Numerals.{add-one}
use lib.Dec.{eqb, leb}
use lib.IntN.{ℤ, pos, negsuc}
use lib.Signed.{le_z}
use lib.ListN.{length, take, drop, set, length-append, length-set, length-map, take-append-drop, drop_of_length-le, length-drop}
use lib.Seq.{sets, take_at, drop_at, drop-drop}
use borrow.Author.Tests.{le-leb, leb-true, eqb-true, eq-eqb}
use mir.Syntax.{w64}
use mir.Val.{SFits}
use Rattle.integer.proofs.Arithmetic.{zarith, abs_le}
use Rattle.integer.proofs.Ranges.{and_left, and_right, and_both}
use Rattle.backoff.specs.Run.{written}
use Rattle.decimal.specs.Digits.{digits}
use Rattle.decimal.proofs.Digits.{digits_le}
use Rattle.columns.specs.Columns.{signed, numeral, column, least_number, Held, read_column}
use Rattle.columns.proofs.Columns.{length-justified, read-column-printed, printed-read}
use Rattle.totals_text.specs.Lines.{list_width, text_width, columns, in_form, all_in_form, column_value, word_of, is_list_line, list_row, is_text_line, text_words, text_answer, line_of, AllHeld, ListForm, ListLineMeans, TextForm, TextLineMeans, refused_word, count_columns, sentence_line, refused_line}

-- ---- printed lines

pub length-count : (k n : ℕ) → n < 10 ^ suc k → length (column 8 (pos n)) ≤ max 8 (suc k)
unfolding column numeral signed
length-count k n h = omega (arith, length-justified 8 (digits n), digits_le k n h)

pub length-total : {z : ℤ} → SFits w64 z → length (column 16 z) ≤ 20
unfolding column numeral signed
length-total {z = pos n} f = omega (arith, length-justified 16 (digits n), digits_le 18 n (omega (arith, abs_le f)))
length-total {z = negsuc n} f = omega (arith, length-justified 16 (45 ∷ digits (suc n)), digits_le 18 (suc n) (omega (arith, abs_le f)))

pub length-counts : (number words unknown : ℕ) → length (count_columns number words unknown) ≡ length (column 8 (pos number)) + (length (column 8 (pos words)) + length (column 8 (pos unknown)))
unfolding count_columns
length-counts number words unknown = rw (length-append, length-append) refl

pub length-sentence : (number words unknown : ℕ) (total : ℤ) → length (sentence_line number words unknown total) ≡ length (count_columns number words unknown) + (length (column 16 total) + 1)
unfolding sentence_line
length-sentence number words unknown total = rw (length-append, length-append) refl

pub length-refused : (number place : ℕ) → length (refused_line number place) ≡ length refused_word + (length (column 8 (pos number)) + (length (column 8 (pos place)) + 1))
unfolding refused_line
length-refused number place = rw (length-append, length-append, length-append) refl

-- ---- a loop over the columns of a line

-- the columns from i on: the one at i, and those behind it
pub columns-step : (width : ℕ) (line : List ℕ) (count i : ℕ) → i < count → columns width (count - i) (drop (width * i) line) ≡ read_column width (take (width * i + width - width * i) (drop (width * i) line)) ∷ columns width (count - (i + 1)) (drop (width * (i + 1)) line)
unfolding columns
columns-step width line count i h =
    let e : count - i ≡ suc (count - (i + 1)) = omega arith in
    let f : width * i + width - width * i ≡ width = omega arith in
    let g : width * (i + 1) ≡ width * i + width = omega arith in
    rw (e, f, g, ← drop-drop width (width * i) line) refl

pub columns-none : (width : ℕ) (line : List ℕ) (count i : ℕ) → count ≤ i → columns width (count - i) (drop (width * i) line) ≡ []
unfolding columns
columns-none width line count i h = let e : count - i ≡ 0 = omega arith in rw e refl

-- the column at i ends within the columns
pub column-end : (width count i : ℕ) → i < count → width * i + width ≤ width * count
column-end width count i h = let e : width * (i + 1) ≡ width * i + width = omega arith in rw (← e) (mul-le-mul_left width (omega arith))

-- what each column gives is stored: the column at i is next
sets-columns : {A : Type 0} (f : Option ℤ → A) (out : List A) (width : ℕ) (line : List ℕ) (count i : ℕ) → i < count
    → sets out i (map f (columns width (count - i) (drop (width * i) line)))
    ≡ sets (set out i (f (read_column width (take (width * i + width - width * i) (drop (width * i) line))))) (i + 1) (map f (columns width (count - (i + 1)) (drop (width * (i + 1)) line)))
sets-columns f out width line count i h = rw (columns-step width line count i h, add-one) refl

sets-columns-none : {A : Type 0} (f : Option ℤ → A) (out : List A) (width : ℕ) (line : List ℕ) (count i : ℕ) → count ≤ i → sets out i (map f (columns width (count - i) (drop (width * i) line))) ≡ out
sets-columns-none f out width line count i h = rw (columns-none width line count i h) refl

-- the columns still to be stored make, with those that are, all of them
pub record Filling {A : Type 0} (f : Option ℤ → A) (width : ℕ) (line : List ℕ) (count : ℕ) (out₀ out : List A) (i : ℕ) : Type 0 where
  pub within : i ≤ count
  pub left : sets out₀ 0 (map f (columns width count line)) ≡ sets out i (map f (columns width (count - i) (drop (width * i) line)))
  pub long : length out ≡ length out₀

module _ {A : Type 0} (f : Option ℤ → A) (width : ℕ) (line : List ℕ) (count : ℕ) (out₀ : List A) where
  pub fill_step : (out : List A) (i : ℕ) (v : A) → i < count → v ≡ f (read_column width (take (width * i + width - width * i) (drop (width * i) line))) → Filling f width line count out₀ out i → Filling f width line count out₀ (set out i v) (i + 1)
  fill_step out i v h e r = record {
    within = omega arith;
    left = r.left ∙ sets-columns f out width line count i h ∙ rw e refl;
    long = simp length-set r.long;
  }

  pub fill_end : (out : List A) (i : ℕ) → count ≤ i → Filling f width line count out₀ out i → out ≡ sets out₀ 0 (map f (columns width count line))
  fill_end out i h r = sym (r.left ∙ sets-columns-none f out width line count i h)

-- ---- a line in form is its numbers printed

-- a column in form holds a number
in_form-number : (least : ℤ) (c : Option ℤ) → in_form least c ≡ true → c ≡ Some (column_value c)
unfolding in_form column_value
in_form-number least (Some z) e = refl
in_form-number least None e = absurd (false≢true e)

pub length-columns : (width count : ℕ) (line : List ℕ) → length (columns width count line) ≡ count
unfolding columns
length-columns width zero line = refl
length-columns width (suc count) line = ap suc (length-columns width count (drop width line))

module _ (width : ℕ) (least : ℤ) where
  -- a line whose columns are all in form: the first is a number as it is printed, and the others are in form
  first-printed : (count : ℕ) (line : List ℕ) → all_in_form least (columns width (suc count) line) ≡ true → (take width line ≡ column width (column_value (read_column width (take width line)))) × Held width (column_value (read_column width (take width line)))
  unfolding columns all_in_form
  first-printed count line e =
      let r = read_column width (take width line) in
      printed-read width (take width line) (column_value r) (in_form-number least r (and_left (in_form least r) (all_in_form least (columns width count (drop width line))) e))

  others-in_form : (count : ℕ) (line : List ℕ) → all_in_form least (columns width (suc count) line) ≡ true → all_in_form least (columns width count (drop width line)) ≡ true
  unfolding columns all_in_form
  others-in_form count line e = and_right (in_form least (read_column width (take width line))) (all_in_form least (columns width count (drop width line))) e

  numbers-printed : (count : ℕ) (line : List ℕ) → length line ≡ width * count → all_in_form least (columns width count line) ≡ true → line ≡ line_of width (map column_value (columns width count line))
  unfolding columns line_of
  numbers-printed zero line h e = drop_of_length-le line {i = 0} (omega arith)
  numbers-printed (suc count) line h e =
      let n : length (drop width line) ≡ width * count = rw length-drop (omega arith) in
      sym (take-append-drop width line) ∙ ap₂ (λ (a b : List ℕ). a ++ b) (first-printed count line e).0 (numbers-printed count (drop width line) n (others-in_form count line e))

  numbers-held : (count : ℕ) (line : List ℕ) → all_in_form least (columns width count line) ≡ true → AllHeld width (map column_value (columns width count line))
  unfolding columns
  numbers-held zero line e j l = absurd (omega arith)
  numbers-held (suc count) line e zero l = (first-printed count line e).1
  numbers-held (suc count) line e (suc j) l = numbers-held count (drop width line) (others-in_form count line e) j (omega arith)

-- numbers that are not negative are words
pub words_of : (cs : List (Option ℤ)) → all_in_form (pos 0) cs ≡ true → map column_value cs ≡ map pos (map word_of cs)
unfolding all_in_form in_form column_value word_of
words_of [] e = refl
words_of (Some (pos n) ∷ cs) e = ap (λ (zs : List ℤ). pos n ∷ zs) (words_of cs (and_right (le_z (pos 0) (pos n)) (all_in_form (pos 0) cs) e))
words_of (Some (negsuc n) ∷ cs) e = absurd (false≢true e)
words_of (None ∷ cs) e = absurd (false≢true e)

-- ---- and numbers printed are a line in form

-- what is held of all is held of all but the first
module _ (width : ℕ) where
  later_held : (z : ℤ) (zs : List ℤ) → AllHeld width (z ∷ zs) → AllHeld width zs
  later_held z zs h j l = h (suc j) (omega arith)

  line_fits : (zs : List ℤ) → AllHeld width zs → length (line_of width zs) ≡ width * length zs
  unfolding line_of
  line_fits [] h = omega arith
  line_fits (z ∷ zs) h = omega (arith, length-append (column width z) (line_of width zs), (h 0 (omega arith)).wide, line_fits zs (later_held z zs h))

  line_columns : (zs : List ℤ) → AllHeld width zs → columns width (length zs) (line_of width zs) ≡ map Some zs
  unfolding columns line_of
  line_columns [] h = refl
  line_columns (z ∷ zs) h =
      let f = h 0 (omega arith) in
      rw (take_at (column width z) (line_of width zs) width f.wide, drop_at (column width z) (line_of width zs) width f.wide, read-column-printed width z f)
      (ap (λ (cs : List (Option ℤ)). Some z ∷ cs) (line_columns zs (later_held z zs h)))

  all-numbers : (zs : List ℤ) → AllHeld width zs → all_in_form least_number (map Some zs) ≡ true
  unfolding all_in_form in_form
  all-numbers [] h = refl
  all-numbers (z ∷ zs) h =
      let b = (h 0 (omega arith)).least in
      and_both (le_z least_number z) (all_in_form least_number (map Some zs)) (omega zarith) (all-numbers zs (later_held z zs h))

all_words : (ws : List ℕ) → all_in_form (pos 0) (map Some (map pos ws)) ≡ true
unfolding all_in_form in_form
all_words [] = refl
all_words (w ∷ ws) = and_both (le_z (pos 0) (pos w)) (all_in_form (pos 0) (map Some (map pos ws))) (omega zarith) (all_words ws)

numbers-back : (zs : List ℤ) → map column_value (map Some zs) ≡ zs
unfolding column_value
numbers-back [] = refl
numbers-back (z ∷ zs) = ap (λ (ys : List ℤ). z ∷ ys) (numbers-back zs)

words_back : (ws : List ℕ) → map word_of (map Some (map pos ws)) ≡ ws
unfolding word_of
words_back [] = refl
words_back (w ∷ ws) = ap (λ (ys : List ℕ). w ∷ ys) (words_back ws)

-- ---- LIST lines

pub list_line_length : (line : List ℕ) → length (list_row line) ≡ 8
unfolding list_row
list_line_length line = length-map (columns list_width 8 line) column_value ∙ length-columns list_width 8 line

list-line_form : (line : List ℕ) → is_list_line line ≡ true → ListForm line (list_row line)
unfolding is_list_line list_row
list-line_form line e =
    let l = eqb (length line) (8 * list_width) in
    let a = all_in_form least_number (columns list_width 8 line) in
    let all = and_right l a e in
    record {
      eight = list_line_length line;
      held = numbers-held list_width least_number 8 line all;
      is = numbers-printed list_width least_number 8 line (eqb-true (length line) (8 * list_width) (and_left l a e)) all;
    }

list_line_read : (zs : List ℤ) → length zs ≡ 8 → AllHeld list_width zs → (is_list_line (line_of list_width zs) ≡ true) × (list_row (line_of list_width zs) ≡ zs)
unfolding is_list_line list_row
list_line_read zs n h =
    let line = line_of list_width zs in
    let k = line_fits list_width zs h in
    let c : columns list_width 8 line ≡ map Some zs = ap (λ (m : ℕ). columns list_width m line) (sym n) ∙ line_columns list_width zs h in (
      and_both (eqb (length line) (8 * list_width)) (all_in_form least_number (columns list_width 8 line)) (eq-eqb (length line) (8 * list_width) (omega arith)) (ap (all_in_form least_number) c ∙ all-numbers list_width zs h),
      ap (map column_value) c ∙ numbers-back zs,
    )

-- a line not in form is refused, and only such a line
pub list_line_means : (line : List ℕ) (row : List ℤ) → ListLineMeans line (is_list_line line) (cond (is_list_line line) (list_row line) row)
list_line_means line row = record {
  accepted = λ e. rw e (list-line_form line e);
  every = λ zs f.
      let r = list_line_read zs f.eight f.held in
      let a : is_list_line line ≡ true = ap is_list_line f.is ∙ r.0 in
      (a, rw a (ap list_row f.is ∙ r.1));
}

-- ---- TEXT lines

pub length-words : (line : List ℕ) → length (text_words line) ≡ length line / text_width
unfolding text_words
length-words line = length-map (columns text_width (length line / text_width) line) word_of ∙ length-columns text_width (length line / text_width) line

pub text-line_form : (line : List ℕ) → is_text_line line ≡ true → TextForm line (text_words line)
unfolding is_text_line text_words
text-line_form line e =
    let a = leb (length line) (64 * text_width) in
    let b = eqb (length line % text_width) 0 in
    let cs = columns text_width (length line / text_width) line in
    let r = and_right a (b && all_in_form (pos 0) cs) e in
    let all = and_right b (all_in_form (pos 0) cs) r in
    let h = leb-true (length line) (64 * text_width) (and_left a (b && all_in_form (pos 0) cs) e) in
    let m = eqb-true (length line % text_width) 0 (and_left b (all_in_form (pos 0) cs) r) in
    record {
      most = omega (arith, length-words line);
      held = subst (AllHeld text_width) (words_of cs all) (numbers-held text_width (pos 0) (length line / text_width) line all);
      is = numbers-printed text_width (pos 0) (length line / text_width) line (omega arith) all ∙ ap (line_of text_width) (words_of cs all);
    }

text_line-read : (ws : List ℕ) → length ws ≤ 64 → AllHeld text_width (map pos ws) → (is_text_line (line_of text_width (map pos ws)) ≡ true) × (text_words (line_of text_width (map pos ws)) ≡ ws)
unfolding is_text_line text_words
text_line-read ws n h =
    let line = line_of text_width (map pos ws) in
    let m = length-map ws pos in
    let k = line_fits text_width (map pos ws) h in
    let q : length line / text_width ≡ length (map pos ws) = omega arith in
    let c : columns text_width (length line / text_width) line ≡ map Some (map pos ws) = ap (λ (k : ℕ). columns text_width k line) q ∙ line_columns text_width (map pos ws) h in (
      and_both (leb (length line) (64 * text_width)) (eqb (length line % text_width) 0 && all_in_form (pos 0) (columns text_width (length line / text_width) line)) (le-leb (length line) (64 * text_width) (omega arith))
          (and_both (eqb (length line % text_width) 0) (all_in_form (pos 0) (columns text_width (length line / text_width) line)) (eq-eqb (length line % text_width) 0 (omega arith)) (ap (all_in_form (pos 0)) c ∙ all_words ws)),
      ap (map word_of) c ∙ words_back ws,
    )

-- the answer is a count only where the line is in form
answered : (line : List ℕ) (n : ℕ) → text_answer line ≡ Some n → (is_text_line line ≡ true) × (length (text_words line) ≡ n)
unfolding text_answer
answered line n e = go (is_text_line line) refl
  where
    go : (t : Bool) → is_text_line line ≡ t → (is_text_line line ≡ true) × (length (text_words line) ≡ n)
    go true f = let g : ◌≡◌ {A = Option ℕ} (Some (length (text_words line))) (Some n) = rw f at e in (f, cc)
    go false f = let g : ◌≡◌ {A = Option ℕ} None (Some n) = rw f at e in let z : ◌≡◌ {A = ℕ} 0 1 = cc in absurd (omega arith)

-- a line not in form is refused, and only such a line
pub text_line_means : (line words : List ℕ) → TextLineMeans line (text_answer line) (cond (is_text_line line) (written (text_words line) words) words)
unfolding written text_answer
text_line_means line words = record {
  accepted = λ n e.
      let a = answered line n e in
      let f = text-line_form line a.0 in
      let t : take n (cond (is_text_line line) (written (text_words line) words) words) ≡ text_words line = rw a.0 (take_at (text_words line) (drop (length (text_words line)) words) n a.1) in
      (omega (arith, f.most), subst (TextForm line) (sym t) f);
  every = λ ws f.
      let r = text_line-read ws f.most f.held in
      let a : is_text_line line ≡ true = ap is_text_line f.is ∙ r.0 in
      let t : text_words line ≡ ws = ap text_words f.is ∙ r.1 in
      (rw (a, t) refl, rw (a, t) (take_at ws (drop (length ws) words) (length ws) refl));
}
