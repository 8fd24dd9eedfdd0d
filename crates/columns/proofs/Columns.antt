-- Laws of specs/Columns.antt: reading a column and printing a number are inverse. Assumes nothing.
use Rattle.std.specs.declared.option.Option.TheVariants.{Some, None}
use mathlib.Core.Path.{◌≡◌, refl, sym, ap, subst, ◌∙◌}
use mathlib.Core.Bool.{Bool, true, false, not, cond, ◌&&◌}
use mathlib.Core.List.{List, [], ◌∷◌, ◌++◌}
use Prim.Native.Nat.{ℕ, zero, suc, ◌+◌, ◌-◌, ◌^◌, ◌≤◌, ◌<◌, max}
use native.Mathlib.Nat.{pow-le-pow_right}
use native.Mathlib.Omega.{arith}
use lib.Dec.{eqb, eqb-suc-zero}
use lib.IntN.{ℤ, pos, negsuc, neg_ℤ, nat_abs}
use lib.Signed.{lt_z, ◌≤ℤ◌}
use lib.ListN.{length, replicate, length-append, length-replicate}
use lib.Seq.{sets}
use borrow.Author.Tests.{le-ltb, eqb-true, eqb-false, eq-eqb, ne_eqb, not-true}
use Rattle.integer.specs.Integer.{between}
use Rattle.integer.proofs.Arithmetic.{zarith, abs}
use Rattle.integer.proofs.Ranges.{and_left, and_right, between-low, between-high, between-yes}
use Rattle.integer.proofs.Stores.{sets_append}
use Rattle.decimal.specs.Digits.{digits, is_natural, value_from}
use Rattle.decimal.proofs.Digits.{digits_lead, digits-natural, value_digits, natural-digits, digits_le, digits_bound}
use Rattle.columns.specs.Columns.{signed, numeral, justified, column, least_number, greatest_number, Held, without_spaces, if_held, read_natural, read_negative, read_numeral, read_column, ColumnMeans}

-- ---- spaces

spaces_off : (k c : ℕ) (text : List ℕ) → (c ≡ 32 → ⊥) → without_spaces (replicate k 32 ++ (c ∷ text)) ≡ c ∷ text
unfolding without_spaces
spaces_off zero c text n = rw (ne_eqb c 32 n)
spaces_off (suc k) c text n = spaces_off k c text n

without_le : (text : List ℕ) → length (without_spaces text) ≤ length text
unfolding without_spaces
without_le [] = omega arith
without_le (c ∷ text) = go (eqb c 32) (without_le text)
  where
    go : (t : Bool) → length (without_spaces text) ≤ length text → length (cond t (without_spaces text) (c ∷ text)) ≤ suc (length text)
    go true h = omega arith
    go false h = omega arith

-- the spaces put back
spaces_back : (text : List ℕ) → text ≡ justified (length text) (without_spaces text)
unfolding without_spaces justified
spaces_back [] = refl
spaces_back (c ∷ text) = go (eqb c 32) refl (spaces_back text)
  where
    go : (t : Bool) → eqb c 32 ≡ t → text ≡ justified (length text) (without_spaces text) → c ∷ text ≡ justified (suc (length text)) (cond t (without_spaces text) (c ∷ text))
    go true f r =
        let k : suc (length text) - length (without_spaces text) ≡ suc (length text - length (without_spaces text)) = omega (arith, without_le text) in
        rw (k, eqb-true c 32 f) (ap (λ (l : List ℕ). 32 ∷ l) r)
    go false f r =
        let k : suc (length text) - suc (length text) ≡ 0 = omega arith in
        rw k refl

-- ---- numerals

record Solid (text : List ℕ) : Type 0 where
  first : ℕ
  rest : List ℕ
  is : text ≡ first ∷ rest
  solid : first ≡ 32 → ⊥

numeral_solid : (z : ℤ) → Solid (numeral z)
unfolding numeral signed
numeral_solid (pos n) = let l = digits_lead n in record { first = l.first; rest = l.rest; is = l.is; solid = λ e. omega (arith, l.digit) }
numeral_solid (negsuc n) = record { first = 45; rest = digits (suc n); is = refl; solid = λ e. omega arith }

read-numeral : (z : ℤ) → read_numeral (numeral z) ≡ if_held z
unfolding numeral signed read_numeral read_natural read_negative
read-numeral (pos n) =
    let l = digits_lead n in
    let e : read_natural (l.first ∷ l.rest) ≡ if_held (pos n) = ap read_natural (sym l.is) ∙ rw (digits-natural n, value_digits n) refl in
    rw (l.is, ne_eqb l.first 45 (λ f. omega (arith, l.digit))) e
read-numeral (negsuc n) = rw (digits-natural (suc n), value_digits (suc n), eqb-suc-zero n) refl

-- the numbers that 32 bits hold
abbrev In32 : ℤ → Type 0
In32 z = (least_number ≤ℤ z) × (z ≤ℤ greatest_number)

if_held_lem : (z : ℤ) → least_number ≤ℤ z → z ≤ℤ greatest_number → if_held z ≡ Some z
unfolding if_held
if_held_lem z l h = rw (between-yes least_number greatest_number z l h) refl

no_number : (z : ℤ) → None ≡ Some z → ⊥
no_number z e = let n : ◌≡◌ {A = ℕ} 0 1 = cc in omega arith

-- an answer by cases is a number only where the test held
picked : (t : Bool) (y z : ℤ) → cond t (Some y) None ≡ Some z → (t ≡ true) × (y ≡ z)
picked true y z e = (refl, cc)
picked false y z e = absurd (no_number z e)

-- and 32 bits hold the number
picked_held : (t : Bool) (y z : ℤ) → cond t (if_held y) None ≡ Some z → (t ≡ true) × ((y ≡ z) × In32 z)
unfolding if_held
picked_held true y z e =
    let p = picked (between least_number greatest_number y) y z e in
    (refl, (p.1, subst In32 p.1 (between-low least_number greatest_number y p.0, between-high least_number greatest_number y p.0)))
picked_held false y z e = absurd (no_number z e)

natural-read : (text : List ℕ) (z : ℤ) → read_natural text ≡ Some z → (text ≡ numeral z) × In32 z
unfolding read_natural numeral signed
natural-read text z e =
    let p = picked_held (is_natural text) (pos (value_from 0 text)) z e in
    (sym (natural-digits text p.0) ∙ ap numeral p.1.0, p.1.1)

negative-numeral : (v : ℕ) → (v ≡ 0 → ⊥) → 45 ∷ digits v ≡ numeral (neg_ℤ (pos v))
unfolding numeral signed
negative-numeral zero n = absurd (n refl)
negative-numeral (suc v) n = refl

negative-read : (text : List ℕ) (z : ℤ) → read_negative text ≡ Some z → (45 ∷ text ≡ numeral z) × In32 z
unfolding read_negative
negative-read text z e =
    let v = value_from 0 text in
    let p = picked_held (is_natural text && not (eqb v 0)) (neg_ℤ (pos v)) z e in
    let some = eqb-false v 0 (not-true (eqb v 0) (and_right (is_natural text) (not (eqb v 0)) p.0)) in
    (ap (λ (l : List ℕ). 45 ∷ l) (sym (natural-digits text (and_left (is_natural text) (not (eqb v 0)) p.0))) ∙ negative-numeral v some ∙ ap numeral p.1.0, p.1.1)

numeral-read : (text : List ℕ) (z : ℤ) → read_numeral text ≡ Some z → (text ≡ numeral z) × In32 z
unfolding read_numeral
numeral-read [] z e = absurd (no_number z e)
numeral-read (c ∷ text) z e = go (eqb c 45) refl
  where
    go : (t : Bool) → eqb c 45 ≡ t → (c ∷ text ≡ numeral z) × In32 z
    go true f = rw (eqb-true c 45 f) (negative-read text z (rw f at e))
    go false f = natural-read (c ∷ text) z (rw f at e)

-- ---- columns

-- a number by its sign and its size
pub column-signed : (width : ℕ) (z : ℤ) → column width z ≡ justified width (signed (lt_z z (pos 0)) (nat_abs z))
unfolding column numeral
column-signed width (pos n) = rw (le-ltb n 0 (omega arith)) refl
column-signed width (negsuc n) = refl

pub length-justified : (width : ℕ) (text : List ℕ) → length (justified width text) ≡ max width (length text)
unfolding justified
length-justified width text = rw (length-append, length-replicate) (omega arith)

-- stored in two runs
pub sets-justified : (out : List ℕ) (at width : ℕ) (text : List ℕ) → sets out at (justified width text) ≡ sets (sets out at (replicate (width - length text) 32)) (at + (width - length text)) text
unfolding justified
sets-justified out at width text =
    sets_append out at (replicate (width - length text) 32) text
    ∙ ap (λ (n : ℕ). sets (sets out at (replicate (width - length text) 32)) (at + n) text) (length-replicate (width - length text) 32)

-- every number that a column holds is read back from its print
pub read-column-printed : (width : ℕ) (z : ℤ) → Held width z → read_column width (column width z) ≡ Some z
unfolding read_column column justified
read-column-printed width z h =
    let s = numeral_solid z in
    let k = width - length (numeral z) in
    rw (eq-eqb (length (column width z)) width h.wide)
    (ap read_numeral
    (ap (λ (l : List ℕ). without_spaces (replicate k 32 ++ l)) s.is ∙ spaces_off k s.first s.rest s.solid ∙ sym s.is)
    ∙ read-numeral z ∙ if_held_lem z h.least h.greatest)

-- a column that is read as z is z as it is printed
pub printed-read : (width : ℕ) (text : List ℕ) (z : ℤ) → read_column width text ≡ Some z → (text ≡ column width z) × Held width z
unfolding read_column column
printed-read width text z e = go (eqb (length text) width) refl
  where
    go : (t : Bool) → eqb (length text) width ≡ t → (text ≡ column width z) × Held width z
    go true f =
        let n = eqb-true (length text) width f in
        let r = numeral-read (without_spaces text) z (rw f at e) in
        let p : text ≡ column width z = spaces_back text ∙ rw (n, r.0) refl in
        (p, record { least = r.1.0; greatest = r.1.1; wide = ap length (sym p) ∙ n })
    go false f = absurd (no_number z (rw f at e))

-- a column is read as z exactly where it is z as it is printed
pub column_means : (width : ℕ) (text : List ℕ) → ColumnMeans width text (read_column width text)
column_means width text = record { number = λ z. (printed-read width text z, λ h. ap (read_column width) h.0 ∙ read-column-printed width z h.1) }

-- ---- which numbers a column holds

-- a number of at most so many digits stands in a column of one character more, with its minus
column_fits : (k : ℕ) (z : ℤ) → nat_abs z < 10 ^ suc k → length (column (suc (suc k)) z) ≡ suc (suc k)
unfolding column numeral signed
column_fits k (pos n) h = length-justified (suc (suc k)) (digits n) ∙ omega (arith, digits_le k n h)
column_fits k (negsuc n) h = length-justified (suc (suc k)) (45 ∷ digits (suc n)) ∙ omega (arith, digits_le k (suc n) h)

-- a column of twelve holds whatever 32 bits hold
pub twelve_hold : (z : ℤ) → least_number ≤ℤ z → z ≤ℤ greatest_number → Held 12 z
twelve_hold z l h = record { least = l; greatest = h; wide = column_fits 10 z (omega (zarith, abs z)) }

-- a column of eight holds −9,999,999 to 99,999,999, and nothing else
eight-wide : (z : ℤ) → neg_ℤ (pos 9999999) ≤ℤ z → z ≤ℤ pos 99999999 → length (column 8 z) ≡ 8
unfolding column numeral signed
eight-wide (pos n) l h = length-justified 8 (digits n) ∙ omega (zarith, digits_le 7 n (omega zarith))
eight-wide (negsuc n) l h = length-justified 8 (45 ∷ digits (suc n)) ∙ omega (zarith, digits_le 6 (suc n) (omega zarith))

pub eight_hold : (z : ℤ) → neg_ℤ (pos 9999999) ≤ℤ z → z ≤ℤ pos 99999999 → Held 8 z
eight_hold z l h = record { least = omega zarith; greatest = omega zarith; wide = eight-wide z l h }

wide-eight : (z : ℤ) → length (column 8 z) ≡ 8 → (neg_ℤ (pos 9999999) ≤ℤ z) × (z ≤ℤ pos 99999999)
unfolding column numeral signed
wide-eight (pos n) h =
    let p : 10 ^ length (digits n) ≤ 10 ^ 8 = pow-le-pow_right (omega arith) {j = 8} (omega (arith, length-justified 8 (digits n))) in
    omega (zarith, digits_bound n)
wide-eight (negsuc n) h =
    let p : 10 ^ length (digits (suc n)) ≤ 10 ^ 7 = pow-le-pow_right (omega arith) {j = 7} (omega (arith, length-justified 8 (45 ∷ digits (suc n)))) in
    omega (zarith, digits_bound (suc n))

pub held_by_eight : (z : ℤ) → Held 8 z → (neg_ℤ (pos 9999999) ≤ℤ z) × (z ≤ℤ pos 99999999)
held_by_eight z h = wide-eight z h.wide
