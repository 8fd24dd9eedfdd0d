-- Laws of logs and of their rounding. Assumes nothing.
use Rattle.std.specs.declared.option.Option.{Option}
use Rattle.std.specs.declared.option.Option.TheVariants.{Some, None}
use mathlib.Core.Path.{◌≡◌, refl}
use mathlib.Core.Logic.{⊎_elim}
use mathlib.Core.Bool.{Bool, true, false, cond, ◌&&◌}
use mathlib.Core.List.{List, [], ◌∷◌}
use Prim.Native.Nat.{ℕ, zero, suc, ◌+◌, ◌*◌, ◌/◌, ◌^◌, ◌≤◌, ◌<◌}
use native.Mathlib.Omega.{arith}
use lib.Dec.{eqb}
use lib.IntN.{ℤ, pos, negsuc, neg_ℤ, ◌*ℤ◌, ◌-ℤ◌}
use lib.ListN.{length, get_or, take, drop}
use borrow.Author.Tests.{eq-eqb, ne_eqb, eqb-true}
use Rattle.integer.proofs.Arithmetic.{zarith, abs, up_neg, down_neg, sub, mul, and_no}
use Rattle.integer.proofs.Ranges.{and_left, and_right, and_both, lt_or_ge}
use Rattle.decimal.specs.Digits.{all_digits, value_from, digits_up_to}
use Rattle.decimal.proofs.Digits.{digit_range, all_digits_lem}
use Rattle.text_parts.specs.Parts.{parts, before}
use Rattle.text_parts.proofs.Parts.{parts-one, parts_more, lacks_or_has, before-other, parts-end, parts-front, digits-up-to_lack}
use Rattle.arpa_logs.specs.Logs.{decimals, fraction, unsigned, negative, positive, read_log, units_of_point, nearest, round_log, points_of, read_points, RoundNearest}

-- ---- a log

-- a second point makes no log
pub unsigned_point : (whole rest : List ℕ)
    → unsigned (whole ∷ parts 46 rest)
    ≡ cond (digits_up_to 3 whole && digits_up_to decimals rest) (Some (value_from 0 whole * 10 ^ decimals + fraction rest)) None
unfolding unsigned
unsigned_point whole rest =
    ⊎_elim
    (λ h. rw (parts-one 46 rest h) refl)
    (λ h. more (drop (before 46 rest + 1) rest) (digits-up-to_lack 46 decimals rest (λ d l k e. omega arith) h) (parts_more 46 rest h))
    (lacks_or_has 46 rest)
  where
    more : (behind : List ℕ) → digits_up_to decimals rest ≡ false → parts 46 rest ≡ take (before 46 rest) rest ∷ parts 46 behind
        → unsigned (whole ∷ parts 46 rest)
        ≡ cond (digits_up_to 3 whole && digits_up_to decimals rest) (Some (value_from 0 whole * 10 ^ decimals + fraction rest)) None
    more behind e p =
        rw (p, and_no (digits_up_to 3 whole) (digits_up_to decimals rest) e)
        (⊎_elim (λ h. rw (parts-one 46 behind h) refl) (λ h. rw (parts_more 46 behind h) refl) (lacks_or_has 46 behind))

-- a log without its minus, by what stands before its first point
module _ (text : List ℕ) (place : ℕ) (e : place ≡ before 46 text) where
  pub unsigned-no-whole : place ≤ length text → digits_up_to 3 (take place text) ≡ false → unsigned (parts 46 text) ≡ None
  unfolding unsigned
  unsigned-no-whole h f =
      ⊎_elim
      (λ l. rw (parts-front 46 text place e l, unsigned_point, f) refl)
      (λ l. rw (parts-end 46 text place e (omega arith), f) refl)
      (lt_or_ge place (length text))

  pub unsigned-whole : place ≡ length text → digits_up_to 3 (take place text) ≡ true → unsigned (parts 46 text) ≡ Some (value_from 0 (take place text) * 10 ^ decimals)
  unfolding unsigned
  unsigned-whole h f = rw (parts-end 46 text place e h, f) refl

  pub unsigned-both : place < length text → digits_up_to 3 (take place text) ≡ true
      → unsigned (parts 46 text)
      ≡ cond (digits_up_to decimals (drop (place + 1) text)) (Some (value_from 0 (take place text) * 10 ^ decimals + fraction (drop (place + 1) text))) None
  unsigned-both h f = rw (parts-front 46 text place e h, unsigned_point, f) refl

-- digits, in every part
abbrev all_parts : List (List ℕ) → Bool
all_parts [] = true
all_parts (part ∷ rest) = all_digits part && all_parts rest

unsigned-digits : (ps : List (List ℕ)) (n : ℕ) → unsigned ps ≡ Some n → all_parts ps ≡ true
unfolding unsigned
unsigned-digits [] n e = absurd (let z : ◌≡◌ {A = ℕ} 0 1 = cc in omega arith)
unsigned-digits (whole ∷ []) n e = go (digits_up_to 3 whole) refl
  where
    go : (t : Bool) → digits_up_to 3 whole ≡ t → all_parts (whole ∷ []) ≡ true
    go true f = and_both (all_digits whole) true (all_digits_lem 3 whole f) refl
    go false f = absurd (let g = rw f at e in let z : ◌≡◌ {A = ℕ} 0 1 = cc in omega arith)
unsigned-digits (whole ∷ part ∷ []) n e = go (digits_up_to 3 whole && digits_up_to decimals part) refl
  where
    go : (t : Bool) → (digits_up_to 3 whole && digits_up_to decimals part) ≡ t → all_parts (whole ∷ part ∷ []) ≡ true
    go true f =
        and_both (all_digits whole) (all_digits part && true)
        (all_digits_lem 3 whole (and_left (digits_up_to 3 whole) (digits_up_to decimals part) f))
        (and_both (all_digits part) true (all_digits_lem decimals part (and_right (digits_up_to 3 whole) (digits_up_to decimals part) f)) refl)
    go false f = absurd (let g = rw f at e in let z : ◌≡◌ {A = ℕ} 0 1 = cc in omega arith)
unsigned-digits (whole ∷ part ∷ more ∷ rest) n e = absurd (let z : ◌≡◌ {A = ℕ} 0 1 = cc in omega arith)

-- digits between points have no tab
parts_lack : (text : List ℕ) → all_parts (parts 46 text) ≡ true → before 9 text ≡ length text
unfolding parts before all_digits
parts_lack [] e = refl
parts_lack (x ∷ text) e = go (eqb x 46) (parts 46 text) refl refl (λ k. parts_lack text k)
  where
    go : (t : Bool) (ps : List (List ℕ)) → eqb x 46 ≡ t → parts 46 text ≡ ps → (all_parts (parts 46 text) ≡ true → before 9 text ≡ length text)
        → before 9 (x ∷ text) ≡ length (x ∷ text)
    go true ps f g r = let y = eqb-true x 46 f in before-other 9 x text (λ n. omega arith) (r (rw f at e))
    go false [] f g r =
        let d : all_parts ((x ∷ []) ∷ []) ≡ true = rw (f, g) at e in
        let y = digit_range x [] (and_left (all_digits (x ∷ [])) true d) in
        before-other 9 x text (λ n. omega arith) (r (rw g refl))
    go false (p ∷ ps) f g r =
        let d : all_parts ((x ∷ p) ∷ ps) ≡ true = rw (f, g) at e in
        let y = digit_range x p (and_left (all_digits (x ∷ p)) (all_parts ps) d) in
        before-other 9 x text (λ n. omega arith)
        (r (rw g (and_both (all_digits p) (all_parts ps) y.2 (and_right (all_digits (x ∷ p)) (all_parts ps) d))))

unsigned_lack : (text : List ℕ) → before 9 text < length text → unsigned (parts 46 text) ≡ None
unsigned_lack text h = go (unsigned (parts 46 text)) refl
  where
    go : (o : Option ℕ) → unsigned (parts 46 text) ≡ o → o ≡ None
    go None e = refl
    go (Some n) e = let l = parts_lack text (unsigned-digits (parts 46 text) n e) in absurd (omega arith)

-- a log has no tab
pub points_lack : (text : List ℕ) → before 9 text < length text → read_points text ≡ None
unfolding read_points read_log before
points_lack [] h = refl
points_lack (c ∷ text) h = go (eqb c 45) refl
  where
    go : (t : Bool) → eqb c 45 ≡ t → points_of (read_log (c ∷ text)) ≡ None
    go true e =
        let y = eqb-true c 45 e in
        let k : suc (before 9 text) < suc (length text) = rw (ne_eqb c 9 (λ n. omega arith)) at h in
        rw (e, unsigned_lack text (omega arith)) refl
    go false e = rw (e, unsigned_lack (c ∷ text) h) refl

-- by the first byte: a minus, or another
pub points_minus : (text : List ℕ) → 1 ≤ length text → get_or text 0 0 ≡ 45 → read_points text ≡ points_of (negative (unsigned (parts 46 (drop 1 text))))
unfolding read_points read_log
points_minus [] h e = absurd (omega arith)
points_minus (c ∷ text) h e = rw (eq-eqb c 45 e) refl

pub points_plain : (text : List ℕ) → 1 ≤ length text → (get_or text 0 0 ≡ 45 → ⊥) → read_points text ≡ points_of (positive (unsigned (parts 46 text)))
unfolding read_points read_log
points_plain [] h n = absurd (omega arith)
points_plain (c ∷ text) h n = rw (ne_eqb c 45 n) refl

pub points_none : (text : List ℕ) → length text < 1 → None ≡ read_points text
unfolding read_points read_log
points_none [] h = refl
points_none (c ∷ text) h = absurd (omega arith)

pub round_negative : (n : ℕ) → round_log (neg_ℤ (pos n)) ≡ neg_ℤ (pos (nearest n))
unfolding round_log nearest
round_negative zero = refl
round_negative (suc n) = refl

-- ---- rounding

pub round_nearest : (z : ℤ) → RoundNearest z
unfolding round_log nearest
round_nearest (pos n) =
    let q = pos ((n + units_of_point / 2) / units_of_point) in
    record {
      near = omega (zarith, mul units_of_point q, sub (pos units_of_point *ℤ q) (pos n), abs (pos units_of_point *ℤ q -ℤ pos n));
      half = λ h. omega (zarith, mul units_of_point q, sub (pos units_of_point *ℤ q) (pos n), abs (pos units_of_point *ℤ q -ℤ pos n), abs q);
    }
round_nearest (negsuc n) =
    let q = pos ((suc n + units_of_point / 2) / units_of_point) in
    record {
      near = omega (zarith, mul units_of_point (neg_ℤ q), up_neg q, down_neg q, sub (pos units_of_point *ℤ neg_ℤ q) (negsuc n), abs (pos units_of_point *ℤ neg_ℤ q -ℤ negsuc n));
      half = λ h. omega (zarith, mul units_of_point (neg_ℤ q), up_neg q, down_neg q, sub (pos units_of_point *ℤ neg_ℤ q) (negsuc n), abs (pos units_of_point *ℤ neg_ℤ q -ℤ negsuc n), abs (neg_ℤ q));
    }
