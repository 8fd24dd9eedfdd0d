-- Laws of the decimal digits: how they grow, how many there are, and that reading them gives the number back. Assumes nothing.
use mathlib.Core.Path.{◌≡◌, refl, sym, ap, ◌∙◌}
use mathlib.Core.Logic.{⊎_elim}
use mathlib.Core.Bool.{Bool, true, false, ◌&&◌, false≢true}
use mathlib.Core.List.{List, [], ◌∷◌, ◌++◌, append-nil}
use Prim.Native.Nat.{ℕ, zero, suc, ◌+◌, ◌*◌, ◌-◌, ◌/◌, ◌%◌, ◌^◌, ◌≤◌, ◌<◌}
use native.Mathlib.Omega.{arith}
use native.Mathlib.Numerals.{add-one}
use lib.Dec.{eqb, leb}
use lib.ListN.{length, length-append}
use lib.Seq.{append_snoc}
use borrow.Author.Tests.{lt-ltb, le-ltb, le-leb, lt-leb, leb-true, eqb-true, eqb-false, ne_eqb}
use Rattle.integer.proofs.Parts.{no_items}
use Rattle.integer.proofs.Ranges.{lt_or_ge, and_left, and_right, and_both}
use Rattle.decimal.specs.Digits.{digits_within, digits, all_digits, digits_up_to, is_natural, value_from}

-- ---- how the digits grow

-- more than enough makes no difference
enough : (k l n : ℕ) → n < k → n < l → digits_within k n ≡ digits_within l n
unfolding digits_within
enough zero l n h j = absurd (omega arith)
enough (suc k) zero n h j = absurd (omega arith)
enough (suc k) (suc l) n h j =
    ⊎_elim
    (λ g. rw (lt-ltb n 10 g) refl)
    (λ g. rw (le-ltb n 10 g, enough k l (n / 10) (omega arith) (omega arith)) refl)
    (lt_or_ge n 10)

pub digits-one : (n : ℕ) → n < 10 → digits n ≡ (48 + n) ∷ []
unfolding digits digits_within
digits-one n h = rw (lt-ltb n 10 h)

pub digits_more : (n : ℕ) → 10 ≤ n → digits n ≡ digits (n / 10) ++ ((48 + n % 10) ∷ [])
unfolding digits digits_within
digits_more n h = rw (le-ltb n 10 h) (ap (λ (l : List ℕ). l ++ ((48 + n % 10) ∷ [])) (enough n (suc (n / 10)) (n / 10) (omega arith) (omega arith)))

-- one digit more
digits_snoc : (v d : ℕ) → 0 < v → d < 10 → digits (10 * v + d) ≡ digits v ++ ((48 + d) ∷ [])
digits_snoc v d h k =
    let q : (10 * v + d) / 10 ≡ v = omega arith in
    let r : (10 * v + d) % 10 ≡ d = omega arith in
    digits_more (10 * v + d) (omega arith) ∙ rw (q, r) refl

-- what holds of the numbers below 10, and of n where it holds of n / 10, holds of every number
by_digits : (P : ℕ → Type 0) → ((n : ℕ) → n < 10 → P n) → ((n : ℕ) → 10 ≤ n → P (n / 10) → P n) → (n : ℕ) → P n
by_digits P one more n = go (suc n) n (omega arith)
  where
    go : (k n : ℕ) → n < k → P n
    go zero n h = absurd (omega arith)
    go (suc k) n h = ⊎_elim (λ g. one n g) (λ g. more n g (go k (n / 10) (omega arith))) (lt_or_ge n 10)

-- ---- the first digit

-- a digit comes first, and it is 0 only where the number is 0
pub record Leads (n : ℕ) (text : List ℕ) : Type 0 where
  pub first : ℕ
  pub rest : List ℕ
  pub is : text ≡ first ∷ rest
  pub digit : 48 ≤ first
  pub some : 0 < n → 48 < first

pub digits_lead : (n : ℕ) → Leads n (digits n)
digits_lead =
    by_digits (λ (n : ℕ). Leads n (digits n))
    (λ n h. record { first = 48 + n; rest = []; is = digits-one n h; digit = omega arith; some = λ g. omega arith })
    (λ n h r. record {
      first = r.first;
      rest = r.rest ++ ((48 + n % 10) ∷ []);
      is = digits_more n h ∙ ap (λ (l : List ℕ). l ++ ((48 + n % 10) ∷ [])) r.is;
      digit = r.digit;
      some = λ g. r.some (omega arith);
    })

-- ---- how many there are

pub length-digits-more : (n : ℕ) → 10 ≤ n → length (digits n) ≡ length (digits (n / 10)) + 1
length-digits-more n h = ap length (digits_more n h) ∙ length-append (digits (n / 10)) ((48 + n % 10) ∷ [])

pub digits_more_than_one : (n : ℕ) → 1 < length (digits n) → 10 ≤ n
digits_more_than_one n h = ⊎_elim (λ g. let e = ap length (digits-one n g) in absurd (omega arith)) (λ g. g) (lt_or_ge n 10)

pub digits_just_one : (n : ℕ) → length (digits n) ≤ 1 → n < 10
digits_just_one n h =
    ⊎_elim
    (λ g. g)
    (λ g. let l = digits_lead (n / 10) in let e = ap length l.is in absurd (omega (arith, length-digits-more n g)))
    (lt_or_ge n 10)

-- a number below the power of ten has no more digits than it
pub digits_le : (k n : ℕ) → n < 10 ^ suc k → length (digits n) ≤ suc k
digits_le zero n h = let e = ap length (digits-one n (omega arith)) in omega arith
digits_le (suc k) n h =
    ⊎_elim
    (λ g. let e = ap length (digits-one n g) in omega arith)
    (λ g. let r = digits_le k (n / 10) (omega arith) in omega (arith, length-digits-more n g))
    (lt_or_ge n 10)

-- and a number is below the power of ten of its digits
pub digits_bound : (n : ℕ) → n < 10 ^ length (digits n)
digits_bound =
    by_digits (λ (n : ℕ). n < 10 ^ length (digits n))
    (λ n h. rw (digits-one n h) (omega arith))
    (λ n h r. rw (length-digits-more n h, add-one) (omega arith))

-- ---- reading them

pub value_append : (v : ℕ) (s t : List ℕ) → value_from v (s ++ t) ≡ value_from (value_from v s) t
unfolding value_from
value_append v [] t = refl
value_append v (c ∷ s) t = value_append (10 * v + (c - 48)) s t

pub value_digits : (n : ℕ) → value_from 0 (digits n) ≡ n
unfolding value_from
value_digits =
    by_digits (λ (n : ℕ). value_from 0 (digits n) ≡ n)
    (λ n h. rw (digits-one n h) (omega arith))
    (λ n h r. rw (digits_more n h, value_append, r) (omega arith))

pub all_append : (s t : List ℕ) → all_digits s ≡ true → all_digits t ≡ true → all_digits (s ++ t) ≡ true
unfolding all_digits
all_append [] t e f = f
all_append (c ∷ s) t e f =
    and_both (leb 48 c && leb c 57) (all_digits (s ++ t)) (and_left (leb 48 c && leb c 57) (all_digits s) e) (all_append s t (and_right (leb 48 c && leb c 57) (all_digits s) e) f)

pub one_digit_lem : (d : ℕ) → d < 10 → all_digits ((48 + d) ∷ []) ≡ true
unfolding all_digits
one_digit_lem d h = rw (le-leb 48 (48 + d) (omega arith), le-leb (48 + d) 57 (omega arith))

pub digits-all : (n : ℕ) → all_digits (digits n) ≡ true
digits-all =
    by_digits (λ (n : ℕ). all_digits (digits n) ≡ true)
    (λ n h. rw (digits-one n h) (one_digit_lem n h))
    (λ n h r. rw (digits_more n h) (all_append (digits (n / 10)) ((48 + n % 10) ∷ []) r (one_digit_lem (n % 10) (omega arith))))

pub digits-natural : (n : ℕ) → is_natural (digits n) ≡ true
unfolding is_natural
digits-natural zero = rw (digits-one 0 (omega arith))
digits-natural (suc n) =
    let l = digits_lead (suc n) in
    let a : all_digits (l.first ∷ l.rest) ≡ true = ap all_digits (sym l.is) ∙ digits-all (suc n) in
    let s = l.some (omega arith) in
    rw (l.is, ne_eqb l.first 48 (λ e. omega arith)) a

-- ---- digits that were read are the digits of their number

pub digit_range : (c : ℕ) (text : List ℕ) → all_digits (c ∷ text) ≡ true → (48 ≤ c) × (c ≤ 57) × (all_digits text ≡ true)
unfolding all_digits
digit_range c text e =
    let d = and_left (leb 48 c && leb c 57) (all_digits text) e in
    (leb-true 48 c (and_left (leb 48 c) (leb c 57) d), leb-true c 57 (and_right (leb 48 c) (leb c 57) d), and_right (leb 48 c && leb c 57) (all_digits text) e)

digits_value : (v : ℕ) (text : List ℕ) → 0 < v → all_digits text ≡ true → digits (value_from v text) ≡ digits v ++ text
unfolding value_from
digits_value v [] h e = sym (append-nil (digits v))
digits_value v (c ∷ text) h e =
    let r = digit_range c text e in
    let k : 48 + (c - 48) ≡ c = omega arith in
    digits_value (10 * v + (c - 48)) text (omega arith) r.2
    ∙ ap (λ (l : List ℕ). l ++ text) (digits_snoc v (c - 48) h (omega arith) ∙ ap (λ (d : ℕ). digits v ++ (d ∷ [])) k)
    ∙ append_snoc (digits v) c text

pub natural-digits : (text : List ℕ) → is_natural text ≡ true → digits (value_from 0 text) ≡ text
unfolding is_natural value_from
natural-digits [] e = absurd (false≢true e)
natural-digits (c ∷ text) e = go (eqb c 48) refl
  where
    go : (t : Bool) → eqb c 48 ≡ t → digits (value_from 0 (c ∷ text)) ≡ c ∷ text
    go true f =
        let n = no_items text (eqb-true (length text) 0 (rw f at e)) in
        rw (n, eqb-true c 48 f) (digits-one 0 (omega arith))
    go false f =
        let a : all_digits (c ∷ text) ≡ true = rw f at e in
        let r = digit_range c text a in
        let m = eqb-false c 48 f in
        let k : 48 + (c - 48) ≡ c = omega arith in
        let z : 10 * 0 + (c - 48) ≡ c - 48 = omega arith in
        rw z (digits_value (c - 48) text (omega arith) r.2 ∙ rw (digits-one (c - 48) (omega arith), k) refl)

pub natural-all : (text : List ℕ) → is_natural text ≡ true → all_digits text ≡ true
unfolding is_natural
natural-all [] e = absurd (false≢true e)
natural-all (c ∷ text) e = go (eqb c 48) refl
  where
    go : (t : Bool) → eqb c 48 ≡ t → all_digits (c ∷ text) ≡ true
    go true f = let n = no_items text (eqb-true (length text) 0 (rw f at e)) in rw (n, eqb-true c 48 f) (one_digit_lem 0 (omega arith))
    go false f = rw f at e

-- ---- one digit at least, and no more than so many

module _ (most : ℕ) (text : List ℕ) (e : digits_up_to most text ≡ true) where
  few : (leb (length text) most && all_digits text) ≡ true
  unfolding digits_up_to
  few = and_right (leb 1 (length text)) (leb (length text) most && all_digits text) e

  pub at_most : length text ≤ most
  at_most = leb-true (length text) most (and_left (leb (length text) most) (all_digits text) few)

  pub all_digits_lem : all_digits text ≡ true
  all_digits_lem = and_right (leb (length text) most) (all_digits text) few

module _ (most : ℕ) (text : List ℕ) where
  pub no-digits : length text ≡ 0 → digits_up_to most text ≡ false
  unfolding digits_up_to
  no-digits h = rw (lt-leb 1 (length text) (omega arith)) refl

  pub too_many_digits : (length text ≡ 0 → ⊥) → most < length text → digits_up_to most text ≡ false
  unfolding digits_up_to
  too_many_digits n h = rw (le-leb 1 (length text) (omega arith), lt-leb (length text) most h) refl

  pub few-enough : (length text ≡ 0 → ⊥) → length text ≤ most → digits_up_to most text ≡ all_digits text
  unfolding digits_up_to
  few-enough n h = rw (le-leb 1 (length text) (omega arith), le-leb (length text) most h) refl
