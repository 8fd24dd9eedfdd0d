-- A printed line reads back: its log, its count, its row; and the parts of a printed text are its lines. Assumes nothing.
use Rattle.std.specs.declared.option.Option.TheVariants.{Some}
use mathlib.Core.Path.{◌≡◌, refl, sym, ap, ◌∙◌}
use mathlib.Core.Bool.{Bool, true, false, cond, ◌&&◌}
use mathlib.Core.List.{List, [], ◌∷◌, ◌++◌}
use Prim.Native.Nat.{ℕ, zero, suc, ◌+◌, ◌*◌, ◌-◌, ◌/◌, ◌%◌, ◌^◌, ◌<◌, ◌≤◌}
use native.Mathlib.Omega.{arith}
use lib.Dec.{eqb, leb, ltb}
use lib.IntN.{ℤ, pos, negsuc, neg_ℤ, nat_abs}
use lib.Arith.{mod-mul}
use lib.ListN.{length, get_or, length-append}
use borrow.Author.Tests.{eq-eqb, ne_eqb, leb-true}
use Rattle.integer.proofs.Ranges.{and_left, and_right}
use Rattle.backoff.specs.Limits.{largest_backoff, text_limit}
use Rattle.backoff.specs.Words.{same_words}
use Rattle.backoff.proofs.Words.{same_refl}
use Rattle.decimal.specs.Digits.{digits, all_digits, value_from, digits_up_to}
use Rattle.decimal.proofs.Digits.{digits_lead, digits_le, digits-all, value_append, value_digits, all_append, one_digit_lem, digit_range, few-enough}
use Rattle.text_parts.specs.Parts.{parts, before}
use Rattle.text_parts.proofs.Parts.{parts-one, before-other, digits_lack}
use Rattle.arpa_headings.specs.Headings.{count_head, is_count_head, count_in, read_count}
use Rattle.arpa_headings.proofs.Headings.{count_fields, space_absent}
use Rattle.arpa_logs.specs.Logs.{decimals, fraction, unsigned, read_log, point_decimals, units_of_point, nearest, round_log, read_points}
use Rattle.arpa_logs.proofs.Logs.{unsigned_point, round_negative}
use Rattle.arpa_text.specs.Lines.{all_above, is_text, are_texts, listed_in, read_row}
use Rattle.arpa_sections.specs.Sections.{closes}
use Rattle.arpa_printed.specs.Printed.{with_ends, last_digits, print_size, print_log, spaced, print_row, print_count}

-- ---- parts

-- the byte does not stand in the text
abbrev pub Lacks : ℕ → List ℕ → Type 0
Lacks c text = before c text ≡ length text

abbrev pub AllLack : ℕ → List (List ℕ) → Type 0
AllLack c [] = Unit {0}
AllLack c (text ∷ texts) = Lacks c text × AllLack c texts

lacks_rest : (c x : ℕ) (text : List ℕ) → Lacks c (x ∷ text) → (eqb x c ≡ false) × Lacks c text
unfolding before
lacks_rest c x text h = go (eqb x c) h
  where
    go : (t : Bool) → cond t 0 (suc (before c text)) ≡ suc (length text) → (t ≡ false) × Lacks c text
    go true e = absurd (omega arith)
    go false e = (refl, omega arith)

lacks_append : (c : ℕ) (a b : List ℕ) → Lacks c a → Lacks c b → Lacks c (a ++ b)
unfolding before
lacks_append c [] b h k = k
lacks_append c (x ∷ a) b h k = let r = lacks_rest c x a h in rw (r.0, lacks_append c a b r.1 k) refl

parts_append : (c : ℕ) (a b : List ℕ) → Lacks c a → parts c (a ++ (c ∷ b)) ≡ a ∷ parts c b
unfolding parts
parts_append c [] b h = rw (eq-eqb c c refl) refl
parts_append c (x ∷ a) b h = let r = lacks_rest c x a h in rw (r.0, parts_append c a b r.1) refl

pub parts_of_lines : (lines : List (List ℕ)) → AllLack 10 lines → parts 10 (with_ends lines) ≡ lines ++ ([] ∷ [])
unfolding parts with_ends
parts_of_lines [] h = refl
parts_of_lines (line ∷ lines) h = parts_append 10 line (with_ends lines) h.0 ∙ ap (λ (l : List (List ℕ)). line ∷ l) (parts_of_lines lines h.1)

parts-spaced : (text : List ℕ) (texts : List (List ℕ)) → AllLack 32 (text ∷ texts) → parts 32 (spaced (text ∷ texts)) ≡ text ∷ texts
unfolding spaced
parts-spaced text [] h = parts-one 32 text h.0
parts-spaced text (next ∷ texts) h =
    parts_append 32 text (spaced (next ∷ texts)) h.0 ∙ ap (λ (l : List (List ℕ)). text ∷ l) (parts-spaced next texts h.1)

spaced-parts : (texts : List (List ℕ)) → 1 ≤ length texts → AllLack 32 texts → parts 32 (spaced texts) ≡ texts
spaced-parts [] l h = absurd (omega arith)
spaced-parts (text ∷ texts) l h = parts-spaced text texts h

lacks_spaced : (c : ℕ) (texts : List (List ℕ)) → (32 ≡ c → ⊥) → AllLack c texts → Lacks c (spaced texts)
unfolding spaced before
lacks_spaced c [] n h = refl
lacks_spaced c (text ∷ []) n h = h.0
lacks_spaced c (text ∷ next ∷ texts) n h =
    lacks_append c text (32 ∷ spaced (next ∷ texts)) h.0 (before-other c 32 (spaced (next ∷ texts)) n (lacks_spaced c (next ∷ texts) n h.1))

-- ---- texts

above_lacks : (c : ℕ) (text : List ℕ) → c ≤ 32 → all_above text ≡ true → Lacks c text
unfolding all_above before
above_lacks c [] l e = refl
above_lacks c (x ∷ text) l e =
    let h = leb-true 33 x (and_left (leb 33 x) (all_above text) e) in
    before-other c x text (λ z. omega arith) (above_lacks c text l (and_right (leb 33 x) (all_above text) e))

text_lacks : (c : ℕ) (text : List ℕ) → c ≤ 32 → is_text text ≡ true → Lacks c text
unfolding is_text
text_lacks c text l e =
    above_lacks c text l (and_right (leb (length text) text_limit) (all_above text) (and_right (leb 1 (length text)) (leb (length text) text_limit && all_above text) e))

texts_lack : (c : ℕ) (texts : List (List ℕ)) → c ≤ 32 → are_texts (length texts) texts ≡ true → AllLack c texts
unfolding are_texts
texts_lack c [] l e = tt
texts_lack c (text ∷ texts) l e = (
  text_lacks c text l (and_left (is_text text) (are_texts (length texts) texts) e),
  texts_lack c texts l (and_right (is_text text) (are_texts (length texts) texts) e),
)

-- ---- digits

digits-some : (n : ℕ) → length (digits n) ≡ 0 → ⊥
digits-some n e = let h = digits_lead n in let f = ap length h.is in omega arith

digits-within : (k n : ℕ) → n < 10 ^ suc k → digits_up_to (suc k) (digits n) ≡ true
digits-within k n h = few-enough (suc k) (digits n) (digits-some n) (digits_le k n h) ∙ digits-all n

pow_positive : (k : ℕ) → 0 < 10 ^ k
pow_positive zero = omega arith
pow_positive (suc k) = omega (arith, pow_positive k)

last-all : (k n : ℕ) → all_digits (last_digits k n) ≡ true
unfolding last_digits
last-all zero n = unfold all_digits in refl
last-all (suc k) n = all_append (last_digits k (n / 10)) ((48 + n % 10) ∷ []) (last-all k (n / 10)) (one_digit_lem (n % 10) (omega arith))

last_value : (k n : ℕ) → value_from 0 (last_digits k n) ≡ n % 10 ^ k
unfolding last_digits
last_value zero n = unfold value_from in omega arith
last_value (suc k) n =
    let v : value_from (value_from 0 (last_digits k (n / 10))) ((48 + n % 10) ∷ []) ≡ 10 * value_from 0 (last_digits k (n / 10)) + (48 + n % 10 - 48) = unfold value_from in refl in
    let m = mod-mul n {m = 10 ^ k} {c = 10} (pow_positive k) (omega arith) in
    let q : 10 ^ suc k ≡ 10 ^ k * 10 = omega arith in
    value_append 0 (last_digits k (n / 10)) ((48 + n % 10) ∷ []) ∙ v ∙ rw (last_value k (n / 10), q) (omega (arith, m))

last-length : (k n : ℕ) → length (last_digits k n) ≡ k
unfolding last_digits
last-length zero n = refl
last-length (suc k) n = length-append (last_digits k (n / 10)) ((48 + n % 10) ∷ []) ∙ omega (arith, last-length k (n / 10))

-- ---- a log

size-read : (n : ℕ) → n ≤ largest_backoff → unsigned (parts 46 (print_size n)) ≡ Some (n * units_of_point)
unfolding print_size fraction
size-read n h =
    let whole = n / 10 ^ point_decimals in
    let rest = last_digits point_decimals n in
    let w = digits-within 2 whole (omega arith) in
    let l = last-length point_decimals n in
    let f : digits_up_to decimals rest ≡ true = few-enough decimals rest (λ z. omega arith) (omega arith) ∙ last-all point_decimals n in
    let v = last_value point_decimals n in
    let d = value_digits whole in
    let e : whole * 10 ^ decimals + n % 10 ^ point_decimals * 10 ^ (decimals - point_decimals) ≡ n * units_of_point = omega arith in
    rw (parts_append 46 (digits whole) rest (digits_lack 46 (digits whole) (λ c a b z. omega arith) (digits-all whole)), unsigned_point, w, f, l, v, d) (ap Some e)

nearest-whole : (n : ℕ) → nearest (n * units_of_point) ≡ n
unfolding nearest
nearest-whole n = omega arith

size_lead : (n : ℕ) → (c : ℕ) × (rest : List ℕ) × (print_size n ≡ c ∷ rest) × (48 ≤ c) × (c ≤ 57)
unfolding print_size
size_lead n =
    let d = digits_lead (n / 10 ^ point_decimals) in
    let r = digit_range d.first d.rest (ap all_digits (sym d.is) ∙ digits-all (n / 10 ^ point_decimals)) in
    (d.first, d.rest ++ (46 ∷ last_digits point_decimals n), ap (λ (l : List ℕ). l ++ (46 ∷ last_digits point_decimals n)) d.is, r.0, r.1)

-- a log begins with a digit or a minus
log_lead : (z : ℤ) → (c : ℕ) × (rest : List ℕ) × (print_log z ≡ c ∷ rest) × (c ≤ 57)
unfolding print_log
log_lead (pos n) = let d = size_lead n in (d.0, d.1, d.2, d.4)
log_lead (negsuc n) = (45, print_size (suc n), refl, omega arith)

unsigned_log : (text : List ℕ) (c : ℕ) (rest : List ℕ) (n : ℕ) → text ≡ c ∷ rest → (c ≡ 45 → ⊥) → unsigned (parts 46 text) ≡ Some n → read_points text ≡ Some (round_log (pos n))
unfolding read_points read_log
unsigned_log text c rest n e f g =
    let h : unsigned (parts 46 (c ∷ rest)) ≡ Some n = rw e at g in
    rw (e, ne_eqb c 45 f, h) refl

minus_log : (text : List ℕ) (n : ℕ) → unsigned (parts 46 text) ≡ Some n → read_points (45 ∷ text) ≡ Some (round_log (neg_ℤ (pos n)))
unfolding read_points read_log
minus_log text n e = rw e refl

round_positive : (n : ℕ) → round_log (pos (n * units_of_point)) ≡ pos n
unfolding round_log
round_positive n = ap pos (nearest-whole n)

log_read : (z : ℤ) → nat_abs z ≤ largest_backoff → read_points (print_log z) ≡ Some z
unfolding print_log
log_read (pos n) h =
    let d = size_lead n in
    let l = d.3 in
    unsigned_log (print_size n) d.0 d.1 (n * units_of_point) d.2 (λ e. omega arith) (size-read n h) ∙ ap Some (round_positive n)
log_read (negsuc n) h = minus_log (print_size (suc n)) (suc n * units_of_point) (size-read (suc n) h) ∙ ap Some (round_negative (suc n * units_of_point) ∙ ap (λ (k : ℕ). neg_ℤ (pos k)) (nearest-whole (suc n)))

log_lacks : (c : ℕ) (z : ℤ) → c < 45 → Lacks c (print_log z)
unfolding print_log print_size
log_lacks c z l = signed z
  where
    size : (n : ℕ) → Lacks c (digits (n / 10 ^ point_decimals) ++ (46 ∷ last_digits point_decimals n))
    size n =
        lacks_append c (digits (n / 10 ^ point_decimals)) (46 ∷ last_digits point_decimals n) (digits_lack c (digits (n / 10 ^ point_decimals)) (λ d a b e. omega arith) (digits-all (n / 10 ^ point_decimals)))
        (before-other c 46 (last_digits point_decimals n) (λ e. omega arith) (digits_lack c (last_digits point_decimals n) (λ d a b e. omega arith) (last-all point_decimals n)))

    signed : (y : ℤ) → Lacks c (print_log y)
    signed (pos n) = size n
    signed (negsuc n) = before-other c 45 (print_size (suc n)) (λ e. omega arith) (size (suc n))

-- ---- a count

module _ (m count : ℕ) (l : m ≤ 5) where
  head_lacks_equals : Lacks 61 (count_head m)
  unfolding before
  head_lacks_equals = rw (ne_eqb (48 + m) 61 (λ e. omega arith)) refl

  head_lacks_end : Lacks 10 (count_head m)
  unfolding before
  head_lacks_end = rw (ne_eqb (48 + m) 10 (λ e. omega arith)) refl

  pub count-read : count < 1000000000 → read_count m (print_count m count) ≡ Some count
  unfolding read_count print_count is_count_head count_in
  count-read h =
      let d = digits_lead count in
      let q = digits-within 8 count h in
      let low = d.digit in
      let first : get_or (digits count) 0 0 ≡ d.first = ap (λ (x : List ℕ). get_or x 0 0) d.is in
      rw (parts_append 61 (count_head m) (digits count) head_lacks_equals, count_fields, same_refl (count_head m), space_absent (digits count) (digits-some count) (λ e. omega arith), q, value_digits count) refl

  pub count-some : 0 < length (print_count m count)
  unfolding print_count
  count-some = omega arith

  pub count_lacks : Lacks 10 (print_count m count)
  unfolding print_count
  count_lacks = lacks_append 10 (count_head m) (61 ∷ digits count) head_lacks_end (before-other 10 61 (digits count) (λ e. omega arith) (digits_lack 10 (digits count) (λ d a b e. omega arith) (digits-all count)))

-- ---- a row

module _ (p b : ℤ) (texts : List (List ℕ)) where
  pub row_lead : (c : ℕ) × (rest : List ℕ) × (print_row p texts b ≡ c ∷ rest) × (c ≤ 57)
  unfolding print_row
  row_lead =
      let d = log_lead p in
      (d.0, d.1 ++ (9 ∷ (spaced texts ++ (9 ∷ print_log b))), ap (λ (l : List ℕ). l ++ (9 ∷ (spaced texts ++ (9 ∷ print_log b)))) d.2, d.3)

  module _ (e : are_texts (length texts) texts ≡ true) where
    pub row_lacks : Lacks 10 (print_row p texts b)
    unfolding print_row
    row_lacks =
        lacks_append 10 (print_log p) (9 ∷ (spaced texts ++ (9 ∷ print_log b))) (log_lacks 10 p (omega arith))
        (before-other 10 9 (spaced texts ++ (9 ∷ print_log b)) (λ z. omega arith)
        (lacks_append 10 (spaced texts) (9 ∷ print_log b) (lacks_spaced 10 texts (λ z. omega arith) (texts_lack 10 texts (omega arith) e))
        (before-other 10 9 (print_log b) (λ z. omega arith) (log_lacks 10 b (omega arith)))))

    pub row_read : nat_abs p ≤ largest_backoff → nat_abs b ≤ largest_backoff → 1 ≤ length texts → read_row (length texts) (print_row p texts b) ≡ Some (record { p = p; b = b; texts = texts })
    unfolding read_row print_row listed_in
    row_read small-p small_b some-text =
        rw (
          parts_append 9 (print_log p) (spaced texts ++ (9 ∷ print_log b)) (log_lacks 9 p (omega arith)),
          parts_append 9 (spaced texts) (print_log b) (lacks_spaced 9 texts (λ z. omega arith) (texts_lack 9 texts (omega arith) e)),
          parts-one 9 (print_log b) (log_lacks 9 b (omega arith)),
          log_read p small-p,
          log_read b small_b,
          spaced-parts texts some-text (texts_lack 32 texts (omega arith) e),
          e,
        ) refl

-- a line that begins with a digit or a minus is no heading
pub row-closes-none : (m order : ℕ) (line : List ℕ) (c : ℕ) (rest : List ℕ) → line ≡ c ∷ rest → c ≤ 57 → closes m order line ≡ false
unfolding closes same_words
row-closes-none m order line c rest e l = rw (e, ne_eqb c 92 (λ z. omega arith)) (same (ltb m order))
  where
    same : (t : Bool) → cond t false false ≡ false
    same true = refl
    same false = refl
