-- Laws of the lent store: the texts of its records, and one record more. Assumes nothing.
use mathlib.Core.Path.{◌≡◌, refl, sym, ap, ap₂, ◌∙◌}
use mathlib.Core.List.{List, [], ◌∷◌, ◌++◌, append_assoc}
use Prim.Native.Nat.{ℕ, zero, suc, ◌+◌, ◌*◌, ◌-◌, ◌<◌, ◌≤◌}
use native.Mathlib.Omega.{arith}
use lib.ListN.{length, get_or, take, drop, set}
use lib.Seq.{take-append-add, drop-append-add, drop-append-le, get_or-append-add}
use Rattle.backoff.specs.Limits.{text_limit}
use Rattle.word_index.specs.Texts.{text_of, recorded}
use Rattle.arpa_words.specs.Words.{zeroed, record_of, records_of}

-- ---- bytes, and 0 behind them
pub zeroed-length : (n : ℕ) (xs : List ℕ) → length (zeroed n xs) ≡ n
unfolding zeroed
zeroed-length zero xs = refl
zeroed-length (suc n) [] = ap suc (zeroed-length n [])
zeroed-length (suc n) (x ∷ xs) = ap suc (zeroed-length n xs)

zeroed-at : (n : ℕ) (xs : List ℕ) (i : ℕ) → i < n → get_or (zeroed n xs) i 0 ≡ get_or xs i 0
unfolding zeroed
zeroed-at zero xs i l = absurd (omega arith)
zeroed-at (suc n) [] zero l = refl
zeroed-at (suc n) [] (suc i) l = zeroed-at n [] i (omega arith)
zeroed-at (suc n) (x ∷ xs) zero l = refl
zeroed-at (suc n) (x ∷ xs) (suc i) l = zeroed-at n xs i (omega arith)

zeroed_append : (xs ys : List ℕ) (n : ℕ) → zeroed (length xs + n) (xs ++ ys) ≡ xs ++ zeroed n ys
unfolding zeroed
zeroed_append [] ys n = let e : 0 + n ≡ n = omega arith in rw e refl
zeroed_append (x ∷ xs) ys n =
    let e : suc (length xs) + n ≡ suc (length xs + n) = omega arith in
    rw e (ap (λ (l : List ℕ). x ∷ l) (zeroed_append xs ys n))

-- bytes written over 0
zeroed_over : (xs : List ℕ) (n : ℕ) → length xs ≤ n → xs ++ drop (length xs) (zeroed n []) ≡ zeroed n xs
unfolding zeroed
zeroed_over [] n l = refl
zeroed_over (x ∷ xs) zero l = absurd (omega arith)
zeroed_over (x ∷ xs) (suc n) l = ap (λ (r : List ℕ). x ∷ r) (zeroed_over xs n (omega arith))

zeroed_split : (m n : ℕ) (xs : List ℕ) → length xs ≤ m → zeroed (m + n) xs ≡ zeroed m xs ++ zeroed n []
unfolding zeroed
zeroed_split zero n [] l = let e : 0 + n ≡ n = omega arith in rw e refl
zeroed_split zero n (x ∷ xs) l = absurd (omega arith)
zeroed_split (suc m) n [] l =
    let e : suc m + n ≡ suc (m + n) = omega arith in
    rw e (ap (λ (r : List ℕ). 0 ∷ r) (zeroed_split m n [] (omega arith)))
zeroed_split (suc m) n (x ∷ xs) l =
    let e : suc m + n ≡ suc (m + n) = omega arith in
    rw e (ap (λ (r : List ℕ). x ∷ r) (zeroed_split m n xs (omega arith)))

pub zeroed-set : (n : ℕ) (xs : List ℕ) (x : ℕ) → length xs < n → set (zeroed n xs) (length xs) x ≡ zeroed n (xs ++ (x ∷ []))
unfolding zeroed
zeroed-set zero xs x l = absurd (omega arith)
zeroed-set (suc n) [] x l = refl
zeroed-set (suc n) (y ∷ xs) x l = ap (λ (r : List ℕ). y ∷ r) (zeroed-set n xs x (omega arith))

zeroed-take : (xs ys : List ℕ) (n : ℕ) → length xs ≤ n → take (length xs) (zeroed n xs ++ ys) ≡ xs
unfolding zeroed
zeroed-take [] ys n l = refl
zeroed-take (x ∷ xs) ys zero l = absurd (omega arith)
zeroed-take (x ∷ xs) ys (suc n) l = ap (λ (r : List ℕ). x ∷ r) (zeroed-take xs ys n (omega arith))

-- ---- records
record_long : (text : List ℕ) → length (record_of text) ≡ 64
unfolding record_of
record_long text = zeroed-length 64 (length text ∷ text)

records_split : (u : List ℕ) (us : List (List ℕ)) (n : ℕ) → 64 ≤ n → zeroed n (records_of (u ∷ us)) ≡ record_of u ++ zeroed (n - 64) (records_of us)
unfolding records_of
records_split u us n l =
    let e : n ≡ length (record_of u) + (n - 64) = let f = record_long u in omega arith in
    ap (λ (m : ℕ). zeroed m (record_of u ++ records_of us)) e ∙ zeroed_append (record_of u) (records_of us) (n - 64)

module _ (front s : List ℕ) (k : ℕ) (long : length front ≡ 64) where
  next-at : 64 * suc k ≡ length front + 64 * k
  next-at = omega arith

  recorded-next : (text : List ℕ) → recorded (front ++ s) (suc k) text ≡ front ++ recorded s k text
  unfolding recorded
  recorded-next text =
      let e : 64 * suc k + length (length text ∷ text) ≡ length front + (64 * k + length (length text ∷ text)) = omega arith in
      ap₂ (λ (x y : List ℕ). (x ++ (length text ∷ text)) ++ y)
      (ap (λ (i : ℕ). take i (front ++ s)) next-at ∙ take-append-add front s (64 * k))
      (ap (λ (i : ℕ). drop i (front ++ s)) e ∙ drop-append-add front s (64 * k + length (length text ∷ text)))
      ∙ simp append_assoc

  text_of-next : text_of (front ++ s) (suc k) ≡ text_of s k
  unfolding text_of
  text_of-next =
      let e : 64 * suc k + 1 ≡ length front + (64 * k + 1) = omega arith in
      ap₂ take
      (ap (λ (i : ℕ). get_or (front ++ s) i 0) next-at ∙ get_or-append-add front s (64 * k) 0)
      (ap (λ (i : ℕ). drop i (front ++ s)) e ∙ drop-append-add front s (64 * k + 1))

-- word k's length byte
records_byte : (us : List (List ℕ)) (k : ℕ) → get_or (records_of us) (64 * k) 0 ≡ length (get_or us k [])
unfolding records_of record_of zeroed
records_byte [] zero = refl
records_byte [] (suc k) = refl
records_byte (u ∷ us) zero = refl
records_byte (u ∷ us) (suc k) =
    let e : 64 * suc k ≡ length (record_of u) + 64 * k = let f = record_long u in omega arith in
    ap (λ (i : ℕ). get_or (record_of u ++ records_of us) i 0) e ∙ get_or-append-add (record_of u) (records_of us) (64 * k) 0 ∙ records_byte us k

pub store_byte : (n : ℕ) (us : List (List ℕ)) (k : ℕ) → 64 * k < n → get_or (zeroed n (records_of us)) (64 * k) 0 ≡ length (get_or us k [])
store_byte n us k l = zeroed-at n (records_of us) (64 * k) l ∙ records_byte us k

record_text : (u z : List ℕ) → length u ≤ text_limit → text_of (record_of u ++ z) 0 ≡ u
unfolding text_of record_of zeroed
record_text u z l = zeroed-take u z 63 l

pub record_text_there : (n : ℕ) (us : List (List ℕ)) (k : ℕ) → 64 * k + 64 ≤ n → k < length us → length (get_or us k []) ≤ text_limit → text_of (zeroed n (records_of us)) k ≡ get_or us k []
record_text_there n [] k r l s = absurd (omega arith)
record_text_there n (u ∷ us) zero r l s = rw (records_split u us n (omega arith)) (record_text u (zeroed (n - 64) (records_of us)) s)
record_text_there n (u ∷ us) (suc k) r l s =
    rw (records_split u us n (omega arith))
    (text_of-next (record_of u) (zeroed (n - 64) (records_of us)) k (record_long u) ∙ record_text_there (n - 64) us k (omega arith) (omega arith) s)

-- a record that is not there, or not filled, holds the empty text
pub record_text_none : (s : List ℕ) (k : ℕ) → get_or s (64 * k) 0 ≡ 0 → text_of s k ≡ []
unfolding text_of
record_text_none s k e = rw e refl

-- ---- one record more
recorded_over : (front s text : List ℕ) → length (length text ∷ text) ≤ length front → recorded (front ++ s) 0 text ≡ ((length text ∷ text) ++ drop (length (length text ∷ text)) front) ++ s
unfolding recorded
recorded_over front s text l =
    let e : 0 + length (length text ∷ text) ≡ length (length text ∷ text) = omega arith in
    ap (λ (r : List ℕ). (length text ∷ text) ++ r) (ap (λ (i : ℕ). drop i (front ++ s)) e ∙ drop-append-le (length (length text ∷ text)) front s l)
    ∙ sym (append_assoc (length text ∷ text) (drop (length (length text ∷ text)) front) s)

module _ (text : List ℕ) (short : length text ≤ text_limit) where
  over_empty : (length text ∷ text) ++ drop (length (length text ∷ text)) (record_of []) ≡ record_of text
  unfolding record_of zeroed
  over_empty = zeroed_over (length text ∷ text) 64 (omega arith)

  pub record_set : (n : ℕ) (us : List (List ℕ)) (k : ℕ) → 64 * k + 64 ≤ n → k < length us → get_or us k [] ≡ []
      → recorded (zeroed n (records_of us)) k text ≡ zeroed n (records_of (set us k text))
  record_set n [] k r l e = absurd (omega arith)
  record_set n (u ∷ us) zero r l e =
      let long = record_long [] in
      rw (records_split u us n (omega arith), records_split text us n (omega arith), e)
      (recorded_over (record_of []) (zeroed (n - 64) (records_of us)) text (omega arith)
      ∙ ap (λ (r : List ℕ). r ++ zeroed (n - 64) (records_of us)) over_empty)
  record_set n (u ∷ us) (suc k) r l e =
      rw (records_split u us n (omega arith), records_split u (set us k text) n (omega arith))
      (recorded-next (record_of u) (zeroed (n - 64) (records_of us)) k (record_long u) text
      ∙ ap (λ (r : List ℕ). record_of u ++ r) (record_set (n - 64) us k (omega arith) (omega arith) e))

  over_nothing : (n : ℕ) → 64 ≤ n → recorded (zeroed n []) 0 text ≡ record_of text ++ zeroed (n - 64) []
  unfolding record_of zeroed
  over_nothing n r =
      let e : n ≡ 64 + (n - 64) = omega arith in
      let long = zeroed-length 64 [] in
      ap (λ (m : ℕ). recorded (zeroed m []) 0 text) e
      ∙ ap (λ (s : List ℕ). recorded s 0 text) (zeroed_split 64 (n - 64) [] (omega arith))
      ∙ recorded_over (zeroed 64 []) (zeroed (n - 64) []) text (omega arith)
      ∙ ap (λ (r : List ℕ). r ++ zeroed (n - 64) []) over_empty

  pub record_snoc : (n : ℕ) (us : List (List ℕ)) → 64 * length us + 64 ≤ n
      → recorded (zeroed n (records_of us)) (length us) text ≡ zeroed n (records_of (us ++ (text ∷ [])))
  unfolding records_of
  record_snoc n [] r = over_nothing n (omega arith) ∙ sym (records_split text [] n (omega arith))
  record_snoc n (u ∷ us) r =
      rw (records_split u us n (omega arith), records_split u (us ++ (text ∷ [])) n (omega arith))
      (recorded-next (record_of u) (zeroed (n - 64) (records_of us)) (length us) (record_long u) text
      ∙ ap (λ (r : List ℕ). record_of u ++ r) (record_snoc (n - 64) us (omega arith)))
