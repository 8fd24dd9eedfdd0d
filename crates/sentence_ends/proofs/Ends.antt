-- Laws of the ends of sentences, and of what refuses a sheet early. Assumes nothing.
use Rattle.std.specs.declared.result.Result.{Result}
use Rattle.std.specs.declared.result.Result.TheVariants.{Ok, Err}
use Rattle.std.specs.Result.{IsErrAnd}
use Rattle.backoff.specs.declared.Refusal.{Refusal as CallRefusal}
use mathlib.Core.Path.{◌≡◌, refl, sym, ap, ◌∙◌}
use mathlib.Core.Logic.{◌⊎◌, inl, inr}
use mathlib.Core.Bool.{Bool, true, false, cond, ◌||◌}
use mathlib.Core.List.{List, [], ◌∷◌, ◌++◌}
use Prim.Native.Nat.{ℕ, zero, suc, ◌+◌, ◌-◌, ◌≤◌, ◌<◌}
use native.Mathlib.Omega.{arith}
use native.Mathlib.Numerals.{add-one}
use lib.ListN.{length, take, drop, get_or, drop_of_length-le}
use lib.Seq.{take-suc, take_all, drop-cons}
use lib.IntN.{ℤ}
use lib.Dec.{ltb}
use borrow.Author.Tests.{ne_eqb, lt-ltb, le-ltb, ltb-true, ltb-false}
use Rattle.backoff.specs.Limits.{run_limit}
use Rattle.backoff.specs.Refusal.{word_count, short_slice, sentence_end}
use Rattle.double_array.specs.DoubleArray.{is_array, opened}
use Rattle.double_array.proofs.DoubleArray.{opened_some}
use Rattle.sentence_ends.specs.Ends.{Refusal, met_by, last_end, bad_end, sheet_size, early_refusal}

-- ---- the last end

last_end_append : (a : ℕ) (es fs : List ℕ) → last_end a (es ++ fs) ≡ last_end (last_end a es) fs
unfolding last_end
last_end_append a [] fs = refl
last_end_append a (e ∷ es) fs = last_end_append e es fs

pub last_end-next : (a : ℕ) (es : List ℕ) (i : ℕ) → i < length es → last_end a (take (i + 1) es) ≡ get_or es i 0
last_end-next a es i h = rw (add-one, take-suc es i 0 h) (last_end_append a (take i es) (get_or es i 0 ∷ []) ∙ (unfold last_end in refl))

pub last_end-none : (es : List ℕ) → length es ≡ 0 → last_end 0 es ≡ 0
unfolding last_end
last_end-none [] h = refl
last_end-none (e ∷ es) h = absurd (omega arith)

pub last_end-is : (es : List ℕ) → (length es ≡ 0 → ⊥) → last_end 0 es ≡ get_or es (length es - 1) 0
last_end-is es n =
    let k : length es - 1 + 1 ≡ length es = omega arith in
    sym (ap (last_end 0) (rw k (take_all (length es) es (omega arith)))) ∙ last_end-next 0 es (length es - 1) (omega arith)

-- ---- the first bad end

-- the next sentence's end is looked at
module _ (words k a : ℕ) (es : List ℕ) (i : ℕ) (h : i < length es) where
  next : bad_end words k a (drop i es) ≡ cond (ltb (get_or es i 0) a || ltb words (get_or es i 0)) k (bad_end words (k + 1) (get_or es i 0) (drop (i + 1) es))
  unfolding bad_end
  next = rw (add-one k, add-one i, drop-cons es i 0 h)

  pub bad_end-here : (get_or es i 0 < a) ⊎ ((a ≤ get_or es i 0) × (words < get_or es i 0)) → bad_end words k a (drop i es) ≡ k
  bad_end-here (inl l) = next ∙ rw (lt-ltb _ _ l)
  bad_end-here (inr (m, l)) = next ∙ rw (le-ltb _ _ m, lt-ltb _ _ l)

  pub bad_end-later : a ≤ get_or es i 0 → get_or es i 0 ≤ words → bad_end words k a (drop i es) ≡ bad_end words (k + 1) (get_or es i 0) (drop (i + 1) es)
  bad_end-later l m = next ∙ rw (le-ltb _ _ l, le-ltb _ _ m)

pub bad_end-none : (words k a : ℕ) (es : List ℕ) (i : ℕ) → length es ≤ i → bad_end words k a (drop i es) ≡ 0
unfolding bad_end
bad_end-none words k a es i h = rw (drop_of_length-le es h)

good-head : (t u : Bool) (k n : ℕ) → cond (t || u) (suc k) n ≡ 0 → (t ≡ false) × ((u ≡ false) × (n ≡ 0))
good-head true u k n e = absurd (omega arith)
good-head false true k n e = absurd (omega arith)
good-head false false k n e = (refl, (refl, e))

module _ (words : ℕ) where
  -- no end lies below the one before or past the words
  pub good-end : (k a : ℕ) (es : List ℕ) (i : ℕ) → bad_end words (suc k) a es ≡ 0 → i < length es → (last_end a (take i es) ≤ get_or es i 0) × (get_or es i 0 ≤ words)
  unfolding bad_end last_end
  good-end k a [] i g h = absurd (omega arith)
  good-end k a (e ∷ es) zero g h = let f = good-head (ltb e a) (ltb words e) k _ g in (ltb-false e a f.0, ltb-false words e f.1.0)
  good-end k a (e ∷ es) (suc i) g h = good-end (suc k) e es i (good-head (ltb e a) (ltb words e) k _ g).1.1 (omega arith)

  -- the first that does, numbered from suc k
  pub record FirstBad (k a : ℕ) (es : List ℕ) : Type 0 where
    pub i : ℕ
    pub is : bad_end words (suc k) a es ≡ suc k + i
    pub inside : i < length es
    pub bad : (get_or es i 0 < last_end a (take i es)) ⊎ (words < get_or es i 0)
    pub before : (j : ℕ) → j < i → (last_end a (take j es) ≤ get_or es j 0) × (get_or es j 0 ≤ words)

  pub first_bad_lem : (k a : ℕ) (es : List ℕ) → (bad_end words (suc k) a es ≡ 0 → ⊥) → FirstBad k a es
  unfolding bad_end last_end
  first_bad_lem k a [] n = absurd (n refl)
  first_bad_lem k a (e ∷ es) n = go (ltb e a) refl (ltb words e) refl n (first_bad_lem (suc k) e es)
    where
      later : ltb e a ≡ false → ltb words e ≡ false → (f : FirstBad (suc k) e es) → (j : ℕ) → j < suc f.i → (last_end a (take j (e ∷ es)) ≤ get_or (e ∷ es) j 0) × (get_or (e ∷ es) j 0 ≤ words)
      later p q f zero l = (ltb-false e a p, ltb-false words e q)
      later p q f (suc j) l = f.before j (omega arith)

      go : (t : Bool) → ltb e a ≡ t → (u : Bool) → ltb words e ≡ u → (cond (t || u) (suc k) (bad_end words (suc (suc k)) e es) ≡ 0 → ⊥) → ((bad_end words (suc (suc k)) e es ≡ 0 → ⊥) → FirstBad (suc k) e es) → FirstBad k a (e ∷ es)
      go true p u q n ih = record { i = 0; is = rw p (omega arith); inside = omega arith; bad = inl (ltb-true e a p); before = λ j l. absurd (omega arith) }
      go false p true q n ih = record { i = 0; is = rw (p, q) (omega arith); inside = omega arith; bad = inr (ltb-true words e q); before = λ j l. absurd (omega arith) }
      go false p false q n ih =
          let f = ih n in
          record { i = suc f.i; is = rw (p, q) (omega (arith, f.is)); inside = omega (arith, f.inside); bad = f.bad; before = later p q f }

  -- so it is one of the sentences
  pub bad_end-inside : (es : List ℕ) (i : ℕ) → suc i ≡ bad_end words 1 0 es → i < length es
  bad_end-inside es i e = let f = first_bad_lem 0 0 es (λ z. omega (arith, e)) in omega (arith, e, f.is, f.inside)

  good-from : (k a : ℕ) (es : List ℕ) → bad_end words (suc k) a es ≡ 0 → a ≤ last_end a es
  unfolding bad_end last_end
  good-from k a [] g = omega arith
  good-from k a (e ∷ es) g = let f = good-head (ltb e a) (ltb words e) k _ g in omega (arith, ltb-false e a f.0, good-from (suc k) e es f.1.1)

  -- the first end, and the others
  pub good_tail : (k a e : ℕ) (es : List ℕ) → bad_end words (suc k) a (e ∷ es) ≡ 0 → (a ≤ e) × ((e ≤ last_end e es) × (bad_end words (suc (suc k)) e es ≡ 0))
  unfolding bad_end
  good_tail k a e es g = let f = good-head (ltb e a) (ltb words e) k _ g in (ltb-false e a f.0, (good-from (suc k) e es f.1.1, f.1.1))

  -- each lies past the one before the first
  pub good-below : (k a : ℕ) (es : List ℕ) (i : ℕ) → bad_end words (suc k) a es ≡ 0 → a ≤ last_end a (take i es)
  unfolding last_end
  good-below k a es zero g = omega arith
  good-below k a [] (suc i) g = omega arith
  good-below k a (e ∷ es) (suc i) g = let t = good_tail k a e es g in omega (arith, t.0, good-below (suc k) e es i t.1.1)

  -- so each lies below the last, and the last in the words
  pub good-last : (k a : ℕ) (es : List ℕ) (i : ℕ) → bad_end words (suc k) a es ≡ 0 → last_end a (take i es) ≤ last_end a es
  unfolding bad_end last_end
  good-last k a es zero g = good-from k a es g
  good-last k a [] (suc i) g = omega arith
  good-last k a (e ∷ es) (suc i) g = good-last (suc k) e es i (good-head (ltb e a) (ltb words e) k _ g).1.1

  pub good-within : (k a : ℕ) (es : List ℕ) → a ≤ words → bad_end words (suc k) a es ≡ 0 → last_end a es ≤ words
  unfolding bad_end last_end
  good-within k a [] h g = h
  good-within k a (e ∷ es) h g = let f = good-head (ltb e a) (ltb words e) k _ g in good-within (suc k) e es (ltb-false words e f.1.0) f.1.1

-- ---- what comes early

-- what 14 and 15 leave
pub record Fits (words ends last points lengths : ℕ) : Type 0 where
  pub few_words : words ≤ run_limit
  pub few-ends : ends ≤ run_limit
  pub points-reach : last ≤ points
  pub lengths-reach : last ≤ lengths

pub fits : (words ends last points lengths : ℕ) → sheet_size words ends last points lengths ≡ 0 → Fits words ends last points lengths
unfolding sheet_size
fits words ends last points lengths = go (ltb run_limit words) (ltb run_limit ends) (ltb points last) (ltb lengths last) refl refl refl refl
  where
    go : (a b c d : Bool) → ltb run_limit words ≡ a → ltb run_limit ends ≡ b → ltb points last ≡ c → ltb lengths last ≡ d → cond (a || b) word_count (cond (c || d) short_slice 0) ≡ 0 → Fits words ends last points lengths
    go true b c d p q r s z = absurd (omega arith)
    go false true c d p q r s z = absurd (omega arith)
    go false false true d p q r s z = absurd (omega arith)
    go false false false true p q r s z = absurd (omega arith)
    go false false false false p q r s z = record { few_words = ltb-false _ _ p; few-ends = ltb-false _ _ q; points-reach = ltb-false _ _ r; lengths-reach = ltb-false _ _ s }

module _ (base check : List ℤ) (words : ℕ) (ends : List ℕ) (points lengths : ℕ) (h : is_array base check ≡ true) where
  pub end_refused : (i : ℕ) → suc i ≡ bad_end words 1 0 ends → record { number = sentence_end; place = suc i } ≡ early_refusal (opened base check) words ends points lengths
  end_refused i e = rw (opened_some base check h, sym e, ne_eqb (suc i) 0 (λ z. omega arith))

  pub sizes-refused : 0 ≡ bad_end words 1 0 ends → (last : ℕ) → last ≡ last_end 0 ends → (m : Refusal) → m ≡ record { number = sheet_size words (length ends) last points lengths; place = 0 } → m ≡ early_refusal (opened base check) words ends points lengths
  sizes-refused e last l m f = rw (opened_some base check h, sym e, sym l) f

-- a refusal whose place is made wide
pub met-wide : (r : Result Unit (CallRefusal ℕ)) (refusal : CallRefusal ℕ) → IsErrAnd r (λ w. w ≡ record { reason = refusal.reason; place = refusal.place }) → met_by r ≡ met_by (Err refusal)
met-wide (Ok u) refusal h = absurd h
met-wide (Err w) refusal h = rw h
