-- Laws of sequences in ascending order, and of putting one among them. Assumes nothing.
use mathlib.Core.Path.{◌≡◌, refl, sym, ap, ◌∙◌}
use mathlib.Core.Logic.{◌⊎◌, inl, inr, ⊎_elim}
use mathlib.Core.Bool.{Bool, true, false}
use mathlib.Core.List.Memᴰ
use mathlib.Core.List.{List, [], ◌∷◌, Memᴰ}
use Prim.Native.Nat.{ℕ, zero, suc, ◌+◌, ◌≤◌, ◌<◌}
use native.Mathlib.Omega.{arith}
use lib.ListN.{length, get_or}
use borrow.Author.Tests.{ltb-true, ltb-false, lt-ltb, le-ltb, eqb-false, ne_eqb}
use Rattle.backoff.specs.Words.{same_words, are_words, key}
use Rattle.backoff.proofs.Words.{same_eq, same_refl}
use Rattle.rows.specs.Order.{precedes}
use Rattle.rows.proofs.Keys.{same_key, precedes-key}
use Rattle.filled_list.specs.Filled.{insert, insert_all}

abbrev pub In : List ℕ → List (List ℕ) → Type 0
In ws rows = Memᴰ ws rows

pub data Ascending : List (List ℕ) → Type 0 where
  none : Ascending []
  more : {ws : List ℕ} {rows : List (List ℕ)} → ((vs : List ℕ) → In vs rows → precedes ws vs ≡ true) → Ascending rows → Ascending (ws ∷ rows)

abbrev pub AllWords : List (List ℕ) → Type 0
AllWords rows = (ws : List ℕ) → In ws rows → are_words ws ≡ true

-- ---- the order, by keys

module _ (us vs : List ℕ) (p : are_words us ≡ true) (q : are_words vs ≡ true) where
  less_key : precedes us vs ≡ true → key us < key vs
  less_key e = ltb-true (key us) (key vs) (sym (precedes-key us vs p q) ∙ e)

  key_less : key us < key vs → precedes us vs ≡ true
  key_less l = precedes-key us vs p q ∙ lt-ltb (key us) (key vs) l

  precedes-not-back : precedes us vs ≡ true → (precedes vs us ≡ false) × (same_words vs us ≡ false)
  precedes-not-back e =
      let l = less_key e in
      (precedes-key vs us q p ∙ le-ltb (key vs) (key us) (omega arith), same_key vs us q p ∙ ne_eqb (key vs) (key us) (λ z. omega arith))

  precedes_else : precedes us vs ≡ false → same_words us vs ≡ false → precedes vs us ≡ true
  precedes_else e f =
      let l = ltb-false (key us) (key vs) (sym (precedes-key us vs p q) ∙ e) in
      let n = eqb-false (key us) (key vs) (sym (same_key us vs p q) ∙ f) in
      precedes-key vs us q p ∙ lt-ltb (key vs) (key us) (omega arith)

precedes-not_self : (us : List ℕ) → are_words us ≡ true → precedes us us ≡ false
precedes-not_self us p = precedes-key us us p p ∙ le-ltb (key us) (key us) (omega arith)

precedes_on : (us vs ws : List ℕ) → are_words us ≡ true → are_words vs ≡ true → are_words ws ≡ true → precedes us vs ≡ true → precedes vs ws ≡ true → precedes us ws ≡ true
precedes_on us vs ws p q r e f = key_less us ws p r (let a = less_key us vs p q e in let b = less_key vs ws q r f in omega arith)

-- ---- one sequence put among others

module _ (ws vs : List ℕ) (rows : List (List ℕ)) where
  insert-first : precedes ws vs ≡ true → insert ws (vs ∷ rows) ≡ ws ∷ vs ∷ rows
  unfolding insert
  insert-first e = rw e

  insert-same : precedes ws vs ≡ false → same_words ws vs ≡ true → insert ws (vs ∷ rows) ≡ vs ∷ rows
  unfolding insert
  insert-same e f = rw (e, f)

  insert_later : precedes ws vs ≡ false → same_words ws vs ≡ false → insert ws (vs ∷ rows) ≡ vs ∷ insert ws rows
  unfolding insert
  insert_later e f = rw (e, f)

-- the three ways in which it goes
data Way (ws vs : List ℕ) : Type 0 where
  first : precedes ws vs ≡ true → Way ws vs
  same : precedes ws vs ≡ false → same_words ws vs ≡ true → Way ws vs
  later : precedes ws vs ≡ false → same_words ws vs ≡ false → Way ws vs

way : (ws vs : List ℕ) → Way ws vs
way ws vs = go (precedes ws vs) (same_words ws vs) refl refl
  where
    go : (a b : Bool) → precedes ws vs ≡ a → same_words ws vs ≡ b → Way ws vs
    go true b e f = first e
    go false true e f = same e f
    go false false e f = later e f

in_insert : (ws : List ℕ) (rows : List (List ℕ)) (us : List ℕ) → In us rows → In us (insert ws rows)
in_insert ws [] us m = elim m [ ]
in_insert ws (vs ∷ rows) us m = go (way ws vs) m (in_insert ws rows us)
  where
    go : Way ws vs → In us (vs ∷ rows) → (In us rows → In us (insert ws rows)) → In us (insert ws (vs ∷ rows))
    go (first e) m ih = rw (insert-first ws vs rows e) (Memᴰ.tail m)
    go (same e f) m ih = rw (insert-same ws vs rows e f) m
    go (later e f) (Memᴰ.head q) ih = rw (insert_later ws vs rows e f) (Memᴰ.head q)
    go (later e f) (Memᴰ.tail n) ih = rw (insert_later ws vs rows e f) (Memᴰ.tail (ih n))

insert-has : (ws : List ℕ) (rows : List (List ℕ)) → In ws (insert ws rows)
insert-has ws [] = unfold insert in Memᴰ.head refl
insert-has ws (vs ∷ rows) = go (way ws vs) (insert-has ws rows)
  where
    go : Way ws vs → In ws (insert ws rows) → In ws (insert ws (vs ∷ rows))
    go (first e) ih = rw (insert-first ws vs rows e) (Memᴰ.head refl)
    go (same e f) ih = rw (insert-same ws vs rows e f) (Memᴰ.head (same_eq ws vs f))
    go (later e f) ih = rw (insert_later ws vs rows e f) (Memᴰ.tail ih)

insert-only : (ws : List ℕ) (rows : List (List ℕ)) (us : List ℕ) → In us (insert ws rows) → (us ≡ ws) ⊎ In us rows
insert-only ws [] us m = Memᴰ.cases_cons (unfold insert in m)
insert-only ws (vs ∷ rows) us m = go (way ws vs) (insert-only ws rows us) m
  where
    go : Way ws vs → (In us (insert ws rows) → (us ≡ ws) ⊎ In us rows) → In us (insert ws (vs ∷ rows)) → (us ≡ ws) ⊎ In us (vs ∷ rows)
    go (first e) ih m = Memᴰ.cases_cons (rw (insert-first ws vs rows e) at m)
    go (same e f) ih m = inr (rw (insert-same ws vs rows e f) at m)
    go (later e f) ih m =
        ⊎_elim
        (λ q. inr (Memᴰ.head q))
        (λ n. ⊎_elim inl (λ k. inr (Memᴰ.tail k)) (ih n))
        (Memᴰ.cases_cons (rw (insert_later ws vs rows e f) at m))

one-ascends : (ws : List ℕ) → Ascending (ws ∷ [])
one-ascends ws = more (λ vs m. absurd (Memᴰ.not-nil m)) none

module _ (ws : List ℕ) (p : are_words ws ≡ true) where
  insert-ascends : (rows : List (List ℕ)) → AllWords rows → Ascending rows → Ascending (insert ws rows)
  insert-ascends [] w a = unfold insert in one-ascends ws
  insert-ascends (vs ∷ rows) w (more f a) = go (way ws vs) (insert-ascends rows (λ us m. w us (Memᴰ.tail m)) a)
    where
      q : are_words vs ≡ true
      q = w vs (Memᴰ.head refl)

      ahead : precedes ws vs ≡ true → (us : List ℕ) → In us (vs ∷ rows) → precedes ws us ≡ true
      ahead e us (Memᴰ.head z) = rw z e
      ahead e us (Memᴰ.tail m) = precedes_on ws vs us p q (w us (Memᴰ.tail m)) e (f us m)

      behind : precedes vs ws ≡ true → (us : List ℕ) → (us ≡ ws) ⊎ In us rows → precedes vs us ≡ true
      behind e us (inl z) = rw z e
      behind e us (inr m) = f us m

      go : Way ws vs → Ascending (insert ws rows) → Ascending (insert ws (vs ∷ rows))
      go (first e) ih = rw (insert-first ws vs rows e) (more (ahead e) (more f a))
      go (same e s) ih = rw (insert-same ws vs rows e s) (more f a)
      go (later e s) ih = rw (insert_later ws vs rows e s) (more (λ us m. behind (precedes_else ws vs p q e s) us (insert-only ws rows us m)) ih)

  -- a sequence that is there is not put there again
  insert-present : (rows : List (List ℕ)) → AllWords rows → Ascending rows → In ws rows → insert ws rows ≡ rows
  insert-present [] w _ x4 = elim x4 [ ]
  insert-present (vs ∷ rows) w (more f a) (Memᴰ.head z) =
      insert-same ws vs rows (ap (precedes ws) (sym z) ∙ precedes-not_self ws p) (ap (same_words ws) (sym z) ∙ same_refl ws)
  insert-present (vs ∷ rows) w (more f a) (Memᴰ.tail m) =
      let n = precedes-not-back vs ws (w vs (Memᴰ.head refl)) p (f ws m) in
      insert_later ws vs rows n.0 n.1 ∙ ap {B = List (List ℕ)} (λ l. vs ∷ l) (insert-present rows (λ us k. w us (Memᴰ.tail k)) a m)

-- ---- several sequences put among others

pub in_insert_all : (added rows : List (List ℕ)) (us : List ℕ) → In us rows → In us (insert_all added rows)
unfolding insert_all
in_insert_all [] rows us m = m
in_insert_all (ws ∷ added) rows us m = in_insert ws (insert_all added rows) us (in_insert_all added rows us m)

pub insert_all-has : (added rows : List (List ℕ)) (us : List ℕ) → In us added → In us (insert_all added rows)
unfolding insert_all
insert_all-has [] rows us x' = elim x' [ ]
insert_all-has (ws ∷ added) rows us (Memᴰ.head q) = rw q (insert-has ws (insert_all added rows))
insert_all-has (ws ∷ added) rows us (Memᴰ.tail m) = in_insert ws (insert_all added rows) us (insert_all-has added rows us m)

pub insert_all-only : (added rows : List (List ℕ)) (us : List ℕ) → In us (insert_all added rows) → In us added ⊎ In us rows
unfolding insert_all
insert_all-only [] rows us m = inr m
insert_all-only (ws ∷ added) rows us m =
    ⊎_elim
    (λ q. inl (Memᴰ.head q))
    (λ n. ⊎_elim (λ k. inl (Memᴰ.tail k)) inr (insert_all-only added rows us n))
    (insert-only ws (insert_all added rows) us m)

insert_all-words : (added rows : List (List ℕ)) → AllWords added → AllWords rows → AllWords (insert_all added rows)
insert_all-words added rows v w us m = ⊎_elim (v us) (w us) (insert_all-only added rows us m)

pub insert_all-ascends : (added rows : List (List ℕ)) → AllWords added → AllWords rows → Ascending rows → Ascending (insert_all added rows)
unfolding insert_all
insert_all-ascends [] rows v w a = a
insert_all-ascends (ws ∷ added) rows v w a =
    let v' : AllWords added = λ us m. v us (Memᴰ.tail m) in
    insert-ascends ws (v ws (Memᴰ.head refl)) (insert_all added rows) (insert_all-words added rows v' w) (insert_all-ascends added rows v' w a)

pub insert_all-present : (added rows : List (List ℕ)) → AllWords rows → Ascending rows → ((us : List ℕ) → In us added → In us rows) → insert_all added rows ≡ rows
unfolding insert_all
insert_all-present [] rows w a h = refl
insert_all-present (ws ∷ added) rows w a h =
    let m = h ws (Memᴰ.head refl) in
    ap (insert ws) (insert_all-present added rows w a (λ us n. h us (Memᴰ.tail n))) ∙ insert-present ws (w ws m) rows w a m

insert-length : (ws : List ℕ) (rows : List (List ℕ)) → length (insert ws rows) ≤ suc (length rows)
insert-length ws [] = unfold insert in omega arith
insert-length ws (vs ∷ rows) = go (way ws vs) (insert-length ws rows)
  where
    go : Way ws vs → length (insert ws rows) ≤ suc (length rows) → length (insert ws (vs ∷ rows)) ≤ suc (length (vs ∷ rows))
    go (first e) ih = rw (insert-first ws vs rows e) (omega arith)
    go (same e f) ih = rw (insert-same ws vs rows e f) (omega arith)
    go (later e f) ih = rw (insert_later ws vs rows e f) (omega arith)

pub insert_all-length : (added rows : List (List ℕ)) → length (insert_all added rows) ≤ length added + length rows
unfolding insert_all
insert_all-length [] rows = omega arith
insert_all-length (ws ∷ added) rows = let h = insert_all-length added rows in let k = insert-length ws (insert_all added rows) in omega arith

-- ---- by place

pub in_at : (rows : List (List ℕ)) (i : ℕ) → i < length rows → In (get_or rows i []) rows
in_at [] i l = absurd (omega arith)
in_at (ws ∷ rows) zero l = Memᴰ.head refl
in_at (ws ∷ rows) (suc i) l = Memᴰ.tail (in_at rows i (omega arith))

pub place_of : (rows : List (List ℕ)) (ws : List ℕ) → In ws rows → (i : ℕ) × (i < length rows) × (get_or rows i [] ≡ ws)
place_of [] ws x' = elim x' [ ]
place_of (vs ∷ rows) ws (Memᴰ.head q) = (0, omega arith, sym q)
place_of (vs ∷ rows) ws (Memᴰ.tail m) = let r = place_of rows ws m in (suc r.0, let l = r.1 in omega arith, r.2)

pub ascends-at : (rows : List (List ℕ)) → Ascending rows → (i j : ℕ) → i < j → j < length rows → precedes (get_or rows i []) (get_or rows j []) ≡ true
ascends-at [] a i j l m = absurd (omega arith)
ascends-at (ws ∷ rows) (more f a) zero zero l m = absurd (omega arith)
ascends-at (ws ∷ rows) (more f a) (suc i) zero l m = absurd (omega arith)
ascends-at (ws ∷ rows) (more f a) zero (suc j) l m = f (get_or rows j []) (in_at rows j (omega arith))
ascends-at (ws ∷ rows) (more f a) (suc i) (suc j) l m = ascends-at rows a i j (omega arith) (omega arith)
