-- Laws of words and their numbers: reserved texts, and the number of a text that is met. Assumes nothing.
use Rattle.std.specs.declared.option.Option.{Option}
use Rattle.std.specs.declared.option.Option.TheVariants.{None}
use mathlib.Core.Path.{◌≡◌, refl, sym, ap, ◌∙◌}
use mathlib.Core.Logic.{◌⊎◌, inl, inr, ⊎_elim}
use mathlib.Core.Bool.{Bool, true, false, cond, ◌&&◌}
use mathlib.Core.List.{List, [], ◌∷◌}
use Prim.Native.Nat.{ℕ, zero, suc, ◌+◌, ◌<◌, ◌≤◌}
use native.Mathlib.Omega.{arith}
use lib.Dec.{eqb, leb, lit≤}
use lib.ListN.{length, get_or, drop}
use borrow.Author.Tests.{leb-true, ne_eqb}
use Rattle.integer.proofs.Ranges.{and_left, and_right, lt_or_ge}
use Rattle.integer.specs.Integer.{or_else}
use Rattle.backoff.specs.Limits.{text_limit}
use Rattle.backoff.specs.Words.{same_words}
use Rattle.backoff.proofs.Words.{same_eq, same_ne}
use Rattle.word_index.specs.Texts.{search_from, given_by}
use Rattle.arpa_text.specs.Lines.{is_text, all_above}
use Rattle.arpa_words.specs.Words.{unknown_text, start_text, end_text, no_texts, reserved_number, number_met, number_given}
use Rattle.arpa_words.specs.Held.{TextsSound}
use Rattle.arpa_words.proofs.Searches.{Absent, Placed, search_told}

pub else_some : (a b : ℕ) → 0 < a → or_else a b ≡ a
else_some zero b l = absurd (omega arith)
else_some (suc a) b l = refl

-- ---- texts
module _ (text : List ℕ) (e : is_text text ≡ true) where
  pub text-some : 1 ≤ length text
  unfolding is_text
  text-some = leb-true 1 (length text) (and_left (leb 1 (length text)) (leb (length text) text_limit && all_above text) e)

  pub text-short : length text ≤ text_limit
  unfolding is_text
  text-short =
      leb-true (length text) text_limit
      (and_left (leb (length text) text_limit) (all_above text) (and_right (leb 1 (length text)) (leb (length text) text_limit && all_above text) e))

  pub text-not-empty : text ≡ [] → ⊥
  text-not-empty z = let l = text-some in let f : length text ≡ 0 = ap length z in omega arith

-- ---- no texts
pub none-met : (k : ℕ) → get_or no_texts k [] ≡ []
none-met zero = refl
none-met (suc zero) = refl
none-met (suc (suc zero)) = refl
none-met (suc (suc (suc k))) = refl

pub no-texts-sound : TextsSound no_texts
no-texts-sound = record {
  long = lit≤ tt;
  reserved = λ k l. inl (none-met k);
  in_form_lem = λ k l m. absurd (omega arith);
  other = λ k l m. absurd (omega arith);
  distinct = λ j k a b d. absurd (omega arith);
}

-- ---- reserved texts
spelling : ℕ → List ℕ
spelling zero = []
spelling (suc zero) = unknown_text
spelling (suc (suc zero)) = start_text
spelling (suc (suc (suc k))) = end_text

reserved_told : (u : List ℕ) → (reserved_number u ≤ 3) × (0 < reserved_number u → u ≡ spelling (reserved_number u))
unfolding reserved_number spelling
reserved_told u = go (same_words u unknown_text) refl (same_words u start_text) refl (same_words u end_text) refl
  where
    go : (a : Bool) → same_words u unknown_text ≡ a → (b : Bool) → same_words u start_text ≡ b → (c : Bool) → same_words u end_text ≡ c
        → (cond a 1 (cond b 2 (cond c 3 0)) ≤ 3) × (0 < cond a 1 (cond b 2 (cond c 3 0)) → u ≡ spelling (cond a 1 (cond b 2 (cond c 3 0))))
    go true e b f c g = (omega arith, λ l. same_eq u unknown_text e)
    go false e true f c g = (omega arith, λ l. same_eq u start_text f)
    go false e false f true g = (omega arith, λ l. same_eq u end_text g)
    go false e false f false g = (omega arith, λ l. absurd (omega arith))

pub reserved_small : (u : List ℕ) → reserved_number u ≤ 3
reserved_small u = (reserved_told u).0

pub reserved-same : (u v : List ℕ) (k : ℕ) → reserved_number u ≡ suc k → reserved_number v ≡ suc k → u ≡ v
reserved-same u v k e f = (reserved_told u).1 (omega arith) ∙ ap spelling (e ∙ sym f) ∙ sym ((reserved_told v).1 (omega arith))

pub reserved-short : (u : List ℕ) → 0 < reserved_number u → (1 ≤ length u) × (length u ≤ text_limit)
unfolding spelling
reserved-short u l = go (reserved_number u) ((reserved_told u).1 l) l
  where
    go : (k : ℕ) → u ≡ spelling k → 0 < k → (1 ≤ length u) × (length u ≤ text_limit)
    go zero e m = absurd (omega arith)
    go (suc zero) e m = rw e (omega arith)
    go (suc (suc zero)) e m = rw e (omega arith)
    go (suc (suc (suc k))) e m = rw e (omega arith)

-- ---- the number of a text that is met
module _ (texts : List (List ℕ)) (sound : TextsSound texts) (text : List ℕ) (in_form_lem : is_text text ≡ true) where
  -- a text at place j is reserved where j is below 3, and only there
  placed-reserved : (j : ℕ) → j < length texts → get_or texts j [] ≡ text → ((j < 3) × (reserved_number text ≡ suc j)) ⊎ ((3 ≤ j) × (reserved_number text ≡ 0))
  placed-reserved j l e =
      ⊎_elim
      (λ (p : j < 3).
      ⊎_elim
      (λ z. absurd (text-not-empty text in_form_lem (sym e ∙ z)))
      (λ z. inl (p, ap reserved_number (sym e) ∙ z))
      (sound.reserved j p))
      (λ (p : 3 ≤ j). inr (p, ap reserved_number (sym e) ∙ sound.other j p l))
      (lt_or_ge j 3)

  pub placed_at : (j k : ℕ) → j < length texts → get_or texts j [] ≡ text → reserved_number text ≡ suc k → j ≡ k
  placed_at j k l e r = ⊎_elim (λ w. let f = w.1 in omega arith) (λ w. let f = w.1 in absurd (omega arith)) (placed-reserved j l e)

  pub met-reserved : (k : ℕ) → reserved_number text ≡ suc k → number_met texts text ≡ cond (eqb (length (get_or texts k [])) 0) 0 (suc k)
  unfolding number_met
  met-reserved k r =
      let small = reserved_small text in
      ⊎_elim
      (λ w.
      ⊎_elim
      (λ (z : get_or texts k [] ≡ []). rw (w.0, z) refl)
      (λ z.
      let long = sound.long in
      absurd (w.1 k (omega arith) (reserved-same (get_or texts k []) text k z r)))
      (sound.reserved k (omega arith)))
      (λ w.
      let j = w.0 in
      let p = w.1 in
      let q = placed_at j k p.inside p.same r in
      let f : get_or texts k [] ≡ text = ap (λ (i : ℕ). get_or texts i []) (sym q) ∙ p.same in
      let n = text-some text in_form_lem in
      rw (p.found, q, f, ne_eqb (length text) 0 (λ y. absurd (omega arith))) (omega arith))
      (search_told text 1 texts)

  pub met_or_not : ((number_met texts text ≡ 0) × (search_from text 1 texts ≡ None) × Absent text texts)
      ⊎ ((j : ℕ) × (number_met texts text ≡ suc j) × Placed text 1 texts j)
  unfolding number_met
  met_or_not =
      ⊎_elim
      (λ w. inl (ap (λ (f : Option ℕ). given_by f 0) w.0, w.0, w.1))
      (λ w.
      let e : 1 + w.0 ≡ suc w.0 = omega arith in
      inr (w.0, ap (λ (f : Option ℕ). given_by f 0) w.1.found ∙ e, w.1))
      (search_told text 1 texts)

-- another text stands behind the first three, if at all
pub met-other : (texts : List (List ℕ)) → TextsSound texts → (text : List ℕ) → is_text text ≡ true → reserved_number text ≡ 0
    → number_met texts text ≡ given_by (search_from text 4 (drop 3 texts)) 0
unfolding number_met search_from
met-other [] sound text f r = let l = sound.long in absurd (omega arith)
met-other (a ∷ []) sound text f r = let l = sound.long in absurd (omega arith)
met-other (a ∷ b ∷ []) sound text f r = let l = sound.long in absurd (omega arith)
met-other (a ∷ b ∷ c ∷ us) sound text f r = rw (no 0 a (sound.reserved 0 (omega arith)), no 1 b (sound.reserved 1 (omega arith)), no 2 c (sound.reserved 2 (omega arith))) refl
  where
    no : (k : ℕ) (u : List ℕ) → (u ≡ []) ⊎ (reserved_number u ≡ suc k) → same_words text u ≡ false
    no k u w =
        same_ne text u
        (λ e. ⊎_elim (λ z. text-not-empty text f (e ∙ z)) (λ z. let g = ap reserved_number e in absurd (omega arith)) w)

-- the number that a text gets: the one that it has, its own where it is reserved, or the next
pub given_is : (texts : List (List ℕ)) → TextsSound texts → (text : List ℕ) → is_text text ≡ true
    → number_given texts text ≡ or_else (number_met texts text) (or_else (reserved_number text) (suc (length texts)))
unfolding number_given
given_is texts sound text f = go (reserved_number text) refl
  where
    go : (r : ℕ) → reserved_number text ≡ r → or_else r (given_by (search_from text 1 texts) (suc (length texts))) ≡ or_else (number_met texts text) (or_else r (suc (length texts)))
    go zero e = ⊎_elim (λ w. rw (w.0, w.1) refl) (λ w. rw (w.1, w.2.found) (omega arith)) (met_or_not texts sound text f)
    go (suc k) e = both (eqb (length (get_or texts k [])) 0) ∙ ap (λ (n : ℕ). or_else n (suc k)) (sym (met-reserved texts sound text f k e))
      where
        both : (t : Bool) → suc k ≡ or_else (cond t 0 (suc k)) (suc k)
        both true = refl
        both false = refl
