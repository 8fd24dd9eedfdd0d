-- Laws of the numbers that texts have by the order of meeting: what one line of the one-word section changes, and what it does not. Assumes nothing.
use Rattle.std.specs.declared.option.Option.{Option}
use Rattle.std.specs.declared.option.Option.TheVariants.{Some, None}
use mathlib.Core.Path.{◌≡◌, refl, sym, ap, ◌∙◌}
use mathlib.Core.Logic.{◌⊎◌, inl, inr, ⊎_elim}
use mathlib.Core.Bool.{Bool, true, false, cond}
use mathlib.Core.List.{List, [], ◌∷◌, ◌++◌}
use Prim.Native.Nat.{ℕ, zero, suc, ◌+◌, ◌*◌, ◌<◌, ◌≤◌}
use native.Mathlib.Omega.{arith}
use lib.Dec.{eqb}
use lib.ListN.{length, get_or, drop, set, length-append, length-drop, length-set, get_or-append}
use lib.Seq.{get_or-set_same, get_or-set_other, drop-set-lt, drop-append-le, get_or-append_seam}
use borrow.Author.Tests.{eq-eqb, ne_eqb}
use Rattle.integer.proofs.Ranges.{lt_or_ge, equal_or_not}
use Rattle.integer.specs.Integer.{or_else}
use Rattle.backoff.specs.Words.{same_words}
use Rattle.backoff.proofs.Words.{same_refl}
use Rattle.word_index.specs.Texts.{search_from, given_by}
use Rattle.arpa_text.specs.Lines.{is_text}
use Rattle.arpa_words.specs.Words.{reserved_number, number_met, number_given, with_text}
use Rattle.arpa_words.specs.Held.{TextsSound}
use Rattle.arpa_words.proofs.Searches.{Absent, Placed, search_told}
use Rattle.arpa_words.proofs.Words.{text-not-empty, reserved_small, reserved-same, met-reserved, met_or_not, met-other, given_is}
use Rattle.arpa_words.proofs.TextSteps.{with_met, with_reserved, with_next, sound-reserved, sound-next}
use Rattle.arpa.specs.Meaning.{with_new}

-- the number of a text, where `news` are the texts from word 4 on
unfoldable pub number_in : List (List ℕ) → List ℕ → ℕ
number_in news text = or_else (reserved_number text) (given_by (search_from text 4 news) 0)

-- the text is among them
abbrev pub Known : List (List ℕ) → List ℕ → Type 0
Known texts text = (j : ℕ) × (j < length texts) × (get_or texts j [] ≡ text)

-- ---- a search in more texts
pub search-more : (text : List ℕ) (k j : ℕ) (us vs : List (List ℕ)) → search_from text k us ≡ Some j → search_from text k (us ++ vs) ≡ Some j
unfolding search_from
search-more text k j [] vs e = absurd (let z : ◌≡◌ {A = ℕ} 0 1 = cc in omega arith)
search-more text k j (u ∷ us) vs e = go (same_words text u) e (λ f. search-more text (suc k) j us vs f)
  where
    go : (t : Bool) → cond t (Some k) (search_from text (suc k) us) ≡ Some j → (search_from text (suc k) us ≡ Some j → search_from text (suc k) (us ++ vs) ≡ Some j)
        → cond t (Some k) (search_from text (suc k) (us ++ vs)) ≡ Some j
    go true f rest = f
    go false f rest = rest f

search_snoc : (text : List ℕ) (k : ℕ) (us : List (List ℕ)) → search_from text k us ≡ None → search_from text k (us ++ (text ∷ [])) ≡ Some (k + length us)
unfolding search_from
search_snoc text k [] e = let z : k + 0 ≡ k = omega arith in rw (same_refl text, z) refl
search_snoc text k (u ∷ us) e = go (same_words text u) e (λ f. search_snoc text (suc k) us f)
  where
    go : (t : Bool) → cond t (Some k) (search_from text (suc k) us) ≡ None → (search_from text (suc k) us ≡ None → search_from text (suc k) (us ++ (text ∷ [])) ≡ Some (suc k + length us))
        → cond t (Some k) (search_from text (suc k) (us ++ (text ∷ []))) ≡ Some (k + suc (length us))
    go true f rest = absurd (let z : ◌≡◌ {A = ℕ} 0 1 = cc in omega arith)
    go false f rest = let z : k + suc (length us) ≡ suc k + length us = omega arith in rw z (rest f)

-- a text is found from one number on where it is found from another
found_or_not : (text : List ℕ) (i k : ℕ) (us : List (List ℕ)) → ((search_from text i us ≡ None) × (search_from text k us ≡ None)) ⊎ ((a b : ℕ) × (search_from text i us ≡ Some (i + a)) × (search_from text k us ≡ Some (k + b)))
found_or_not text i k us =
    ⊎_elim
    (λ v. ⊎_elim (λ w. inl (v.0, w.0)) (λ w. absurd (v.1 w.0 w.1.inside w.1.same)) (search_told text k us))
    (λ v. ⊎_elim (λ w. absurd (w.1 v.0 v.1.inside v.1.same)) (λ w. inr (v.0, w.0, v.1.found, w.1.found)) (search_told text k us))
    (search_told text i us)

-- ---- the number of a text that is known
number-kept : (news more : List (List ℕ)) (u : List ℕ) → 0 < number_in news u → number_in (news ++ more) u ≡ number_in news u
unfolding number_in
number-kept news more u l = go (reserved_number u) l
  where
    go : (r : ℕ) → 0 < or_else r (given_by (search_from u 4 news) 0) → or_else r (given_by (search_from u 4 (news ++ more)) 0) ≡ or_else r (given_by (search_from u 4 news) 0)
    go (suc r) m = refl
    go zero m =
        ⊎_elim
        (λ w. absurd (let f : given_by (search_from u 4 news) 0 ≡ 0 = ap (λ (x : Option ℕ). given_by x 0) w.0 in omega arith))
        (λ w. rw (search-more u 4 (4 + w.0) news more w.1.found, w.1.found) refl)
        (search_told u 4 news)

module _ (texts : List (List ℕ)) (sound : TextsSound texts) (u : List ℕ) (in_form_lem : is_text u ≡ true) where
  pub met-is-number : 0 < number_met texts u → number_met texts u ≡ number_in (drop 3 texts) u
  unfolding number_in
  met-is-number l = go (reserved_number u) refl
    where
      go : (r : ℕ) → reserved_number u ≡ r → number_met texts u ≡ or_else r (given_by (search_from u 4 (drop 3 texts)) 0)
      go zero e = met-other texts sound u in_form_lem e
      go (suc k) e = both (eqb (length (get_or texts k [])) 0) (met-reserved texts sound u in_form_lem k e)
        where
          both : (t : Bool) → number_met texts u ≡ cond t 0 (suc k) → number_met texts u ≡ suc k
          both true f = absurd (omega arith)
          both false f = f

  pub known-met : Known texts u → 0 < number_met texts u
  known-met k =
      ⊎_elim (λ w. absurd (w.2 k.0 k.1 k.2)) (λ w. let e = w.1 in omega arith) (met_or_not texts sound u in_form_lem)

  pub met-known : 0 < number_met texts u → Known texts u
  met-known l = ⊎_elim (λ w. let e = w.0 in absurd (omega arith)) (λ w. (w.0, w.2.inside, w.2.same)) (met_or_not texts sound u in_form_lem)

  pub known-is-number : Known texts u → number_met texts u ≡ number_in (drop 3 texts) u
  known-is-number k = met-is-number (known-met k)

  pub known-number : Known texts u → 0 < number_in (drop 3 texts) u
  known-number k = let l = known-met k in let e = known-is-number k in omega arith

-- ---- one line of the one-word section

-- each text that is met has its record in a store of so many bytes
abbrev pub RecordsFit : ℕ → List (List ℕ) → Type 0
RecordsFit size texts = (j : ℕ) → j < length texts → (get_or texts j [] ≡ [] → ⊥) → 64 * (j + 2) ≤ size

-- what the texts become once word k has this text
pub record TextRead (size : ℕ) (texts : List (List ℕ)) (text : List ℕ) (k : ℕ) (next : List (List ℕ)) : Type 0 where
  pub sound : TextsSound next
  pub news : drop 3 next ≡ with_new (drop 3 texts) text
  pub number : k ≡ number_in (drop 3 next) text
  pub known : Known next text
  pub still : (u : List ℕ) → is_text u ≡ true → Known texts u → Known next u
  pub kept : (u : List ℕ) → 0 < number_in (drop 3 texts) u → number_in (drop 3 next) u ≡ number_in (drop 3 texts) u
  pub fits : RecordsFit size texts → 64 * suc k ≤ size → RecordsFit size next

module _ (size : ℕ) (texts : List (List ℕ)) (sound : TextsSound texts) (text : List ℕ) (in_form_lem : is_text text ≡ true) where
  -- a text that is reserved, or met, is not new
  reserved_old : (news : List (List ℕ)) (k : ℕ) → reserved_number text ≡ suc k → with_new news text ≡ news
  unfolding with_new
  reserved_old news k e = rw (ne_eqb (reserved_number text) 0 (λ z. absurd (omega arith))) refl

  met_old : (news : List (List ℕ)) → reserved_number text ≡ 0 → 0 < given_by (search_from text 4 news) 0 → with_new news text ≡ news
  unfolding with_new number_met
  met_old news e l =
      ⊎_elim
      (λ w. absurd (let f : given_by (search_from text 4 news) 0 ≡ 0 = ap (λ (x : Option ℕ). given_by x 0) w.1 in omega arith))
      (λ w. rw (eq-eqb (reserved_number text) 0 e, w.2, ne_eqb (1 + w.0) 0 (λ z. absurd (omega arith))) refl)
      (found_or_not text 1 4 news)

  absent-new : (news : List (List ℕ)) → reserved_number text ≡ 0 → search_from text 4 news ≡ None → with_new news text ≡ news ++ (text ∷ [])
  unfolding with_new number_met
  absent-new news e f =
      ⊎_elim
      (λ w. rw (eq-eqb (reserved_number text) 0 e, w.0) refl)
      (λ w. absurd (let g : None ≡ Some (4 + w.1) = sym f ∙ w.3 in let z : ◌≡◌ {A = ℕ} 0 1 = cc in omega arith))
      (found_or_not text 1 4 news)

  -- met again
  again : (j : ℕ) → number_met texts text ≡ suc j → Placed text 1 texts j → TextRead size texts text (suc j) (with_text texts (suc j) text)
  again j e p = rw (with_met texts text j p.inside p.same) (record {
    sound = sound;
    news = sym (old (reserved_number text) refl);
    number = sym e ∙ met-is-number texts sound text in_form_lem (omega arith);
    known = (j, p.inside, p.same);
    still = λ u f k. k;
    kept = λ u l. refl;
    fits = λ f l. f;
  })
    where
      old : (r : ℕ) → reserved_number text ≡ r → with_new (drop 3 texts) text ≡ drop 3 texts
      old zero f = met_old (drop 3 texts) f (let g = met-other texts sound text in_form_lem f in omega arith)
      old (suc k) f = reserved_old (drop 3 texts) k f

  -- a reserved text
  reserved : (i : ℕ) → reserved_number text ≡ suc i → TextRead size texts text (suc i) (with_text texts (suc i) text)
  unfolding number_in
  reserved i e =
      let small = reserved_small text in
      let long = sound.long in
      let i-long = length-set texts i text in
      let same : drop 3 (set texts i text) ≡ drop 3 texts = drop-set-lt 3 texts i text (omega arith) in
      rw (with_reserved texts text i (omega arith)) (record {
        sound = sound-reserved texts text sound i (omega arith) e;
        news = same ∙ sym (reserved_old (drop 3 texts) i e);
        number = rw e refl;
        known = (i, omega arith, get_or-set_same texts i text [] (omega arith));
        still = λ u f k.
            ⊎_elim
            (λ (w : k.0 ≡ i).
            let here : get_or texts i [] ≡ u = ap (λ (x : ℕ). get_or texts x []) (sym w) ∙ k.2 in
            ⊎_elim
            (λ z. absurd (text-not-empty u f (sym here ∙ z)))
            (λ z. (i, omega arith, get_or-set_same texts i text [] (omega arith) ∙ reserved-same text u i e (ap reserved_number (sym here) ∙ z)))
            (sound.reserved i (omega arith)))
            (λ (w : k.0 ≡ i → ⊥). let l = k.1 in (k.0, omega arith, get_or-set_other texts i k.0 text [] w ∙ k.2))
            (equal_or_not k.0 i);
        kept = λ u l. ap (λ (ns : List (List ℕ)). number_in ns u) same;
        fits = λ f l j m n.
            ⊎_elim
            (λ (w : j ≡ i). omega arith)
            (λ (w : j ≡ i → ⊥). f j (omega arith) (λ z. n (get_or-set_other texts i j text [] w ∙ z)))
            (equal_or_not j i);
      })

  -- the next word
  next : reserved_number text ≡ 0 → Absent text texts → number_met texts text ≡ 0 → TextRead size texts text (suc (length texts)) (with_text texts (suc (length texts)) text)
  unfolding number_in
  next e absent none =
      let long = sound.long in
      let more : length (texts ++ (text ∷ [])) ≡ length texts + 1 = length-append texts (text ∷ []) in
      let news : drop 3 (texts ++ (text ∷ [])) ≡ drop 3 texts ++ (text ∷ []) = drop-append-le 3 texts (text ∷ []) long in
      let missing : search_from text 4 (drop 3 texts) ≡ None =
      ⊎_elim (λ w. w.0)
      (λ w. absurd (let f = met-other texts sound text in_form_lem e in let g : given_by (search_from text 4 (drop 3 texts)) 0 ≡ 4 + w.0 = ap (λ (x : Option ℕ). given_by x 0) w.1.found in omega arith))
      (search_told text 4 (drop 3 texts))
      in
      rw (with_next texts text) (record {
        sound = sound-next texts text sound in_form_lem e absent;
        news = news ∙ sym (absent-new (drop 3 texts) e missing);
        number = let d = length-drop 3 texts in rw (news, e, search_snoc text 4 (drop 3 texts) missing) (omega arith);
        known = (length texts, omega arith, get_or-append_seam texts text [] []);
        still = λ u f k. let l = k.1 in (k.0, omega arith, get_or-append texts (text ∷ []) [] k.0 k.1 ∙ k.2);
        kept = λ u l. ap (λ (ns : List (List ℕ)). number_in ns u) news ∙ number-kept (drop 3 texts) (text ∷ []) u l;
        fits = λ f l j m n.
            ⊎_elim
            (λ (w : j < length texts). f j w (λ z. n (get_or-append texts (text ∷ []) [] j w ∙ z)))
            (λ (w : length texts ≤ j). omega arith)
            (lt_or_ge j (length texts));
      })

  pub text-read : TextRead size texts text (number_given texts text) (with_text texts (number_given texts text) text)
  text-read = ⊎_elim new (λ w. told (suc w.0) (again w.0 w.1 w.2) (rw w.1 refl)) (met_or_not texts sound text in_form_lem)
    where
      told : (k : ℕ) → TextRead size texts text k (with_text texts k text) → or_else (number_met texts text) (or_else (reserved_number text) (suc (length texts))) ≡ k → TextRead size texts text (number_given texts text) (with_text texts (number_given texts text) text)
      told k r e = rw (given_is texts sound text in_form_lem ∙ e) r

      new : (number_met texts text ≡ 0) × (search_from text 1 texts ≡ None) × Absent text texts → TextRead size texts text (number_given texts text) (with_text texts (number_given texts text) text)
      new w = by (reserved_number text) refl
        where
          by : (r : ℕ) → reserved_number text ≡ r → TextRead size texts text (number_given texts text) (with_text texts (number_given texts text) text)
          by zero e = told (suc (length texts)) (next e w.2 w.0) (rw (w.0, e) refl)
          by (suc i) e = told (suc i) (reserved i e) (rw (w.0, e) refl)
