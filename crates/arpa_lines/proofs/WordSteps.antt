-- Laws of a line of the one-word section: what the progress holds behind it. Assumes nothing.
use mathlib.Core.Path.{◌≡◌, refl, sym, ap, ap₂, ◌∙◌, subst}
use mathlib.Core.Logic.{◌⊎◌, inr, ⊎_elim}
use mathlib.Core.Bool.{true, cond}
use mathlib.Core.List.Memᴰ
use mathlib.Core.List.{List, [], ◌∷◌, ◌++◌}
use Prim.Native.Nat.{ℕ, zero, suc, ◌+◌, ◌*◌, ◌-◌, ◌/◌, ◌<◌, ◌≤◌, max}
use native.Mathlib.Omega.{arith}
use lib.Dec.{leb, ltb}
use lib.IntN.{ℤ, pos}
use lib.ListN.{length, length-append}
use borrow.Author.Tests.{le-leb, lt-leb, lt-ltb, le-ltb}
use Rattle.integer.proofs.Arithmetic.{and_no}
use Rattle.integer.specs.Integer.{or_else}
use Rattle.backoff.specs.Limits.{row_limit}
use Rattle.rows.specs.Table.{field}
use Rattle.word_index.specs.Texts.{texts_from}
use Rattle.word_index.specs.Index.{link_limit, Indexed}
use Rattle.arpa_text.specs.Lines.{Listed, is_text}
use Rattle.arpa_words.specs.Words.{reserved_number, number_met, number_given, with_text, records_of, store_with}
use Rattle.arpa_words.specs.Held.{Searchable, Adding, TextAdded}
use Rattle.arpa_words.proofs.Searches.{Absent, Placed}
use Rattle.arpa_words.proofs.Words.{reserved_small, met_or_not}
use Rattle.arpa_words.proofs.Stores.{zeroed-length}
use Rattle.arpa_words.proofs.TextSteps.{TextHeld, text_again, text-reserved, text-next}
use Rattle.arpa_sections.specs.Sections.{Reading, row_of}
use Rattle.arpa_sections.specs.Held.{TableHeld, RowSound, Held, StageHeld, FirstHeld, StepHeld}
use Rattle.arpa_sections.specs.declared.Stage.{Stage}
use Rattle.arpa_sections.specs.declared.Stage.TheVariants.{Section}
use Rattle.arpa_sections.specs.declared.Progress.{Progress}
use Rattle.std.specs.declared.result.Result.TheVariants.{Ok, Err}
use Rattle.backoff.specs.declared.Reason.TheVariants.{ShortSlice}
use Rattle.arpa_lines.specs.Reading.{add_row, row_fits, record_fits, word_step}
use Rattle.arpa_lines.specs.Held.{word_field, word_row, added}
use Rattle.arpa_lines.proofs.HeldTexts.{held-texts, held-searchable, held-given}
use Rattle.arpa_lines.proofs.JoinedRows.{free_more, word-row-free, row-eight, sound_eights, field-behind, row-more-held, word-row-length, word-row-other, word-row-here, word-row_indexed}

more-words : (words next : ℕ) (row : List ℤ) → words ≤ next → RowSound words row → RowSound next row
more-words words next row l x = record {
  numbers = x.numbers;
  p = x.p;
  b = x.b;
  is = x.is;
  some = x.some;
  few = x.few;
  met = λ k m. let w = x.met k m in (w.0, let q = w.1 in omega arith);
}

word-row-sound : (next k : ℕ) (p b : ℤ) → 1 ≤ k → k < next → RowSound next (row_of (k ∷ []) p b)
word-row-sound next k p b l m = record {
  numbers = k ∷ [];
  p = p;
  b = b;
  is = refl;
  some = omega arith;
  few = omega arith;
  met = λ i d. let e = Memᴰ.eq_of_singleton d in (omega arith, omega arith);
}

field_of_word : (k : ℕ) → k ≤ link_limit → word_field k ≡ pos k
unfolding word_field
field_of_word k l = rw (le-leb k link_limit l) refl

module _ (room size : ℕ) (t : List ℤ) (s : List ℕ) (p : Progress) (a : Reading) (h : Held room size t s p a) (st : p.stage ≡ Section 1) where
  in_first : (1 ≤ p.order) × FirstHeld t s p a
  in_first = let w = subst (λ (x : Stage). StageHeld x t s p a) (sym h.stage ∙ st) h.at_stage in (w.1, w.2 refl)

  pub first-searchable : Searchable t s p.buckets p.words
  first-searchable =
      let f = in_first.1 in
      let e = h.table-long in
      let g = h.store_long in
      let r = h.row_room in
      let w = f.words in
      held-searchable room size t s p a h (λ l m. let n = h.word_room l in f.index (omega arith) (omega arith) m)

  module _ (l : Listed) (text : List ℕ) (k : ℕ) where
    -- ---- there is no room
    pub row-refused : room / 8 ≤ p.rows → StepHeld room size t s (word_step room size a l text k) (Err ShortSlice)
    unfolding word_step row_fits
    row-refused q =
        let e = h.rows in
        rw (lt-leb (8 * suc (length a.rows)) room (omega arith)) (refl, h.table-long, h.store_long)

    pub record_refused : size / 64 ≤ k → StepHeld room size t s (word_step room size a l text k) (Err ShortSlice)
    unfolding word_step record_fits
    record_refused q =
        rw (and_no (row_fits room a) (leb (64 * suc k) size) (lt-leb (64 * suc k) size (omega arith))) (refl, h.table-long, h.store_long)

    -- ---- the row is added
    module _ (u : List ℤ) (s' : List ℕ) (next : ℕ) (x : TextHeld size p.rows p.buckets t u s' p.words next k (with_text a.texts k text))
        (row_room : p.rows < room / 8) where
      abbrev after : List ℤ
      after = word_row u p.rows k l.p l.b

      store-after : length s' ≡ size
      unfolding store_with
      store-after = ap length x.store ∙ zeroed-length size (records_of ([] ∷ with_text a.texts k text))

      table-after : p.rows + 1 ≤ row_limit → TableHeld after (a.rows ++ (row_of (k ∷ []) l.p l.b ∷ [])) (max (p.rows + 1) p.buckets)
      table-after few =
          let f = in_first.1 in
          let w = f.words in
          let below = x.below in
          let one = x.by_one in
          let long = x.long in
          let e = h.table-long in
          let held = f.table (omega arith) in
          let eights = sound_eights p.words a.rows h.sound in
          let free : (j : ℕ) → 4 ≤ j → j < 8 → field u p.rows j ≡ pos 0 =
          λ j m q.
          x.kept p.rows j q (inr (inr m))
          ∙ held.same p.rows j q (inr (inr m))
          ∙ field-behind a.rows [] p.rows eights h.rows p.rows j (omega arith)
          in
          row-more-held a.rows (row_of (k ∷ []) l.p l.b) p.rows eights h.rows t after (max p.rows p.buckets) (max (p.rows + 1) p.buckets)
          (row-eight (k ∷ []) l.p l.b) held (omega arith)
          (λ i j m n w.
          word-row-other u p.rows k l.p l.b i j (λ z. n (omega arith)) (λ z. n (omega arith)) (λ z. n (omega arith)) (λ z. n (omega arith))
          ∙ x.kept i j m w)
          (λ j m w.
          word-row-here u p.rows k l.p l.b (omega arith) (field_of_word k (omega arith)) (free 4 (omega arith) (omega arith)) (free 5 (omega arith) (omega arith)) j m
          (⊎_elim (λ (y : max (p.rows + 1) p.buckets ≤ p.rows). absurd (omega arith)) (λ y. y) w))

      first-after : FirstHeld after s' (added p next) (add_row a (row_of (k ∷ []) l.p l.b) (with_text a.texts k text))
      unfolding add_row
      first-after =
          let f = in_first.1 in
          let w = f.words in
          let lines = f.lines in
          let one = x.by_one in
          let long = x.long in
          let e = word-row-length u p.rows k l.p l.b in
          let g = h.store_long in
          let y = store-after in
          record {
            lines = ap (λ (n : ℕ). n + 1) f.lines;
            words = omega arith;
            some = f.some;
            untouched = λ z. absurd (omega arith);
            index = λ m n q. word-row_indexed u p.rows k l.p l.b s' p.buckets next (x.index (omega arith) (omega arith) q);
            buckets = f.buckets;
            table = table-after;
            free =
                let z = word-row-free k l.p l.b in
                free_more a.rows (row_of (k ∷ []) l.p l.b) p.rows (sound_eights p.words a.rows h.sound) h.rows (row-eight (k ∷ []) l.p l.b) z.0 z.1 f.free;
          }

      held_after : Held room size after s' (added p next) (add_row a (row_of (k ∷ []) l.p l.b) (with_text a.texts k text))
      unfolding add_row
      held_after =
          let long = x.long in
          let e = word-row-length u p.rows k l.p l.b in
          let g = h.table-long in
          let w = h.lines_rows in
          record {
            table-long = e ∙ long ∙ g;
            store_long = store-after;
            stage = h.stage;
            order = h.order;
            counts-long = h.counts-long;
            announced = h.announced;
            lines = let q = h.lines in omega arith;
            rows = let q = h.rows in let m = length-append a.rows (row_of (k ∷ []) l.p l.b ∷ []) in omega arith;
            row_room = omega arith;
            lines_rows = omega arith;
            words = x.count;
            word_room = x.word_room;
            reserved-room = x.reserved-room;
            texts = x.sound;
            store = x.store;
            sound = λ row m.
                ⊎_elim (λ d. more-words p.words next row x.grows (h.sound row d))
                (λ d. subst (RowSound next) (sym (Memᴰ.eq_of_singleton d)) (word-row-sound next k l.p l.b x.some x.below))
                (Memᴰ.append_cases a.rows m);
            at_stage = subst (λ (z : Stage). StageHeld z after s' (added p next) (add_row a (row_of (k ∷ []) l.p l.b) (with_text a.texts k text)))
                (sym st ∙ h.stage) (omega arith, in_first.0, λ z. first-after, λ z. absurd (omega arith));
          }

      row-added-held : k < size / 64 → (r : Progress) → r ≡ added p next → StepHeld room size after s' (word_step room size a l text k) (Ok r)
      unfolding word_step row_fits record_fits
      row-added-held q r f =
          let e = h.rows in
          rw (le-leb (8 * suc (length a.rows)) room (omega arith), le-leb (64 * suc k) size (omega arith), f) held_after

  -- ---- the text of the line, by the number that it has and the one that it gets
  module _ (text : List ℕ) (in_form_lem : is_text text ≡ true) (met word : ℕ) (e : met ≡ number_met (texts_from s 1 (p.words - 1)) text)
      (f : word ≡ or_else met (or_else (reserved_number text) p.words)) where
    pub first-given : word ≡ number_given a.texts text
    first-given = f ∙ held-given room size t s p a h text in_form_lem met e

    pub first_adding : met ≡ 0 → word < size / 64 → p.rows < room / 8 → Adding t s p.buckets p.words word text
    first_adding z q r =
        let first = in_first.1 in
        let w = first.words in
        let g = h.store_long in
        let i = h.table-long in
        record {
          searchable = first-searchable;
          in_form_lem = in_form_lem;
          number = f ∙ ap (λ (n : ℕ). or_else n (or_else (reserved_number text) p.words)) z;
          new = sym e ∙ z;
          record_room = omega arith;
          row_room = omega arith;
          index = λ l m. first.index (omega arith) l m;
        }

    module _ (fits : word < size / 64) (u : List ℤ) (s' : List ℕ) where
      -- the text is written where it was not met, and nothing is where it was
      abbrev pub Written : Type 0
      Written = ((met ≡ 0) × TextAdded t u s s' p.buckets p.words word text) ⊎ ((met ≡ 0 → ⊥) × (u ≡ t) × (s' ≡ s))

      abbrev next_word : ℕ
      next_word = cond (ltb word p.words) p.words (p.words + 1)

      abbrev Comes : Type 0
      Comes = TextHeld size p.rows p.buckets t u s' p.words next_word word (with_text a.texts word text)

      index-first : 8 ≤ length t → 256 ≤ size → p.words ≤ link_limit → Indexed t s p.buckets p.words
      index-first l m = let g = h.store_long in in_first.1.index l (omega arith)

      text-not-met : Absent text a.texts → met ≡ 0 → TextAdded t u s s' p.buckets p.words word text → Comes
      text-not-met absent z added = go (reserved_number text) refl
        where
          go : (r : ℕ) → reserved_number text ≡ r → Comes
          go zero y =
              let g : word ≡ p.words = f ∙ ap₂ (λ (n r : ℕ). or_else n (or_else r p.words)) z y in
              let first = in_first.1 in
              rw (g, le-ltb p.words p.words (omega arith))
              (text-next size p.rows p.buckets t s p.words a.texts h.texts h.words h.word_room h.reserved-room h.store h.store_long text in_form_lem absent
              y first.words first.some (omega arith) (subst (λ (k : ℕ). TextAdded t u s s' p.buckets p.words k text) g added))
          go (suc j) y =
              let g : word ≡ suc j = f ∙ ap₂ (λ (n r : ℕ). or_else n (or_else r p.words)) z y in
              let small = reserved_small text in
              let three = h.texts.long in
              let count = h.words in
              rw (g, lt-ltb (suc j) p.words (omega arith))
              (text-reserved size p.rows p.buckets t s p.words a.texts h.texts h.words h.word_room h.reserved-room h.store h.store_long text in_form_lem absent
              j y (omega arith) (subst (λ (k : ℕ). TextAdded t u s s' p.buckets p.words k text) g added))

      text-met : (j : ℕ) → met ≡ suc j → Placed text 1 a.texts j → u ≡ t → s' ≡ s → Comes
      text-met j y placed same kept =
          let g : word ≡ suc j = f ∙ ap (λ (n : ℕ). or_else n (or_else (reserved_number text) p.words)) y in
          let inside = placed.inside in
          let count = h.words in
          rw (g, lt-ltb (suc j) p.words (omega arith), same, kept)
          (text_again size p.rows p.buckets t s p.words a.texts h.texts h.words h.word_room h.reserved-room h.store h.store_long text in_form_lem
          index-first j placed)

      text_comes : Written → Comes
      text_comes w =
          let y : met ≡ number_met a.texts text = e ∙ ap (λ (us : List (List ℕ)). number_met us text) (held-texts room size t s p a h) in
          ⊎_elim
          (λ v. ⊎_elim (λ x. text-not-met v.2 x.0 x.1) (λ x. absurd (x.0 (y ∙ v.0))) w)
          (λ v. ⊎_elim (λ x. let z = x.0 in let n = v.1 in absurd (omega arith)) (λ x. text-met v.0 (y ∙ v.1) v.2 x.1 x.2) w)
          (met_or_not a.texts h.texts text in_form_lem)

      pub written-long : Written → (length u ≡ length t) × (length s' ≡ length s)
      unfolding store_with
      written-long w =
          let x = text_comes w in
          (x.long, ap length x.store ∙ zeroed-length size (records_of ([] ∷ with_text a.texts word text)) ∙ sym h.store_long)

      pub word-step-held : Written → p.rows < room / 8 → (l : Listed) (t' : List ℤ) → t' ≡ word_row u p.rows word l.p l.b
          → (next : ℕ) → next ≡ next_word → (r : Progress) → r ≡ added p next
          → StepHeld room size t' s' (word_step room size a l text (number_given a.texts text)) (Ok r)
      word-step-held w q l t' x next y r z =
          rw (x, ← first-given) (row-added-held l text word u s' next_word (text_comes w) q fits r (z ∙ ap (added p) y))
