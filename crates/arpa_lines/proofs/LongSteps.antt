-- Laws of a line of a longer section: its row in the table, and the progress that holds one row more. Assumes nothing.
use mathlib.Core.Path.{◌≡◌, refl, sym, ap, ap₂, subst, ◌∙◌}
use mathlib.Core.Logic.{◌⊎◌, inl, inr, ⊎_elim}
use mathlib.Core.Bool.{Bool, true, false, ◌||◌}
use mathlib.Core.List.Memᴰ
use mathlib.Core.List.{List, [], ◌∷◌, ◌++◌, map, Memᴰ}
use Prim.Native.Nat.{ℕ, zero, suc, ◌+◌, ◌*◌, ◌-◌, ◌/◌, ◌<◌, ◌≤◌}
use native.Mathlib.Omega.{arith}
use lib.Dec.{eqb}
use lib.IntN.{ℤ, pos}
use lib.ListN.{length, get_or, set, length-map, length-append}
use lib.Seq.{sets, length-sets, get_or-set_same, get_or-set_other}
use borrow.Author.Tests.{eqb-false, le-leb, lt-leb}
use Rattle.integer.proofs.Ranges.{lt_or_ge}
use Rattle.backoff.specs.Limits.{order_limit, row_limit}
use Rattle.backoff.specs.NineNumbers.{padded}
use Rattle.rows.specs.Table.{field}
use Rattle.word_index.specs.Texts.{texts_from}
use Rattle.word_index.specs.Index.{link_limit, Indexed}
use Rattle.arpa_text.specs.Lines.{Listed, are_texts}
use Rattle.arpa_words.specs.Words.{number_met, zeroed, some_missing}
use Rattle.arpa_words.proofs.Searches.{search_told}
use Rattle.arpa_words.proofs.Stores.{zeroed-length}
use Rattle.arpa_words.proofs.RowWords.{texts-count}
use Rattle.arpa_sections.specs.Sections.{Reading, row_of}
use Rattle.arpa_sections.specs.Held.{Held, StageHeld, LaterHeld, StepHeld, RowSound, ones_of}
use Rattle.arpa_sections.specs.declared.Stage.{Stage}
use Rattle.arpa_sections.specs.declared.Stage.TheVariants.{Section}
use Rattle.arpa_sections.specs.declared.Progress.{Progress}
use Rattle.std.specs.declared.result.Result.TheVariants.{Ok, Err}
use Rattle.backoff.specs.declared.Reason.TheVariants.{UnlistedText, ShortSlice}
use Rattle.arpa_sections.proofs.Stages.{held_at}
use Rattle.arpa_lines.specs.Reading.{add_row, row_fits, longer_step}
use Rattle.arpa_lines.specs.Held.{word_field, long_row, added}
use Rattle.arpa_lines.proofs.HeldTexts.{held-texts}
use Rattle.arpa_lines.proofs.JoinedRows.{row-eight, sound_eights, row-more-held, free-kept, indexed_kept}

-- ---- numbers stored one behind the other
sets-other : (l : List ℤ) (i q : ℕ) (vs : List ℤ) → (q < i) ⊎ (i + length vs ≤ q) → get_or (sets l i vs) q (pos 0) ≡ get_or l q (pos 0)
sets-other l i q [] w = refl
sets-other l i q (v ∷ vs) w =
    sets-other (set l i v) (suc i) q vs (⊎_elim (λ x. inl (omega arith)) (λ x. inr (omega arith)) w)
    ∙ get_or-set_other l i q v (pos 0) (λ e. ⊎_elim (λ x. absurd (omega arith)) (λ x. absurd (omega arith)) w)

sets-at : (l : List ℤ) (i j : ℕ) (vs : List ℤ) → j < length vs → i + length vs ≤ length l → get_or (sets l i vs) (i + j) (pos 0) ≡ get_or vs j (pos 0)
sets-at l i j [] k r = absurd (omega arith)
sets-at l i zero (v ∷ vs) k r =
    let e : i + 0 ≡ i = omega arith in
    rw e (sets-other (set l i v) (suc i) i vs (inl (omega arith)) ∙ get_or-set_same l i v (pos 0) (omega arith))
sets-at l i (suc j) (v ∷ vs) k r =
    let e : i + suc j ≡ suc i + j = omega arith in
    let f = length-sets l i (v ∷ []) in
    ap (λ (q : ℕ). get_or (sets (set l i v) (suc i) vs) q (pos 0)) e ∙ sets-at (set l i v) (suc i) j vs (omega arith) (omega arith)

-- ---- the row
word_fields : (k : ℕ) (numbers : List ℕ) → ((n : ℕ) → Memᴰ n numbers → n ≤ link_limit) → map word_field (zeroed k numbers) ≡ padded k (map pos numbers)
unfolding zeroed padded word_field
word_fields zero numbers h = refl
word_fields (suc k) [] h = ap (λ (l : List ℤ). pos 0 ∷ l) (word_fields k [] (λ n m. absurd (Memᴰ.not-nil m)))
word_fields (suc k) (n ∷ numbers) h = rw (le-leb n link_limit (h n (Memᴰ.head refl))) (ap (λ (l : List ℤ). pos n ∷ l) (word_fields k numbers (λ q m. h q (Memᴰ.tail m))))

module _ (t : List ℤ) (n m : ℕ) (words : List ℕ) (p b : ℤ) (five : length words ≡ order_limit) where
  abbrev eight : List ℤ
  eight = pos m ∷ (map word_field words ++ (p ∷ b ∷ []))

  eight-long : length eight ≡ 8
  eight-long = let e = length-append (map word_field words) (p ∷ b ∷ []) in let f = length-map words word_field in omega arith

  long-row-length : length (long_row t n m words p b) ≡ length t
  unfolding long_row
  long-row-length = length-sets t (8 * n) eight

  long-row-other : (i j : ℕ) → j < 8 → (i ≡ n → ⊥) → field (long_row t n m words p b) i j ≡ field t i j
  unfolding long_row field
  long-row-other i j l o = let e = eight-long in sets-other t (8 * n) (8 * i + j) eight (⊎_elim (λ (x : i < n). inl (omega arith)) (λ (x : n ≤ i). inr (omega arith)) (lt_or_ge i n))

  long-row-here : (j : ℕ) → j < 8 → 8 * n + 8 ≤ length t → field (long_row t n m words p b) n j ≡ get_or (pos m ∷ (map word_field words ++ (p ∷ b ∷ []))) j (pos 0)
  unfolding long_row field
  long-row-here j l r = let e = eight-long in sets-at t (8 * n) j eight (omega arith) (omega arith)

  -- the index lies in other rows
  long-row_indexed : (s : List ℕ) (c next : ℕ) → c ≤ n → next - 4 ≤ n → Indexed t s c next → Indexed (long_row t n m words p b) s c next
  long-row_indexed s c next u v x =
      indexed_kept t (long_row t n m words p b) s c next long-row-length
      (λ h l. long-row-other h 2 (omega arith) (λ z. absurd (omega arith)))
      (λ k l. long-row-other (k - 4) 3 (omega arith) (λ z. absurd (let r = x.start in omega arith)))
      x

-- ---- the numbers of words that are met
met-below : (texts : List (List ℕ)) (text : List ℕ) → number_met texts text < suc (length texts)
unfolding number_met
met-below texts text =
    ⊎_elim (λ x. rw x.0 (omega arith)) (λ x. let l = x.1.inside in rw x.1.found (omega arith)) (search_told text 1 texts)

met-numbers : (texts us : List (List ℕ)) → some_missing (map (number_met texts) us) ≡ false → (k : ℕ) → Memᴰ k (map (number_met texts) us) → (1 ≤ k) × (k < suc (length texts))
unfolding some_missing
met-numbers texts [] e k m = absurd (Memᴰ.not-nil m)
met-numbers texts (u ∷ us) e k m = go (eqb (number_met texts u) 0) refl e (λ f. met-numbers texts us f)
  where
    go : (t : Bool) → eqb (number_met texts u) 0 ≡ t → (t || some_missing (map (number_met texts) us)) ≡ false → (some_missing (map (number_met texts) us) ≡ false → (k : ℕ) → Memᴰ k (map (number_met texts) us) → (1 ≤ k) × (k < suc (length texts))) → (1 ≤ k) × (k < suc (length texts))
    go true f e rest = let z : ◌≡◌ {A = ℕ} 0 1 = cc in absurd (omega arith)
    go false f e rest =
        ⊎_elim
        (λ (d : k ≡ number_met texts u). let n = eqb-false (number_met texts u) 0 f in let b = met-below texts u in (omega arith, omega arith))
        (λ d. rest e k d)
        (Memᴰ.cases_cons m)

-- ---- the progress
module _ (room size : ℕ) (t : List ℤ) (s : List ℕ) (p : Progress) (a : Reading) (h : Held room size t s p a) (m : ℕ) (low : 2 ≤ m) (st : p.stage ≡ Section m) where
  pub in_longer : (1 ≤ m) × (m ≤ p.order) × LaterHeld t s p a
  in_longer = let w = held_at room size t s p a h (Section m) st in (w.0, w.1, w.3 low)

  module _ (l : Listed) (us : List (List ℕ)) where
    -- the numbers as the code finds them
    pub longer-numbers : map (number_met (texts_from s 1 (p.words - 1))) us ≡ map (number_met a.texts) us
    longer-numbers = ap (λ (texts : List (List ℕ)). map (number_met texts) us) (held-texts room size t s p a h)

    pub longer-unlisted : some_missing (map (number_met a.texts) us) ≡ true → StepHeld room size t s (longer_step room a l (map (number_met a.texts) us)) (Err UnlistedText)
    unfolding longer_step
    longer-unlisted e = rw e (refl, h.table-long, h.store_long)

    module _ (all : some_missing (map (number_met a.texts) us) ≡ false) where
      pub longer-refused : room / 8 ≤ p.rows → StepHeld room size t s (longer_step room a l (map (number_met a.texts) us)) (Err ShortSlice)
      unfolding longer_step row_fits
      longer-refused q = let e = h.rows in rw (all, lt-leb (8 * suc (length a.rows)) room (omega arith)) (refl, h.table-long, h.store_long)

      module _ (are : are_texts m us ≡ true) (fits : p.rows < room / 8) (words : List ℕ) (is : words ≡ zeroed order_limit (map (number_met a.texts) us)) where
        abbrev numbers : List ℕ
        numbers = map (number_met a.texts) us

        five : length words ≡ order_limit
        five = ap length is ∙ zeroed-length order_limit numbers

        abbrev after : List ℤ
        after = long_row t p.rows m words l.p l.b

        abbrev row : List ℤ
        row = row_of (map (number_met a.texts) us) l.p l.b

        count : length numbers ≡ m
        count = length-map us (number_met a.texts) ∙ texts-count m us are

        met : (k : ℕ) → Memᴰ k numbers → (1 ≤ k) × (k < p.words)
        met k d = let w = met-numbers a.texts us all k d in let e = h.words in let x = w.0 in let y = w.1 in (omega arith, omega arith)

        row-sound : RowSound p.words row
        row-sound =
            let e = count in
            let o = in_longer.1 in
            let f = h.order in
            record { numbers = numbers; p = l.p; b = l.b; is = refl; some = omega arith; few = omega arith; met = met }

        row_here : p.rows ≤ row_limit → (j : ℕ) → j < 8 → field after p.rows j ≡ get_or row j (pos 0)
        unfolding row_of
        row_here few j q =
            let e = h.table-long in
            let w = in_longer.2.words in
            let o = in_longer.2.ones in
            long-row-here t p.rows m words l.p l.b five j q (omega arith)
            ∙ ap (λ (x : List ℤ). get_or x j (pos 0))
            (ap₂ (λ (k : ℕ) (x : List ℤ). pos k ∷ (x ++ (l.p ∷ l.b ∷ []))) (sym count) (ap (map word_field) is ∙ word_fields order_limit numbers (λ k d. let y = (met k d).1 in omega arith)))

        later_after : LaterHeld after s (added p p.words) (add_row a row a.texts)
        unfolding add_row
        later_after =
            let f = in_longer.2 in
            let ones = f.ones in
            let next = f.words in
            let eights = sound_eights p.words a.rows h.sound in
            record {
              ones = omega arith;
              words = next;
              index = λ x y. let b = f.buckets x in long-row_indexed t p.rows m words l.p l.b five s p.buckets p.words (omega arith) (omega arith) (f.index x y);
              buckets = f.buckets;
              table = λ x.
                  row-more-held a.rows row p.rows eights h.rows t after (ones_of a) (ones_of a) (row-eight numbers l.p l.b) (f.table (omega arith)) (omega arith)
                  (λ i j q n w. long-row-other t p.rows m words l.p l.b five i j q n)
                  (λ j q w. row_here (omega arith) j q);
              free = λ i x. free-kept a.rows row p.rows eights h.rows i (omega arith) (f.free i x);
            }

        held_after : Held room size after s (added p p.words) (add_row a row a.texts)
        unfolding add_row
        held_after =
            let g = h.table-long in
            let w = h.lines_rows in
            record {
              table-long = long-row-length t p.rows m words l.p l.b five ∙ g;
              store_long = h.store_long;
              stage = h.stage;
              order = h.order;
              counts-long = h.counts-long;
              announced = h.announced;
              lines = let q = h.lines in omega arith;
              rows = let q = h.rows in let m = length-append a.rows (row ∷ []) in omega arith;
              row_room = omega arith;
              lines_rows = omega arith;
              words = h.words;
              word_room = h.word_room;
              reserved-room = h.reserved-room;
              texts = h.texts;
              store = h.store;
              sound = λ r d.
                  ⊎_elim (λ d. h.sound r d)
                  (λ d. subst (RowSound p.words) (sym (Memᴰ.eq_of_singleton d)) row-sound)
                  (Memᴰ.append_cases a.rows d);
              at_stage = subst (λ (z : Stage). StageHeld z after s (added p p.words) (add_row a row a.texts))
                  (sym st ∙ h.stage) (omega arith, in_longer.1, λ z. absurd (omega arith), λ z. later_after);
            }

        pub longer-added : (r : Progress) → r ≡ added p p.words → StepHeld room size (long_row t p.rows m words l.p l.b) s (longer_step room a l (map (number_met a.texts) us)) (Ok r)
        unfolding longer_step row_fits
        longer-added r f = let e = h.rows in rw (all, le-leb (8 * suc (length a.rows)) room (omega arith), f) held_after
