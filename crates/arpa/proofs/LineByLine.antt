-- The reading line by line: a line that is read has its place in the form, and nothing meets it; a line that is refused is met by its number. Assumes nothing.
use Rattle.std.specs.declared.option.Option.{Option}
use Rattle.std.specs.declared.option.Option.TheVariants.{Some, None}
use mathlib.Core.Path.{◌≡◌, refl, sym, ap, ◌∙◌, subst}
use mathlib.Core.Logic.{◌⊎◌, inl, inr, ⊎_elim}
use mathlib.Core.Bool.{Bool, true, false, cond, ◌&&◌, ◌||◌, true≢false}
use mathlib.Core.List.{List, [], ◌∷◌, ◌++◌, map, append_assoc, append-nil, Memᴰ, cons≢nil}
use Prim.Native.Nat.{ℕ, suc, ◌*◌, ◌-◌, ◌<◌, ◌≤◌}
use native.Mathlib.Omega.{arith}
use native.Mathlib.Numerals.{add-one}
use lib.Dec.{eqb, ltb, leb}
use lib.ListN.{length, get_or, length-append}
use borrow.Author.Tests.{eqb-true, leb-true, eqb-false, ltb-true, ltb-false, lt-ltb, le-ltb, leb-false, le-leb}
use Rattle.integer.proofs.Ranges.{and_left, and_right, and_both}
use Rattle.backoff.specs.Limits.{order_limit}
use Rattle.backoff.specs.Refusal.{short_slice, line_form, unlisted_text, section_count}
use Rattle.backoff.specs.Words.{same_words}
use Rattle.backoff.proofs.Words.{same_eq, same_refl}
use Rattle.text_parts.specs.Parts.{before, parts}
use Rattle.text_parts.proofs.Parts.{parts-some}
use Rattle.arpa_headings.specs.Headings.{data_line, section_line, end_line, read_count}
use Rattle.arpa_text.specs.Lines.{Listed, read_row}
use Rattle.arpa_words.specs.Words.{number_met, some_missing}
use Rattle.arpa_sections.specs.Sections.{Reading, Step, goes, refused_by, announce, enter, first_section, count_step, data_step, closes, close_section, row_of, unread}
use Rattle.arpa_sections.specs.declared.Stage.{Stage}
use Rattle.arpa_sections.specs.declared.Stage.TheVariants.{Start, Counts, Section, Ended}
use Rattle.arpa_lines.specs.Reading.{add_row, row_fits, record_fits, word_step, longer_step, row_step, section_step, stage_step, line_step, Lines, done, stopped, onward, last_piece, read_lines}
use Rattle.arpa.specs.Meaning.{row_lines, Position, at-start, in_counts, in_section, at-end, Leads, skipped, data_line_lem, count_line, first_heading, row_of_lem, next_heading, end_line_lem, number_by, HasLine, LineMeets, not-in_form, no-word_line, heading_count, end-count, row-no-longer-fits, text-no-longer-fits, ReadTo, no_lines, one_more, lines_in, last_in, AllRead, ReadRefusedBy, at_line, no-end_line, no-line_end, bad_list}
use Rattle.arpa.proofs.RowLines.{NoTab, other_line, empty-no_tab, data_no_tab, end-no_tab, section_no_tab, count-no_tab, row-has_tab}
use Rattle.arpa.proofs.NewTexts.{known-met}
use Rattle.arpa.proofs.LineRows.{only_text, only_number, texts_with, no-row-more, row_more, Fresh, Holds, holds-begun, row_count_lem, word_held, word_number, only-text, word_there, all_listed, longer-held}

-- ---- what a line may be behind a position

abbrev MayStand : Position → List ℕ → Type 0
MayStand at-start line = (line ≡ []) ⊎ (line ≡ data_line)
MayStand (in_counts cs) line = (line ≡ []) ⊎ (((c : ℕ) × (length cs < order_limit) × (read_count (suc (length cs)) line ≡ Some c)) ⊎ ((1 ≤ length cs) × (line ≡ section_line 1)))
MayStand (in_section cs m k) line = (line ≡ []) ⊎ (((l : Listed) × (read_row m line ≡ Some l)) ⊎ (((m < length cs) × (line ≡ section_line (suc m))) ⊎ ((length cs ≤ m) × (line ≡ end_line))))
MayStand at-end line = line ≡ []

may_stand : (q : Position) (line : List ℕ) (q' : Position) → Leads q line q' → MayStand q line
may_stand _ _ _ (skipped at-start) = inl refl
may_stand _ _ _ (skipped (in_counts cs)) = inl refl
may_stand _ _ _ (skipped (in_section cs m k)) = inl refl
may_stand _ _ _ (skipped at-end) = refl
may_stand _ _ _ data_line_lem = inr refl
may_stand _ _ _ (count_line cs line c l e) = inr (inl (c, l, e))
may_stand _ _ _ (first_heading cs l) = inr (inr (l, refl))
may_stand _ _ _ (row_of_lem cs m k line l e) = inr (inl (l, e))
may_stand _ _ _ (next_heading cs m k l) = inr (inr (inl (l, refl)))
may_stand _ _ _ (end_line_lem cs m k l) = inr (inr (inr (l, refl)))

-- no line of a row is a heading, the end line or empty
pub row-only : (m : ℕ) (line : List ℕ) (l : Listed) → read_row m line ≡ Some l → NoTab line → ⊥
row-only m line l e n = let t = row-has_tab m line l e in omega arith

-- ---- a line that nothing meets

module _ (room size : ℕ) (earlier : List (List ℕ)) where
  record SectionPassed (cs : List ℕ) (m k : ℕ) (line : List ℕ) : Type 0 where
    behind : Position
    leads : Leads (in_section cs m k) line behind
    listed : (l : Listed) → read_row m line ≡ Some l → (m ≡ 1 → ⊥) → (u : List ℕ) → Memᴰ u l.texts → HasLine earlier u
    row_fits : (l : Listed) → read_row m line ≡ Some l → 8 * suc (length (row_lines earlier)) ≤ room
    text-fits : (l : Listed) → read_row m line ≡ Some l → m ≡ 1 → (u : List ℕ) → Memᴰ u l.texts → 64 * suc (number_by (row_lines (earlier ++ (line ∷ []))) u) ≤ size
    heading : m < length cs → line ≡ section_line (suc m) → k ≡ get_or cs (m - 1) 0
    end : length cs ≤ m → line ≡ end_line → k ≡ get_or cs (m - 1) 0

  abbrev Passed : Position → List ℕ → Type 0
  Passed at-start line = (q : Position) × Leads at-start line q
  Passed (in_counts cs) line = (q : Position) × Leads (in_counts cs) line q
  Passed (in_section cs m k) line = SectionPassed cs m k line
  Passed at-end line = (q : Position) × Leads at-end line q

  passed-leads : (q : Position) (line : List ℕ) → Passed q line → (q' : Position) × Leads q line q'
  passed-leads at-start line x = x
  passed-leads (in_counts cs) line x = x
  passed-leads (in_section cs m k) line x = (x.behind, x.leads)
  passed-leads at-end line x = x

  none-meets : (q : Position) (line : List ℕ) (n : ℕ) → LineMeets room size earlier q line n → Passed q line → ⊥
  none-meets _ _ _ (not-in_form q line h) x = let p = passed-leads q line x in h p.0 p.1
  none-meets _ _ _ (no-word_line cs m k line l e n u i h) x = h (x.listed l e n u i)
  none-meets _ _ _ (heading_count cs m k l n) x = n (x.heading l refl)
  none-meets _ _ _ (end-count cs m k l n) x = n (x.end l refl)
  none-meets _ _ _ (row-no-longer-fits cs m k line l e a h) x = let z = x.row_fits l e in omega arith
  none-meets _ _ _ (text-no-longer-fits cs k line l e u i h) x = let z = x.text-fits l e refl u i in omega arith

  meets-some : (q : Position) (line : List ℕ) (n : ℕ) → LineMeets room size earlier q line n → n ≡ 0 → ⊥
  meets-some _ _ _ (not-in_form q line h) z = omega arith
  meets-some _ _ _ (no-word_line cs m k line l e n u i h) z = omega arith
  meets-some _ _ _ (heading_count cs m k l n) z = omega arith
  meets-some _ _ _ (end-count cs m k l n) z = omega arith
  meets-some _ _ _ (row-no-longer-fits cs m k line l e a h) z = omega arith
  meets-some _ _ _ (text-no-longer-fits cs k line l e u i h) z = omega arith

-- no refusal has number 0
pub refused-some : (filling : Bool) (room size : ℕ) (text : List ℕ) (n p : ℕ) → ReadRefusedBy filling room size text n p → n ≡ 0 → ⊥
refused-some filling room size text _ _ (at_line earlier line later e q to n m) z = meets-some room size earlier q line n m z
refused-some filling room size text _ _ (no-end_line q to h) z = omega arith
refused-some filling room size text _ _ (no-line_end q to h) z = omega arith
refused-some filling room size text _ _ (bad_list all n p not-0 v) z = not-0 z

-- ---- one line

-- where a reading stands
abbrev position_at : Stage → List ℕ → ℕ → Position
position_at Start cs k = at-start
position_at Counts cs k = in_counts cs
position_at (Section m) cs k = in_section cs m k
position_at Ended cs k = at-end

abbrev position_of : Reading → Position
position_of r = position_at r.stage r.announced r.lines

some_same : {l l' : Listed} → Some l ≡ Some l' → l ≡ l'
some_same e = cc

missing_text : (f : List ℕ → ℕ) (us : List (List ℕ)) → some_missing (map f us) ≡ true → (u : List ℕ) × Memᴰ u us × (f u ≡ 0)
unfolding some_missing
missing_text f [] e = absurd (let z : ◌≡◌ {A = ℕ} 0 1 = ap (λ (b : Bool). cond b 1 0) e in omega arith)
missing_text f (u ∷ us) e = go (eqb (f u) 0) refl e (missing_text f us)
  where
    go : (t : Bool) → eqb (f u) 0 ≡ t → (t || some_missing (map f us)) ≡ true → (some_missing (map f us) ≡ true → (v : List ℕ) × Memᴰ v us × (f v ≡ 0)) → (v : List ℕ) × Memᴰ v (u ∷ us) × (f v ≡ 0)
    go true g h rest = (u, Memᴰ.head refl, eqb-true (f u) 0 g)
    go false g h rest = let r = rest h in (r.0, Memᴰ.tail r.1, r.2)

module _ (room size : ℕ) (ls : List (List ℕ)) (r : Reading) (h : Holds room size r (row_lines ls)) where
  abbrev Told : Position → List ℕ → Step → Type 0
  Told q line (goes s) = Leads q line (position_of s) × ((n : ℕ) → LineMeets room size ls q line n → ⊥) × Holds room size s (row_lines (ls ++ (line ∷ [])))
  Told q line (refused_by n) = LineMeets room size ls q line n

  by_test : (q : Position) (line : List ℕ) (t : Bool) (x y : Step) → (t ≡ true → Told q line x) → (t ≡ false → Told q line y) → Told q line (cond t x y)
  by_test q line true x y f g = f refl
  by_test q line false x y f g = g refl

  -- a line that brings no row
  same_rows : (line : List ℕ) → NoTab line → (stage : Stage) (cs : List ℕ) (k : ℕ) → Fresh stage cs → Holds room size (record { stage = stage; announced = cs; lines = k; rows = r.rows; texts = r.texts }) (row_lines (ls ++ (line ∷ [])))
  same_rows line n stage cs k f =
      subst (Holds room size (record { stage = stage; announced = cs; lines = k; rows = r.rows; texts = r.texts })) (sym (no-row-more ls line n))
      (record { texts = h.texts; records = h.records; row_room = h.row_room; fresh = f; said = h.said; rows = h.rows; news = h.news; in_form_lem = h.in_form_lem; known = h.known; listed = h.listed; met = h.met })

  -- ---- before the sections

  start_told : r.announced ≡ [] → (c : ℕ) (line : List ℕ) → Told at-start (c ∷ line) (stage_step room size Start r (c ∷ line))
  unfolding enter
  start_told e c line =
      by_test at-start (c ∷ line) (same_words (c ∷ line) data_line) (goes (enter Counts r)) (refused_by line_form)
      (λ t.
      let x : Leads at-start (c ∷ line) (in_counts r.announced) = rw (same_eq (c ∷ line) data_line t, e) data_line_lem in
      (x, λ n m. none-meets room size ls at-start (c ∷ line) n m (in_counts r.announced, x), same_rows (c ∷ line) (data_no_tab (c ∷ line) t) Counts r.announced 0 tt))
      (λ t.
      not-in_form at-start (c ∷ line)
      (λ q x. ⊎_elim (λ z. cons≢nil z) (λ z. true≢false (sym (ap (λ (i : List ℕ). same_words i data_line) z ∙ same_refl data_line) ∙ t)) (may_stand at-start (c ∷ line) q x)))

  abbrev cs : List ℕ
  cs = r.announced

  heading_told : (c : ℕ) (line : List ℕ) → ((n : ℕ) → length cs < order_limit → read_count (suc (length cs)) (c ∷ line) ≡ Some n → ⊥) → Told (in_counts cs) (c ∷ line) (first_section r (c ∷ line))
  unfolding first_section enter
  heading_told c line uncounted =
      by_test (in_counts cs) (c ∷ line) (leb 1 (length cs) && same_words (c ∷ line) (section_line 1)) (goes (enter (Section 1) r)) (refused_by line_form)
      (λ t.
      let Some = leb-true 1 (length cs) (and_left (leb 1 (length cs)) (same_words (c ∷ line) (section_line 1)) t) in
      let same = and_right (leb 1 (length cs)) (same_words (c ∷ line) (section_line 1)) t in
      let x : Leads (in_counts cs) (c ∷ line) (in_section cs 1 0) = rw (same_eq (c ∷ line) (section_line 1) same) (first_heading cs Some) in
      (x, λ n m. none-meets room size ls (in_counts cs) (c ∷ line) n m (in_section cs 1 0, x), same_rows (c ∷ line) (section_no_tab 1 (c ∷ line) same) (Section 1) cs 0 tt))
      (λ t.
      not-in_form (in_counts cs) (c ∷ line)
      (λ q x.
      ⊎_elim (λ z. cons≢nil z)
      (λ y.
      ⊎_elim (λ z. uncounted z.0 z.1 z.2)
      (λ z. true≢false (sym (and_both _ _ (le-leb 1 (length cs) z.0) (ap (λ (i : List ℕ). same_words i (section_line 1)) z.1 ∙ same_refl (section_line 1))) ∙ t))
      y)
      (may_stand (in_counts cs) (c ∷ line) q x)))

  count_told : (c : ℕ) (line : List ℕ) → length cs < order_limit → (n : Option ℕ) → read_count (suc (length cs)) (c ∷ line) ≡ n → Told (in_counts cs) (c ∷ line) (count_step r (c ∷ line) n)
  unfolding announce
  count_told c line l (Some n) e =
      let x = count_line cs (c ∷ line) n l e in
      (x, λ i m. none-meets room size ls (in_counts cs) (c ∷ line) i m (in_counts (cs ++ (n ∷ [])), x), same_rows (c ∷ line) (count-no_tab (suc (length cs)) (c ∷ line) n e) Counts (cs ++ (n ∷ [])) 0 tt)
  count_told c line l None e = heading_told c line (λ n m f. let z : None ≡ Some n = sym e ∙ f in absurd (let y : ◌≡◌ {A = ℕ} 0 1 = cc in omega arith))

  data_told : (c : ℕ) (line : List ℕ) → Told (in_counts cs) (c ∷ line) (data_step r (c ∷ line))
  unfolding data_step
  data_told c line =
      by_test (in_counts cs) (c ∷ line) (ltb (length cs) order_limit) (count_step r (c ∷ line) (read_count (suc (length cs)) (c ∷ line))) (first_section r (c ∷ line))
      (λ t. count_told c line (ltb-true (length cs) order_limit t) (read_count (suc (length cs)) (c ∷ line)) refl)
      (λ t. heading_told c line (λ n l f. let z = ltb-false (length cs) order_limit t in omega arith))

  -- ---- in a section

  module _ (m : ℕ) where
    abbrev here : Position
    here = in_section cs m r.lines

    closes_told : (line : List ℕ) → closes m (length cs) line ≡ true → ((m < length cs) × (line ≡ section_line (suc m))) ⊎ ((length cs ≤ m) × (line ≡ end_line))
    unfolding closes
    closes_told line e = go (ltb m (length cs)) refl e
      where
        go : (t : Bool) → ltb m (length cs) ≡ t → cond t (same_words line (section_line (suc m))) (same_words line end_line) ≡ true → ((m < length cs) × (line ≡ section_line (suc m))) ⊎ ((length cs ≤ m) × (line ≡ end_line))
        go true f g = inl (ltb-true m (length cs) f, same_eq line (section_line (suc m)) g)
        go false f g = inr (ltb-false m (length cs) f, same_eq line end_line g)

    closes_shown : (line : List ℕ) → ((m < length cs) × (line ≡ section_line (suc m))) ⊎ ((length cs ≤ m) × (line ≡ end_line)) → closes m (length cs) line ≡ true
    unfolding closes
    closes_shown line (inl (l, e)) = rw (lt-ltb m (length cs) l, e) (same_refl (section_line (suc m)))
    closes_shown line (inr (l, e)) = rw (le-ltb m (length cs) l, e) (same_refl end_line)

    -- a heading or the end line, where the count is right
    closed : (line : List ℕ) (q : Position) → Leads here line q → NoTab line → r.lines ≡ get_or cs (m - 1) 0 → (n : ℕ) → LineMeets room size ls here line n → ⊥
    closed line q x no-tab e n y = none-meets room size ls here line n y (record {
      behind = q;
      leads = x;
      listed = λ l f. absurd (row-only m line l f no-tab);
      row_fits = λ l f. absurd (row-only m line l f no-tab);
      text-fits = λ l f. absurd (row-only m line l f no-tab);
      heading = λ l f. e;
      end = λ l f. e;
    })

    next_told : m < length cs → Told here (section_line (suc m)) (close_section m r)
    unfolding close_section enter
    next_told l =
        let x = next_heading cs m r.lines l in
        let no-tab = section_no_tab (suc m) (section_line (suc m)) (same_refl (section_line (suc m))) in
        by_test here (section_line (suc m)) (eqb r.lines (get_or cs (m - 1) 0)) (goes (enter (cond (ltb m (length cs)) (Section (suc m)) Ended) r)) (refused_by section_count)
        (λ t. rw (lt-ltb m (length cs) l) (x, closed (section_line (suc m)) (in_section cs (suc m) 0) x no-tab (eqb-true _ _ t), same_rows (section_line (suc m)) no-tab (Section (suc m)) cs 0 tt))
        (λ t. heading_count cs m r.lines l (eqb-false _ _ t))

    last_told : length cs ≤ m → Told here end_line (close_section m r)
    unfolding close_section enter
    last_told l =
        let x = end_line_lem cs m r.lines l in
        let no-tab = end-no_tab end_line (same_refl end_line) in
        by_test here end_line (eqb r.lines (get_or cs (m - 1) 0)) (goes (enter (cond (ltb m (length cs)) (Section (suc m)) Ended) r)) (refused_by section_count)
        (λ t. rw (le-ltb m (length cs) l) (x, closed end_line at-end x no-tab (eqb-true _ _ t), same_rows end_line no-tab Ended cs 0 tt))
        (λ t. end-count cs m r.lines l (eqb-false _ _ t))

    -- ---- a row
    module _ (stage : r.stage ≡ Section m) (line : List ℕ) (l : Listed) (is : read_row m line ≡ Some l) where
      leads : Leads here line (position_at r.stage cs (suc r.lines))
      leads = rw stage (row_of_lem cs m r.lines line l is)

      -- what nothing meets, and what is held then
      passes : ((m ≡ 1 → ⊥) → (u : List ℕ) → Memᴰ u l.texts → HasLine ls u) → row_fits room r ≡ true
          → (m ≡ 1 → (u : List ℕ) → Memᴰ u l.texts → 64 * suc (number_by (row_lines (ls ++ (line ∷ []))) u) ≤ size) → (n : ℕ) → LineMeets room size ls here line n → ⊥
      unfolding row_fits
      passes listed fits texts n y =
          let tab = row-has_tab m line l is in
          none-meets room size ls here line n y (record {
            behind = position_at r.stage cs (suc r.lines);
            leads = leads;
            listed = λ l' e o u i. listed o u (subst (λ (s : Listed). Memᴰ u s.texts) (some_same (sym e ∙ is)) i);
            row_fits = λ l' e. let f = leb-true (8 * suc (length r.rows)) room fits in let c = row_count_lem room size r (row_lines ls) h in omega arith;
            text-fits = λ l' e o u i. texts o u (subst (λ (s : Listed). Memᴰ u s.texts) (some_same (sym e ∙ is)) i);
            heading = λ a e. absurd (row-only m line l is (section_no_tab (suc m) line (ap (λ (i : List ℕ). same_words i (section_line (suc m))) e ∙ same_refl (section_line (suc m)))));
            end = λ a e. absurd (row-only m line l is (end-no_tab line (ap (λ (i : List ℕ). same_words i end_line) e ∙ same_refl end_line)));
          })

      too_many : row_fits room r ≡ false → room < 8 * suc (length (row_lines ls))
      unfolding row_fits
      too_many e = let f = leb-false (8 * suc (length r.rows)) room e in let c = row_count_lem room size r (row_lines ls) h in omega arith

      more_rows : row_lines ls ++ (line ∷ []) ≡ row_lines (ls ++ (line ∷ []))
      more_rows = sym (row_more ls line (row-has_tab m line l is))

      -- ---- of the one-word section
      word_told : m ≡ 1 → Told here line (word_step room size r l (only_text l) (only_number r l))
      unfolding word_step add_row record_fits
      word_told one =
          by_test here line (row_fits room r && record_fits size k) (goes (add_row r (row_of (k ∷ []) l.p l.b) (texts_with r l))) (refused_by short_slice)
          (λ t.
          let f = and_left (row_fits room r) (record_fits size k) t in
          let g = and_right (row_fits room r) (record_fits size k) t in (
            leads,
            passes (λ n. absurd (n one)) f (λ o u i. text-fits g u i),
            subst (Holds room size (add_row r (row_of (k ∷ []) l.p l.b) (texts_with r l))) more_rows (word_held room size r (row_lines ls) h line m l is one f g),
          ))
          (λ t. refused (row_fits room r) refl (record_fits size k) refl t)
        where
          k : ℕ
          k = only_number r l

          number : number_by (row_lines (ls ++ (line ∷ []))) (only_text l) ≡ k
          number = ap (λ (rows : List (List ℕ)). number_by rows (only_text l)) (sym more_rows) ∙ word_number room size r (row_lines ls) h line m l is one

          text-fits : record_fits size k ≡ true → (u : List ℕ) → Memᴰ u l.texts → 64 * suc (number_by (row_lines (ls ++ (line ∷ []))) u) ≤ size
          text-fits e u i = let f = leb-true (64 * suc k) size e in rw (only-text room size r (row_lines ls) h line m l is one u i, number) f

          refused : (a : Bool) → row_fits room r ≡ a → (b : Bool) → record_fits size k ≡ b → (a && b) ≡ false → LineMeets room size ls here line short_slice
          refused false e b f t = row-no-longer-fits cs m r.lines line l is (λ n. absurd (n one)) (too_many e)
          refused true e true f t = absurd (true≢false t)
          refused true e false f t =
              subst (λ (i : ℕ). LineMeets room size ls (in_section cs i r.lines) line short_slice) (sym one)
              (text-no-longer-fits cs r.lines line l (rw one at is) (only_text l) (word_there room size r (row_lines ls) h line m l is one) (let g = leb-false (64 * suc k) size f in rw number g))

      -- ---- of a longer section
      longer_told : (m ≡ 1 → ⊥) → Told here line (longer_step room r l (map (number_met r.texts) l.texts))
      unfolding longer_step add_row
      longer_told more =
          by_test here line (some_missing numbers) (refused_by unlisted_text) (cond (row_fits room r) (goes (add_row r (row_of numbers l.p l.b) r.texts)) (refused_by short_slice))
          (λ t.
          let u = missing_text (number_met r.texts) l.texts t in
          no-word_line cs m r.lines line l is more u.0 u.1
          (λ i. let y = h.met u.0 i in let z = known-met r.texts h.texts u.0 y.0 y.1 in let w = u.2 in omega arith))
          (λ t.
          let listed = all_listed room size r (row_lines ls) h line m l is more t in
          by_test here line (row_fits room r) (goes (add_row r (row_of numbers l.p l.b) r.texts)) (refused_by short_slice)
          (λ f. (
            leads,
            passes (λ n. listed) f (λ o. absurd (more o)),
            subst (Holds room size (add_row r (row_of numbers l.p l.b) r.texts)) more_rows (longer-held room size r (row_lines ls) h line m l is more t f),
          ))
          (λ f. row-no-longer-fits cs m r.lines line l is (λ n. listed) (too_many f)))
        where
          numbers : List ℕ
          numbers = map (number_met r.texts) l.texts

    row_told : r.stage ≡ Section m → (c : ℕ) (line : List ℕ) → closes m (length cs) (c ∷ line) ≡ false → (o : Option Listed) → read_row m (c ∷ line) ≡ o → Told here (c ∷ line) (row_step room size m r o)
    unfolding row_step
    row_told stage c line other None e =
        not-in_form here (c ∷ line)
        (λ q x.
        ⊎_elim (λ z. cons≢nil z)
        (λ y. ⊎_elim (λ z. let f : None ≡ Some z.0 = sym e ∙ z.1 in let w : ◌≡◌ {A = ℕ} 0 1 = cc in omega arith) (λ z. true≢false (sym (closes_shown (c ∷ line) z) ∙ other)) y)
        (may_stand here (c ∷ line) q x))
    row_told stage c line other (Some l) e =
        by_test here (c ∷ line) (eqb m 1)
        (word_step room size r l (only_text l) (only_number r l))
        (longer_step room r l (map (number_met r.texts) l.texts))
        (λ t. word_told stage (c ∷ line) l e (eqb-true m 1 t))
        (λ t. longer_told stage (c ∷ line) l e (eqb-false m 1 t))

    section_told : r.stage ≡ Section m → (c : ℕ) (line : List ℕ) → Told here (c ∷ line) (section_step room size m r (c ∷ line))
    unfolding section_step
    section_told stage c line =
        by_test here (c ∷ line) (closes m (length cs) (c ∷ line)) (close_section m r) (row_step room size m r (read_row m (c ∷ line)))
        (λ t.
        ⊎_elim
        (λ z. subst (λ (i : List ℕ). Told here i (close_section m r)) (sym z.1) (next_told z.0))
        (λ z. subst (λ (i : List ℕ). Told here i (close_section m r)) (sym z.1) (last_told z.0))
        (closes_told (c ∷ line) t))
        (λ t. row_told stage c line t (read_row m (c ∷ line)) refl)

  -- ---- any line

  stage_told : (stage : Stage) → r.stage ≡ stage → Fresh stage cs → (c : ℕ) (line : List ℕ) → Told (position_at stage cs r.lines) (c ∷ line) (stage_step room size stage r (c ∷ line))
  stage_told Start e f c line = start_told f c line
  stage_told Counts e f c line = data_told c line
  stage_told (Section m) e f c line = section_told m e c line
  stage_told Ended e f c line = not-in_form at-end (c ∷ line) (λ q x. cons≢nil (may_stand at-end (c ∷ line) q x))

  empty-passed : (q : Position) → Passed room size ls q []
  empty-passed at-start = (at-start, skipped at-start)
  empty-passed (in_counts ns) = (in_counts ns, skipped (in_counts ns))
  empty-passed (in_section ns m k) = record {
    behind = in_section ns m k;
    leads = skipped (in_section ns m k);
    listed = λ l e. absurd (row-only m [] l e empty-no_tab);
    row_fits = λ l e. absurd (row-only m [] l e empty-no_tab);
    text-fits = λ l e. absurd (row-only m [] l e empty-no_tab);
    heading = λ a e. absurd (cons≢nil (sym e));
    end = λ a e. absurd (cons≢nil (sym e));
  }
  empty-passed at-end = (at-end, skipped at-end)

  line_told : (line : List ℕ) → Told (position_of r) line (line_step room size r line)
  unfolding line_step
  line_told [] = (
    skipped (position_of r),
    λ n m. none-meets room size ls (position_of r) [] n m (empty-passed (position_of r)),
    same_rows [] empty-no_tab r.stage cs r.lines h.fresh,
  )
  line_told (c ∷ line) = stage_told r.stage refl h.fresh c line

-- ---- all lines

-- what stands behind the last LF is no row
rows_in-lines : (pieces : List (List ℕ)) → (pieces ≡ [] → ⊥) → last_in pieces ≡ [] → row_lines (lines_in pieces) ≡ row_lines pieces
unfolding lines_in last_in row_lines
rows_in-lines [] n e = absurd (n refl)
rows_in-lines (piece ∷ []) n e = sym (other_line piece [] (subst NoTab (sym e) empty-no_tab))
rows_in-lines (line ∷ next ∷ pieces) n e = go (ltb (before 9 line) (length line)) (rows_in-lines (next ∷ pieces) (λ z. cons≢nil z) e)
  where
    go : (t : Bool) → row_lines (lines_in (next ∷ pieces)) ≡ row_lines (next ∷ pieces)
        → cond t (line ∷ row_lines (lines_in (next ∷ pieces))) (row_lines (lines_in (next ∷ pieces))) ≡ cond t (line ∷ row_lines (next ∷ pieces)) (row_lines (next ∷ pieces))
    go true i = ap (λ (rows : List (List ℕ)). line ∷ rows) i
    go false i = i

module _ (filling : Bool) (room size : ℕ) (text : List ℕ) where
  abbrev pub LinesTold : Lines → Type 0
  LinesTold (done r) = AllRead room size text × Holds room size r (row_lines (parts 10 text))
  LinesTold (stopped number place) = ReadRefusedBy filling room size text number place

  piece_told : (ls : List (List ℕ)) (r : Reading) → ReadTo room size ls (position_of r) → Holds room size r (row_lines ls) → (piece : List ℕ) → lines_in (parts 10 text) ≡ ls → last_in (parts 10 text) ≡ piece
      → LinesTold (last_piece r.stage r (suc (length ls)) piece)
  piece_told ls r to h piece e f = rw (← e) (go r.stage refl piece f)
    where
      read : ReadTo room size (lines_in (parts 10 text)) (position_of r)
      read = rw e to

      go : (stage : Stage) → r.stage ≡ stage → (piece : List ℕ) → last_in (parts 10 text) ≡ piece → LinesTold (last_piece stage r (suc (length (lines_in (parts 10 text)))) piece)
      go Start g piece f = no-end_line at-start (rw g at read) (λ z. let y : ◌≡◌ {A = ℕ} 0 1 = cc in omega arith)
      go Counts g piece f = no-end_line (in_counts r.announced) (rw g at read) (λ z. let y : ◌≡◌ {A = ℕ} 0 1 = cc in omega arith)
      go (Section m) g piece f = no-end_line (in_section r.announced m r.lines) (rw g at read) (λ z. let y : ◌≡◌ {A = ℕ} 0 1 = cc in omega arith)
      go Ended g [] f = (record { lines = rw g at read; last = f }, subst (Holds room size r) (ap row_lines (sym e) ∙ rows_in-lines (parts 10 text) (parts-some 10 text) f) h)
      go Ended g (c ∷ piece) f = no-line_end at-end (rw g at read) (λ z. cons≢nil (sym f ∙ z))

  lines_told : (ls : List (List ℕ)) (r : Reading) → ReadTo room size ls (position_of r) → Holds room size r (row_lines ls) → (piece : List ℕ) (pieces : List (List ℕ)) → lines_in (parts 10 text) ≡ ls ++ lines_in (piece ∷ pieces)
      → last_in (parts 10 text) ≡ last_in (piece ∷ pieces) → LinesTold (read_lines room size r (suc (length ls)) (piece ∷ pieces))
  unfolding read_lines lines_in last_in
  lines_told ls r to h piece [] e f = piece_told ls r to h piece (e ∙ append-nil ls) f
  lines_told ls r to h line (next ∷ pieces) e f =
      go (line_step room size r line) (line_told room size ls r h line)
      (λ s x n i. lines_told (ls ++ (line ∷ [])) s (one_more ls line (position_of r) (position_of s) to n x) i next pieces (e ∙ sym (append_assoc ls (line ∷ []) (lines_in (next ∷ pieces)))) f)
    where
      go : (st : Step) → Told room size ls r h (position_of r) line st
          → ((s : Reading) → Leads (position_of r) line (position_of s) → ((n : ℕ) → LineMeets room size ls (position_of r) line n → ⊥) → Holds room size s (row_lines (ls ++ (line ∷ []))) → LinesTold (read_lines room size s (suc (length (ls ++ (line ∷ [])))) (next ∷ pieces)))
          → LinesTold (onward (λ (s : Reading). read_lines room size s (suc (suc (length ls))) (next ∷ pieces)) (suc (length ls)) st)
      go (goes s) t rest = let z : length (ls ++ (line ∷ [])) ≡ suc (length ls) = length-append ls (line ∷ []) ∙ add-one (length ls) in rw z at (rest s t.0 t.1 t.2)
      go (refused_by n) t rest = at_line ls line (lines_in (next ∷ pieces)) e (position_of r) to n t

  pub all_told : LinesTold (read_lines room size unread 1 (parts 10 text))
  unfolding row_lines
  all_told = go (parts 10 text) refl (parts-some 10 text)
    where
      go : (pieces : List (List ℕ)) → parts 10 text ≡ pieces → (pieces ≡ [] → ⊥) → LinesTold (read_lines room size unread 1 pieces)
      go [] e n = absurd (n refl)
      go (piece ∷ pieces) e n = lines_told [] unread no_lines (holds-begun room size) piece pieces (ap lines_in e) (ap last_in e)
