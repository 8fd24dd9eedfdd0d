-- Laws of the progress that holds a reading: from stage to stage. Assumes nothing.
use Rattle.std.specs.declared.result.Result.TheVariants.{Ok}
use mathlib.Core.Path.{◌≡◌, refl, sym, ap, subst, ◌∙◌}
use mathlib.Core.Logic.{⊎_elim}
use mathlib.Core.Bool.{true, false, cond}
use mathlib.Core.List.{List, [], ◌∷◌}
use Prim.Native.Nat.{ℕ, zero, suc, ◌+◌, ◌*◌, ◌-◌, ◌/◌, ◌<◌, ◌≤◌, min, max}
use native.Mathlib.Omega.{arith}
use lib.Dec.{leb, ltb, lit≤}
use lib.IntN.{ℤ, pos}
use lib.ListN.{length, get_or, take, set, replicate}
use lib.Seq.{length-take-le, get_or-take}
use borrow.Author.Tests.{eq-eqb, ne_eqb, lt-ltb, le-ltb, le-leb, lt-leb}
use Rattle.integer.proofs.Arithmetic.{and_no}
use Rattle.integer.proofs.Parts.{no_items}
use Rattle.integer.proofs.Ranges.{lt_or_ge}
use Rattle.backoff.specs.Limits.{order_limit}
use Rattle.backoff.specs.Refusal.{line_form, section_count}
use Rattle.backoff.specs.Words.{same_words}
use Rattle.rows.specs.Table.{field}
use Rattle.row_order.specs.RowOrder.{joined}
use Rattle.word_index.specs.Index.{Indexed, cleared}
use Rattle.word_index.proofs.Indexes.{indexed_none}
use Rattle.arpa_headings.specs.Headings.{section_line}
use Rattle.arpa_sections.specs.Sections.{Reading, goes, refused_by, enter, first_section, close_section}
use Rattle.arpa_sections.specs.Held.{Held, StageHeld, NoneHeld, FirstHeld, LaterHeld, StepHeld, TableHeld, FreeRow, ones_of, entered, buckets_for}
use Rattle.arpa_sections.specs.declared.Stage.{Stage}
use Rattle.arpa_sections.specs.declared.Stage.TheVariants.{Start, Counts, Section, Ended}
use Rattle.arpa_sections.specs.declared.Progress.{Progress}

-- ---- a table of zeros
get_or-zeros : (n i : ℕ) → get_or (replicate n (pos 0)) i (pos 0) ≡ pos 0
get_or-zeros zero zero = refl
get_or-zeros zero (suc i) = refl
get_or-zeros (suc n) zero = refl
get_or-zeros (suc n) (suc i) = get_or-zeros n i

field-zeros : (t : List ℤ) (i j : ℕ) → t ≡ replicate (length t) (pos 0) → field t i j ≡ pos 0
unfolding field
field-zeros t i j e = ap (λ (l : List ℤ). get_or l (8 * i + j) (pos 0)) e ∙ get_or-zeros (length t) (8 * i + j)

set-zeros : (n i : ℕ) → set (replicate n (pos 0)) i (pos 0) ≡ replicate n (pos 0)
set-zeros zero i = refl
set-zeros (suc n) zero = refl
set-zeros (suc n) (suc i) = ap (λ (l : List ℤ). pos 0 ∷ l) (set-zeros n i)

cleared-zeros : (n k : ℕ) → cleared (replicate n (pos 0)) k ≡ replicate n (pos 0)
unfolding cleared
cleared-zeros n zero = refl
cleared-zeros n (suc k) = rw (cleared-zeros n k, set-zeros n (8 * k + 2), set-zeros n (8 * k + 3))

zeros_indexed : (t : List ℤ) (s : List ℕ) (b n : ℕ) → t ≡ replicate (length t) (pos 0) → 1 ≤ b → b ≤ n → 8 * n ≤ length t → 256 ≤ length s → Indexed t s b 4
zeros_indexed t s b n e some l r m = subst (λ (u : List ℤ). Indexed u s b 4) (ap (λ (u : List ℤ). cleared u n) e ∙ cleared-zeros (length t) n ∙ sym e) (indexed_none t s b n some l r m)

-- no row is held by a table of zeros
none-held : (t : List ℤ) (rows : List (List ℤ)) (taken : ℕ) → rows ≡ [] → t ≡ replicate (length t) (pos 0) → TableHeld t rows taken
unfolding joined field
none-held t rows taken e z = record { same = λ i j l m. field-zeros t i j z ∙ ap (λ (r : List (List ℤ)). field (joined r) i j) (sym e) }

no-row-free : (rows : List (List ℤ)) (i : ℕ) → rows ≡ [] → FreeRow rows i
unfolding joined field
no-row-free rows i e = (ap (λ (r : List (List ℤ)). field (joined r) i 2) e, ap (λ (r : List (List ℤ)). field (joined r) i 3) e)

-- ---- from stage to stage
module _ (room size : ℕ) (t : List ℤ) (s : List ℕ) (p : Progress) (a : Reading) (h : Held room size t s p a) where
  pub announced-length : length a.announced ≡ p.order
  announced-length =
      let l = h.order in
      let e = h.counts-long in
      ap length (sym h.announced) ∙ length-take-le p.order p.counts (omega arith)

  pub announced-at : (k : ℕ) → k < p.order → get_or a.announced k 0 ≡ get_or p.counts k 0
  announced-at k l = ap (λ (l : List ℕ). get_or l k 0) (sym h.announced) ∙ get_or-take p.order p.counts k 0 l

  pub held_at : (stage : Stage) → p.stage ≡ stage → StageHeld stage t s p a
  held_at stage e = subst (λ (x : Stage). StageHeld x t s p a) (sym h.stage ∙ e) h.at_stage

  -- with these counts and at this stage, of whose section no line is read yet
  abbrev resumes : Stage → List ℕ → ℕ → ℕ → Progress
  resumes stage counts order b = record { stage = stage; counts = counts; order = order; lines = 0; rows = p.rows; words = p.words; buckets = b }

  abbrev read_so : Stage → List ℕ → Reading
  read_so stage announced = record { stage = stage; announced = announced; lines = 0; rows = a.rows; texts = a.texts }

  pub held_resumes : (now stage : Stage) → now ≡ stage → (counts : List ℕ) (order b : ℕ) (announced : List ℕ) → order ≤ order_limit → length counts ≡ order_limit → take order counts ≡ announced
      → StageHeld stage t s (resumes now counts order b) (read_so stage announced) → Held room size t s (resumes now counts order b) (read_so stage announced)
  held_resumes now stage e counts order b announced few long same d = record {
    table-long = h.table-long;
    store_long = h.store_long;
    stage = e;
    order = few;
    counts-long = long;
    announced = same;
    lines = refl;
    rows = h.rows;
    row_room = h.row_room;
    lines_rows = omega arith;
    words = h.words;
    word_room = h.word_room;
    reserved-room = h.reserved-room;
    texts = h.texts;
    store = h.store;
    sound = h.sound;
    at_stage = d;
  }

  -- the same progress at the start of another stage
  abbrev pub begins : Stage → ℕ → Progress
  begins stage b = resumes stage p.counts p.order b

  held_begins : (stage : Stage) (b : ℕ) → StageHeld stage t s (begins stage b) (enter stage a) → Held room size t s (begins stage b) (enter stage a)
  unfolding enter
  held_begins stage b = held_resumes stage stage refl p.counts p.order b a.announced h.order h.counts-long h.announced

  -- ---- the heading of the one-word section
  pub first_unannounced : (line : List ℕ) → p.order ≡ 0 → first_section a line ≡ refused_by line_form
  unfolding first_section
  first_unannounced line z = rw (lt-leb 1 (length a.announced) (let e = announced-length in omega arith))

  pub first-other : (line : List ℕ) → same_words line (section_line 1) ≡ false → first_section a line ≡ refused_by line_form
  unfolding first_section
  first-other line e = rw (and_no (leb 1 (length a.announced)) (same_words line (section_line 1)) e)

  first-held : (n : NoneHeld t a) → 1 ≤ p.order → FirstHeld t s (begins (Section 1) (buckets_for (get_or p.counts 0 0) (room / 8))) (enter (Section 1) a)
  unfolding enter buckets_for
  first-held n some =
      let e = h.rows ∙ ap length n.rows in
      let w = h.words ∙ ap (λ (l : List (List ℕ)). suc (length l)) n.texts in
      let f = announced-at 0 some in
      let long = h.table-long in
      record {
        lines = e;
        words = omega arith;
        some = omega arith;
        untouched = λ z. n.table;
        index = λ x y z. subst (λ (k : ℕ). Indexed t s (max 1 (min (get_or p.counts 0 0) (room / 8))) k) (sym w) (zeros_indexed t s (max 1 (min (get_or p.counts 0 0) (room / 8))) (room / 8) n.table (omega arith) (omega arith) (omega arith) y);
        buckets = omega arith;
        table = λ z. none-held t a.rows (max p.rows (max 1 (min (get_or p.counts 0 0) (room / 8)))) n.rows n.table;
        free = λ i. no-row-free a.rows i n.rows;
      }

  pub first-entered : (line : List ℕ) → p.stage ≡ Counts → (p.order ≡ 0 → ⊥) → same_words line (section_line 1) ≡ true → (r : Progress) → r ≡ begins (Section 1) (buckets_for (get_or p.counts 0 0) (room / 8)) → StepHeld room size t s (first_section a line) (Ok r)
  unfolding first_section
  first-entered line st some e r f =
      let l = announced-length in
      let m : 1 ≤ p.order = omega arith in
      rw (le-leb 1 (length a.announced) (omega arith), e, f) (held_begins (Section 1) (buckets_for (get_or p.counts 0 0) (room / 8)) (lit≤ tt, m, λ z. first-held (held_at Counts st) m, λ z. absurd (omega arith)))

  -- ---- the end of a section
  module _ (m : ℕ) (low : 1 ≤ m) (st : p.stage ≡ Section m) where
    in_section : (1 ≤ m) × (m ≤ p.order) × (m ≡ 1 → FirstHeld t s p a) × (2 ≤ m → LaterHeld t s p a)
    in_section = held_at (Section m) st

    count-is : get_or a.announced (m - 1) 0 ≡ get_or p.counts (m - 1) 0
    count-is = let l = in_section.1 in announced-at (m - 1) (omega arith)

    pub close_refused : (p.lines ≡ get_or p.counts (m - 1) 0 → ⊥) → close_section m a ≡ refused_by section_count
    unfolding close_section
    close_refused n = rw (ne_eqb a.lines (get_or a.announced (m - 1) 0) (λ e. n (h.lines ∙ e ∙ count-is)))

    module _ (same : p.lines ≡ get_or p.counts (m - 1) 0) where
      close_step : close_section m a ≡ goes (enter (cond (ltb m p.order) (Section (suc m)) Ended) a)
      unfolding close_section
      close_step = rw (eq-eqb a.lines (get_or a.announced (m - 1) 0) (sym h.lines ∙ same ∙ sym count-is), announced-length)

      of_first : FirstHeld t s p a → m ≡ 1 → LaterHeld t s p a
      of_first f e =
          let z : m - 1 ≡ 0 = omega arith in
          let ones : ones_of a ≡ p.lines = sym (same ∙ sym count-is ∙ ap (λ (k : ℕ). get_or a.announced k 0) z) in
          let rows = f.lines in
          let words = f.words in
          let buckets = f.buckets in
          let long = h.table-long in
          let size_is = h.store_long in
          let room-rows = h.row_room in
          record {
            ones = omega arith;
            words = omega arith;
            index = λ x y. let w = h.word_room x in f.index (omega arith) (omega arith) y;
            buckets = λ x. omega arith;
            table = λ x.
                ⊎_elim
                (λ k. let e : max p.rows p.buckets ≡ ones_of a = omega arith in subst (λ (n : ℕ). TableHeld t a.rows n) e (f.table x))
                (λ k. let z : p.rows ≡ 0 = omega arith in none-held t a.rows (ones_of a) (no_items a.rows (sym h.rows ∙ z)) (f.untouched z))
                (lt_or_ge 0 p.rows);
            free = λ i x. f.free i;
          }

      later : LaterHeld t s p a
      later =
          let i = in_section in
          ⊎_elim (λ (k : 1 < m). i.3 k) (λ (k : m ≤ 1). let e : m ≡ 1 = omega arith in of_first (i.2 e) e) (lt_or_ge 1 m)

      later_begins : (stage : Stage) → LaterHeld t s (begins stage p.buckets) (enter stage a)
      unfolding enter
      later_begins stage = let l = later in record { ones = l.ones; words = l.words; index = l.index; buckets = l.buckets; table = l.table; free = l.free }

      pub close_next : m < p.order → (r : Progress) → r ≡ entered p (Section (m + 1)) → StepHeld room size t s (close_section m a) (Ok r)
      close_next l r f =
          let e : suc m ≡ m + 1 = omega arith in
          rw (close_step, lt-ltb m p.order l, f, e) (held_begins (Section (m + 1)) p.buckets (omega arith, omega arith, λ z. absurd (omega arith), λ z. later_begins (Section (m + 1))))

      pub close_last : p.order ≤ m → (r : Progress) → r ≡ entered p Ended → StepHeld room size t s (close_section m a) (Ok r)
      close_last l r f =
          let i = in_section.1 in
          rw (close_step, le-ltb m p.order l, f) (held_begins Ended p.buckets (omega arith, later_begins Ended))

-- ---- the line that begins the data section
pub data_entered : (room size : ℕ) (t : List ℤ) (s : List ℕ) (p : Progress) (a : Reading) (h : Held room size t s p a) → p.stage ≡ Start → (r : Progress) → r ≡ entered p Counts → StepHeld room size t s (goes (enter Counts a)) (Ok r)
unfolding enter
data_entered room size t s p a h st r f =
    let n : NoneHeld t a = held_at room size t s p a h Start st in
    rw f (held_begins room size t s p a h Counts p.buckets (record { rows = n.rows; texts = n.texts; table = n.table }))
