-- Lines come to one position at most; so what refuses a text whose lines are all read are the list checks alone. Assumes nothing.
use Rattle.std.specs.declared.option.Option.{Option}
use Rattle.std.specs.declared.option.Option.TheVariants.{Some, None}
use mathlib.Core.Path.{◌≡◌, refl, sym, ap, ◌∙◌, subst}
use mathlib.Core.Logic.{◌⊎◌, inl, inr, ⊎_elim}
use mathlib.Core.Bool.{Bool, cond}
use mathlib.Core.List.{List, [], ◌∷◌, ◌++◌, head-eq_of_cons-eq, tail-eq_of_cons-eq}
use Prim.Native.Nat.{ℕ, suc, ◌<◌, ◌≤◌}
use native.Mathlib.Omega.{arith}
use lib.Dec.{ltb}
use lib.ListN.{length, length-append}
use borrow.Author.Tests.{lt-ltb, le-ltb}
use Rattle.backoff.proofs.Words.{same_refl}
use Rattle.list.specs.Meaning.{NoneMeets}
use Rattle.text_parts.specs.Parts.{parts, before}
use Rattle.arpa_headings.specs.Headings.{section_line, end_line, read_count}
use Rattle.arpa_text.specs.Lines.{Listed, read_row}
use Rattle.arpa.specs.Meaning.{Position, at-start, in_counts, in_section, at-end, Leads, skipped, data_line_lem, count_line, first_heading, row_of_lem, next_heading, end_line_lem, LineMeets, ReadTo, no_lines, one_more, lines_in, AllRead, list_of, ReadRefusedBy, at_line, no-end_line, no-line_end, bad_list}
use Rattle.arpa.proofs.RowLines.{empty-no_tab, section_no_tab, end-no_tab, row-has_tab}
use Rattle.arpa.proofs.LineByLine.{row-only}

-- ---- where a line leads, if anywhere

abbrev after_count : List ℕ → Option ℕ → Position
after_count cs (Some c) = in_counts (cs ++ (c ∷ []))
after_count cs None = in_section cs 1 0

after : Position → List ℕ → Position
after q [] = q
after at-start (x ∷ line) = in_counts []
after (in_counts cs) (x ∷ line) = after_count cs (read_count (suc (length cs)) (x ∷ line))
after (in_section cs m k) (x ∷ line) = cond (ltb (before 9 (x ∷ line)) (length (x ∷ line))) (in_section cs m (suc k)) (cond (ltb m (length cs)) (in_section cs (suc m) 0) at-end)
after at-end (x ∷ line) = at-end

after-count : (cs line : List ℕ) (c : ℕ) → read_count (suc (length cs)) line ≡ Some c → in_counts (cs ++ (c ∷ [])) ≡ after (in_counts cs) line
unfolding after read_count parts
after-count cs [] c e = absurd (let z : ◌≡◌ {A = ℕ} 0 1 = cc in omega arith)
after-count cs (x ∷ line) c e = ap (after_count cs) (sym e)

after_first : (cs : List ℕ) → in_section cs 1 0 ≡ after (in_counts cs) (section_line 1)
unfolding after read_count parts
after_first cs = refl

after-row : (cs : List ℕ) (m k : ℕ) (line : List ℕ) (l : Listed) → read_row m line ≡ Some l → in_section cs m (suc k) ≡ after (in_section cs m k) line
unfolding after
after-row cs m k [] l e = absurd (row-only m [] l e empty-no_tab)
after-row cs m k (x ∷ line) l e = rw (lt-ltb (before 9 (x ∷ line)) (length (x ∷ line)) (row-has_tab m (x ∷ line) l e)) refl

after_heading : (cs : List ℕ) (m k : ℕ) → m < length cs → in_section cs (suc m) 0 ≡ after (in_section cs m k) (section_line (suc m))
unfolding after
after_heading cs m k l =
    let e = section_no_tab (suc m) (section_line (suc m)) (same_refl (section_line (suc m))) in
    rw (le-ltb (before 9 (section_line (suc m))) (length (section_line (suc m))) (omega arith), lt-ltb m (length cs) l) refl

after-end : (cs : List ℕ) (m k : ℕ) → length cs ≤ m → at-end ≡ after (in_section cs m k) end_line
unfolding after
after-end cs m k l =
    let e = end-no_tab end_line (same_refl end_line) in
    rw (le-ltb (before 9 end_line) (length end_line) (omega arith), le-ltb m (length cs) l) refl

leads-after : (q : Position) (line : List ℕ) (q' : Position) → Leads q line q' → q' ≡ after q line
unfolding after
leads-after _ _ _ (skipped q) = refl
leads-after _ _ _ data_line_lem = refl
leads-after _ _ _ (count_line cs line c l e) = after-count cs line c e
leads-after _ _ _ (first_heading cs l) = after_first cs
leads-after _ _ _ (row_of_lem cs m k line l e) = after-row cs m k line l e
leads-after _ _ _ (next_heading cs m k l) = after_heading cs m k l
leads-after _ _ _ (end_line_lem cs m k l) = after-end cs m k l

-- ---- where lines lead

after_all : Position → List (List ℕ) → Position
after_all q [] = q
after_all q (line ∷ lines) = after_all (after q line) lines

after_more : (q : Position) (lines : List (List ℕ)) (line : List ℕ) → after_all q (lines ++ (line ∷ [])) ≡ after (after_all q lines) line
unfolding after_all
after_more q [] line = refl
after_more q (i ∷ lines) line = after_more (after q i) lines line

module _ (room size : ℕ) where
  read-after : (lines : List (List ℕ)) (q : Position) → ReadTo room size lines q → q ≡ after_all at-start lines
  unfolding after_all
  read-after _ _ no_lines = refl
  read-after _ _ (one_more earlier line q q' to none x) = leads-after q line q' x ∙ ap (λ (p : Position). after p line) (read-after earlier q to) ∙ sym (after_more at-start earlier line)

  one_position : (lines : List (List ℕ)) (p q : Position) → ReadTo room size lines p → ReadTo room size lines q → p ≡ q
  one_position lines p q x y = read-after lines p x ∙ sym (read-after lines q y)

  -- ---- a line among lines that are read

  some_line : (earlier : List (List ℕ)) (line : List ℕ) (later : List (List ℕ)) → [] ≡ earlier ++ (line ∷ later) → ⊥
  some_line earlier line later e = let f = length-append earlier (line ∷ later) in let g : 0 ≡ length (earlier ++ (line ∷ later)) = ap length e in omega arith

  last_or_before : (lines : List (List ℕ)) (x : List ℕ) (earlier : List (List ℕ)) (line : List ℕ) (later : List (List ℕ)) → lines ++ (x ∷ []) ≡ earlier ++ (line ∷ later)
      → ((lines ≡ earlier) × (x ≡ line)) ⊎ ((rest : List (List ℕ)) × (lines ≡ earlier ++ (line ∷ rest)))
  last_or_before [] x [] line later e = inl (refl, head-eq_of_cons-eq e)
  last_or_before [] x (i ∷ earlier) line later e = absurd (some_line earlier line later (tail-eq_of_cons-eq e))
  last_or_before (i ∷ lines) x [] line later e = inr (lines, ap (λ (j : List ℕ). j ∷ lines) (head-eq_of_cons-eq e))
  last_or_before (i ∷ lines) x (j ∷ earlier) line later e =
      let f = head-eq_of_cons-eq e in
      ⊎_elim (λ w. inl (rw (f, w.0) refl, w.1)) (λ w. inr (w.0, rw (f, w.1) refl)) (last_or_before lines x earlier line later (tail-eq_of_cons-eq e))

  read-before : (lines : List (List ℕ)) (q : Position) → ReadTo room size lines q → (earlier : List (List ℕ)) (line : List ℕ) (later : List (List ℕ)) → lines ≡ earlier ++ (line ∷ later)
      → (p : Position) × ReadTo room size earlier p × ((n : ℕ) → LineMeets room size earlier p line n → ⊥)
  read-before _ _ no_lines earlier line later e = absurd (some_line earlier line later e)
  read-before _ _ (one_more lines x q q' to none leads) earlier line later e =
      ⊎_elim
      (λ w. (q, subst (λ (ls : List (List ℕ)). ReadTo room size ls q) w.0 to, λ n m. none n (rw (w.0, w.1) m)))
      (λ w. read-before lines q to earlier line w.0 w.1)
      (last_or_before lines x earlier line later e)

  -- A text of which all lines are read, and whose rows none of 1 and 3 to 9 meets, is refused by nothing.
  pub nothing_refuses : (filling : Bool) (text : List ℕ) → AllRead room size text → NoneMeets filling (list_of text) → (n p : ℕ) → ReadRefusedBy filling room size text n p → ⊥
  nothing_refuses filling text all none _ _ (at_line earlier line later e q to n m) =
      let b = read-before (lines_in (parts 10 text)) at-end all.lines earlier line later e in
      b.2 n (subst (λ (x : Position). LineMeets room size earlier x line n) (one_position earlier q b.0 to b.1) m)
  nothing_refuses filling text all none _ _ (no-end_line q to h) = h (one_position (lines_in (parts 10 text)) q at-end to all.lines)
  nothing_refuses filling text all none _ _ (no-line_end q to h) = h all.last
  nothing_refuses filling text all none _ _ (bad_list a n p not-0 v) = none n p (v.refused not-0)
