-- What every answer means, `read_means`, and of an accepted reading `reads-the-lines`. Assumes nothing.
use Rattle.std.specs.declared.option.Option.{Option}
use mathlib.Core.Path.{◌≡◌, refl, sym, ap, ap₂, ◌∙◌, subst}
use mathlib.Core.Logic.{⊎_elim}
use mathlib.Core.Bool.{Bool, true, false, ◌&&◌}
use mathlib.Core.List.{List, [], ◌∷◌, ◌++◌, map, Memᴰ}
use Prim.Native.Nat.{ℕ, zero, suc, ◌+◌, ◌*◌, ◌-◌, ◌/◌, ◌<◌, ◌≤◌}
use native.Mathlib.Omega.{arith}
use lib.Dec.{lit<}
use lib.IntN.{ℤ, pos}
use lib.ListN.{length, get_or, take, drop, replicate, length-drop, length-replicate}
use lib.Seq.{get_or-drop, take_at}
use Rattle.integer.proofs.Each.{map_equal}
use Rattle.integer.proofs.Ranges.{and_left, and_right, lt_or_ge}
use Rattle.integer.specs.Integer.{or_else}
use Rattle.backoff.specs.Limits.{text_limit, unknown_word, start_word, end_word}
use Rattle.backoff.specs.Model.{AcceptedModel}
use Rattle.backoff.specs.Refusal.{number_of}
use Rattle.backoff.specs.Words.{same_words}
use Rattle.backoff.specs.NineNumbers.{padded}
use Rattle.backoff.proofs.NineNumbers.{length-padded}
use Rattle.backoff.specs.Refusal.{Verdict}
use Rattle.backoff.specs.Refusal.{Accepted, Refused}
use Rattle.rows.specs.Table.{rows_of, words}
use Rattle.row_search.specs.Search.{find_in, is_at}
use Rattle.row_search.proofs.Search.{found-words, is-at}
use Rattle.list.specs.Check.{reserved_listed, verdict_for}
use Rattle.list.specs.ListModel.{model_of}
use Rattle.list.proofs.Check.{checked-reserved, accepted-refused, checked-number}
use Rattle.list.proofs.ListModel.{accepted-model}
use Rattle.list.proofs.Meaning.{refused-verdict}
use Rattle.row_codes.specs.Rows.{row_at}
use Rattle.row_order.specs.RowOrder.{joined, sort_by, row_before}
use Rattle.row_order.proofs.Tags.{alone_words}
use Rattle.word_index.specs.Texts.{text_of, texts_from, search_from, given_by}
use Rattle.text_parts.specs.Parts.{parts}
use Rattle.arpa_text.specs.Lines.{Listed, is_text, all_above}
use Rattle.arpa_words.specs.Words.{unknown_text, start_text, end_text, reserved_number, number_met, records_of, store_with}
use Rattle.arpa_words.proofs.Searches.{search_told, texts_are}
use Rattle.arpa_words.proofs.Words.{text-some, text-short, reserved-same, placed_at}
use Rattle.arpa_words.proofs.Stores.{zeroed-length, record_text_there}
use Rattle.arpa_sections.specs.Sections.{Reading, unread, row_of}
use Rattle.arpa_lines.specs.Reading.{Lines, done, stopped, read_lines}
use Rattle.arpa_lines.proofs.JoinedRows.{Eights, row-eight, joined_length}
use Rattle.arpa_reading.specs.Outcome.{read_number, read_place, row_count, ordered, Outcome, refused_outcome, judged, lines_outcome}
use Rattle.arpa_reading.proofs.RowsHeld.{padded-zeros, order-length}
use Rattle.arpa_reading.specs.Rows.{Rows, Read}
use Rattle.arpa.specs.Outcome.{read_arpa, Leaves}
use Rattle.arpa.specs.Meaning.{row_lines, texts_in, line_texts, row_with, line_row, word_texts, new_texts, number_stored, EachItsOwn, ReadsTheLines, number_by, AllRead, list_of, ReadRefusedBy, bad_list, ReadMeans}
use Rattle.arpa.proofs.RowLines.{row-same-numbers}
use Rattle.arpa.proofs.NewTexts.{number_in, Known, search-more, known-is-number, known-number}
use Rattle.arpa.proofs.LineRows.{number_by_lem, Holds, row_count_lem}
use Rattle.arpa.proofs.LineByLine.{refused-some, LinesTold, all_told}
use Rattle.arpa.proofs.OrderedRows.{order-joined, sorted_row, one-word-row}

-- ---- numbers from 4 on
searched_number : (text : List ℕ) (news : List (List ℕ)) (k : ℕ) → k < 3 → given_by (search_from text 4 news) 0 ≡ suc k → ⊥
searched_number text news k l e =
    ⊎_elim
    (λ w. let f : given_by (search_from text 4 news) 0 ≡ 0 = ap (λ (x : Option ℕ). given_by x 0) w.0 in omega arith)
    (λ w. let f : given_by (search_from text 4 news) 0 ≡ 4 + w.0 = ap (λ (x : Option ℕ). given_by x 0) w.1.found in omega arith)
    (search_told text 4 news)

reserved-number : (text : List ℕ) (news : List (List ℕ)) (k : ℕ) → k < 3 → number_in news text ≡ suc k → reserved_number text ≡ suc k
unfolding number_in
reserved-number text news k l e = go (reserved_number text) e
  where
    go : (r : ℕ) → or_else r (given_by (search_from text 4 news) 0) ≡ suc k → r ≡ suc k
    go zero f = absurd (searched_number text news k l f)
    go (suc r) f = f

-- a list of one number is that of one text
one_number : (f : List ℕ → ℕ) (us : List (List ℕ)) (k : ℕ) → map f us ≡ k ∷ [] → (u : List ℕ) × Memᴰ u us × (f u ≡ k)
one_number f [] k e = absurd (let z : ◌≡◌ {A = ℕ} 0 1 = cc in omega arith)
one_number f (u ∷ us) k e = (u, mathlib.Core.List.Memᴰ.head refl, cc)

pub first_three : (us : List (List ℕ)) → 3 ≤ length us → us ≡ get_or us 0 [] ∷ get_or us 1 [] ∷ get_or us 2 [] ∷ drop 3 us
first_three [] l = absurd (omega arith)
first_three (a ∷ []) l = absurd (omega arith)
first_three (a ∷ b ∷ []) l = absurd (omega arith)
first_three (a ∷ b ∷ c ∷ us) l = refl

texts_split : (s : List ℕ) (k a b : ℕ) → texts_from s k (a + b) ≡ texts_from s k a ++ texts_from s (k + a) b
unfolding texts_from
texts_split s k zero b = let e : 0 + b ≡ b = omega arith in let f : k + 0 ≡ k = omega arith in rw (e, f) refl
texts_split s k (suc a) b =
    let e : suc a + b ≡ suc (a + b) = omega arith in
    let f : k + suc a ≡ suc k + a = omega arith in
    rw (e, f) (ap (λ (us : List (List ℕ)). text_of s k ∷ us) (texts_split s (suc k) a b))

-- ---- the rows of a reading
module _ (room size : ℕ) (r : Reading) (lines : List (List ℕ)) (held : Holds room size r lines) where
  line_eight : (number : List ℕ → ℕ) (line : List ℕ) → Memᴰ line lines → length (line_row number line) ≡ 8
  unfolding line_row
  line_eight number line m =
      let s = held.said line m in
      ap (λ (o : _). length (row_with number o)) s.1 ∙ row-eight (map number s.0.texts) s.0.p s.0.b

  eights : Eights r.rows
  eights row m =
      let x = mathlib.Core.List.Memᴰ.of_map (line_row (number_in (drop 3 r.texts))) lines (subst (λ (rows : List (List ℤ)). Memᴰ row rows) held.rows m) in
      ap length (sym x.2) ∙ line_eight (number_in (drop 3 r.texts)) x.0 x.1

  ordered-is : ordered r ≡ joined (sort_by row_before r.rows)
  unfolding ordered
  ordered-is = order-joined r.rows eights

  ordered-long : length (ordered r) ≡ 8 * length r.rows
  unfolding ordered
  ordered-long = order-length (joined r.rows) (length r.rows) (joined_length r.rows eights)

  -- by the numbers that the lines give
  ordered_by : ordered r ≡ joined (sort_by row_before (map (line_row (number_by lines)) lines))
  ordered_by =
      ordered-is
      ∙ ap (λ (rows : List (List ℤ)). joined (sort_by row_before rows))
      (held.rows ∙ map_equal (line_row (number_in (drop 3 r.texts))) (line_row (number_by lines)) lines
      (λ line m. row-same-numbers (number_in (drop 3 r.texts)) (number_by lines) line (λ u n. ap (λ (ns : List (List ℕ)). number_in ns u) held.news ∙ sym (number_by_lem lines u))))

-- ---- an accepted reading
module _ (room size : ℕ) (r : Reading) (lines : List (List ℕ)) (held : Holds room size r lines) (filling : Bool) (accepted : verdict_for filling (ordered r) ≡ Accepted) where
  abbrev news : List (List ℕ)
  news = new_texts [] (word_texts lines)

  abbrev table : List ℤ
  table = padded room (ordered r)

  abbrev store : List ℕ
  store = store_with size r.texts

  -- ---- rows
  table-front : take (8 * length r.rows) table ≡ ordered r
  table-front =
      let l = held.row_room in
      let e = ordered-long room size r lines held in
      ap (take (8 * length r.rows)) (padded-zeros room (ordered r) (omega arith)) ∙ take_at (ordered r) (replicate (room - length (ordered r)) (pos 0)) (8 * length r.rows) e

  -- ---- the reserved texts are met
  abbrev number : List ℕ → ℕ
  number = number_in (drop 3 r.texts)

  -- the line that a row comes from, and what it says
  line_of-row : (row : List ℤ) → Memᴰ row r.rows → (line : List ℕ) × Memᴰ line lines × (l : Listed) × (line_texts line ≡ l.texts) × (row_of (map number l.texts) l.p l.b ≡ row)
  unfolding line_texts line_row
  line_of-row row m =
      let x = mathlib.Core.List.Memᴰ.of_map (line_row number) lines (subst (λ (rows : List (List ℤ)). Memᴰ row rows) held.rows m) in
      let s = held.said x.0 x.1 in
      (x.0, x.1, s.0, ap texts_in s.1, ap (row_with number) (sym s.1) ∙ x.2)

  listed-row : (i : ℕ) → i < rows_of (ordered r) → Memᴰ (row_at (ordered r) i) r.rows
  listed-row i l =
      subst (λ (t : List ℤ). Memᴰ (row_at t i) r.rows) (sym (ordered-is room size r lines held)) (sorted_row r.rows (eights room size r lines held) i (subst (λ (t : List ℤ). i < rows_of t) (ordered-is room size r lines held) l))

  -- a line of the reserved word k + 1 has its text
  reserved_line : (k : ℕ) → k < 3 → (line : List ℕ) → Memᴰ line lines → (l : Listed) → line_texts line ≡ l.texts → map number l.texts ≡ suc k ∷ []
      → (u : List ℕ) × (reserved_number u ≡ suc k) × (is_text u ≡ true) × Known r.texts u
  reserved_line k small line m l e f =
      let u = one_number number l.texts (suc k) f in
      let here : Memᴰ u.0 (line_texts line) = subst (λ (us : List (List ℕ)). Memᴰ u.0 us) (sym e) u.1 in
      (u.0, reserved-number u.0 (drop 3 r.texts) k small u.2, held.in_form_lem line m u.0 here, held.known line m u.0 here)

  reserved-row : (k i : ℕ) → k < 3 → i < rows_of (ordered r) → words (ordered r) i ≡ suc k ∷ [] → (u : List ℕ) × (reserved_number u ≡ suc k) × (is_text u ≡ true) × Known r.texts u
  reserved-row k i small l e =
      let x = line_of-row (row_at (ordered r) i) (listed-row i l) in
      reserved_line k small x.0 x.1 x.2 x.3
      (one-word-row (map number x.2.texts) x.2.p x.2.b k (ap (λ (t : List ℤ). words t 0) x.4 ∙ alone_words (ordered r) i ∙ e))

  reserved-known : (k : ℕ) (spelling u : List ℕ) → reserved_number spelling ≡ suc k → reserved_number u ≡ suc k → is_text u ≡ true → Known r.texts u → get_or r.texts k [] ≡ spelling
  reserved-known k spelling u e f g known =
      let place = placed_at r.texts held.texts u g known.0 k known.1 known.2 f in
      ap (λ (j : ℕ). get_or r.texts j []) (sym place) ∙ known.2 ∙ reserved-same u spelling k f e

  reserved-met : (k : ℕ) (spelling : List ℕ) → k < 3 → reserved_number spelling ≡ suc k → is_at (find_in (ordered r) (suc k ∷ [])) ≡ true → get_or r.texts k [] ≡ spelling
  reserved-met k spelling small e at =
      let f = is-at (find_in (ordered r) (suc k ∷ [])) at in
      let g = found-words (ordered r) (suc k ∷ []) f.0 f.1 in
      let u = reserved-row k f.0 small g.0 g.1 in
      reserved-known k spelling u.0 e u.1 u.2 u.3

  both-listed : (is_at (find_in (ordered r) (unknown_word ∷ [])) && is_at (find_in (ordered r) (start_word ∷ []))) ≡ true
  unfolding reserved_listed
  both-listed =
      and_left (is_at (find_in (ordered r) (unknown_word ∷ [])) && is_at (find_in (ordered r) (start_word ∷ []))) (is_at (find_in (ordered r) (end_word ∷ []))) (checked-reserved filling (ordered r) accepted)

  end-listed : is_at (find_in (ordered r) (end_word ∷ [])) ≡ true
  unfolding reserved_listed
  end-listed =
      and_right (is_at (find_in (ordered r) (unknown_word ∷ [])) && is_at (find_in (ordered r) (start_word ∷ []))) (is_at (find_in (ordered r) (end_word ∷ []))) (checked-reserved filling (ordered r) accepted)

  unknown-met : get_or r.texts 0 [] ≡ unknown_text
  unfolding reserved_number same_words
  unknown-met = reserved-met 0 unknown_text (lit< tt) refl (and_left (is_at (find_in (ordered r) (unknown_word ∷ []))) (is_at (find_in (ordered r) (start_word ∷ []))) both-listed)

  start-met : get_or r.texts 1 [] ≡ start_text
  unfolding reserved_number same_words
  start-met = reserved-met 1 start_text (lit< tt) refl (and_right (is_at (find_in (ordered r) (unknown_word ∷ []))) (is_at (find_in (ordered r) (start_word ∷ []))) both-listed)

  end-met : get_or r.texts 2 [] ≡ end_text
  unfolding reserved_number same_words
  end-met = reserved-met 2 end_text (lit< tt) refl end-listed

  texts-met : r.texts ≡ unknown_text ∷ start_text ∷ end_text ∷ news
  texts-met = first_three r.texts held.texts.long ∙ rw (unknown-met, start-met, end-met, held.news) refl

  -- ---- the store's texts
  abbrev records : ℕ
  records = length store / 64 - 1

  store_long : length store ≡ size
  unfolding store_with
  store_long = zeroed-length size (records_of ([] ∷ r.texts))

  met_some : (j : ℕ) → j < length r.texts → (1 ≤ length (get_or r.texts j [])) × (length (get_or r.texts j []) ≤ text_limit)
  met_some j l =
      ⊎_elim
      (λ (m : j < 3). by j m)
      (λ (m : 3 ≤ j). let f = held.texts.in_form_lem j m l in (text-some (get_or r.texts j []) f, text-short (get_or r.texts j []) f))
      (lt_or_ge j 3)
    where
      by : (k : ℕ) → k < 3 → (1 ≤ length (get_or r.texts k [])) × (length (get_or r.texts k []) ≤ text_limit)
      by zero m = rw unknown-met (omega arith)
      by (suc zero) m = rw start-met (omega arith)
      by (suc (suc zero)) m = rw end-met (omega arith)
      by (suc (suc (suc k))) m = absurd (omega arith)

  record_fits_lem : (j : ℕ) → j < length r.texts → 64 * suc j + 64 ≤ size
  record_fits_lem j l =
      let f = (met_some j l).0 in
      let g = held.records j l (λ z. let e : length (get_or r.texts j []) ≡ 0 = ap length z in absurd (omega arith)) in
      omega arith

  text_there : (j : ℕ) → j < length r.texts → text_of store (1 + j) ≡ get_or r.texts j []
  unfolding store_with
  text_there j l =
      let e : 1 + j ≡ suc j = omega arith in
      rw e (record_text_there size ([] ∷ r.texts) (suc j) (record_fits_lem j l) (omega arith) (met_some j l).1)

  all_fit : length r.texts ≤ records
  all_fit =
      let e = store_long in
      let long = held.texts.long in
      let f = record_fits_lem (length r.texts - 1) (omega arith) in
      omega arith

  stored-texts : texts_from store 1 records ≡ r.texts ++ texts_from store (1 + length r.texts) (records - length r.texts)
  stored-texts =
      let f = all_fit in
      let e : records ≡ length r.texts + (records - length r.texts) = omega arith in
      ap (texts_from store 1) e
      ∙ texts_split store 1 (length r.texts) (records - length r.texts)
      ∙ ap (λ (us : List (List ℕ)). us ++ texts_from store (1 + length r.texts) (records - length r.texts)) (texts_are store 1 r.texts text_there)

  stored-number : (u : List ℕ) → is_text u ≡ true → Known r.texts u → number_stored store u ≡ number_in news u
  unfolding number_stored number_met
  stored-number u f k =
      ⊎_elim
      (λ w. absurd (w.1 k.0 k.1 k.2))
      (λ w.
      ap (λ (us : List (List ℕ)). given_by (search_from u 1 us) 0) stored-texts
      ∙ ap (λ (x : Option ℕ). given_by x 0) (search-more u 1 (1 + w.0) r.texts (texts_from store (1 + length r.texts) (records - length r.texts)) w.1.found ∙ sym w.1.found))
      (search_told u 1 r.texts)
      ∙ known-is-number r.texts held.texts u f k
      ∙ ap (λ (ns : List (List ℕ)). number_in ns u) held.news

  -- the text of the word that a number is
  stored-text : (u : List ℕ) → 0 < number_stored store u → get_or (texts_from store 1 records) (number_stored store u - 1) [] ≡ u
  unfolding number_stored number_met
  stored-text u l =
      ⊎_elim
      (λ w. absurd (let f : given_by (search_from u 1 (texts_from store 1 records)) 0 ≡ 0 = ap (λ (x : Option ℕ). given_by x 0) w.0 in omega arith))
      (λ w.
      let f : given_by (search_from u 1 (texts_from store 1 records)) 0 ≡ 1 + w.0 = ap (λ (x : Option ℕ). given_by x 0) w.1.found in
      let g : given_by (search_from u 1 (texts_from store 1 records)) 0 - 1 ≡ w.0 = omega arith in
      ap (λ (j : ℕ). get_or (texts_from store 1 records) j []) g ∙ w.1.same)
      (search_told u 1 (texts_from store 1 records))

  same_text : EachItsOwn store
  same_text u v l m =
      (λ e. sym (stored-text u l) ∙ ap (λ (n : ℕ). get_or (texts_from store 1 records) (n - 1) []) e ∙ stored-text v m, λ e. ap (number_stored store) e)

  -- ---- the numbers
  reserved-stored : (k : ℕ) (spelling : List ℕ) → k < 3 → reserved_number spelling ≡ suc k → is_text spelling ≡ true → get_or r.texts k [] ≡ spelling → number_stored store spelling ≡ suc k
  unfolding number_in
  reserved-stored k spelling small e f met =
      let long = held.texts.long in
      stored-number spelling f (k, omega arith, met) ∙ rw e refl

  new-place : (i : ℕ) → i < length news → (3 + i < length r.texts) × (get_or r.texts (3 + i) [] ≡ get_or news i [])
  new-place i l =
      let e = ap length held.news in
      let f = length-drop 3 r.texts in
      (omega arith, sym (get_or-drop 3 r.texts i []) ∙ ap (λ (us : List (List ℕ)). get_or us i []) held.news)

  new-same : (i j : ℕ) → i < length news → j < length news → get_or news j [] ≡ get_or news i [] → i ≡ j
  new-same i j l m e =
      let p = new-place i l in
      let q = new-place j m in
      let a = p.0 in
      let b = q.0 in
      ⊎_elim
      (λ (x : i < j). absurd (held.texts.distinct (3 + i) (3 + j) (omega arith) (omega arith) q.0 (p.1 ∙ sym e ∙ sym q.1)))
      (λ (x : j ≤ i).
      ⊎_elim
      (λ (y : j < i). absurd (held.texts.distinct (3 + j) (3 + i) (omega arith) (omega arith) p.0 (q.1 ∙ e ∙ sym p.1)))
      (λ (y : i ≤ j). omega arith)
      (lt_or_ge j i))
      (lt_or_ge i j)

  new-stored : (i : ℕ) → i < length news → number_stored store (get_or news i []) ≡ 4 + i
  unfolding number_in
  new-stored i l =
      let p = new-place i l in
      let e : reserved_number (get_or news i []) ≡ 0 = ap reserved_number (sym p.1) ∙ held.texts.other (3 + i) (omega arith) p.0 in
      let f : is_text (get_or news i []) ≡ true = ap is_text (sym p.1) ∙ held.texts.in_form_lem (3 + i) (omega arith) p.0 in
      stored-number (get_or news i []) f (3 + i, p.0, p.1)
      ∙ rw e
      (⊎_elim
      (λ w. absurd (w.1 i l refl))
      (λ w. ap (λ (x : Option ℕ). given_by x 0) w.1.found ∙ ap (λ (j : ℕ). 4 + j) (sym (new-same i w.0 l w.1.inside w.1.same)))
      (search_told (get_or news i []) 4 news))

  -- ---- the rows by the store's numbers
  row-numbers : (line : List ℕ) → Memᴰ line lines → line_row number line ≡ line_row (number_stored store) line
  row-numbers line m =
      row-same-numbers number (number_stored store) line
      (λ u n. sym (stored-number u (held.in_form_lem line m u n) (held.known line m u n) ∙ ap (λ (ns : List (List ℕ)). number_in ns u) (sym held.news)))

  listed-table : table ≡ padded (length table) (joined (sort_by row_before (map (line_row (number_stored store)) lines)))
  listed-table =
      ap₂ padded (sym (length-padded room (ordered r)))
      (ordered-is room size r lines held ∙ ap (λ (rows : List (List ℤ)). joined (sort_by row_before rows)) (held.rows ∙ map_equal (line_row number) (line_row (number_stored store)) lines row-numbers))

  known-stored : (line : List ℕ) → Memᴰ line lines → (u : List ℕ) → Memᴰ u (line_texts line) → 0 < number_stored store u
  known-stored line m u n =
      let f = held.in_form_lem line m u n in
      let k = held.known line m u n in
      let l = known-number r.texts held.texts u f k in
      let e = stored-number u f k ∙ ap (λ (ns : List (List ℕ)). number_in ns u) (sym held.news) in
      omega arith

-- ---- what every answer means
module _ (filling : Bool) (room size : ℕ) (text : List ℕ) where
  accepted_means : (r : Reading) → Holds room size r (row_lines (parts 10 text)) → verdict_for filling (ordered r) ≡ Accepted
      → ReadsTheLines filling text (length r.rows) (padded room (ordered r)) (store_with size r.texts) × (filling ≡ false → AcceptedModel (model_of (take (8 * length r.rows) (padded room (ordered r)))))
  unfolding reserved_number same_words is_text all_above
  accepted_means r held accepted =
      let lines = row_lines (parts 10 text) in
      let front = table-front room size r lines held filling accepted in
      let listed : verdict_for filling (take (8 * length r.rows) (padded room (ordered r))) ≡ Accepted = ap (verdict_for filling) front ∙ accepted in (
        record {
          in_form_lem = held.said;
          count = row_count_lem room size r lines held;
          listed = listed-table room size r lines held filling accepted;
          stored = ap₂ store_with (sym (store_long room size r lines held filling accepted)) (texts-met room size r lines held filling accepted);
          unknown = reserved-stored room size r lines held filling accepted 0 unknown_text (lit< tt) refl refl (unknown-met room size r lines held filling accepted);
          start = reserved-stored room size r lines held filling accepted 1 start_text (lit< tt) refl refl (start-met room size r lines held filling accepted);
          end = reserved-stored room size r lines held filling accepted 2 end_text (lit< tt) refl refl (end-met room size r lines held filling accepted);
          others = new-stored room size r lines held filling accepted;
          same = same_text room size r lines held filling accepted;
          known = known-stored room size r lines held filling accepted;
          accepted = listed;
        },
        λ z. accepted-model (take (8 * length r.rows) (padded room (ordered r))) (rw z at listed),
      )

  abbrev Means : Outcome → Type 0
  Means o = ReadMeans filling text (read_number o.answer) (read_place o.answer) (row_count o.answer) o.table o.store

  refused_means : (number place : ℕ) → ReadRefusedBy filling room size text number place → Means (refused_outcome room size number place)
  unfolding refused_outcome
  refused_means number place by =
      let some = refused-some filling room size text number place by in
      record {
        lines = λ z. absurd (some z);
        model = λ z. absurd (some z);
        all_read = λ z. absurd (some z);
        no_place = λ z. absurd (some z);
        refused = λ z. rw (length-replicate room (pos 0), length-replicate {A = ℕ} size 0) by;
      }

  judged_means : (r : Reading) → Holds room size r (row_lines (parts 10 text)) → AllRead room size text → (v : Verdict) → verdict_for filling (ordered r) ≡ v → Means (judged room size r v)
  unfolding store_with
  judged_means r held all Accepted e =
      let m = accepted_means r held e in
      record {
        lines = λ z. m.0;
        model = λ z. m.1;
        all_read = λ z. rw (length-padded room (ordered r), zeroed-length size (records_of ([] ∷ r.texts))) all;
        no_place = λ z. refl;
        refused = λ z. absurd (z refl);
      }
  judged_means r held all (Refused number place) e =
      let some : number ≡ 0 → ⊥ = λ z. accepted-refused _ _ (sym e ∙ checked-number filling (ordered r) (ap number_of e ∙ z)) in
      let same : ordered r ≡ list_of text = ordered_by room size r (row_lines (parts 10 text)) held ∙ (unfold list_of in refl) in
      refused_means number place (bad_list all number place some (refused-verdict filling (list_of text) number place (ap (verdict_for filling) (sym same) ∙ e)))

  lines_mean : (l : Lines) → LinesTold filling room size text l → Means (lines_outcome filling room size l)
  lines_mean (done r) t = judged_means r t.1 t.0 (verdict_for filling (ordered r)) refl
  lines_mean (stopped number place) t = refused_means number place t

  outcome_means : Means (read_arpa filling room size text)
  unfolding read_arpa
  outcome_means =
      lines_mean (read_lines room size unread 1 (parts 10 text)) (all_told filling room size text)

  -- whatever a call leaves
  pub read_means : (answer : Rows) (table : List ℤ) (store : List ℕ) → Leaves (read_arpa filling room size text) answer table store → ReadMeans filling text (read_number answer) (read_place answer) (row_count answer) table store
  read_means answer table store x = rw (x.answer-is, x.table_is, x.store_is) outcome_means

  pub reads-the-lines : (rows : ℕ) (table : List ℤ) (store : List ℕ) → Leaves (read_arpa filling room size text) (Read rows) table store → ReadsTheLines filling text rows table store
  reads-the-lines rows table store x = (read_means (Read rows) table store x).lines refl
