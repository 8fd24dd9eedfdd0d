-- Laws of the words as the store and the index hold them: their search, and one more text. Assumes nothing.
use Rattle.std.specs.declared.option.Option.{Option}
use Rattle.std.specs.declared.option.Option.TheVariants.{None}
use mathlib.Core.Path.{◌≡◌, refl, sym, ap, ap₂, ◌∙◌}
use mathlib.Core.Logic.{⊎_elim}
use mathlib.Core.Bool.{Bool, true, cond}
use mathlib.Core.List.{List, ◌∷◌, ◌++◌}
use Prim.Native.Nat.{ℕ, zero, suc, ◌+◌, ◌*◌, ◌-◌, ◌<◌, ◌≤◌}
use native.Mathlib.Omega.{arith}
use lib.Dec.{eqb}
use lib.IntN.{ℤ, pos}
use lib.ListN.{length, get_or, take, drop, length-append, length-take, length-drop}
use lib.Seq.{length-take-le, get_or-drop, drop-drop, drop-append-add}
use borrow.Author.Tests.{ne_eqb, le-leb, lt-leb}
use Rattle.integer.specs.Integer.{or_else}
use Rattle.backoff.specs.Limits.{text_limit}
use Rattle.word_index.specs.Texts.{text_of, texts_from, texts_of, search_from, record_with, given_by, recorded}
use Rattle.word_index.specs.Index.{link_limit, bucket_of, latest, Indexed, Room, linked}
use Rattle.word_index.proofs.Records.{record_length}
use Rattle.word_index.proofs.Chains.{latest-same}
use Rattle.arpa_text.specs.Lines.{is_text}
use Rattle.arpa_words.specs.Words.{reserved_number, number_met}
use Rattle.arpa_words.specs.Held.{Searchable, Adding, TextAdded}
use Rattle.arpa_words.proofs.Searches.{search_told, texts-at}
use Rattle.arpa_words.proofs.Words.{text-short, reserved_small, met-reserved, met-other}

-- a record is filled where its length byte is not 0
record_filled : (s : List ℕ) (k : ℕ) → (0 < get_or s (64 * k) 0 → 64 * k + 64 ≤ length s) → eqb (length (text_of s k)) 0 ≡ eqb (get_or s (64 * k) 0) 0
unfolding text_of
record_filled s k h = go (get_or s (64 * k) 0) h
  where
    go : (b : ℕ) → (0 < b → 64 * k + 64 ≤ length s) → eqb (length (take b (drop (64 * k + 1) s))) 0 ≡ eqb b 0
    go zero h = refl
    go (suc b) h =
        let r = h (omega arith) in
        let e = length-take (suc b) (drop (64 * k + 1) s) in
        let f = length-drop (64 * k + 1) s in
        ne_eqb (length (take (suc b) (drop (64 * k + 1) s))) 0 (λ z. absurd (omega arith)) ∙ sym (ne_eqb (suc b) 0 (λ z. absurd (omega arith)))

texts-behind : (s : List ℕ) (n : ℕ) → 3 ≤ n → drop 3 (texts_from s 1 n) ≡ texts_from s 4 (n - 3)
unfolding texts_from
texts-behind s zero l = absurd (omega arith)
texts-behind s (suc zero) l = absurd (omega arith)
texts-behind s (suc (suc zero)) l = absurd (omega arith)
texts-behind s (suc (suc (suc n))) l = let e : suc (suc (suc n)) - 3 ≡ n = omega arith in rw e refl

module _ (t : List ℤ) (s : List ℕ) (b words : ℕ) (x : Searchable t s b words) (text : List ℕ) (in_form_lem : is_text text ≡ true) where
  -- a reserved text is met where its record is filled
  pub met_by_record : (r : ℕ) → reserved_number text ≡ r → 0 < r → number_met (texts_from s 1 (words - 1)) text ≡ cond (eqb (get_or s (64 * r) 0) 0) 0 r
  met_by_record zero e l = absurd (omega arith)
  met_by_record (suc k) e l =
      let a = x.start in
      let small = reserved_small text in
      let f : 1 + k ≡ suc k = omega arith in
      met-reserved (texts_from s 1 (words - 1)) x.texts text in_form_lem k e
      ∙ ap (λ (q : Bool). cond q 0 (suc k))
      (ap (λ (u : List ℕ). eqb (length u) 0) (texts-at s 1 (words - 1) k (omega arith) ∙ ap (text_of s) f)
      ∙ record_filled s (suc k) (x.records (suc k) (omega arith) (omega arith)))

  pub met_by_search : reserved_number text ≡ 0 → number_met (texts_from s 1 (words - 1)) text ≡ given_by (record_with s words text) 0
  unfolding record_with texts_of
  met_by_search e =
      let a = x.start in
      let f : words - 1 - 3 ≡ words - 4 = omega arith in
      met-other (texts_from s 1 (words - 1)) x.texts text in_form_lem e
      ∙ ap (λ (us : List (List ℕ)). given_by (search_from text 4 us) 0) (texts-behind s (words - 1) (omega arith) ∙ ap (texts_from s 4) f)

  none_by_search : reserved_number text ≡ 0 → number_met (texts_from s 1 (words - 1)) text ≡ 0 → record_with s words text ≡ None
  unfolding record_with
  none_by_search e z =
      ⊎_elim (λ w. w.0)
      (λ w.
      let f : 4 + w.0 ≡ 0 = ap (λ (r : Option ℕ). given_by r 0) (sym w.1.found) ∙ sym (met_by_search e) ∙ z in
      absurd (omega arith))
      (search_told text 4 (texts_of s words))

-- ---- a record below the words of the index
module _ (s : List ℕ) (k : ℕ) (text : List ℕ) (room : 64 * k + 64 ≤ length s) (short : length text ≤ text_limit) where
  recorded-behind : drop (64 * k + 64) (recorded s k text) ≡ drop (64 * k + 64) s
  unfolding recorded
  recorded-behind =
      let front = take (64 * k) s ++ (length text ∷ text) in
      let e : length front ≡ 64 * k + length (length text ∷ text) = length-append (take (64 * k) s) (length text ∷ text) ∙ ap (λ (i : ℕ). i + length (length text ∷ text)) (length-take-le (64 * k) s (omega arith)) in
      let f : 64 * k + 64 ≡ length front + (63 - length text) = omega arith in
      let g : 64 * k + length (length text ∷ text) + (63 - length text) ≡ 64 * k + 64 = omega arith in
      ap (λ (i : ℕ). drop i (front ++ drop (64 * k + length (length text ∷ text)) s)) f
      ∙ drop-append-add front (drop (64 * k + length (length text ∷ text)) s) (63 - length text)
      ∙ drop-drop (63 - length text) (64 * k + length (length text ∷ text)) s
      ∙ ap (λ (i : ℕ). drop i s) g

  byte_behind : (i : ℕ) → 64 * k + 64 ≤ i → get_or (recorded s k text) i 0 ≡ get_or s i 0
  byte_behind i l =
      let e : i ≡ 64 * k + 64 + (i - (64 * k + 64)) = omega arith in
      rw e
      (sym (get_or-drop (64 * k + 64) (recorded s k text) (i - (64 * k + 64)) 0)
      ∙ ap (λ (r : List ℕ). get_or r (i - (64 * k + 64)) 0) recorded-behind
      ∙ get_or-drop (64 * k + 64) s (i - (64 * k + 64)) 0)

  text-behind : (j : ℕ) → k < j → text_of (recorded s k text) j ≡ text_of s j
  unfolding text_of
  text-behind j l =
      let e : 64 * j + 1 ≡ 64 * k + 64 + (64 * j + 1 - (64 * k + 64)) = omega arith in
      ap₂ take (byte_behind (64 * j) (omega arith))
      (ap (λ (i : ℕ). drop i (recorded s k text)) e
      ∙ sym (drop-drop (64 * j + 1 - (64 * k + 64)) (64 * k + 64) (recorded s k text))
      ∙ ap (drop (64 * j + 1 - (64 * k + 64))) recorded-behind
      ∙ drop-drop (64 * j + 1 - (64 * k + 64)) (64 * k + 64) s
      ∙ ap (λ (i : ℕ). drop i s) (sym e))

  indexed_reserved : (t : List ℤ) (b words : ℕ) → k < 4 → Indexed t s b words → Indexed t (recorded s k text) b words
  indexed_reserved t b words l x =
      let e = record_length s k text room short in
      record {
        some = x.some;
        start = x.start;
        few = x.few;
        head-room = x.head-room;
        link-room = x.link-room;
        store-room = let r = x.store-room in omega arith;
        short = λ j a u. rw (byte_behind (64 * j) (omega arith)) (x.short j a u);
        distinct = λ i j a u v f. x.distinct i j a u v (sym (text-behind i (omega arith)) ∙ f ∙ text-behind j (omega arith));
        head = λ h u. x.head h u ∙ ap pos (sym (latest-same s b h (recorded s k text) words (λ j a m. text-behind j (omega arith))));
        link = λ j a u.
            x.link j a u
            ∙ ap (λ (y : List ℕ). pos (latest s b (bucket_of b y) j)) (sym (text-behind j (omega arith)))
            ∙ ap pos (sym (latest-same s b (bucket_of b (text_of (recorded s k text) j)) (recorded s k text) j (λ i c m. text-behind i (omega arith))));
      }

-- ---- a text becomes word k
module _ (t : List ℤ) (s : List ℕ) (b words k : ℕ) (text : List ℕ) (x : Adding t s b words k text) where
  adding_short : length text ≤ text_limit
  adding_short = text-short text x.in_form_lem

  pub added-reserved : k < 4 → {s' : List ℕ} → s' ≡ recorded s k text → TextAdded t t s s' b words k text
  added-reserved l e = record {
    store = e;
    table = rw (lt-leb 4 k l) refl;
    reserved-index = λ p q r. rw e (indexed_reserved s k text x.record_room adding_short t b words p (x.index q r));
    new-index = λ p q. absurd (omega arith);
  }

  pub added_unindexed : 4 ≤ k → link_limit < words → {s' : List ℕ} → s' ≡ recorded s k text → TextAdded t t s s' b words k text
  added_unindexed l m e = record {
    store = e;
    table = rw (le-leb 4 k l, lt-leb words link_limit m) refl;
    reserved-index = λ p q r. absurd (omega arith);
    new-index = λ p q. absurd (omega arith);
  }

  module _ (l : 4 ≤ k) where
    not-reserved : reserved_number text ≡ 0
    not-reserved = go (reserved_number text) (reserved_small text) x.number
      where
        go : (r : ℕ) → r ≤ 3 → k ≡ or_else r words → r ≡ 0
        go zero m e = refl
        go (suc r) m e = absurd (omega arith)

    adding_next : k ≡ words
    adding_next = x.number ∙ ap (λ (r : ℕ). or_else r words) not-reserved

    pub adding_indexed : words ≤ link_limit → Indexed t s b words × Room t s words × (length text ≤ text_limit) × (record_with s words text ≡ None)
    adding_indexed m =
        let e = adding_next in
        let r = x.record_room in (
          x.index (omega arith) m,
          record { few = m; row = x.row_room; record_room = omega arith },
          adding_short,
          none_by_search t s b words x.searchable text x.in_form_lem not-reserved x.new,
        )

    pub added_indexed : words ≤ link_limit → {t' : List ℤ} {s' : List ℕ} → (s' ≡ recorded s words text) × (t' ≡ linked t (bucket_of b text) words) × Indexed t' s' b (words + 1)
        → TextAdded t t' s s' b words k text
    added_indexed m w = record {
      store = w.0 ∙ ap (λ (i : ℕ). recorded s i text) (sym adding_next);
      table = rw (le-leb 4 k l, le-leb words link_limit m) w.1;
      reserved-index = λ p q r. absurd (omega arith);
      new-index = λ p q. w.2;
    }
