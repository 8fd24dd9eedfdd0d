-- Laws of one line's text in the one-word section: it is met again, is a reserved text, or becomes the next word. Assumes nothing.
use mathlib.Core.Path.{◌≡◌, refl, sym, ap, ◌∙◌, subst}
use mathlib.Core.Logic.{◌⊎◌, inr, ⊎_elim}
use mathlib.Core.Bool.{Bool, true, false, cond}
use mathlib.Core.List.{List, [], ◌∷◌, ◌++◌}
use Prim.Native.Nat.{ℕ, suc, ◌+◌, ◌*◌, ◌-◌, ◌<◌, ◌≤◌, max}
use native.Mathlib.Omega.{arith}
use lib.Dec.{leb}
use lib.IntN.{ℤ, pos}
use lib.ListN.{length, get_or, set, length-set, length-append, get_or-append}
use lib.Seq.{set-get_or, get_or-set_same, get_or-set_other, get_or_at}
use borrow.Author.Tests.{le-leb, lt-leb}
use Rattle.integer.proofs.Ranges.{lt_or_ge, equal_or_not}
use Rattle.rows.specs.Table.{field}
use Rattle.word_index.specs.Texts.{recorded}
use Rattle.word_index.specs.Index.{link_limit, bucket_of, Indexed, linked}
use Rattle.rows.proofs.Table.{field-kept}
use Rattle.word_index.proofs.Indexes.{bucket_less}
use Rattle.arpa_text.specs.Lines.{is_text}
use Rattle.arpa_words.specs.Words.{reserved_number, with_text, records_of, zeroed, store_with}
use Rattle.arpa_words.specs.Held.{TextsSound, TextAdded}
use Rattle.arpa_words.proofs.Searches.{Absent, Placed}
use Rattle.arpa_words.proofs.Words.{text-short, reserved_small, reserved-same}
use Rattle.arpa_words.proofs.Stores.{record_set, record_snoc}

-- ---- the texts with one more
module _ (texts : List (List ℕ)) (text : List ℕ) where
  pub with_met : (j : ℕ) → j < length texts → get_or texts j [] ≡ text → with_text texts (suc j) text ≡ texts
  unfolding with_text
  with_met j l e =
      let f : suc j - 1 ≡ j = omega arith in
      rw (le-leb (suc j) (length texts) (omega arith), f) (ap (set texts j) (sym e) ∙ set-get_or texts j [])

  pub with_reserved : (j : ℕ) → j < length texts → with_text texts (suc j) text ≡ set texts j text
  unfolding with_text
  with_reserved j l =
      let f : suc j - 1 ≡ j = omega arith in
      rw (le-leb (suc j) (length texts) (omega arith), f) refl

  pub with_next : with_text texts (suc (length texts)) text ≡ texts ++ (text ∷ [])
  unfolding with_text
  with_next = rw (lt-leb (suc (length texts)) (length texts) (omega arith)) refl

  module _ (sound : TextsSound texts) where
    pub sound-reserved : (j : ℕ) → j < 3 → reserved_number text ≡ suc j → TextsSound (set texts j text)
    sound-reserved j l r =
        let long = sound.long in
        let e = length-set texts j text in
        let other : (k : ℕ) → 3 ≤ k → get_or (set texts j text) k [] ≡ get_or texts k [] = λ k q. get_or-set_other texts j k text [] (λ z. absurd (omega arith)) in
        record {
          long = omega arith;
          reserved = λ k q.
              ⊎_elim
              (λ (w : k ≡ j).
              let f : get_or (set texts j text) k [] ≡ text = ap (λ (i : ℕ). get_or (set texts j text) i []) w ∙ get_or-set_same texts j text [] (omega arith) in
              inr (ap reserved_number f ∙ r ∙ ap suc (sym w)))
              (λ (w : k ≡ j → ⊥).
              subst (λ (u : List ℕ). (u ≡ []) ⊎ (reserved_number u ≡ suc k)) (sym (get_or-set_other texts j k text [] w)) (sound.reserved k q))
              (equal_or_not k j);
          in_form_lem = λ k q m. ap is_text (other k q) ∙ sound.in_form_lem k q (omega arith);
          other = λ k q m. ap reserved_number (other k q) ∙ sound.other k q (omega arith);
          distinct = λ i k q m n f. sound.distinct i k q m (omega arith) (sym (other i q) ∙ f ∙ other k (omega arith));
        }

    pub sound-next : is_text text ≡ true → reserved_number text ≡ 0 → Absent text texts → TextsSound (texts ++ (text ∷ []))
    sound-next f r absent =
        let long = sound.long in
        let e : length (texts ++ (text ∷ [])) ≡ length texts + 1 = length-append texts (text ∷ []) in
        let old : (k : ℕ) → k < length texts → get_or (texts ++ (text ∷ [])) k [] ≡ get_or texts k [] = λ k q. get_or-append texts (text ∷ []) [] k q in
        let new : (k : ℕ) → length texts ≤ k → k < length (texts ++ (text ∷ [])) → get_or (texts ++ (text ∷ [])) k [] ≡ text =
        λ k q m. get_or_at texts text [] [] k (omega arith)
        in
        record {
          long = omega arith;
          reserved = λ k q. subst (λ (u : List ℕ). (u ≡ []) ⊎ (reserved_number u ≡ suc k)) (sym (old k (omega arith))) (sound.reserved k q);
          in_form_lem = λ k q m.
              ⊎_elim (λ (l : k < length texts). ap is_text (old k l) ∙ sound.in_form_lem k q l) (λ (l : length texts ≤ k). ap is_text (new k l m) ∙ f)
              (lt_or_ge k (length texts));
          other = λ k q m.
              ⊎_elim (λ (l : k < length texts). ap reserved_number (old k l) ∙ sound.other k q l) (λ (l : length texts ≤ k). ap reserved_number (new k l m) ∙ r)
              (lt_or_ge k (length texts));
          distinct = λ i k q m n g.
              ⊎_elim
              (λ (l : k < length texts). sound.distinct i k q m l (sym (old i (omega arith)) ∙ g ∙ old k l))
              (λ (l : length texts ≤ k). absent i (omega arith) (sym (old i (omega arith)) ∙ g ∙ new k l n))
              (lt_or_ge k (length texts));
        }

-- ---- a table in which the word is linked, or not
module _ (t : List ℤ) (b words : ℕ) (text : List ℕ) where
  linked_long : (q : Bool) → length (cond q (linked t (bucket_of b text) words) t) ≡ length t
  unfolding linked
  linked_long true = simp length-set refl
  linked_long false = refl

  -- only numbers 2 and 3 of the first rows are written
  linked-kept : (q : Bool) (n : ℕ) → words ≤ n + 4 → 1 ≤ b → (i j : ℕ) → j < 8 → (max (n + 1) b ≤ i) ⊎ (j < 2) ⊎ (4 ≤ j)
      → field (cond q (linked t (bucket_of b text) words) t) i j ≡ field t i j
  unfolding linked
  linked-kept true n few some i j l w =
      let m = bucket_less b text some in
      field-kept (set t (8 * (words - 4) + 3) (field t (bucket_of b text) 2)) (bucket_of b text) 2 (pos words) i j
      (λ z. ⊎_elim (λ x. absurd (omega arith)) (λ y. ⊎_elim (λ x. absurd (omega arith)) (λ x. absurd (omega arith)) y) w)
      ∙ field-kept t (words - 4) 3 (field t (bucket_of b text) 2) i j
      (λ z. ⊎_elim (λ x. absurd (omega arith)) (λ y. ⊎_elim (λ x. absurd (omega arith)) (λ x. absurd (omega arith)) y) w)
  linked-kept false n few some i j l w = refl

-- ---- what a text comes to: it is word k, and the table up to its free numbers, the store and the texts hold it
pub record TextHeld (size n b : ℕ) (t u : List ℤ) (s : List ℕ) (words next k : ℕ) (texts : List (List ℕ)) : Type 0 where
  pub grows : words ≤ next
  pub by_one : next ≤ words + 1
  pub some : 1 ≤ k
  pub below : k < next
  pub count : next ≡ suc (length texts)
  pub word_room : 4 < next → 64 * next ≤ size
  pub reserved-room : (j : ℕ) → j < 3 → (get_or texts j [] ≡ [] → ⊥) → 64 * (j + 2) ≤ size
  pub sound : TextsSound texts
  pub store : s ≡ store_with size texts
  pub long : length u ≡ length t
  pub kept : (i j : ℕ) → j < 8 → (max (n + 1) b ≤ i) ⊎ (j < 2) ⊎ (4 ≤ j) → field u i j ≡ field t i j
  pub index : 8 ≤ length t → 256 ≤ size → next ≤ link_limit → Indexed u s b next

module _ (size n b : ℕ) (t : List ℤ) (s : List ℕ) (words : ℕ) (texts : List (List ℕ)) (sound : TextsSound texts)
    (count : words ≡ suc (length texts)) (word_room : 4 < words → 64 * words ≤ size)
    (reserved-room : (j : ℕ) → j < 3 → (get_or texts j [] ≡ [] → ⊥) → 64 * (j + 2) ≤ size)
    (store : s ≡ store_with size texts) (long : length s ≡ size)
    (text : List ℕ) (in_form_lem : is_text text ≡ true) where
  -- a text that is met again
  pub text_again : (8 ≤ length t → 256 ≤ size → words ≤ link_limit → Indexed t s b words) → (j : ℕ) → Placed text 1 texts j
      → TextHeld size n b t t s words words (suc j) (with_text texts (suc j) text)
  text_again index j p =
      let l = p.inside in
      rw (with_met texts text j p.inside p.same)
      (record {
        grows = omega arith;
        by_one = omega arith;
        some = omega arith;
        below = omega arith;
        count = count;
        word_room = word_room;
        reserved-room = reserved-room;
        sound = sound;
        store = store;
        long = refl;
        kept = λ i k m q. refl;
        index = index;
      })

  module _ (absent : Absent text texts) where
    -- a reserved text that is not met
    pub text-reserved : (j : ℕ) → reserved_number text ≡ suc j → 64 * suc (suc j) ≤ size → {u : List ℤ} {s' : List ℕ} → TextAdded t u s s' b words (suc j) text
        → TextHeld size n b t u s' words words (suc j) (with_text texts (suc j) text)
    unfolding store_with
    text-reserved j r fits {u} {s'} added =
        let small = reserved_small text in
        let three = sound.long in
        let free : get_or texts j [] ≡ [] =
        ⊎_elim (λ e. e) (λ e. absurd (absent j (omega arith) (reserved-same (get_or texts j []) text j e r))) (sound.reserved j (omega arith))
        in
        let same : u ≡ t = added.table ∙ rw (lt-leb 4 (suc j) (omega arith)) refl in
        rw (with_reserved texts text j (omega arith))
        (record {
          grows = omega arith;
          by_one = omega arith;
          some = omega arith;
          below = omega arith;
          count = count ∙ ap suc (sym (length-set texts j text));
          word_room = word_room;
          reserved-room = λ k q m.
              ⊎_elim
              (λ (w : k < j). reserved-room k q (λ e. m (get_or-set_other texts j k text [] (λ z. absurd (omega arith)) ∙ e)))
              (λ (w : j ≤ k).
              ⊎_elim (λ (v : j < k). reserved-room k q (λ e. m (get_or-set_other texts j k text [] (λ z. absurd (omega arith)) ∙ e)))
              (λ (v : k ≤ j). omega arith)
              (lt_or_ge j k))
              (lt_or_ge k j);
          sound = sound-reserved texts text sound j (omega arith) r;
          store =
              added.store
              ∙ ap (λ (x : List ℕ). recorded x (suc j) text) store
              ∙ record_set text (text-short text in_form_lem) size ([] ∷ texts) (suc j) (omega arith) (omega arith) free;
          long = ap length same;
          kept = λ i k l q. ap (λ (x : List ℤ). field x i k) same;
          index = λ l m q. added.reserved-index (omega arith) (omega arith) q;
        })

    -- any other text that is not met
    pub text-next : reserved_number text ≡ 0 → words ≤ n + 4 → 1 ≤ b → 64 * suc words ≤ size → {u : List ℤ} {s' : List ℕ} → TextAdded t u s s' b words words text
        → TextHeld size n b t u s' words (words + 1) words (with_text texts words text)
    unfolding store_with
    text-next r few some fits {u} {s'} added =
        let three = sound.long in
        let e : length (texts ++ (text ∷ [])) ≡ length texts + 1 = length-append texts (text ∷ []) in
        let table : u ≡ cond (leb words link_limit) (linked t (bucket_of b text) words) t = added.table ∙ rw (le-leb 4 words (omega arith)) refl in
        let w : with_text texts words text ≡ texts ++ (text ∷ []) = ap (λ (i : ℕ). with_text texts i text) count ∙ with_next texts text in
        rw w
        (record {
          grows = omega arith;
          by_one = omega arith;
          some = omega arith;
          below = omega arith;
          count = omega arith;
          word_room = λ q. omega arith;
          reserved-room = λ k q m. reserved-room k q (λ f. m (get_or-append texts (text ∷ []) [] k (omega arith) ∙ f));
          sound = sound-next texts text sound in_form_lem r absent;
          store =
              added.store
              ∙ ap (λ (x : List ℕ). recorded x words text) store
              ∙ ap (λ (i : ℕ). recorded (zeroed size (records_of ([] ∷ texts))) i text) count
              ∙ record_snoc text (text-short text in_form_lem) size ([] ∷ texts) (omega arith);
          long = ap length table ∙ linked_long t b words text (leb words link_limit);
          kept = λ i k l q. ap (λ (x : List ℤ). field x i k) table ∙ linked-kept t b words text (leb words link_limit) n few some i k l q;
          index = λ l m q. added.new-index (omega arith) q;
        })
