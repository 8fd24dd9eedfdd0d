-- Laws of the texts of a reading that the store holds: they are the store's, and can be searched. Assumes nothing.
use mathlib.Core.Path.{◌≡◌, sym, ap, ◌∙◌, subst}
use mathlib.Core.Logic.{⊎_elim}
use mathlib.Core.Bool.{true}
use mathlib.Core.List.{List, [], ◌∷◌}
use Prim.Native.Nat.{ℕ, zero, suc, ◌+◌, ◌*◌, ◌-◌, ◌<◌, ◌≤◌}
use native.Mathlib.Omega.{arith}
use lib.IntN.{ℤ}
use lib.ListN.{length, get_or, get_or-eq_default}
use Rattle.integer.proofs.Ranges.{lt_or_ge}
use Rattle.integer.specs.Integer.{or_else}
use Rattle.backoff.specs.Limits.{text_limit}
use Rattle.word_index.specs.Texts.{text_of, texts_from}
use Rattle.word_index.specs.Index.{link_limit, Indexed}
use Rattle.arpa_text.specs.Lines.{is_text}
use Rattle.arpa_words.specs.Words.{reserved_number, number_met, number_given, store_with}
use Rattle.arpa_words.specs.Held.{TextsSound, Searchable}
use Rattle.arpa_words.proofs.Searches.{texts_are}
use Rattle.arpa_words.proofs.Words.{text-short, reserved-short, given_is}
use Rattle.arpa_words.proofs.Stores.{store_byte, record_text_there, record_text_none}
use Rattle.arpa_sections.specs.Sections.{Reading}
use Rattle.arpa_sections.specs.Held.{Held}
use Rattle.arpa_sections.specs.declared.Progress.{Progress}

module _ (room size : ℕ) (t : List ℤ) (s : List ℕ) (p : Progress) (a : Reading) (h : Held room size t s p a) where
  -- word k's length byte, where the store has it
  length_byte_lem : (k : ℕ) → 64 * suc k < size → get_or s (64 * suc k) 0 ≡ length (get_or a.texts k [])
  unfolding store_with
  length_byte_lem k l = ap (λ (x : List ℕ). get_or x (64 * suc k) 0) h.store ∙ store_byte size ([] ∷ a.texts) (suc k) l

  no_byte : (k : ℕ) → size ≤ 64 * suc k → get_or s (64 * suc k) 0 ≡ 0
  no_byte k l = let e = h.store_long in get_or-eq_default s 0 (rw e l)

  text_there : (k : ℕ) → 64 * suc k + 64 ≤ size → k < length a.texts → length (get_or a.texts k []) ≤ text_limit → text_of s (suc k) ≡ get_or a.texts k []
  unfolding store_with
  text_there k r l m = ap (λ (x : List ℕ). text_of x (suc k)) h.store ∙ record_text_there size ([] ∷ a.texts) (suc k) r (omega arith) m

  text_missing : (k : ℕ) → get_or a.texts k [] ≡ [] → text_of s (suc k) ≡ get_or a.texts k []
  text_missing k e =
      record_text_none s (suc k)
      (⊎_elim (λ (l : 64 * suc k < size). length_byte_lem k l ∙ ap length e) (λ (l : size ≤ 64 * suc k). no_byte k l) (lt_or_ge (64 * suc k) size))
      ∙ sym e

  text-is : (k : ℕ) → k < length a.texts → text_of s (suc k) ≡ get_or a.texts k []
  text-is k l =
      ⊎_elim
      (λ (q : k < 3).
      ⊎_elim (text_missing k)
      (λ r.
      let some = reserved-short (get_or a.texts k []) (omega arith) in
      let fits = h.reserved-room k q (λ e. let z : length (get_or a.texts k []) ≡ 0 = ap length e in let m = some.0 in absurd (omega arith)) in
      text_there k (omega arith) l some.1)
      (h.texts.reserved k q))
      (λ (q : 3 ≤ k).
      let e = h.words in
      let fits = h.word_room (omega arith) in
      text_there k (omega arith) l (text-short (get_or a.texts k []) (h.texts.in_form_lem k q l)))
      (lt_or_ge k 3)

  pub held-texts : texts_from s 1 (p.words - 1) ≡ a.texts
  held-texts =
      let e : p.words - 1 ≡ length a.texts = let f = h.words in omega arith in
      ap (texts_from s 1) e ∙ texts_are s 1 a.texts (λ k l. let f : 1 + k ≡ suc k = omega arith in ap (text_of s) f ∙ text-is k l)

  byte_short : (k : ℕ) → 4 ≤ k → k < p.words → get_or s (64 * k) 0 ≤ text_limit
  byte_short zero l m = absurd (omega arith)
  byte_short (suc k) l m =
      let e = h.words in
      let fits = h.word_room (omega arith) in
      let f = length_byte_lem k (omega arith) in
      let g = text-short (get_or a.texts k []) (h.texts.in_form_lem k (omega arith) (omega arith)) in
      omega arith

  record_there : (k : ℕ) → 1 ≤ k → k < p.words → 0 < get_or s (64 * k) 0 → 64 * k + 64 ≤ length s
  record_there zero l m some = absurd (omega arith)
  record_there (suc k) l m some =
      let e = h.store_long in
      ⊎_elim
      (λ (q : k < 3).
      let r : 64 * (k + 2) ≤ size =
      ⊎_elim
      (λ (l : 64 * suc k < size).
      let f = length_byte_lem k l in
      h.reserved-room k q (λ z. let g : length (get_or a.texts k []) ≡ 0 = ap length z in absurd (omega arith)))
      (λ (l : size ≤ 64 * suc k). let f = no_byte k l in absurd (omega arith))
      (lt_or_ge (64 * suc k) size)
      in
      omega arith)
      (λ (q : 3 ≤ k). let r = h.word_room (omega arith) in omega arith)
      (lt_or_ge k 3)

  pub held-searchable : (4 < p.words → p.words ≤ link_limit → Indexed t s p.buckets p.words) → Searchable t s p.buckets p.words
  held-searchable index =
      let e = h.store_long in
      let f = h.words in
      let l = h.texts.long in
      record {
        start = omega arith;
        room = λ q. let r = h.word_room q in omega arith;
        short = byte_short;
        texts = subst TextsSound (sym held-texts) h.texts;
        records = record_there;
        index = index;
      }

  -- the number that a text gets, by the number that it has
  pub held-given : (text : List ℕ) → is_text text ≡ true → (met : ℕ) → met ≡ number_met (texts_from s 1 (p.words - 1)) text
      → or_else met (or_else (reserved_number text) p.words) ≡ number_given a.texts text
  held-given text f met e =
      ap (λ (n : ℕ). or_else n (or_else (reserved_number text) p.words)) (e ∙ ap (λ (us : List (List ℕ)). number_met us text) held-texts)
      ∙ ap (λ (n : ℕ). or_else (number_met a.texts text) (or_else (reserved_number text) n)) h.words
      ∙ sym (given_is a.texts h.texts text f)
