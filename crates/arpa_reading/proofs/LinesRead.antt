-- Laws of the lines one by one: what is reached, and what a line and the last piece come to. Assumes nothing.
use mathlib.Core.Path.{◌≡◌, refl, sym, ap, subst, ◌∙◌}
use mathlib.Core.Bool.{Bool}
use mathlib.Core.List.Memᴰ
use mathlib.Core.List.{List, [], ◌∷◌}
use Prim.Native.Nat.{ℕ, zero, suc, ◌+◌, ◌-◌, ◌≤◌}
use native.Mathlib.Omega.{arith}
use lib.Dec.{eqb}
use lib.IntN.{ℤ, pos}
use lib.ListN.{length, take, drop, replicate, length-drop}
use lib.Seq.{drop-drop}
use borrow.Author.Tests.{eq-eqb, ne_eqb}
use Rattle.backoff.specs.Refusal.{reason_number}
use Rattle.text_parts.specs.Parts.{parts, before}
use Rattle.text_parts.proofs.Parts.{parts-one, parts-front, parts-some}
use Rattle.arpa_words.specs.Words.{no_texts, zeroed, record_of, records_of, store_with}
use Rattle.arpa_words.proofs.Words.{none-met, no-texts-sound}
use Rattle.arpa_sections.specs.Sections.{Reading, unread, Step, goes, refused_by}
use Rattle.arpa_sections.specs.Held.{Held, StepHeld}
use Rattle.arpa_sections.specs.declared.Stage.TheVariants.{Start}
use Rattle.arpa_sections.specs.declared.Progress.{Progress}
use Rattle.std.specs.declared.result.Result.{Result}
use Rattle.std.specs.declared.result.Result.TheVariants.{Ok, Err}
use Rattle.backoff.specs.declared.Reason.{Reason}
use Rattle.backoff.specs.declared.Refusal.{Refusal}
use Rattle.arpa_lines.specs.Reading.{line_step, onward, last_piece, read_lines}
use Rattle.arpa_reading.specs.Held.{LinesHeld}
use Rattle.arpa_reading.specs.declared.Ending.{Ending}

-- ---- before the first line
zeroed-zeros : (n k : ℕ) → zeroed n (replicate k 0) ≡ replicate n 0
unfolding zeroed
zeroed-zeros zero k = refl
zeroed-zeros (suc n) zero = ap (λ (l : List ℕ). 0 ∷ l) (zeroed-zeros n 0)
zeroed-zeros (suc n) (suc k) = ap (λ (l : List ℕ). 0 ∷ l) (zeroed-zeros n k)

no-texts-stored : (n : ℕ) → replicate n 0 ≡ store_with n no_texts
unfolding store_with records_of record_of zeroed
no-texts-stored n = sym (zeroed-zeros n 256)

abbrev first_progress : Progress
first_progress = record { stage = Start; counts = 0 ∷ 0 ∷ 0 ∷ 0 ∷ 0 ∷ []; order = 0; lines = 0; rows = 0; words = 4; buckets = 1 }

held-begun : (t : List ℤ) (s : List ℕ) → t ≡ replicate (length t) (pos 0) → s ≡ replicate (length s) 0 → Held (length t) (length s) t s first_progress unread
held-begun t s z y = record {
  table-long = refl;
  store_long = refl;
  stage = refl;
  order = omega arith;
  counts-long = refl;
  announced = refl;
  lines = refl;
  rows = refl;
  row_room = omega arith;
  lines_rows = omega arith;
  words = refl;
  word_room = λ l. absurd (omega arith);
  reserved-room = λ k l n. absurd (n (none-met k));
  texts = no-texts-sound;
  store = y ∙ no-texts-stored (length s);
  sound = λ row m. absurd (Memᴰ.not-nil m);
  at_stage = record { rows = refl; texts = refl; table = z };
}

-- ---- line by line
module _ (room size : ℕ) where
  lines_next : (a : Reading) (k : ℕ) (line : List ℕ) (pieces : List (List ℕ)) → (pieces ≡ [] → ⊥) → read_lines room size a k (line ∷ pieces) ≡ onward (λ (b : Reading). read_lines room size b (suc k) pieces) k (line_step room size a line)
  unfolding read_lines
  lines_next a k line [] n = absurd (n refl)
  lines_next a k line (next ∷ pieces) n = refl

  step-goes : (t : List ℤ) (s : List ℕ) (st : Step) (p : Progress) → StepHeld room size t s st (Ok p) → (a : Reading) × (st ≡ goes a) × Held room size t s p a
  step-goes t s (goes a) p h = (a, refl, h)
  step-goes t s (refused_by n) p h = absurd h

  step_stops : (t : List ℤ) (s : List ℕ) (st : Step) (r : Reason) → StepHeld room size t s st (Err r) → (st ≡ refused_by (reason_number r)) × (length t ≡ room) × (length s ≡ size)
  step_stops t s (goes a) r h = absurd h
  step_stops t s (refused_by k) r h = (ap refused_by (sym h.0), h.1, h.2)

  pub step-long : (t : List ℤ) (s : List ℕ) (st : Step) (r : Result Progress Reason) → StepHeld room size t s st r → (length t ≡ room) × (length s ≡ size)
  step-long t s (goes a) (Ok p) h = (h.table-long, h.store_long)
  step-long t s (goes a) (Err r) h = absurd h
  step-long t s (refused_by k) (Ok p) h = absurd h
  step-long t s (refused_by k) (Err r) h = (h.1, h.2)

  -- with the lengths of the table and the store at hand
  pub held-here : (t : List ℤ) (s : List ℕ) (p : Progress) (a : Reading) → Held room size t s p a → Held (length t) (length s) t s p a
  held-here t s p a h = subst (λ (n : ℕ). Held (length t) n t s p a) (sym h.store_long) (subst (λ (n : ℕ). Held n size t s p a) (sym h.table-long) h)

  pub step-here : (m n : ℕ) (t : List ℤ) (s : List ℕ) (a : Reading) (line : List ℕ) (r : Result Progress Reason) → m ≡ room → n ≡ size → StepHeld m n t s (line_step m n a line) r → StepHeld room size t s (line_step room size a line) r
  step-here m n t s a line r e f h = subst (λ (k : ℕ). StepHeld room k t s (line_step room k a line) r) f (subst (λ (k : ℕ). StepHeld k n t s (line_step k n a line) r) e h)

  -- the lines that begin before place `at` are read
  pub record Reached (text : List ℕ) (t : List ℤ) (s : List ℕ) (p : Progress) (place at : ℕ) : Type 0 where
    pub reading : Reading
    pub held : Held room size t s p reading
    pub same : read_lines room size unread 1 (parts 10 text) ≡ read_lines room size reading place (parts 10 (drop at text))
    pub within : at ≤ length text
    pub lines : place ≤ at + 1

  module _ (text : List ℕ) (t : List ℤ) (s : List ℕ) (p : Progress) (place at : ℕ) (x : Reached text t s p place at) (end : ℕ) (found : end ≡ at + before 10 (drop at text)) where
    size_is : end - at ≡ before 10 (drop at text)
    size_is = omega arith

    pub last_line : end ≡ length text → (empty : Bool) → empty ≡ eqb at end → (r : Result Ending (Refusal ℕ)) → ((a : Reading) (room size : ℕ) (t : List ℤ) (s : List ℕ) (piece : List ℕ) → Held room size t s p a → empty ≡ eqb (length piece) 0 → LinesHeld room size t s (last_piece a.stage a place piece) r) → LinesHeld room size t s (read_lines room size unread 1 (parts 10 text)) r
    unfolding read_lines
    last_line e empty f r h =
        let l = length-drop at text in
        let whole : before 10 (drop at text) ≡ length (drop at text) = omega arith in
        rw (x.same, parts-one 10 (drop at text) whole) (h x.reading room size t s (drop at text) x.held (f ∙ tests at end (length (drop at text)) (omega arith)))
      where
        tests : (i j k : ℕ) → j ≡ i + k → eqb i j ≡ eqb k 0
        tests i j zero e = eq-eqb i j (omega arith)
        tests i j (suc k) e = ne_eqb i j (λ z. absurd (omega arith)) ∙ sym (ne_eqb (suc k) 0 (λ z. absurd (omega arith)))

    module _ (le : end ≤ length text) (more : end ≡ length text → ⊥) where
      lines_on : read_lines room size unread 1 (parts 10 text) ≡ onward (λ (a : Reading). read_lines room size a (suc place) (parts 10 (drop (end + 1) text))) place (line_step room size x.reading (take (end - at) (drop at text)))
      lines_on =
          let e : at + (end - at + 1) ≡ end + 1 = omega arith in
          let l = length-drop at text in
          x.same
          ∙ ap (read_lines room size x.reading place)
          (parts-front 10 (drop at text) (end - at) size_is (omega arith) ∙ ap (λ (l : List ℕ). take (end - at) (drop at text) ∷ parts 10 l) (drop-drop (end - at + 1) at text ∙ ap (λ (n : ℕ). drop n text) e))
          ∙ lines_next x.reading place (take (end - at) (drop at text)) (parts 10 (drop (end + 1) text)) (parts-some 10 (drop (end + 1) text))

      module _ (t' : List ℤ) (s' : List ℕ) where
        pub line_stops : (r : Reason) → StepHeld room size t' s' (line_step room size x.reading (take (end - at) (drop at text))) (Err r)
            → LinesHeld room size t' s' (read_lines room size unread 1 (parts 10 text)) (Err (record { reason = r; place = place }))
        line_stops r h =
            let st = line_step room size x.reading (take (end - at) (drop at text)) in
            let d = step_stops t' s' st r h in
            rw (lines_on, d.0) (refl, refl, d.1, d.2)

        pub line_goes : (p' : Progress) → StepHeld room size t' s' (line_step room size x.reading (take (end - at) (drop at text))) (Ok p') → Reached text t' s' p' (place + 1) (end + 1)
        line_goes p' h =
            let st = line_step room size x.reading (take (end - at) (drop at text)) in
            let d = step-goes t' s' st p' h in
            let e : suc place ≡ place + 1 = omega arith in
            let l = x.lines in
            record {
              reading = d.0;
              held = d.2;
              same = lines_on ∙ ap (onward (λ (a : Reading). read_lines room size a (suc place) (parts 10 (drop (end + 1) text))) place) d.1 ∙ ap (λ (k : ℕ). read_lines room size d.0 k (parts 10 (drop (end + 1) text))) e;
              within = omega arith;
              lines = omega arith;
            }

  pub reached-start : (text : List ℕ) (t : List ℤ) (s : List ℕ) → length t ≡ room → length s ≡ size → t ≡ replicate (length t) (pos 0) → s ≡ replicate (length s) 0 → Reached text t s first_progress 1 0
  reached-start text t s e f z y = record {
    reading = unread;
    held = rw (sym e, sym f) (held-begun t s z y);
    same = refl;
    within = omega arith;
    lines = omega arith;
  }
