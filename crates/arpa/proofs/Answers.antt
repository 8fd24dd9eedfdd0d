-- Laws of the lines' end, and of what a call leaves. Assumes nothing.
use mathlib.Core.Path.{◌≡◌, refl, sym, ap, subst, ◌∙◌}
use mathlib.Core.Bool.{Bool, true, false}
use mathlib.Core.List.{List, [], ◌∷◌}
use Prim.Native.Nat.{ℕ}
use lib.IntN.{ℤ, pos}
use lib.ListN.{length, replicate}
use Rattle.std.proofs.Common.{is_ok}
use Rattle.std.specs.declared.result.Result.{Result}
use Rattle.std.specs.declared.result.Result.TheVariants.{Ok, Err}
use Rattle.backoff.specs.Refusal.{Verdict, Accepted, Refused, reason_number}
use Rattle.backoff.specs.declared.Refusal.{Refusal}
use Rattle.list.specs.Check.{verdict_for}
use Rattle.text_parts.specs.Parts.{parts}
use Rattle.arpa_words.specs.Words.{records_of, store_with}
use Rattle.arpa_words.proofs.Stores.{zeroed-length}
use Rattle.arpa_sections.specs.Sections.{unread}
use Rattle.arpa_lines.specs.Reading.{Lines, done, stopped, read_lines}
use Rattle.arpa_reading.specs.Outcome.{ordered, refused_outcome, judged, lines_outcome}
use Rattle.arpa_reading.specs.Held.{LinesHeld, Concluded}
use Rattle.arpa_reading.specs.declared.Ending.{Ending}
use Rattle.arpa_reading.specs.Rows.{Rows, Read, Refused as NotRead, rows_in}
use Rattle.arpa_reading.proofs.Answers.{not-read}
use Rattle.arpa.specs.Outcome.{read_arpa, Leaves}

-- ---- the lines' end, with the length of the table at hand
module _ (room size : ℕ) (t : List ℤ) (s : List ℕ) where
  pub lines-length : (e : Result Ending (Refusal ℕ)) (l : Lines) → LinesHeld room size t s l e → length t ≡ room
  lines-length (Ok e) (done a) h = h.0
  lines-length (Ok e) (stopped number place) h = absurd h
  lines-length (Err r) (done a) h = absurd h
  lines-length (Err r) (stopped number place) h = h.2

  pub lines-here : (e : Result Ending (Refusal ℕ)) (l : Lines) → LinesHeld room size t s l e → LinesHeld (length t) size t s l e
  lines-here (Ok e) (done a) h = (refl, h.1, h.2)
  lines-here (Ok e) (stopped number place) h = absurd h
  lines-here (Err r) (done a) h = absurd h
  lines-here (Err r) (stopped number place) h = (h.0, h.1, refl, h.3)

  pub lines-store-length : (e : Result Ending (Refusal ℕ)) (l : Lines) → LinesHeld room size t s l e → length s ≡ size
  unfolding store_with
  lines-store-length (Ok e) (done a) h = ap length h.1 ∙ zeroed-length size (records_of ([] ∷ a.texts))
  lines-store-length (Ok e) (stopped number place) h = absurd h
  lines-store-length (Err r) (done a) h = absurd h
  lines-store-length (Err r) (stopped number place) h = h.3

pub lines_sized : (m n room size : ℕ) (t : List ℤ) (s : List ℕ) (e : Result Ending (Refusal ℕ)) (pieces : List (List ℕ)) → m ≡ room → n ≡ size → LinesHeld m n t s (read_lines m n unread 1 pieces) e → LinesHeld room size t s (read_lines room size unread 1 pieces) e
lines_sized m n room size t s e pieces f g h =
    subst (λ (k : ℕ). LinesHeld room k t s (read_lines room k unread 1 pieces) e) g (subst (λ (k : ℕ). LinesHeld k n t s (read_lines k n unread 1 pieces) e) f h)

-- ---- the code's answer
pub refused_is : (r : Result ℕ (Refusal ℕ)) → is_ok r ≡ false → (number : ℕ) × ((place : ℕ) × (rows_in r ≡ NotRead number place))
refused_is (Ok rows) e = absurd cc
refused_is (Err refusal) e = (reason_number refusal.reason, (refusal.place, refl))

pub read_is : (r : Result ℕ (Refusal ℕ)) → is_ok r ≡ true → (rows : ℕ) × (rows_in r ≡ Read rows)
read_is (Ok rows) e = (rows, refl)
read_is (Err refusal) e = absurd cc

-- ---- what a call leaves
outcome_refused : (filling : Bool) (room size : ℕ) (l : Lines) (number place : ℕ) → (lines_outcome filling room size l).answer ≡ NotRead number place → ((lines_outcome filling room size l).table ≡ replicate room (pos 0)) × ((lines_outcome filling room size l).store ≡ replicate size 0)
unfolding refused_outcome
outcome_refused filling room size (stopped n k) number place e = (refl, refl)
outcome_refused filling room size (done a) number place e = go (verdict_for filling (ordered a)) e
  where
    go : (v : Verdict) → (judged room size a v).answer ≡ NotRead number place → ((judged room size a v).table ≡ replicate room (pos 0)) × ((judged room size a v).store ≡ replicate size 0)
    go Accepted e = absurd (not-read (length a.rows) number place (sym e))
    go (Refused n k) e = (refl, refl)

module _ (filling : Bool) (room size : ℕ) (text : List ℕ) (t : List ℤ) (s : List ℕ) (r : Rows) (c : Concluded filling room size t s (read_lines room size unread 1 (parts 10 text)) r) where
  pub leaves_refused : (number place : ℕ) → r ≡ NotRead number place → (u : List ℤ) (v : List ℕ) → u ≡ replicate room (pos 0) → v ≡ replicate size 0 → Leaves (read_arpa filling room size text) r u v
  unfolding read_arpa
  leaves_refused number place e u v f g =
      let o = outcome_refused filling room size (read_lines room size unread 1 (parts 10 text)) number place (sym c.answer ∙ e) in
      record { answer-is = c.answer; table_is = f ∙ sym o.0; store_is = g ∙ sym o.1 }

  pub leaves_read : (rows : ℕ) → r ≡ Read rows → Leaves (read_arpa filling room size text) r t s
  unfolding read_arpa
  leaves_read rows e = record { answer-is = c.answer; table_is = c.table rows e; store_is = c.store rows e }
