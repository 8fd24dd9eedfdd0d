-- Laws of the answer: from the lines and the list's verdict to the outcome. Assumes nothing.
use mathlib.Core.Path.{◌≡◌, refl, sym, ap, ap₂, ◌∙◌}
use mathlib.Core.Bool.{Bool}
use mathlib.Core.List.{List}
use Prim.Native.Nat.{ℕ}
use native.Mathlib.Omega.{arith}
use lib.IntN.{ℤ}
use Rattle.std.specs.declared.result.Result.TheVariants.{Ok, Err}
use Rattle.backoff.specs.Refusal.{Verdict, Accepted, Refused, reason_number}
use Rattle.backoff.specs.declared.Refusal.{Refusal}
use Rattle.list.specs.Check.{verdict_for}
use Rattle.arpa_words.specs.Words.{store_with}
use Rattle.arpa_sections.specs.Sections.{Reading}
use Rattle.arpa_lines.specs.Reading.{Lines, done, stopped}
use Rattle.arpa_reading.specs.Outcome.{ordered, refused_outcome}
use Rattle.arpa_reading.specs.Held.{EndHeld, LinesHeld, Judged, Concluded}
use Rattle.arpa_reading.specs.declared.Ending.{Ending}
use Rattle.arpa_reading.specs.Rows.{Read, Refused as NotRead}

pub not-read : (rows number place : ℕ) → NotRead number place ≡ Read rows → ⊥
not-read rows number place e = let z : ◌≡◌ {A = ℕ} 0 1 = cc in omega arith

module _ (filling : Bool) (room size : ℕ) (t : List ℤ) (s : List ℕ) where
  pub concluded_refused : (l : Lines) (r : Refusal ℕ) → LinesHeld room size t s l (Err r) → Concluded filling room size t s l (NotRead (reason_number r.reason) r.place)
  unfolding refused_outcome
  concluded_refused (done a) r h = absurd h
  concluded_refused (stopped number place) r h = record {
    answer = ap₂ NotRead h.0 h.1;
    long = h.2;
    table = λ rows z. absurd (not-read rows (reason_number r.reason) r.place z);
    store = λ rows z. absurd (not-read rows (reason_number r.reason) r.place z);
  }

  module _ (e : Ending) where
    pub lines-done : (l : Lines) → LinesHeld room size t s l (Ok e) → (a : Reading) × (l ≡ done a) × (s ≡ store_with size a.texts) × EndHeld t e.rows e.ones e.words a
    lines-done (done a) h = (a, refl, h.1, h.2)
    lines-done (stopped number place) h = absurd h

    module _ (t' : List ℤ) (v : Verdict) (j : (a : Reading) → EndHeld t e.rows e.ones e.words a → Judged filling t' a v room) where
      pub concluded_read : (l : Lines) → LinesHeld room size t s l (Ok e) → v ≡ Accepted → Concluded filling room size t' s l (Read e.rows)
      concluded_read (done a) h f =
          let d = j a h.2 in
          let x : verdict_for filling (ordered a) ≡ Accepted = sym d.verdict-is ∙ f in
          record {
            answer = rw x (ap Read h.2.count);
            long = d.long;
            table = λ rows y. rw x (d.table f);
            store = λ rows y. rw x h.1;
          }
      concluded_read (stopped number place) h f = absurd h

      pub concluded_judged : (l : Lines) → LinesHeld room size t s l (Ok e) → (number place : ℕ) → v ≡ Refused number place → Concluded filling room size t' s l (NotRead number place)
      unfolding refused_outcome
      concluded_judged (done a) h number place f =
          let d = j a h.2 in
          let x : verdict_for filling (ordered a) ≡ Refused number place = sym d.verdict-is ∙ f in
          record {
            answer = rw x refl;
            long = d.long;
            table = λ rows y. absurd (not-read rows number place y);
            store = λ rows y. absurd (not-read rows number place y);
          }
      concluded_judged (stopped n k) h number place f = absurd h
