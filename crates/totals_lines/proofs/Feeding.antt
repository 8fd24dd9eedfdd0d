-- Laws of reading TEXT piece by piece. Assumes nothing.
use mathlib.Core.Path.{◌≡◌, refl, sym, ap, ◌∙◌}
use mathlib.Core.Bool.{true, false, cond, false≢true}
use mathlib.Core.List.{List, [], ◌∷◌, ◌++◌, append_assoc}
use Prim.Native.Nat.{ℕ, suc, ◌+◌, ◌*◌, ◌≤◌, ◌<◌}
use native.Mathlib.Omega.{arith}
use native.Mathlib.Numerals.{add-one}
use lib.ListN.{length, take, drop, get_or, set, length-append, length-set, drop_of_length-le}
use lib.Seq.{drop-cons, length-take-le, take-suc-set, append_snoc}
use Rattle.text_parts.specs.Parts.{before as before_byte}
use Rattle.backoff.specs.Refusal.{text_line}
use Rattle.backoff.specs.Model.{Model}
use Rattle.totals_text.specs.Lines.{is_text_line, text_words, refused_line}
use Rattle.totals_list.specs.List.{lines_of, line_end}
use Rattle.totals_sentence.specs.declared.Printed.{Printed}
use Rattle.totals_sentence.specs.Sentence.{sentence_output}
use Rattle.totals_sentence.specs.Steps.{line_output}
use Rattle.totals_lines.specs.declared.Progress.{Progress}
use Rattle.totals_lines.specs.Text.{text_output}
use Rattle.totals_lines.specs.Steps.{PrintedAs, Begun, Fed}
use Rattle.totals_lines.proofs.Begun.{begun_more, begun-ends, too_long}

-- the first i characters of the piece are read: what they printed stands in `out`, and the line that has begun in `line`
pub record Feeding (M : Model) (piece : List ℕ) (number₀ count₀ : ℕ) (line₀ line out : List ℕ) (number count written i : ℕ) : Type 0 where
  pub within : i ≤ length piece
  pub buffer : length line ≡ 512
  pub room : count ≤ 512
  pub no_end : line_end (take count line) ≡ count
  pub size : length out ≡ 65536
  pub few : written ≤ 64 * i
  pub low : number ≤ number₀ + i
  pub output : (rest : List ℕ) → text_output M number₀ (lines_of (take count₀ line₀ ++ (piece ++ rest))) ≡ take written out ++ text_output M number (lines_of (take count line ++ (drop i piece ++ rest)))

pub feeding_start : (M : Model) (piece : List ℕ) (before : Progress) (line out : List ℕ) → Begun before line → length out ≡ 65536 → Feeding M piece before.number before.count line line out before.number before.count 0 0
feeding_start M piece before line out b e = record {
  within = omega arith;
  buffer = b.buffer;
  room = b.room;
  no_end = b.no_end;
  size = e;
  few = omega arith;
  low = omega arith;
  output = λ rest. refl;
}

module _ {M : Model} {piece : List ℕ} {number₀ count₀ : ℕ} {line₀ line out : List ℕ} {number count written i : ℕ} (F : Feeding M piece number₀ count₀ line₀ line out number count written i) where
  abbrev begun : List ℕ
  begun = take count line

  long : length begun ≡ count
  long = length-take-le count line (omega (arith, F.buffer, F.room))

  closes : line_end begun ≡ length begun
  closes = F.no_end ∙ sym long

  module _ (more : i < length piece) where
    -- ---- an LF

    ending : get_or piece i 0 ≡ 10 → (rest : List ℕ) → text_output M number (lines_of (begun ++ (drop i piece ++ rest))) ≡ cond (is_text_line begun) (sentence_output M number (text_words begun) ++ text_output M (suc number) (lines_of (drop (suc i) piece ++ rest))) (refused_line text_line number)
    ending e rest = rw (drop-cons piece i 0 more, e, begun-ends begun (drop (suc i) piece ++ rest) closes) (unfold text_output in refl)

    module _ (e : get_or piece i 0 ≡ 10) {r : Printed} {out' : List ℕ} (P : PrintedAs M number begun r (take written out) (written + r.length) out') where
      pub feeding_line : is_text_line begun ≡ true → length out' ≡ length out → Feeding M piece number₀ count₀ line₀ line out' (number + 1) 0 (written + r.length) (i + 1)
      unfolding before_byte
      feeding_line t l = record {
        within = omega arith;
        buffer = F.buffer;
        room = omega arith;
        no_end = refl;
        size = l ∙ F.size;
        few = omega (arith, F.few, P.room);
        low = omega (arith, F.low);
        output = λ rest. F.output rest ∙ behind_line rest;
      }
        where
          printed : take (written + r.length) out' ≡ take written out ++ sentence_output M number (text_words begun)
          printed = P.text ∙ (unfold line_output in rw t refl)

          behind_line : (rest : List ℕ) → take written out ++ text_output M number (lines_of (begun ++ (drop i piece ++ rest))) ≡ take (written + r.length) out' ++ text_output M (number + 1) (lines_of (drop (i + 1) piece ++ rest))
          behind_line rest = rw (ending e rest, t, printed, add-one number, add-one i) (sym (append_assoc (take written out) (sentence_output M number (text_words begun)) (text_output M (suc number) (lines_of (drop (suc i) piece ++ rest)))))

      feeding_refused : is_text_line begun ≡ false → (rest : List ℕ) → text_output M number₀ (lines_of (take count₀ line₀ ++ (piece ++ rest))) ≡ take (written + r.length) out'
      feeding_refused t rest =
          let line-is : text_output M number (lines_of (begun ++ (drop i piece ++ rest))) ≡ refused_line text_line number = ending e rest ∙ rw t refl in
          F.output rest ∙ ap (λ (o : List ℕ). take written out ++ o) line-is ∙ sym (P.text ∙ (unfold line_output in rw t refl))

    -- ---- another character

    other : (c : ℕ) → c ≡ get_or piece i 0 → (rest : List ℕ) → begun ++ (drop i piece ++ rest) ≡ (begun ++ (c ∷ [])) ++ (drop (suc i) piece ++ rest)
    other c e rest = rw (drop-cons piece i 0 more, ← e) (sym (append_snoc begun c (drop (suc i) piece ++ rest)))

    module _ (n : get_or piece i 0 ≡ 10 → ⊥) where
      grows : line_end (begun ++ (get_or piece i 0 ∷ [])) ≡ suc (length begun)
      grows = begun_more begun (get_or piece i 0) closes n

      feeding_long : count ≡ 512 → (rest : List ℕ) → text_output M number (lines_of (begun ++ (drop i piece ++ rest))) ≡ refused_line text_line number
      feeding_long e rest =
          let l : length (begun ++ (get_or piece i 0 ∷ [])) ≡ suc (length begun) = omega (arith, length-append begun (get_or piece i 0 ∷ [])) in
          ap (λ (t : List ℕ). text_output M number (lines_of t)) (other (get_or piece i 0) refl rest)
          ∙ too_long M number (begun ++ (get_or piece i 0 ∷ [])) (drop (suc i) piece ++ rest) (grows ∙ sym l) (omega (arith, l, long))

      pub feeding_more : (count ≡ 512 → ⊥) → Feeding M piece number₀ count₀ line₀ (set line count (get_or piece i 0)) out number (count + 1) written (i + 1)
      feeding_more k =
          let h : count < length line = omega (arith, F.buffer, F.room) in
          let s : take (count + 1) (set line count (get_or piece i 0)) ≡ begun ++ (get_or piece i 0 ∷ []) = rw add-one (take-suc-set line count (get_or piece i 0) h) in
          record {
            within = omega arith;
            buffer = length-set line count (get_or piece i 0) ∙ F.buffer;
            room = omega (arith, F.room);
            no_end = rw s (omega (arith, grows, long));
            size = F.size;
            few = omega (arith, F.few);
            low = omega (arith, F.low);
            output = λ rest. F.output rest ∙ rw (s, add-one) (ap (λ (t : List ℕ). take written out ++ text_output M number (lines_of t)) (other (get_or piece i 0) refl rest));
          }

-- ---- what the piece has printed

module _ {M : Model} {piece line₀ line out : List ℕ} {before after : Progress} {i : ℕ} where
  pub fed_end : {written : ℕ} → Feeding M piece before.number before.count line₀ line out after.number after.count written i → length piece ≤ i → after.ended ≡ false → Fed M piece before line₀ after line (take written out)
  fed_end F h e = record {
    begun = record { buffer = F.buffer; room = F.room; no_end = F.no_end };
    number = omega (arith, F.low, F.within);
    ended = λ t. absurd (false≢true (sym e ∙ t));
    onward = λ t rest. F.output rest ∙ rw (drop_of_length-le piece h) refl;
  }

  module _ {written : ℕ} (F : Feeding M piece before.number before.count line₀ line out after.number after.count written i) (more : i < length piece) (e : after.ended ≡ true) where
    fed : {text : List ℕ} → ((rest : List ℕ) → text_output M before.number (lines_of (take before.count line₀ ++ (piece ++ rest))) ≡ text) → Fed M piece before line₀ after line text
    fed t = record {
      begun = record { buffer = F.buffer; room = F.room; no_end = F.no_end };
      number = omega (arith, F.low, F.within);
      ended = λ q rest. t rest;
      onward = λ q. absurd (false≢true (sym q ∙ e));
    }

    pub fed_refused : get_or piece i 0 ≡ 10 → {r : Printed} {out' : List ℕ} → PrintedAs M after.number (take after.count line) r (take written out) (written + r.length) out' → is_text_line (take after.count line) ≡ false → Fed M piece before line₀ after line (take (written + r.length) out')
    fed_refused q P t = fed (feeding_refused F more q P t)

    pub fed_long : (get_or piece i 0 ≡ 10 → ⊥) → after.count ≡ 512 → (end : ℕ) (out' : List ℕ) → take end out' ≡ take written out ++ refused_line text_line after.number → Fed M piece before line₀ after line (take end out')
    fed_long n k end out' p = fed (λ rest. F.output rest ∙ ap (λ (o : List ℕ). take written out ++ o) (feeding_long F more n k rest) ∙ sym p)
