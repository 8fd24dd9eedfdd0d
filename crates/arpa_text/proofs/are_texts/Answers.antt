-- `arpa_text::are_texts`: the parts, one by one.
use Rattle.std.proofs.Common.{◌≡◌, ℕ, List, suc, ◌+◌, ◌-◌, ◌<◌, ◌≤◌, length, drop, sym, refl, ap, ◌∙◌, arith}
use lib.ListN.{length-drop}
use lib.Seq.{drop-drop}
use Rattle.text_parts.specs.Parts.{parts, before}
use Rattle.arpa_text.specs.Lines.{are_texts}
use Rattle.arpa_text.proofs.Lines.{no-texts, last-text, next-text, no_text, last_of}
use Rattle.arpa_text.proofs.are_texts.Goals as goal

-- the next text stands from `at` to `end`
record Next (words : List ℕ) (m k at end : ℕ) : Type 0 where
  stop : end - at ≡ before 32 (drop at words)
  within : end - at ≤ length (drop at words)
  here : are_texts m (parts 32 words) ≡ are_texts (suc (m - (k + 1))) (parts 32 (drop at words))

next : (words : List ℕ) (m k at end : ℕ) → k < m → end ≡ at + before 32 (drop at words) → end ≤ length words → are_texts m (parts 32 words) ≡ are_texts (m - k) (parts 32 (drop at words)) → Next words m k at end
next words m k at end l e w h =
    let d = length-drop at words in
    let s : m - k ≡ suc (m - (k + 1)) = omega arith in
    record { stop = omega arith; within = omega arith; here = h ∙ ap (λ (n : ℕ). are_texts n (parts 32 (drop at words))) s }

pub returns-then-not-is_text : goal.returns-then-not-is_text
returns-then-not-is_text c =
    let n = next c.args.words.now c.args.m c.loop-k.k c.loop-k.at c.part_end-end.result c.loop-k-test.true c.part_end-end.ensures.place c.part_end-end.ensures.within c.loop-k.invariant.1 in
    sym (n.here ∙ no_text _ _ _ n.stop n.within (sym c.is_text.ensures ∙ c.if-not-is_text.true))

pub returns-then-end-words : goal.returns-then-end-words
returns-then-end-words c =
    let n = next c.args.words.now c.args.m c.loop-k.k c.loop-k.at c.part_end-end.result c.loop-k-test.true c.part_end-end.ensures.place c.part_end-end.ensures.within c.loop-k.invariant.1 in
    let d = length-drop c.loop-k.at c.args.words.now in
    last_of c.loop-k.k c.args.m c.loop-k-test.true
    ∙ sym (n.here ∙ last-text _ _ _ n.stop (omega (arith, d, c.if-end-words.true)) (sym c.is_text.ensures ∙ c.if-not-is_text.false))

pub loop-k-preserved : goal.loop-k-preserved
loop-k-preserved c =
    let words = c.args.words.now in
    let at = c.loop-k.at in
    let end = c.part_end-end.result in
    let left = c.args.m - (c.loop-k.k + 1) in
    let p = c.part_end-end.ensures.place in
    let w = c.part_end-end.ensures.within in
    let n = next words c.args.m c.loop-k.k at end c.loop-k-test.true p w c.loop-k.invariant.1 in
    let d = length-drop at words in
    let s : at + (end - at + 1) ≡ end + 1 = omega (arith, p) in (
      omega (arith, w, c.if-end-words.false),
      n.here
          ∙ next-text left (drop at words) (end - at) n.stop (omega (arith, d, p, w, c.if-end-words.false)) (sym c.is_text.ensures ∙ c.if-not-is_text.false)
          ∙ ap (λ (x : List ℕ). are_texts left (parts 32 x)) (drop-drop (end - at + 1) at words ∙ rw s refl),
    )

pub returns : goal.returns
returns c =
    let r = drop c.loop-k.at c.args.words.now in
    let z : c.args.m - c.loop-k.k ≡ 0 = omega (arith, c.loop-k-test.false) in
    sym (c.loop-k.invariant.1 ∙ ap (λ (n : ℕ). are_texts n (parts 32 r)) z ∙ no-texts r)
