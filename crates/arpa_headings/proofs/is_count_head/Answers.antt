-- `arpa_headings::is_count_head`: what stands behind `ngram ` is compared.
use Rattle.std.proofs.Common.{◌≡◌, ◌≢◌, ℕ, ◌+◌, false, ◌||◌, List, [], ◌∷◌, ◌++◌, Some, None, sym, refl, ◌∙◌}
use Rattle.std.proofs.lemmas.Bool.Decides.{Decides-eqb}
use Rattle.std.proofs.lemmas.Slice.Eq.{strip_prefix_is}
use Rattle.backoff.specs.Words.{same_words}
use Rattle.backoff.proofs.Words.{same_ne}
use Rattle.text_parts.proofs.Parts.{same_words-pointwise}
use Rattle.arpa_headings.specs.Headings.{is_count_head}
use Rattle.arpa_headings.proofs.is_count_head.Goals as goal

-- `ngram `
abbrev front : List ℕ
front = 110 ∷ 103 ∷ 114 ∷ 97 ∷ 109 ∷ 32 ∷ []

other_front : (m : ℕ) (text : List ℕ) → ((rest : List ℕ) → text ≢ front ++ rest) → false ≡ is_count_head m text
unfolding is_count_head
other_front m text n = rw (same_ne text (front ++ ((48 + m) ∷ [])) (n _), same_ne text (front ++ ((48 + m) ∷ 32 ∷ [])) (n _)) refl

behind_front : (m : ℕ) (text rest : List ℕ) → text ≡ front ++ rest
    → is_count_head m text ≡ (same_words rest ((48 + m) ∷ []) || same_words rest ((48 + m) ∷ 32 ∷ []))
unfolding is_count_head same_words
behind_front m text rest e = rw e refl

pub returns-in_default : goal.returns-in_default
returns-in_default c =
    other_front c.args.m c.args.text.now (strip_prefix_is Decides-eqb c.args.text.now front None c.in_default.ensures.cases)

pub returns-then-eq : goal.returns-then-eq
returns-then-eq c =
    let rest = c.in-Some.rest.now in
    let head = behind_front c.args.m c.args.text.now rest (strip_prefix_is Decides-eqb c.args.text.now front (Some c.in-Some.rest) c.in-Some.ensures.cases) in
    let same : c.eq.result ≡ same_words rest ((48 + c.args.m) ∷ []) = c.eq.ensures ∙ rw c.as_slice.ensures (same_words-pointwise rest ((48 + c.args.m) ∷ [])) in
    c.if-eq.true ∙ sym (head ∙ rw (sym same ∙ c.if-eq.true) refl)

pub returns-else-eq : goal.returns-else-eq
returns-else-eq c =
    let rest = c.in-Some.rest.now in
    let head = behind_front c.args.m c.args.text.now rest (strip_prefix_is Decides-eqb c.args.text.now front (Some c.in-Some.rest) c.in-Some.ensures.cases) in
    let same : c.eq.result ≡ same_words rest ((48 + c.args.m) ∷ []) = c.eq.ensures ∙ rw c.as_slice.ensures (same_words-pointwise rest ((48 + c.args.m) ∷ [])) in
    let also : c.eq-else-eq.result ≡ same_words rest ((48 + c.args.m) ∷ 32 ∷ []) = c.eq-else-eq.ensures ∙ rw c.as_slice-else-eq.ensures (same_words-pointwise rest ((48 + c.args.m) ∷ 32 ∷ [])) in
    also ∙ sym (head ∙ rw (sym same ∙ c.if-eq.false) refl)
