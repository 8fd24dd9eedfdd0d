-- Laws of a count that a line announces. Assumes nothing.
use Rattle.std.specs.declared.option.Option.{Option}
use Rattle.std.specs.declared.option.Option.TheVariants.{None}
use mathlib.Core.Path.{◌≡◌, refl}
use mathlib.Core.Logic.{⊎_elim}
use mathlib.Core.Bool.{Bool, true, false, cond}
use mathlib.Core.List.{List, [], ◌∷◌}
use Prim.Native.Nat.{ℕ, ◌+◌, ◌<◌}
use native.Mathlib.Omega.{arith}
use lib.Dec.{eqb}
use lib.ListN.{length, get_or, take, drop}
use borrow.Author.Tests.{ne_eqb, eqb-true}
use Rattle.decimal.specs.Digits.{digits_up_to}
use Rattle.decimal.proofs.Digits.{all_digits_lem}
use Rattle.text_parts.specs.Parts.{parts, before}
use Rattle.text_parts.proofs.Parts.{parts-one, parts_more, lacks_or_has, before-other, digits_lack}
use Rattle.arpa_headings.specs.Headings.{is_count_head, without_space, count_in, count_between}

without_space_lack : (text : List ℕ) → digits_up_to 9 (without_space text) ≡ true → before 61 text ≡ length text
unfolding without_space
without_space_lack [] e = digits_lack 61 [] (λ d l h f. omega arith) (all_digits_lem 9 [] e)
without_space_lack (c ∷ text) e = go (eqb c 32) refl
  where
    go : (t : Bool) → eqb c 32 ≡ t → before 61 (c ∷ text) ≡ length (c ∷ text)
    go true f =
        let y = eqb-true c 32 f in
        before-other 61 c text (λ n. omega arith) (digits_lack 61 text (λ d l h g. omega arith) (all_digits_lem 9 text (rw f at e)))
    go false f = digits_lack 61 (c ∷ text) (λ d l h g. omega arith) (all_digits_lem 9 (c ∷ text) (rw f at e))

count_lack : (text : List ℕ) → before 61 text < length text → count_in (without_space text) ≡ None
unfolding count_in
count_lack text h = go (digits_up_to 9 (without_space text)) refl
  where
    go : (t : Bool) → digits_up_to 9 (without_space text) ≡ t → count_in (without_space text) ≡ None
    go true e = let l = without_space_lack text e in absurd (omega arith)
    go false e = rw e refl

same_cond : (t : Bool) (r : Option ℕ) → cond t r r ≡ r
same_cond true r = refl
same_cond false r = refl

-- a second `=` makes no count
pub count_fields : (m : ℕ) (head rest : List ℕ) → count_between m (head ∷ parts 61 rest) ≡ cond (is_count_head m head) (count_in (without_space rest)) None
count_fields m head rest =
    ⊎_elim
    (λ h. rw (parts-one 61 rest h) refl)
    (λ h. rw (count_lack rest h, same_cond (is_count_head m head) None, parts_more 61 rest h) (more (take (before 61 rest) rest) (drop (before 61 rest + 1) rest)))
    (lacks_or_has 61 rest)
  where
    more : (count behind : List ℕ) → count_between m (head ∷ count ∷ parts 61 behind) ≡ None
    more count behind =
        ⊎_elim (λ h. rw (parts-one 61 behind h) refl) (λ h. rw (parts_more 61 behind h) refl) (lacks_or_has 61 behind)

pub space_absent : (text : List ℕ) → (length text ≡ 0 → ⊥) → (get_or text 0 0 ≡ 32 → ⊥) → without_space text ≡ text
unfolding without_space
space_absent [] n e = absurd (n refl)
space_absent (c ∷ text) n e = rw (ne_eqb c 32 e) refl
