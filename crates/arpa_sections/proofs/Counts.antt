-- Laws of the data section: a line announces a count, or it is the heading of the one-word section. Assumes nothing.
use Rattle.std.specs.declared.option.Option.TheVariants.{Some, None}
use Rattle.std.specs.declared.result.Result.TheVariants.{Ok}
use mathlib.Core.Path.{◌≡◌, refl, sym, ap, subst, ◌∙◌}
use mathlib.Core.List.{List, [], ◌∷◌, ◌++◌}
use Prim.Native.Nat.{ℕ, ◌+◌, ◌<◌, ◌≤◌}
use native.Mathlib.Omega.{arith}
use native.Mathlib.Numerals.{add-one}
use lib.IntN.{ℤ}
use lib.ListN.{length, take, set, length-set}
use lib.Seq.{take-suc-set}
use borrow.Author.Tests.{lt-ltb, le-ltb}
use Rattle.backoff.specs.Limits.{order_limit}
use Rattle.arpa_headings.specs.Headings.{read_count}
use Rattle.arpa_sections.specs.Sections.{Reading, Step, announce, first_section, count_step, data_step}
use Rattle.arpa_sections.specs.Held.{Held, StepHeld, announcing}
use Rattle.arpa_sections.specs.declared.Stage.TheVariants.{Counts}
use Rattle.arpa_sections.specs.declared.Progress.{Progress}
use Rattle.arpa_sections.proofs.Stages.{announced-length, held_at, held_resumes}

module _ (room size : ℕ) (t : List ℤ) (s : List ℕ) (p : Progress) (a : Reading) (h : Held room size t s p a) where
  -- as long as fewer than five are announced, the next count is looked for
  data_count : (line : List ℕ) → p.order < order_limit → data_step a line ≡ count_step a line (read_count (p.order + 1) line)
  unfolding data_step
  data_count line l =
      let e = announced-length room size t s p a h in
      rw (lt-ltb (length a.announced) order_limit (omega arith), e, add-one p.order) refl

  pub data_not_count : (line : List ℕ) → p.order < order_limit → read_count (p.order + 1) line ≡ None → data_step a line ≡ first_section a line
  data_not_count line l e = data_count line l ∙ ap (count_step a line) e

  pub data_all_announced : (line : List ℕ) → order_limit ≤ p.order → data_step a line ≡ first_section a line
  unfolding data_step
  data_all_announced line l =
      let e = announced-length room size t s p a h in
      rw (le-ltb (length a.announced) order_limit (omega arith)) refl

  -- a count more is held
  announced-held : (count : ℕ) → p.stage ≡ Counts → p.order < order_limit → Held room size t s (announcing p count) (announce a count)
  unfolding announce
  announced-held count e l =
      let n = held_at room size t s p a h Counts e in
      let c = h.counts-long in
      let m : p.order < length p.counts = omega arith in
      held_resumes room size t s p a h p.stage Counts e (set p.counts p.order count) (p.order + 1) p.buckets (a.announced ++ (count ∷ []))
      (omega arith)
      (length-set p.counts p.order count ∙ h.counts-long)
      (ap (λ (k : ℕ). take k (set p.counts p.order count)) (add-one p.order)
      ∙ take-suc-set p.counts p.order count m
      ∙ ap (λ (l : List ℕ). l ++ (count ∷ [])) h.announced)
      (record { rows = n.rows; texts = n.texts; table = n.table })

  pub data_announced : (line : List ℕ) (count : ℕ) → p.stage ≡ Counts → p.order < order_limit → read_count (p.order + 1) line ≡ Some count
      → (r : Progress) → r ≡ announcing p count → StepHeld room size t s (data_step a line) (Ok r)
  data_announced line count e l f r g =
      subst (λ (x : Step). StepHeld room size t s x (Ok r)) (sym (data_count line l ∙ ap (count_step a line) f))
      (subst (λ (y : Progress). Held room size t s y (announce a count)) (sym g) (announced-held count e l))
