-- Laws of a line of TEXT that has begun. Assumes nothing.
use mathlib.Core.Path.{◌≡◌, refl, ap, ◌∙◌}
use mathlib.Core.Bool.{Bool, true, false}
use mathlib.Core.List.{List, [], ◌∷◌, ◌++◌}
use Prim.Native.Nat.{ℕ, suc, ◌≤◌, ◌<◌}
use native.Mathlib.Omega.{arith}
use borrow.Author.Tests.{ne_eqb, lt-leb}
use lib.Dec.{eqb}
use lib.ListN.{length}
use Rattle.text_parts.specs.Parts.{before}
use Rattle.backoff.specs.Refusal.{text_line}
use Rattle.backoff.specs.Model.{Model}
use Rattle.totals_text.specs.Lines.{is_text_line, refused_line}
use Rattle.totals_list.specs.List.{Line, ended, unended, longer, lines_of, line_end}
use Rattle.totals_list.proofs.Lines.{line_unended}
use Rattle.totals_lines.specs.Text.{text_output}
use Rattle.totals_lines.specs.Steps.{finished}

-- its characters without the first
begun-rest : (c : ℕ) (l : List ℕ) → line_end (c ∷ l) ≡ suc (length l) → (eqb c 10 ≡ false) × (line_end l ≡ length l)
unfolding before
begun-rest c l e = go (eqb c 10) refl
  where
    go : (b : Bool) → eqb c 10 ≡ b → (eqb c 10 ≡ false) × (line_end l ≡ length l)
    go true q = let z : 0 ≡ suc (length l) = rw q at e in absurd (omega arith)
    go false q = let k : suc (line_end l) ≡ suc (length l) = rw q at e in (q, omega arith)

pub begun_more : (l : List ℕ) (c : ℕ) → line_end l ≡ length l → (c ≡ 10 → ⊥) → line_end (l ++ (c ∷ [])) ≡ suc (length l)
unfolding before
begun_more [] c e n = rw (ne_eqb c 10 n) refl
begun_more (d ∷ l) c e n = let k = begun-rest d l e in rw k.0 (ap suc (begun_more l c k.1 n))

pub begun-ends : (l rest : List ℕ) → line_end l ≡ length l → lines_of (l ++ (10 ∷ rest)) ≡ ended l ∷ lines_of rest
unfolding lines_of
begun-ends [] rest e = refl
begun-ends (c ∷ l) rest e = let k = begun-rest c l e in rw k.0 (ap (longer c) (begun-ends l rest k.1) ∙ (unfold longer in refl))

-- the first line has so many characters
FirstLong : ℕ → List Line → Type 0
FirstLong n [] = n ≤ 0
FirstLong n (ended l ∷ ls) = n ≤ length l
FirstLong n (unended l ∷ ls) = n ≤ length l

any_long : (ls : List Line) → FirstLong 0 ls
unfolding FirstLong
any_long [] = omega arith
any_long (ended l ∷ ls) = omega arith
any_long (unended l ∷ ls) = omega arith

longer-long : (n c : ℕ) (ls : List Line) → FirstLong n ls → FirstLong (suc n) (longer c ls)
unfolding FirstLong longer
longer-long n c [] h = omega arith
longer-long n c (ended l ∷ ls) h = omega arith
longer-long n c (unended l ∷ ls) h = omega arith

first-long : (l rest : List ℕ) → line_end l ≡ length l → FirstLong (length l) (lines_of (l ++ rest))
unfolding lines_of
first-long [] rest e = any_long (lines_of rest)
first-long (c ∷ l) rest e = let k = begun-rest c l e in rw k.0 (longer-long (length l) c (lines_of (l ++ rest)) (first-long l rest k.1))

-- more characters than 64 words have are not in form, whatever follows
pub too_long : (M : Model) (k : ℕ) (l rest : List ℕ) → line_end l ≡ length l → 512 < length l → text_output M k (lines_of (l ++ rest)) ≡ refused_line text_line k
unfolding FirstLong
too_long M k l rest e h = go (lines_of (l ++ rest)) (first-long l rest e)
  where
    long : (m : List ℕ) → length l ≤ length m → is_text_line m ≡ false
    long m g = unfold is_text_line in rw (lt-leb (length m) 512 (omega arith)) refl

    go : (ls : List Line) → FirstLong (length l) ls → text_output M k ls ≡ refused_line text_line k
    go [] g = absurd (omega arith)
    go (ended m ∷ ls) g = unfold text_output in rw (long m g) refl
    go (unended m ∷ ls) g = unfold text_output in refl

-- what is printed where TEXT ends in a line that has begun
pub begun-finished : (M : Model) (k : ℕ) (l : List ℕ) → line_end l ≡ length l → text_output M k (lines_of l) ≡ finished k (length l)
unfolding finished
begun-finished M k [] e = unfold lines_of text_output in refl
begun-finished M k (c ∷ l) e = rw (line_unended (c ∷ l) e (omega arith), ne_eqb (suc (length l)) 0 (λ z. omega arith)) (unfold text_output in refl)
