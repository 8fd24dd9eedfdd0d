-- What an unknown word adds.
use Rattle.std.proofs.Common.{◌≡◌, ap, arith, ℕ, Bool, cond, ℤ, pos}
use lib.Dec.{eqb}
use mir.Syntax.{w32}
use mir.Val.{SFits, of_z}
use borrow.Author.Tests.{ne_eqb}
use Rattle.integer.specs.Integer.{between, up_to}
use Rattle.integer.proofs.Arithmetic.{zarith, same_bits}
use Rattle.backoff.specs.Limits.{unknown_word}
use Rattle.backoff.specs.Rule.{length_byte}
use Rattle.rows.specs.Table.{word_of}
use Rattle.plain_word.proofs.Words.{word_of-some}
use Rattle.plain_word.proofs.length_byte.Goals as goal
use Rattle.plain_word.proofs.length_byte.Goals.{then-word-eq-UNKNOWN_WORD, else-word-eq-UNKNOWN_WORD}

abbrev mark : ℤ → ℕ
mark z = cond (eqb (word_of z) unknown_word) 8 0

unknown : (z : ℤ) → z ≡ pos 1 → mark z ≡ 8
unfolding up_to between
unknown z e = rw e

known : (z : ℤ) → (z ≡ pos 1 → ⊥) → mark z ≡ 0
known z n = rw (ne_eqb (word_of z) 1 (λ e. n (word_of-some z 0 e)))

one : SFits w32 (pos 1)
one = omega zarith

pub returns-then-extended : goal.returns-then-extended
unfolding length_byte
returns-then-extended c =
    elim c.if-word-eq-UNKNOWN_WORD.branch [
      | then-word-eq-UNKNOWN_WORD w ↦ omega (arith, w.byte-is, unknown c.args.word (same_bits c.ranges.word one w.if-word-eq-UNKNOWN_WORD.true), ap {B = ℕ} (λ (e : Bool). cond e 16 0) c.if-extended.true)
      | else-word-eq-UNKNOWN_WORD w ↦ omega (arith, w.byte-is, known c.args.word (λ e. w.if-word-eq-UNKNOWN_WORD.false (ap (of_z w32) e)), ap {B = ℕ} (λ (e : Bool). cond e 16 0) c.if-extended.true)
    ]

pub returns-else-extended : goal.returns-else-extended
unfolding length_byte
returns-else-extended c =
    elim c.if-word-eq-UNKNOWN_WORD.branch [
      | then-word-eq-UNKNOWN_WORD w ↦ omega (arith, w.byte-is, unknown c.args.word (same_bits c.ranges.word one w.if-word-eq-UNKNOWN_WORD.true), ap {B = ℕ} (λ (e : Bool). cond e 16 0) c.if-extended.false)
      | else-word-eq-UNKNOWN_WORD w ↦ omega (arith, w.byte-is, known c.args.word (λ e. w.if-word-eq-UNKNOWN_WORD.false (ap (of_z w32) e)), ap {B = ℕ} (λ (e : Bool). cond e 16 0) c.if-extended.false)
    ]
