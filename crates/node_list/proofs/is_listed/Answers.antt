use Rattle.std.specs.declared.result.Result.{Result}
use Rattle.std.specs.declared.result.Result.TheVariants.{Ok, Err}
use mathlib.Core.Path.{◌≡◌, sym}
use mathlib.Core.Bool.{false, ◌&&◌, false≢true}
use Prim.Native.Nat.{ℕ}
use native.Mathlib.Omega.{arith}
use lib.Dec.{eqb}
use Rattle.std.specs.Result.{is_err}
use Rattle.backoff.specs.declared.Refusal.{Refusal}
use Rattle.backoff.specs.Refusal.{number_of, Verdict, Accepted, verdict_of}
use Rattle.rows.specs.Table.{rows_of, order_of}
use Rattle.list.specs.Check.{verdict}
use Rattle.list.proofs.Check.{accepted-size}
use Rattle.node_list.proofs.is_listed.Goals as goal

accepted : (r : Result Unit (Refusal ℕ)) (v : Verdict) → is_err r ≡ false → verdict_of r ≡ v → v ≡ Accepted
accepted (Ok x) v h e = sym e
accepted (Err x) v h e = absurd (false≢true (sym h))

-- the order that the rows have, compared with the array's
same-order : {v : Verdict} {l o m n : ℕ} → v ≡ Accepted → l ≡ m → o ≡ n → eqb l o ≡ (eqb (number_of v) 0 && eqb m n)
same-order a e f = rw (a, e, f)

pub overflow_sub-table : goal.overflow_sub-table
unfolding rows_of
overflow_sub-table c = (accepted-size _ (accepted _ (verdict c.args.table.now) (sym c.if-is_err.ensures.value) c.check_and_mark.ensures.outcome)).0

pub length_of-requires : goal.length_of-requires
unfolding rows_of
length_of-requires c = let s = accepted-size _ (accepted _ (verdict c.args.table.now) (sym c.if-is_err.ensures.value) c.check_and_mark.ensures.outcome) in omega (arith, s.0, s.2)

pub returns-clause-answer : goal.returns-clause-answer
unfolding order_of rows_of
returns-clause-answer c = same-order (accepted _ (verdict c.args.table.now) (sym c.if-is_err.ensures.value) c.check_and_mark.ensures.outcome) c.length_of.ensures.0 c.args.array.order_is
