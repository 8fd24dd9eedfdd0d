-- Reasons and refusals as what a call returns: each reason has a number, and one that is passed on names no place. Assumes nothing.
use Rattle.std.specs.declared.result.Result.{Result}
use Rattle.std.specs.declared.result.Result.TheVariants.{Ok, Err}
use Rattle.std.specs.Result.{IsErrAnd}
use mathlib.Core.Path.{◌≡◌, ap}
use Prim.Native.Nat.{ℕ}
use native.Mathlib.Omega.{arith}
use Rattle.backoff.specs.declared.Reason.{Reason}
use Rattle.backoff.specs.declared.Reason.TheVariants.{TableLength, ArrayLength, RowLength, RowWords, RowProbability, RowBackoff, RowOrder, ShorterRow, ReservedWord, NoRoom, ArrayHead, BrokenNode, TextLine, WordCount, ShortSlice, BadState, LineForm, UnlistedText, SectionCount, SentenceEnd, BadFragment, ListingSize}
use Rattle.backoff.specs.declared.Refusal.{Refusal}
use Rattle.backoff.specs.Refusal.{reason_number}

pub some-number : (x : Reason) → reason_number x ≡ 0 → ⊥
some-number TableLength e = absurd (omega arith)
some-number ArrayLength e = absurd (omega arith)
some-number RowLength e = absurd (omega arith)
some-number RowWords e = absurd (omega arith)
some-number RowProbability e = absurd (omega arith)
some-number RowBackoff e = absurd (omega arith)
some-number RowOrder e = absurd (omega arith)
some-number ShorterRow e = absurd (omega arith)
some-number ReservedWord e = absurd (omega arith)
some-number NoRoom e = absurd (omega arith)
some-number ArrayHead e = absurd (omega arith)
some-number BrokenNode e = absurd (omega arith)
some-number TextLine e = absurd (omega arith)
some-number WordCount e = absurd (omega arith)
some-number ShortSlice e = absurd (omega arith)
some-number BadState e = absurd (omega arith)
some-number LineForm e = absurd (omega arith)
some-number UnlistedText e = absurd (omega arith)
some-number SectionCount e = absurd (omega arith)
some-number SentenceEnd e = absurd (omega arith)
some-number BadFragment e = absurd (omega arith)
some-number ListingSize e = absurd (omega arith)

pub err-is : {A E : Type 0} (r : Result A E) (x : E) → IsErrAnd r (λ y. y ≡ x) → r ≡ Err x
err-is (Ok a) x h = absurd h
err-is (Err e) x h = ap Err h

pub refused-as : {A : Type 0} (r : Result A (Refusal ℕ)) (x : Reason) → IsErrAnd r (λ y. y ≡ record { reason = x; place = 0 }) → r ≡ Err (record { reason = x; place = 0 })
refused-as r x h = err-is r (record { reason = x; place = 0 }) h
