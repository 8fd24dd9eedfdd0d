-- Laws of the sheets of specs/Inner.antt. Assumes nothing.
use mathlib.Core.Path.{◌≡◌, sym}
use mathlib.Core.List.{List, [], ◌∷◌, ◌++◌, append_assoc}
use Prim.Native.Nat.{ℕ, ◌+◌, ◌<◌}
use native.Mathlib.Numerals.{add-one}
use native.Mathlib.Omega.{arith}
use lib.ListN.{length, take, get_or}
use lib.Seq.{take-suc}
use lib.IntN.{ℤ}
use Rattle.backoff.specs.Counts.{has_matched}
use Rattle.backoff.proofs.Counts.{count_append}
use Rattle.stretches.specs.declared.Counts.{Counts}
use Rattle.stretches.specs.Inner.{counted, Tallied}
use Rattle.stretches.proofs.Counters.{tallied-word}
use Rattle.batch.specs.Inner.{counted_sheet, matched_in, bytes_sheet}

-- the sheet of what the counters hold is that of the bytes
module _ (closing words : List ℕ) (counts : Counts) (t : Tallied (closing ++ words) words counts) where
  matched-is : (k : ℕ) → k < 8 → get_or counts.matched k 0 ≡ matched_in closing words k
  matched-is k h = omega (arith, t.each k h, count_append (has_matched k) closing words)

  pub counted-bytes : (sentences last : ℕ) (total : ℤ) → counted_sheet sentences last total counts ≡ bytes_sheet sentences last total closing words
  counted-bytes sentences last total = rw (t.unknown, matched-is 1 (omega arith), matched-is 2 (omega arith), matched-is 3 (omega arith), matched-is 4 (omega arith), matched-is 5 (omega arith))

-- one more of the bytes is counted
pub tally-more : (lengths bytes words : List ℕ) (i : ℕ) (counts : Counts) → i < length lengths → Tallied (bytes ++ take i lengths) (words ++ take i lengths) counts → Tallied (bytes ++ take (i + 1) lengths) (words ++ take (i + 1) lengths) (counted (get_or lengths i 0) counts)
tally-more lengths bytes words i counts h t =
    let byte = get_or lengths i 0 in
    let a : (bytes ++ take i lengths) ++ (byte ∷ []) ≡ bytes ++ (take i lengths ++ (byte ∷ [])) = append_assoc bytes (take i lengths) (byte ∷ []) in
    let b : (words ++ take i lengths) ++ (byte ∷ []) ≡ words ++ (take i lengths ++ (byte ∷ [])) = append_assoc words (take i lengths) (byte ∷ []) in
    rw (add-one, take-suc lengths i 0 h, sym a, sym b) (tallied-word _ _ counts t byte)
