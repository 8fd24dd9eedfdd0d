-- What the inner functions of the batch are held to. Assumes nothing.
use Rattle.std.specs.Prelude.{List, [], ◌∷◌, ℕ, ◌+◌, get_or, ℤ}
use Rattle.backoff.specs.Counts.{has_matched, says_unknown, count}
use Rattle.std.specs.declared.result.Result.{Result}
use Rattle.std.specs.declared.result.Result.TheVariants.{Ok, Err}
use Rattle.backoff.specs.declared.Refusal.{Refusal}
use Rattle.backoff.specs.Refusal.{reason_number}
use Rattle.stretches.specs.declared.Counts.{Counts}
use Rattle.batch.specs.declared.Sheet.{Sheet}
use Rattle.batch.specs.Sheet.{refused_sheet}

-- the sheet that is returned: where it is refused, all zeros but for the number and the place
abbrev pub sheet_of : Result Sheet (Refusal ℕ) → Sheet
sheet_of (Ok sheet) = sheet
sheet_of (Err refusal) = refused_sheet (reason_number refusal.reason) refusal.place

-- the sheet of so many sentences and words, and of these counts
abbrev pub sheet_with : ℕ → ℕ → ℤ → ℕ → (ℕ → ℕ) → Sheet
sheet_with sentences words total unknown matched =
    record { number = 0; sentences = sentences; place = 0; total = total; words = words; unknown = unknown; matched = matched 1 ∷ matched 2 ∷ matched 3 ∷ matched 4 ∷ matched 5 ∷ [] }

-- with what the counters hold
abbrev pub counted_sheet : ℕ → ℕ → ℤ → Counts → Sheet
counted_sheet sentences words total counts = sheet_with sentences words total counts.unknown (λ k. get_or counts.matched k 0)

-- with what the bytes of the closing 3s and those of the words tell
abbrev pub matched_in : List ℕ → List ℕ → ℕ → ℕ
matched_in closing bytes k = count (has_matched k) bytes + count (has_matched k) closing

abbrev pub bytes_sheet : ℕ → ℕ → ℤ → List ℕ → List ℕ → Sheet
bytes_sheet sentences words total closing bytes = sheet_with sentences words total (count says_unknown bytes) (matched_in closing bytes)
