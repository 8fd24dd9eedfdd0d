use Rattle.std.proofs.Common.{◌≡◌, [], ◌∷◌, ◌++◌, map, ℕ, ◌/◌, ◌%◌, ◌≤◌, take, pos, to_z, w32, arith, ◌∙◌}
use lib.ListN.{length-map}
use lib.Seq.{take-append-le, length-take-le}
use mir.Facts.{to_z_pos}
use Rattle.backoff.specs.Words.{radix}
use Rattle.backoff.specs.NineNumbers.{nine}
use Rattle.backoff.proofs.Rule.{take-map}
use Rattle.carried_state.specs.Numbers.{numbers_of}
use Rattle.carried_state.specs.Packed.{digits}
use Rattle.carried_state.proofs.Digits.{length_digits}
use Rattle.carried_state.proofs.Packed.unpack.Goals as goal

digit_is : (n : ℕ) → to_z w32 (n % radix) ≡ pos (n % radix)
digit_is n = to_z_pos w32 {n = n % radix} (omega arith)

-- the row that the code makes: the words' digits, and a 0 behind them
row_is : (n : ℕ) → to_z w32 (n % radix) ∷ to_z w32 (n / radix % radix) ∷ to_z w32 (n / radix / radix % radix) ∷ to_z w32 (n / radix / radix / radix % radix) ∷ pos 0 ∷ [] ≡ map pos (digits 4 n) ++ (pos 0 ∷ [])
unfolding digits
row_is n = rw (digit_is n, digit_is (n / radix), digit_is (n / radix / radix), digit_is (n / radix / radix / radix))

row_words_lem : (count n : ℕ) → count ≤ 4 → take count (map pos (digits 4 n) ++ (pos 0 ∷ [])) ≡ map pos (take count (digits 4 n))
row_words_lem count n h =
    take-append-le count (map pos (digits 4 n)) (pos 0 ∷ []) (omega (arith, length-map (digits 4 n) pos, length_digits 4 n))
    ∙ take-map pos count (digits 4 n)

pub returns : goal.returns
unfolding numbers_of nine
returns c =
    let count = c.args.self.count in
    let n = c.args.self.words in
    rw (to_z_pos w32 {n = count} (omega arith), c.cut.ensures, c.cut-2.ensures, row_is n, row_words_lem count n c.requires, length-take-le count (digits 4 n) (omega (arith, c.requires, length_digits 4 n)))
