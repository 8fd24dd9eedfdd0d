-- TEXT fed piece by piece. Assumes nothing.
use mathlib.Core.Path.{◌≡◌, sym, ap, ◌∙◌}
use mathlib.Core.Bool.{true, false}
use mathlib.Core.List.{List, [], ◌∷◌, ◌++◌, append-nil}
use Prim.Native.Nat.{ℕ}
use native.Mathlib.Omega.{arith}
use lib.ListN.{length, take}
use lib.Seq.{length-take-le}
use Rattle.backoff.specs.Model.{Model}
use Rattle.backoff.specs.Runs.{flat}
use Rattle.totals_list.specs.List.{lines_of}
use Rattle.totals_lines.specs.declared.Progress.{Progress}
use Rattle.totals_lines.specs.Text.{text_output}
use Rattle.totals_lines.specs.Steps.{Begun, output_from, Fed, finished}
use Rattle.totals_lines.proofs.Begun.{begun-finished}

-- The pieces of TEXT were fed one after the other from a line that had begun, and `text` is all that was printed.
pub data InPieces (M : Model) : Progress → List ℕ → List (List ℕ) → List ℕ → Type 0 where
  at-end : {p : Progress} {line : List ℕ} → Begun p line → InPieces M p line [] (finished p.number p.count)
  refused : {p q : Progress} {line left piece text : List ℕ} {pieces : List (List ℕ)} → Fed M piece p line q left text → q.ended ≡ true → InPieces M p line (piece ∷ pieces) text
  onward : {p q : Progress} {line left piece text rest : List ℕ} {pieces : List (List ℕ)} → Fed M piece p line q left text → q.ended ≡ false → InPieces M q left pieces rest → InPieces M p line (piece ∷ pieces) (text ++ rest)

-- whatever the pieces are, it is the output for all of TEXT
pub in_pieces_is : {M : Model} {p : Progress} {line : List ℕ} {pieces : List (List ℕ)} {text : List ℕ} → InPieces M p line pieces text → output_from M p line (flat pieces) ≡ text
unfolding flat
in_pieces_is {M} (at-end {p} {line} b) =
    let l : length (take p.count line) ≡ p.count = length-take-le p.count line (omega (arith, b.buffer, b.room)) in
    ap (λ (t : List ℕ). text_output M p.number (lines_of t)) (append-nil (take p.count line)) ∙ begun-finished M p.number (take p.count line) (b.no_end ∙ sym l) ∙ ap (finished p.number) l
in_pieces_is (refused {pieces = pieces} f e) = f.ended e (flat pieces)
in_pieces_is (onward {text = text} {pieces = pieces} f e rest) = f.onward e (flat pieces) ∙ ap (λ (t : List ℕ). text ++ t) (in_pieces_is rest)
