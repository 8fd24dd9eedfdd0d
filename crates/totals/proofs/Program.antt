-- What the program prints, put together from what its functions are held to. What no contract can say is that main reads the files and writes these lines.
-- Assumes nothing.
use mathlib.Core.Path.{◌≡◌, refl, sym, ap, ◌∙◌}
use mathlib.Core.List.{List}
use Prim.Native.Nat.{ℕ, ◌≤◌}
use lib.IntN.{ℤ}
use lib.ListN.{take}
use Rattle.backoff.specs.Refusal.{text_line}
use Rattle.backoff.specs.Model.{Model}
use Rattle.backoff.specs.Runs.{flat}
use Rattle.backoff.specs.Refusal.{Refused}
use Rattle.word_walk.specs.Rows.{array_model}
use Rattle.totals_text.specs.Lines.{refused_line}
use Rattle.totals_list.specs.List.{lines_of, ListText, rows, not_in_form, read_list}
use Rattle.totals_list.proofs.EnoughBytes.{enough_bytes, list-bytes}
use Rattle.totals_lines.specs.declared.Progress.{Progress}
use Rattle.totals_lines.specs.Text.{text_output}
use Rattle.totals_lines.proofs.Pieces.{InPieces, in_pieces_is}
use Rattle.totals.specs.Totals.{built, HoldsBuilt, totals_output}
use Rattle.totals.proofs.BuiltArrays.{rows_are}

-- The program reads the first n bytes of LIST.
module _ (n : ℕ) (enough : enough_bytes ≤ n) (list : List ℕ) where
  whole : {x : ListText} → read_list 1 (lines_of (take n list)) ≡ x → read_list 1 (lines_of list) ≡ x
  whole e = sym (list-bytes n list enough) ∙ e

  -- a line of LIST is not in form
  pub prints_not_in_form : (text : List ℕ) (k : ℕ) → read_list 1 (lines_of (take n list)) ≡ not_in_form k → totals_output list text ≡ refused_line text_line k
  unfolding totals_output
  prints_not_in_form text k e = rw (whole e) refl

  -- build refuses the rows
  pub prints_refused : (text : List ℕ) (table : List ℤ) (number place : ℕ) → read_list 1 (lines_of (take n list)) ≡ rows table → (built table).answer ≡ Refused number place → totals_output list text ≡ refused_line number place
  unfolding totals_output
  prints_refused text table number place e b = rw (whole e, b) refl

  -- the totals, whatever the pieces in which TEXT was read
  pub prints_totals : (base check : List ℤ) (H : HoldsBuilt base check) {p : Progress} {line : List ℕ} {pieces : List (List ℕ)} {text : List ℕ} → read_list 1 (lines_of (take n list)) ≡ rows H.table → p.number ≡ 1 → p.count ≡ 0 → InPieces (array_model base check) p line pieces text → totals_output list (flat pieces) ≡ text
  unfolding totals_output
  prints_totals base check H {pieces = pieces} e one none P =
      rw (whole e, H.accepted) (ap (λ (M : Model). text_output M 1 (lines_of (flat pieces))) (sym (rows_are base check H)) ∙ rw (one, none) at (in_pieces_is P))
