-- Two double arrays that no call tells apart, over the outcomes that the contracts of the calls cite. Assumes nothing.
use Rattle.std.specs.Prelude.{◌≡◌, List, ℕ, ℤ}
use Rattle.backoff.specs.Run.{Run}
use Rattle.backoff.specs.Store.{start_outcome, run_outcome}
use Rattle.double_array.specs.DoubleArray.{opened}
use Rattle.lookup.specs.Lookup.{lookup_outcome}
use Rattle.batch.specs.Sheet.{sheet_outcome}
use Rattle.sentences.specs.Listing.{listing_outcome}
use Rattle.largest_move.specs.Move.{move_outcome}
use Rattle.fragments.specs.declared.Fragment.{Fragment}
use Rattle.fragment_scoring.specs.Outcome.{fragment_outcome}
use Rattle.joining.specs.Outcome.{join_outcome}
use Rattle.unload.specs.Unload.{unload_outcome}

-- whatever the words, the state, the fragments and the lent slices are: answers, states, points, length bytes, rows and slots, refused or not
pub record AnswersAlike (base check base' check' : List ℤ) : Type 0 where
  pub lookups : (ws : List ℕ) → lookup_outcome base check ws ≡ lookup_outcome base' check' ws
  pub starts : (l : List ℤ) → start_outcome (opened base check) l ≡ start_outcome (opened base' check') l
  pub runs : (l : List ℤ) (r : Run) → run_outcome (opened base check) l r ≡ run_outcome (opened base' check') l r
  pub sheets : (ends : List ℕ) (r : Run) → sheet_outcome (opened base check) ends r ≡ sheet_outcome (opened base' check') ends r
  pub listings : (k : ℕ) (words : List ℕ) (totals : List ℤ) → listing_outcome (opened base check) k words totals ≡ listing_outcome (opened base' check') k words totals
  pub moves : (k : ℕ) (words : List ℕ) (totals : List ℤ) → move_outcome (opened base check) k words totals ≡ move_outcome (opened base' check') k words totals
  pub fragments : (ws : List ℕ) → fragment_outcome (opened base check) ws ≡ fragment_outcome (opened base' check') ws
  pub joins : (one two : Fragment) → join_outcome (opened base check) one two ≡ join_outcome (opened base' check') one two
  pub unloads : (table : List ℤ) (work : List ℕ) → unload_outcome base check table work ≡ unload_outcome base' check' table work
