-- Document 02, T-09: "Which sequences are found, and every point scored, must be what the forward arrays gave". Whichever side a node's children lie on, the array that a
-- build left opens to the list's own store, in which there are no slots; so every call answers as the list alone says. Assumes nothing.
use Rattle.std.specs.declared.option.Option.{Option}
use Rattle.std.specs.declared.option.Option.TheVariants.{Some}
use Rattle.std.specs.Prelude.{◌≡◌, List, ℕ, ℤ}
use Rattle.backoff.specs.Run.{Run}
use Rattle.backoff.specs.Store.{Store, store_of, start_outcome, run_outcome}
use Rattle.list.specs.ListModel.{model_of}
use Rattle.lookup.specs.Lookup.{lookup_outcome}
use Rattle.placed_list.specs.Build.{Built}
use Rattle.build.specs.Listed.{listed_answer}
use Rattle.batch.specs.Sheet.{sheet_outcome}
use Rattle.fragments.specs.declared.Fragment.{Fragment}
use Rattle.fragment_scoring.specs.Outcome.{fragment_outcome}
use Rattle.joining.specs.Outcome.{join_outcome}
use Rattle.theorems.specs.RunsInARow.{array_of}

-- the list's own rows as a store, none of them broken
abbrev pub list_store : List ℤ → Option Store
list_store table = Some (store_of (model_of table))

-- what the array B answers, for any words, state, fragments and lent slices: what the list says
pub record ScoresAsTheList (table : List ℤ) (B : Built) : Type 0 where
  pub opens : array_of B ≡ list_store table
  pub lookups : (ws : List ℕ) → lookup_outcome B.base B.check ws ≡ listed_answer table ws
  pub starts : (l : List ℤ) → start_outcome (array_of B) l ≡ start_outcome (list_store table) l
  pub runs : (l : List ℤ) (r : Run) → run_outcome (array_of B) l r ≡ run_outcome (list_store table) l r
  pub sheets : (ends : List ℕ) (r : Run) → sheet_outcome (array_of B) ends r ≡ sheet_outcome (list_store table) ends r
  pub fragments : (ws : List ℕ) → fragment_outcome (array_of B) ws ≡ fragment_outcome (list_store table) ws
  pub joins : (one two : Fragment) → join_outcome (array_of B) one two ≡ join_outcome (list_store table) one two
