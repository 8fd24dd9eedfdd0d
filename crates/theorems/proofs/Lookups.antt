-- Over an array that unload accepts, a lookup finds exactly the rows of the unloaded list, each with its own p and b. Assumes nothing.
use Rattle.std.specs.declared.option.Option.TheVariants.{Some}
use mathlib.Core.Path.{◌≡◌, refl, sym, ap, ◌∙◌}
use mathlib.Core.Bool.{Bool, true, false, cond, ◌&&◌}
use mathlib.Core.List.{List, reverse-reverse}
use Prim.Native.Nat.{ℕ}
use borrow.Author.Tests.{leb-false}
use lib.Dec.{leb}
use lib.IntN.{ℤ}
use lib.ListN.{length}
use Rattle.backoff.specs.Limits.{order_limit}
use Rattle.backoff.specs.Refusal.{number_of, word_count}
use Rattle.backoff.specs.Store.{look_entry, store_of}
use Rattle.backoff.specs.Refusal.{Accepted}
use Rattle.rows.specs.Table.{order_of}
use Rattle.row_search.specs.Search.{find_in}
use Rattle.list.specs.Check.{verdict}
use Rattle.list.specs.ListModel.{entry_at, model_of}
use Rattle.lookup.specs.Lookup.{lookup_of, lookup_in, lookup_outcome}
use Rattle.lookup.specs.Lookup.{NotFound, Refused}
use Rattle.build.specs.Listed.{answer_at, listed_answer}
use Rattle.build.proofs.Found.{above-order, looked-up}
use Rattle.unload.specs.Unload.{unload_outcome}
use Rattle.unload.specs.Meaning.{rows_part}
use Rattle.unload.proofs.Meaning.{unload_means, unloaded_says}

module _ (t : List ℤ) (a : verdict t ≡ Accepted) (ws : List ℕ) where
  -- what the list's model says to a lookup is what the list says
  said_lookup : lookup_in (Some (store_of (model_of t))) ws ≡ listed_answer t ws
  unfolding store_of model_of listed_answer
  said_lookup = rw (reverse-reverse ws) (go (leb 1 (length ws) && leb (length ws) order_limit) (leb (length ws) (order_of t)) refl)
    where
      go : (counted short : Bool) → leb (length ws) (order_of t) ≡ short
          → cond counted (cond short (lookup_of (look_entry (entry_at t ws (find_in t ws)))) NotFound) (Refused word_count 0) ≡ cond counted (answer_at t ws (find_in t ws)) (Refused word_count 0)
      go false short e = refl
      go true true e = looked-up t a ws (find_in t ws)
      go true false e = ap (answer_at t ws) (sym (above-order t a ws (leb-false (length ws) (order_of t) e) (find_in t ws) refl))

-- for any words, those outside 1..65,535 too, and any number of them
pub unloaded_lookup : (base check table : List ℤ) (work ws : List ℕ) → (unload_outcome base check table work).answer ≡ Accepted
    → lookup_outcome base check ws ≡ listed_answer (rows_part base (unload_outcome base check table work).table) ws
unloaded_lookup base check table work ws e =
    let t = rows_part base (unload_outcome base check table work).table in
    (unloaded_says base check table work e).lookups ws ∙ said_lookup t ((unload_means base check table work).holds (ap number_of e)).list ws
