-- Over the array that an accepted build leaves, a lookup finds exactly the rows of the list, each with its own p and b, and with left exactly where some row puts a further word in front. Assumes nothing.
use Rattle.std.specs.declared.option.Option.{Option}
use Rattle.std.specs.declared.option.Option.TheVariants.{Some, None}
use mathlib.Core.Path.{◌≡◌, refl, sym, ap, ◌∙◌}
use mathlib.Core.Bool.{Bool, true, false, cond, ◌&&◌}
use mathlib.Core.List.{List, reverse, reverse-reverse}
use Prim.Native.Nat.{ℕ, ◌<◌}
use native.Mathlib.Omega.{arith}
use borrow.Author.Tests.{leb-false}
use lib.Dec.{leb}
use lib.IntN.{ℤ}
use lib.ListN.{length, length-reverse}
use Rattle.backoff.specs.Limits.{order_limit}
use Rattle.backoff.specs.Refusal.{word_count}
use Rattle.backoff.specs.Model.{listed}
use Rattle.backoff.specs.Store.{look_entry}
use Rattle.backoff.specs.Refusal.{Accepted}
use Rattle.rows.specs.Table.{order_of}
use Rattle.row_search.specs.Search.{find_in}
use Rattle.list.specs.Check.{verdict}
use Rattle.list.specs.ListModel.{entry_at, model_of}
use Rattle.list.proofs.ListModel.{accepted-model}
use Rattle.double_array.specs.DoubleArray.{look_row, order_in, store_in}
use Rattle.double_array.proofs.DoubleArray.{opened_some}
use Rattle.lookup.specs.Lookup.{lookup_of, lookup_outcome}
use Rattle.lookup.specs.Lookup.{NotFound, Refused}
use Rattle.build.specs.Build.{build_outcome}
use Rattle.build.specs.Listed.{answer_at, listed_answer}
use Rattle.build.proofs.Built.{HoldsList, build_accepted, build_holds}

module _ (t : List ℤ) (a : verdict t ≡ Accepted) (ws : List ℕ) where
  -- more words than the order are not listed
  pub above-order : order_of t < length ws → (f : Option ℕ) → find_in t ws ≡ f → f ≡ None
  unfolding listed model_of
  above-order h None e = refl
  above-order h (Some j) e =
      let l : listed (model_of t) (reverse ws) ≡ true = rw (reverse-reverse ws, e) in
      absurd (omega (arith, (accepted-model t a).short (reverse ws) l, length-reverse ws))

  pub looked-up : (f : Option ℕ) → lookup_of (look_entry (entry_at t ws f)) ≡ answer_at t ws f
  looked-up (Some j) = refl
  looked-up None = refl

  module _ {base check : List ℤ} (h : HoldsList t base check) where
    walked : lookup_of (look_row base check (reverse ws)) ≡ answer_at t ws (find_in t ws)
    unfolding model_of
    walked = ap lookup_of (h.look (reverse ws)) ∙ rw (reverse-reverse ws) (looked-up (find_in t ws))

    held_lookup : lookup_outcome base check ws ≡ listed_answer t ws
    unfolding lookup_outcome listed_answer store_in
    held_lookup = rw (opened_some base check h.array) (go (leb 1 (length ws) && leb (length ws) order_limit) (leb (length ws) (order_in check)) refl)
      where
        go : (counted short : Bool) → leb (length ws) (order_in check) ≡ short
            → cond counted (cond short (lookup_of (look_row base check (reverse ws))) NotFound) (Refused word_count 0) ≡ cond counted (answer_at t ws (find_in t ws)) (Refused word_count 0)
        go false short e = refl
        go true true e = walked
        go true false e = ap (answer_at t ws) (sym (above-order (omega (arith, leb-false (length ws) (order_in check) e, h.order)) (find_in t ws) refl))

-- for any words, those outside 1..65,535 too, and any number of them
pub found_exactly_if_listed : (table base check : List ℤ) (work ws : List ℕ) → (build_outcome table base check work).answer ≡ Accepted
    → lookup_outcome (build_outcome table base check work).base (build_outcome table base check work).check ws ≡ listed_answer table ws
found_exactly_if_listed table base check work ws e =
    held_lookup table (build_accepted table base check work e).accepted ws (build_holds table base check work e)
