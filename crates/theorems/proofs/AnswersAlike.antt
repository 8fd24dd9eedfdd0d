-- The arrays of all accepted builds of one list answer alike, however many slots were lent, and so does an array cut behind its last slot that is not free.
-- Assumes nothing.
use Rattle.std.specs.declared.option.Option.{Option}
use mathlib.Core.Path.{◌≡◌, refl, sym, ap, ◌∙◌}
use mathlib.Core.List.{List}
use Prim.Native.Nat.{ℕ}
use native.Mathlib.Omega.{arith}
use lib.ListN.{replicate, length-replicate}
use lib.IntN.{ℤ, pos}
use Rattle.backoff.specs.Store.{Store, start_outcome, run_outcome}
use Rattle.backoff.specs.Refusal.{Accepted}
use Rattle.double_array.proofs.DoubleArray.{sizes_shown}
use Rattle.lookup.specs.Lookup.{lookup_in, lookup_outcome}
use Rattle.placed_list.specs.Build.{Built}
use Rattle.build.specs.Build.{build_outcome}
use Rattle.build.specs.FewestSlots.{fewest, cut_base, cut_check, Lent}
use Rattle.build.proofs.Built.{build_accepted, build_opened}
use Rattle.build.proofs.FewestSlots.{fewest-slots, length-base}
use Rattle.batch.specs.Sheet.{sheet_outcome}
use Rattle.sentences.specs.Listing.{listing_outcome}
use Rattle.largest_move.specs.Move.{move_outcome}
use Rattle.fragment_scoring.specs.Outcome.{fragment_outcome}
use Rattle.joining.specs.Outcome.{join_outcome}
use Rattle.theorems.specs.AnswersAlike.{AnswersAlike}
use Rattle.theorems.proofs.Returns.{build_unloads}

pub builds-answer-alike : (table base check base' check' : List ℤ) (work work' : List ℕ) → (build_outcome table base check work).answer ≡ Accepted → (build_outcome table base' check' work').answer ≡ Accepted
    → AnswersAlike (build_outcome table base check work).base (build_outcome table base check work).check (build_outcome table base' check' work').base (build_outcome table base' check' work').check
unfolding lookup_outcome
builds-answer-alike table base check base' check' work work' e e' =
    let same = build_opened table base check work e ∙ sym (build_opened table base' check' work' e') in
    record {
      lookups = λ ws. ap (λ (o : Option Store). lookup_in o ws) same;
      starts = λ l. ap (λ (o : Option Store). start_outcome o l) same;
      runs = λ l r. ap (λ (o : Option Store). run_outcome o l r) same;
      sheets = λ ends r. ap (λ (o : Option Store). sheet_outcome o ends r) same;
      listings = λ k words totals. ap (λ (o : Option Store). listing_outcome o k words totals) same;
      moves = λ k words totals. ap (λ (o : Option Store). move_outcome o k words totals) same;
      fragments = λ ws. ap (λ (o : Option Store). fragment_outcome o ws) same;
      joins = λ one two. ap (λ (o : Option Store). join_outcome o one two) same;
      unloads = λ t w. build_unloads table base check work t w e ∙ sym (build_unloads table base' check' work' t w e');
    }

module _ (table base check : List ℤ) (work : List ℕ) (accepted : (build_outcome table base check work).answer ≡ Accepted) where
  abbrev built : Built
  built = build_outcome table base check work

  -- as many slots as the cut has
  abbrev room : List ℤ
  room = replicate (fewest built) (pos 0)

  room-lent : Lent table room room work
  room-lent =
      let k = build_accepted table base check work accepted in
      let f = fewest-slots table base check work accepted in
      let n = length-replicate (fewest built) (pos 0) in
      record {
        sizes = sizes_shown room room (record { same = refl; low = omega (arith, f.low); high = omega (arith, f.high, length-base table base check work accepted, k.sizes.high) });
        items = k.work-long;
      }

  pub cut-answers-alike : AnswersAlike (cut_base built) (cut_check built) built.base built.check
  cut-answers-alike =
      let cut = (fewest-slots table base check work accepted).cut room room work room-lent (length-replicate (fewest built) (pos 0)) in
      rw (cut.base-is, cut.check-is) (builds-answer-alike table room room base check work work (sym cut.answer-is) accepted)
