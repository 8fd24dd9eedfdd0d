-- The arrays that an accepted build left are ready for the sentences of TEXT. Assumes nothing.
use mathlib.Core.Path.{◌≡◌, refl, ap, ◌∙◌}
use mathlib.Core.List.{List}
use lib.IntN.{ℤ}
use Rattle.backoff.specs.State.{start}
use Rattle.backoff.specs.NineNumbers.{nine, nine_zeros}
use Rattle.backoff.specs.Store.{Started, start_outcome}
use Rattle.backoff.proofs.Store.{start_outcome-is}
use Rattle.list.specs.ListModel.{model_of}
use Rattle.list.proofs.ListModel.{accepted-model}
use Rattle.double_array.specs.DoubleArray.{store_in, opened}
use Rattle.double_array.proofs.DoubleArray.{opened_some}
use Rattle.build.proofs.Built.{HoldsList, build_accepted, build_holds}
use Rattle.word_walk.specs.Rows.{array_model}
use Rattle.totals_sentence.specs.Steps.{Ready}
use Rattle.totals.specs.Totals.{HoldsBuilt}

module _ (base check : List ℤ) (H : HoldsBuilt base check) where
  holds : HoldsList H.table base check
  holds = rw (H.base-is, H.check-is) (build_holds H.table _ _ _ H.accepted)

  pub rows_are : array_model base check ≡ model_of H.table
  rows_are = holds.model

  starts : start_outcome (opened base check) nine_zeros ≡ record { number = 0; place = 0; state = nine (start (array_model base check)) }
  starts = rw (opened_some base check holds.array) (start_outcome-is (store_in base check) holds.whole nine_zeros refl)

  -- from start's state
  pub ready : {r : Started} → r ≡ start_outcome (opened base check) nine_zeros → Ready base check r.state
  ready e = record {
    array = holds.array;
    sound = holds.whole.sound;
    rows = rw rows_are (accepted-model H.table (build_accepted H.table _ _ _ H.accepted).accepted);
    state-is = ap (λ (r : Started). r.state) (e ∙ starts);
  }
