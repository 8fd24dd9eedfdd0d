-- The d found is the placing rule's where it lies below the end, and so is the side; the stores are made where its slots lie below the end.
use mathlib.Core.Path.{◌≡◌, sym, ap, ◌∙◌, transport}
use mathlib.Core.Bool.{Bool}
use mathlib.Core.List.{List}
use Prim.Native.Nat.{ℕ, suc, ◌≤◌, min}
use native.Mathlib.Omega.{arith}
use lib.IntN.{ℤ, pos}
use Rattle.placing.specs.Placing.{Room, update, own, top_with}
use Rattle.placing.proofs.FirstFit.{is_free-yes, fits_side, fit_fits, fit_free, fit_positive}
use Rattle.placing.proofs.Rooms.{reach-top}
use Rattle.free_slots.specs.Chain.{Linked}
use Rattle.free_slots.proofs.Chain.{linked-check-length}
use Rattle.free_slots.proofs.Search.{fit_room}
use Rattle.first_fit.specs.Steps.{oldest_of, fit_of, side_of, FoundFit, Settles, Fitting, Given}
use Rattle.first_fit.proofs.OldestWords.{reach-max, slots_open}
use Rattle.first_fit.proofs.place_node.Goals as goal

-- what was found, and how far it reaches
module _ {N : ℕ} {b room : Room} {base check rows : List ℤ} {slot : ℕ} {mark : ℤ} (S : Settles N b room base check rows slot mark) {d : ℕ} {behind : Bool} (found : FoundFit N room rows d behind) (top reached : ℕ) (e : reached ≡ top_with top behind d (oldest_of rows)) where
  abbrev fit : ℕ
  fit = fit_of N room rows

  abbrev side : Bool
  side = side_of N room rows

  answered : min reached (suc N) ≡ min (top_with top side fit (oldest_of rows)) (suc N)
  answered = ap (λ (x : ℕ). min x (suc N)) e ∙ fit_room N room (oldest_of rows) S.linked.past top found.d_is found.side_is

  -- that is below the end
  module _ (yes : reached ≤ N) where
    inside : top_with 0 side fit (oldest_of rows) ≤ N
    inside = omega (arith, answered, reach-max top side fit (oldest_of rows))

    d_is : d ≡ fit
    d_is = omega (arith, found.d_is, inside, reach-top 0 side fit (oldest_of rows))

    side_is : behind ≡ side
    side_is = found.side_is (omega (arith, d_is, inside, reach-top 0 side fit (oldest_of rows)))

    fitting : Fitting N room rows behind d
    fitting =
        transport (λ i. Fitting N room rows (sym side_is i) (sym d_is i))
        (record {
          positive = fit_positive room (oldest_of rows) N S.linked.past;
          within = inside;
          free = is_free-yes (room fit) (fit_free room (oldest_of rows) N S.linked.past);
          opened = fits_side room (oldest_of rows) fit (fit_fits room (oldest_of rows) N S.linked.past);
        })

pub returns-then-check-reached : goal.returns-then-check-reached
returns-then-check-reached c N b room S = record {
  answer = answered S (c.first_fit-fit.ensures N b room S.linked) c.args.top c.new_top-reached.result c.new_top-reached.ensures;
  linked = λ e. absurd (omega (arith, c.if-check-reached.true, linked-check-length S.linked));
  given = λ e. absurd (omega (arith, c.if-check-reached.true, linked-check-length S.linked));
}

pub settle-requires-clause-by_index : goal.settle-requires-clause-by_index
settle-requires-clause-by_index c =
    let p = c.requires.by_index in
    let yes : c.new_top-reached.result ≤ p.0 = omega (arith, c.if-check-reached.false, linked-check-length p.3.linked) in
    (p.0, p.1, p.2, p.3, fitting p.3 (c.first_fit-fit.ensures p.0 p.1 p.2 p.3.linked) c.args.top c.new_top-reached.result c.new_top-reached.ensures yes)

pub give_slots-requires-clause-child_slots : goal.give_slots-requires-clause-child_slots
give_slots-requires-clause-child_slots c =
    let p = c.requires.by_index in
    let yes : c.new_top-reached.result ≤ p.0 = omega (arith, c.if-check-reached.false, linked-check-length p.3.linked) in
    slots_open _ _ _ _ (fitting p.3 (c.first_fit-fit.ensures p.0 p.1 p.2 p.3.linked) c.args.top c.new_top-reached.result c.new_top-reached.ensures yes).opened

pub returns : goal.returns
returns c N b room S =
    let rows = c.args.rows.now in
    let slot = c.args.node.slot in
    let f = c.first_fit-fit.ensures N b room S.linked in
    let yes : c.new_top-reached.result ≤ N = omega (arith, c.if-check-reached.false, linked-check-length S.linked) in
    let d = d_is S f c.args.top c.new_top-reached.result c.new_top-reached.ensures yes in
    let behind = side_is S f c.args.top c.new_top-reached.result c.new_top-reached.ensures yes in
    record {
      answer = answered S f c.args.top c.new_top-reached.result c.new_top-reached.ensures;
      linked = λ _.
          transport
          (λ i. Linked N (update (update b (d i) c.args.node.load) slot (pos (d i))) (update (own (behind i) (d i) slot (oldest_of rows) room) (d i) c.args.node.mark) c.settle.new.base c.settle.new.check)
          (c.settle.ensures N b room S (fitting S f c.args.top c.new_top-reached.result c.new_top-reached.ensures yes));
      given = λ _. transport (λ i. Given (behind i) (d i) rows c.args.work.now c.give_slots.new.work) c.give_slots.ensures;
    }
