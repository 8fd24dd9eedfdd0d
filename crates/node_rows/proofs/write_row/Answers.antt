use mathlib.Core.Path.{◌≡◌, sym, ap, ◌∙◌}
use Prim.Native.Nat.{ℕ, ◌≤◌}
use native.Mathlib.Omega.{arith}
use borrow.Author.Rules.{rules}
use lib.ListN.{length}
use mir.Syntax.{w32}
use mir.Val.{SFits}
use mir.Facts.{to_z-of_z, to_z_pos}
use Rattle.integer.proofs.Arithmetic.{zarith}
use Rattle.backoff.specs.Limits.{order_limit}
use Rattle.markers.specs.Markers.{marker_in}
use Rattle.double_array.specs.DoubleArray.{marker_at}
use Rattle.double_array.proofs.DoubleArray.{opened-sizes, opened-order}
use Rattle.array_nodes.specs.Gathering.{node_at}
use Rattle.array_nodes.proofs.Climb.{node_inside}
use Rattle.node_rows.specs.Rows.{row_of}
use Rattle.node_rows.proofs.Written.{row-set}
use Rattle.node_rows.proofs.write_row.Goals as goal

pub read_marker-requires : goal.read_marker-requires
read_marker-requires c =
    let a = c.args.array in
    let z = opened-sizes a.base.now a.check.now a.is_array in
    omega (arith, z.same, (node_inside a.base.now a.check.now c.args.t c.requires.0).1)

pub overflow_cast-row : goal.overflow_cast-row
overflow_cast-row c =
    let a = c.args.array in
    omega (zarith, c.write_words-m.ensures.count, c.requires.0.few, (opened-order a.base.now a.check.now a.is_array).1)

pub returns : goal.returns
unfolding row_of
returns c =
    let a = c.args.array in
    let b = a.base.now in
    let k = a.check.now in
    let g = c.in_ok-p.field-0 in
    let w = c.write_words-m.ensures in
    let few : c.write_words-m.result ≤ order_limit = omega (arith, w.count, c.requires.0.few, (opened-order b k a.is_array).1) in
    let long : length c.write_words-m.new.row ≡ 8 = c.write_words-m.auto.row ∙ c.requires.1 in
    let p : SFits w32 g.p = search rules in
    let q : SFits w32 g.b = search rules in
    let marker = ap (λ (n : ℕ). marker_at b k n c.args.t) (sym w.count) ∙ sym c.read_marker.ensures ∙ ap marker_in c.in_ok-p.ensures.ok_part in
    rw (marker, to_z_pos w32 {n = c.write_words-m.result} (omega arith), to_z-of_z p, to_z-of_z q, w.count) (row-set c.write_words-m.new.row (node_at b k c.args.t).words g.p g.b long w.places)
