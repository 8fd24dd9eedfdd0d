-- `word_walk::next_node` meets its contract. Assumes nothing.
use mathlib.Core.Path.{◌≡◌, refl, sym, ◌∙◌}
use mathlib.Core.Bool.{Bool, false, true≢false}
use Prim.Native.Nat.{◌%◌}
use native.Mathlib.Omega.{arith}
use borrow.Author.Rules.{rules, sfits_of}
use lib.ListN.{get_or}
use lib.IntN.{ℤ, pos}
use lib.Signed.{◌≤ℤ◌}
use mir.Syntax.{w32}
use mir.Val.{SFits}
use mir.Facts.{to_z-of_z}
use Rattle.integer.proofs.Arithmetic.{zarith, abs, fit, to_nat}
use Rattle.backoff.specs.Words.{radix}
use Rattle.backoff.specs.Store.{is_broken}
use Rattle.markers.specs.Markers.{look_marker}
use Rattle.markers.specs.Markers.{Marker}
use Rattle.markers.specs.Markers.{Sound, Broken}
use Rattle.double_array.specs.DoubleArray.{kept_marker}
use Rattle.double_array.proofs.DoubleArray.{kept_told, marker_unowned, child_owned}
use Rattle.word_walk.proofs.next_node.Statement.{statement}
use Rattle.word_walk.proofs.next_node.Tie as tie

not-broken : (m : Marker) → is_broken (look_marker m) ≡ false → (p : ℤ) × (b : ℤ) × (e : Bool) × (f : Bool) × (m ≡ Sound p b e f)
not-broken (Sound p b e f) h = (p, b, e, f, refl)
not-broken Broken h = absurd (true≢false h)

-- BASE of the node's slot
abbrev d : tie.Start → ℤ
d s = get_or s.args.base.now s.args.s (pos 0)

sound : (s : tie.Start) → (p : ℤ) × (b : ℤ) × (e : Bool) × (f : Bool) × (kept_marker s.args.base.now s.args.check.now s.args.s ≡ Sound p b e f)
sound s = not-broken (kept_marker s.args.base.now s.args.check.now s.args.s) s.requires.1.1

low : (s : tie.Start) → pos 1 ≤ℤ d s
low s =
    let m = sound s in
    (kept_told s.args.base.now s.args.check.now s.args.s m.0 m.1 m.2 m.3 m.4).some-base

mul-d : tie.Need-offset_bounds-base-s
mul-d c = search rules

shared-slice-copy-out-d : tie.Need-bounds-base-s
shared-slice-copy-out-d c = search rules

d_fits : (c : tie.After-d-1) → SFits w32 (d c.before)
d_fits c = sfits_of c.d-1.given

cast-d : tie.Need-overflow_cast-d
cast-d c = to_nat tt (d_fits c) (omega (zarith, low c.before))

beside-marker-requires : tie.Need-beside_marker-requires
beside-marker-requires c κs =
    let s = c.before in
    let f = d_fits c in
    let m = sound s in
    let told = kept_told s.args.base.now s.args.check.now s.args.s m.0 m.1 m.2 m.3 m.4 in
    let unowned = marker_unowned s.args.base.now s.args.check.now s.args.s m.0 m.1 m.2 m.3 m.4 in
    simp (to_z-of_z f) ((omega (arith, s.requires), told.inside, omega (zarith, fit f, abs (d s), low s), omega arith), unowned)

returns : tie.Need-returns
returns c =
    let s = c.before.before in
    let m = sound s in
    (rw (to_z-of_z (d_fits c.before)) at c.beside_marker.ensures)
    ∙ sym (child_owned s.args.base.now s.args.check.now s.args.s m.0 m.1 m.2 m.3 m.4 (s.args.older % radix) (omega arith))

pub next_node_spec : {M : Type 1} → statement M
next_node_spec = tie.close (tie.spec
    mul-d
    shared-slice-copy-out-d
    cast-d
    beside-marker-requires
    returns)
