-- `totals_text::sentence_line` meets its contract. Assumes nothing.
use mathlib.Core.Path.{◌≡◌, refl, ◌∙◌}
use Prim.Native.Nat.{◌+◌, ◌≤◌, ◌<◌}
use native.Mathlib.Omega.{arith}
use lib.ListN.{length}
use mir.Facts.{to_z-of_z}
use Rattle.columns.specs.Columns.{column}
use Rattle.totals_text.specs.Lines.{count_columns, sentence_line}
use Rattle.totals_text.proofs.Lines.{length-count, length-counts, length-total, length-sentence}
use Rattle.totals_text.proofs.Stores.{front-two, sets-written}
use Rattle.totals_text.proofs.sentence_line.Statement.{statement}
use Rattle.totals_text.proofs.sentence_line.Tie as tie

short : (s : tie.Start) → length (count_columns s.args.number s.args.words s.args.unknown) ≤ 40
short s =
    omega (
      arith,
      length-counts s.args.number s.args.words s.args.unknown,
      length-count 19 s.args.number (omega arith),
      length-count 9 s.args.words (omega arith),
      length-count 9 s.args.unknown (omega arith),
    )

-- the place behind the total
place : (c : tie.After-put_total-end) → c.put_total-end.result ≡ length (count_columns c.args.number c.args.words c.args.unknown) + length (column 16 c.args.total)
place c =
    let p = c.before.before in
    c.put_total-end.ensures.0 ∙ rw (to_z-of_z p.ranges.total, p.put_counts-at.ensures.0) refl

within : (c : tie.After-put_total-end) → c.put_total-end.result < 63
within c =
    let s = c.before.before.before.before in
    omega (arith, place c, short s, length-total s.ranges.total)

put-counts-requires : tie.Need-put_counts-at-requires
put-counts-requires c κs =
    let h = short c.before in
    omega arith

put-total-requires : tie.Need-put_total-end-requires
put-total-requires c κs =
    let s = c.before.before.before in
    let h = short s in
    rw (to_z-of_z s.ranges.total) (omega (arith, length-total s.ranges.total, c.put_counts-at.ensures.0, c.put_counts-at.auto.out))

element-write-out : tie.Need-bounds-out-end
element-write-out c = let h = within c.before in omega arith

add-result : tie.Need-overflow_add-result
add-result c = let h = within c.before in omega arith

returns : tie.Need-returns
unfolding sentence_line
returns c =
    let q = c.before in
    let p = q.before.before in
    let s = p.before.before in
    let a = s.args in
    let counts = count_columns a.number a.words a.unknown in
    let n = length-sentence a.number a.words a.unknown a.total in
    let h = within q in (
      omega (arith, place q, n),
      (
        omega arith,
        rw (place q, q.put_total-end.ensures.1, p.put_counts-at.ensures.1, p.put_counts-at.ensures.0, to_z-of_z s.ranges.total)
            (front-two a.out.now counts (column 16 a.total) 10)
            ∙ sets-written a.out.now (sentence_line a.number a.words a.unknown a.total) (omega (arith, n, place q)),
      ),
    )

pub sentence_line_spec : {M : Type 1} → statement M
sentence_line_spec =
    tie.close
    (tie.spec
    put-counts-requires
    put-total-requires
    element-write-out
    add-result
    returns)
