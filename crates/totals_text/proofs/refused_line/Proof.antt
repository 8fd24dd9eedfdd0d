-- `totals_text::refused_line` meets its contract. Assumes nothing.
use mathlib.Core.Path.{◌≡◌, refl, ◌∙◌}
use Prim.Native.Nat.{◌+◌, ◌<◌}
use native.Mathlib.Omega.{arith}
use lib.IntN.{pos}
use lib.ListN.{length}
use Rattle.columns.specs.Columns.{numeral, column}
use Rattle.totals_text.specs.Lines.{refused_word, refused_line}
use Rattle.totals_text.proofs.Lines.{length-count, length-refused}
use Rattle.totals_text.proofs.Stores.{front_three, sets-written}
use borrow.Author.Rules.{rules}
use Rattle.totals_text.proofs.refused_line.Statement.{statement}
use Rattle.totals_text.proofs.refused_line.Tie as tie

-- the place behind the two columns
place : (c : tie.After-put_column-end) → c.put_column-end.result ≡ length refused_word + length (column 8 (pos c.args.number)) + length (column 8 (pos c.args.place))
unfolding numeral column
place c =
    let p = c.before.before in
    c.put_column-end.ensures.0 ∙ rw (p.put_column-next.ensures.0, p.before.before.put_refused-at.ensures.0) refl

within : (c : tie.After-put_column-end) → c.put_column-end.result < 63
unfolding refused_word
within c =
    let s = c.before.before.before.before.before.before in
    omega (arith, place c, length-count 9 s.args.number (omega arith), length-count 19 s.args.place (omega arith))

put-refused-requires : tie.Need-put_refused-at-requires
put-refused-requires c κs = search rules

put-column-requires : tie.Need-put_column-next-requires
unfolding numeral column refused_word
put-column-requires c κs =
    let w = c.before in
    let s = w.before.before in
    omega (arith, length-count 9 s.args.number (omega arith), w.put_refused-at.ensures.0, w.put_refused-at.auto.out)

put-column-requires-2 : tie.Need-put_column-end-requires
unfolding numeral column refused_word
put-column-requires-2 c κs =
    let p = c.before in
    let w = p.before.before in
    let s = w.before.before in
    omega (arith, length-count 9 s.args.number (omega arith), length-count 19 s.args.place (omega arith), w.put_refused-at.ensures.0, w.put_refused-at.auto.out, p.put_column-next.ensures.0, p.put_column-next.auto.out)

element-write-out : tie.Need-bounds-out-end
element-write-out c = let h = within c.before in omega arith

add-result : tie.Need-overflow_add-result
add-result c = let h = within c.before in omega arith

returns : tie.Need-returns
unfolding numeral column refused_line
returns c =
    let q = c.before in
    let p = q.before.before in
    let w = p.before.before in
    let a = w.args in
    let n = length-refused a.number a.place in
    let h = within q in (
      omega (arith, place q, n),
      (
        omega arith,
        rw (place q, q.put_column-end.ensures.1, p.put_column-next.ensures.1, w.put_refused-at.ensures.1, p.put_column-next.ensures.0, w.put_refused-at.ensures.0)
            (front_three a.out.now refused_word (column 8 (pos a.number)) (column 8 (pos a.place)) 10)
            ∙ sets-written a.out.now (refused_line a.number a.place) (omega (arith, n, place q)),
      ),
    )

pub refused_line_spec : {M : Type 1} → statement M
refused_line_spec =
    tie.close
    (tie.spec
    put-refused-requires
    put-column-requires
    put-column-requires-2
    element-write-out
    add-result
    returns)
