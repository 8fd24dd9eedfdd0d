-- The words are written one by one between the length and the two logs. Assumes nothing.
use Rattle.std.proofs.Common.{◌≡◌, refl, ◌∙◌, ◌*◌, length, arith, pos}
use lib.ListN.{set, length-set}
use mir.Syntax.{w32}
use mir.Val.{to_z}
use mir.Facts.{to_z-of_z}
use mir.ValLaws.{to_z_pos}
use borrow.Author.Rules.{rules, sfits_of}
use Rattle.arpa_lines.proofs.Tables.{writing_none, writing_next, writing_end, long-row-written}
use Rattle.arpa_lines.proofs.write_long_row.Goals as goal

pub loop-j-init : goal.loop-j-init
loop-j-init c = let t = set c.args.table.now (8 * c.args.i) (to_z w32 c.args.m) in writing_none t c.args.i c.args.words

pub loop-j-preserved : goal.loop-j-preserved
loop-j-preserved c =
    let five : length c.args.words ≡ 5 = search rules in
    let h = c.loop-j-test.true in
    let t = set c.args.table.now (8 * c.args.i) (to_z w32 c.args.m) in
    rw (to_z-of_z (sfits_of c.word_field.type_inv), c.word_field.ensures)
    (writing_next t c.args.i c.args.words c.loop-j.table c.loop-j.j (omega arith) (simp length-set) c.loop-j.invariant)

pub returns : goal.returns
returns c =
    let five : length c.args.words ≡ 5 = search rules in
    let h = c.loop-j-test.false in
    let few = c.requires.1 in
    let t = set c.args.table.now (8 * c.args.i) (to_z w32 c.args.m) in
    let m : to_z w32 c.args.m ≡ pos c.args.m = to_z_pos w32 c.args.m (omega arith) in
    rw (to_z-of_z c.ranges.p, to_z-of_z c.ranges.b)
    (long-row-written c.args.table.now c.loop-j.table c.args.i c.args.m c.args.words c.args.p c.args.b five
    (writing_end t c.args.i c.args.words c.loop-j.table c.loop-j.j (omega arith) c.loop-j.invariant ∙ rw m refl))
