-- The rows are put into list order, and the list is checked. Assumes nothing.
use Rattle.std.proofs.Common.{◌≡◌, refl, sym, ap, ◌∙◌, ◌*◌, ◌≤◌, List, ℤ, ℕ, length, take, arith}
use Rattle.backoff.specs.Limits.{row_limit}
use Rattle.backoff.specs.NineNumbers.{padded}
use Rattle.backoff.proofs.NineNumbers.{length-padded}
use Rattle.word_index.specs.Index.{cleared}
use Rattle.list.specs.Check.{verdict_for}
use Rattle.list.proofs.Check.{accepted-refused}
use Rattle.row_order.specs.RowOrder.{joined}
use Rattle.arpa_sections.specs.Sections.{Reading}
use Rattle.arpa_reading.specs.Outcome.{ordered}
use Rattle.arpa_reading.specs.Held.{EndHeld}
use Rattle.arpa_reading.proofs.RowsHeld.{cleared-held, held_ordering, ordered-table, ordered-front, too_many}
use Rattle.arpa_reading.proofs.judge.Goals as goal

pub returns-then-rows-gt-ROW_LIMIT : goal.returns-then-rows-gt-ROW_LIMIT
returns-then-rows-gt-ROW_LIMIT c a h =
    rw c.into.ensures
    record {
      verdict-is = sym (too_many c.args.table.now c.args.ending.rows c.args.ending.words a h.count h.sound h.row_room c.args.filling c.if-rows-gt-ROW_LIMIT.true);
      long = refl;
      table = λ e. absurd (accepted-refused _ _ e);
      few = λ e. absurd (accepted-refused _ _ e);
    }

-- the table without the index
cleared-is : (t u : List ℤ) (rows ones words : ℕ) → rows ≤ row_limit → u ≡ cleared t ones → (a : Reading) → EndHeld t rows ones words a → u ≡ padded (length t) (joined a.rows)
cleared-is t u rows ones words few e a h =
    let l = h.fewer in
    let r = h.row_room in
    e ∙ cleared-held t a.rows ones (omega arith) (h.table few) h.free

pub order_rows-requires : goal.order_rows-requires
order_rows-requires c =
    let h = c.requires.1 in
    rw (cleared-is c.args.table.now c.clear_index.new.table c.args.ending.rows c.args.ending.ones c.args.ending.words c.if-rows-gt-ROW_LIMIT.false c.clear_index.ensures c.requires.0 h)
    (held_ordering c.args.table.now c.args.ending.rows c.args.ending.words c.requires.0 h.count h.sound h.row_room c.if-rows-gt-ROW_LIMIT.false)

pub returns : goal.returns
returns c a h =
    let t = c.args.table.now in
    let few = c.if-rows-gt-ROW_LIMIT.false in
    let e = c.order_rows.ensures ∙ ordered-table t c.args.ending.rows c.args.ending.words a h.count h.sound h.row_room c.clear_index.new.table (cleared-is t c.clear_index.new.table c.args.ending.rows c.args.ending.ones c.args.ending.words few c.clear_index.ensures a h) in
    let v = c.check_for.ensures in
    record {
      verdict-is = v ∙ ap (verdict_for c.args.filling) (ap (take (8 * c.args.ending.rows)) e ∙ ordered-front t c.args.ending.rows c.args.ending.words a h.count h.sound h.row_room);
      long = ap length e ∙ length-padded (length t) (ordered a);
      table = λ z. e;
      few = λ z. let n = h.count in omega arith;
    }
