-- `totals_lines::append_sentence`: what was copied is the sentence's line.
use Rattle.std.proofs.Common.{◌+◌, arith}
use Rattle.totals_lines.proofs.Printing.{front_of, appended}
use Rattle.totals_lines.proofs.append_sentence.Goals as goal

pub returns : goal.returns
returns c =
    let a = c.args in
    let r = c.print_sentence-printed in
    let e = r.ensures in
    record {
      text = record {
        accepted = e.accepted;
        room = e.room;
        text = appended a.out.now a.at _ _ (a.at + r.result.length) c.append.new.out (front_of r.result.length _ _ _ e.length e.text) (omega (arith, e.length)) c.append.ensures.text (omega (arith, e.room));
      };
    }
