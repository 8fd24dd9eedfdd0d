use Rattle.std.proofs.Common.{rules, sym}
use mir.Syntax.{w64}
use mir.Val.{SFits}
use mir.Facts.{to_z-of_z}
use Rattle.fragments.proofs.Check.{fragment_ok_tests}
use Rattle.fragments.proofs.fragment_ok.Goals as goal

pub returns : goal.returns
returns c =
    let f : SFits w64 c.args.fragment.total = search rules in
    rw (c.passes-state_ok.ensures, c.total_ok.ensures, c.kept_of.ensures, to_z-of_z f) (sym (fragment_ok_tests c.args.order c.args.fragment))
