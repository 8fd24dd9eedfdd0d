-- `arpa_headings::is_section_line`: behind the other lengths, m is 5.
use Rattle.std.proofs.Common.{◌≡◌}
use native.Mathlib.Omega.{arith}
use Rattle.arpa_headings.proofs.is_section_line.Goals as goal

pub returns-in-1 : goal.returns-in-1
returns-in-1 c = rw c.in-1.is c.same_bytes.ensures

pub returns-in-2 : goal.returns-in-2
returns-in-2 c = rw c.in-2.is c.same_bytes-in-2.ensures

pub returns-in-3 : goal.returns-in-3
returns-in-3 c = rw c.in-3.is c.same_bytes-in-3.ensures

pub returns-in-4 : goal.returns-in-4
returns-in-4 c = rw c.in-4.is c.same_bytes-in-4.ensures

pub returns-in_default : goal.returns-in_default
returns-in_default c =
    let five : c.args.m ≡ 5 = omega (arith, c.requires) in
    rw five c.same_bytes-in_default.ensures
