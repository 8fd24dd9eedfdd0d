use mathlib.Core.Path.{sym, ◌∙◌, ap}
use Rattle.markers.specs.Markers.{marker_in}
use Rattle.node_list.proofs.is_right.Goals as goal

pub returns-then-entry-e : goal.returns-then-entry-e
returns-then-entry-e c = rw (sym c.read_marker.ensures ∙ ap marker_in c.in-Some.is, c.if-entry-e.true)

pub returns-else-entry-e : goal.returns-else-entry-e
returns-else-entry-e c = rw (sym c.read_marker.ensures ∙ ap marker_in c.in-Some.is, c.if-entry-e.false)
