-- A place decides, or the rest does.
use Rattle.std.proofs.Common.{sym, ◌+◌, ◌∙◌, arith}
use Rattle.backoff.specs.Limits.{order_limit}
use Rattle.row_fields.proofs.Fields.{places_fail, places_pass, places-end}
use Rattle.row_fields.proofs.places_fit.Goals as goal

pub returns-then-not-place_fits : goal.returns-then-not-place_fits
returns-then-not-place_fits c =
    sym (c.loop-j.invariant ∙ places_fail _ _ _ (order_limit + 1) (omega arith) (sym c.place_fits.ensures ∙ c.if-not-place_fits.true))

pub loop-j-preserved : goal.loop-j-preserved
loop-j-preserved c =
    c.loop-j.invariant ∙ places_pass _ _ _ (order_limit + 1) (omega arith) (sym c.place_fits.ensures ∙ c.if-not-place_fits.false)

pub returns : goal.returns
returns c = sym (c.loop-j.invariant ∙ places-end _ _ _ (order_limit + 1) (omega arith))
