use Rattle.rules.proofs.ShapeLaws.{fits_says, unused_says}
use Rattle.rules.proofs.shapes.fits_if_used.Goals as goal

pub returns-then-demand-eq255 : goal.returns-then-demand-eq255
returns-then-demand-eq255 c = unused_says _ _ _ _ c.args.p c.if-demand-eq255.true

pub returns : goal.returns
returns c =
    fits_says _ _ _ _ c.args.p _ c.if-demand-eq255.false
    c.adds.ensures
