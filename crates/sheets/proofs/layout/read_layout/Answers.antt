use mathlib.Core.Path.{sym}
use Rattle.sheets.specs.Layout.{length_fits}
use Rattle.sheets.proofs.LayoutLaws.{layout_1, layout_read}
use Rattle.sheets.proofs.layout.read_layout.Goals as goal

pub returns-then-n : goal.returns-then-n
unfolding length_fits
returns-then-n c = layout_read _ _ _ _ c.if-n.true c.read_trailer.ensures c.trailer_answer.ensures

pub returns-else-n : goal.returns-else-n
unfolding length_fits
returns-else-n c = sym (layout_1 _ _ c.if-n.false)
