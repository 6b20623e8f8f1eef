-- What the table's row asks of four premises, one after the other.
-- Assumes nothing.
use Rattle.rules.proofs.ShapeLaws.{used_given, shaped_says}
use native.Mathlib.Omega.{arith}
use Rattle.rules.proofs.shapes.shaped.Goals as goal

pub fits_if_used-requires-4 : goal.fits_if_used-requires-4
fits_if_used-requires-4 c =
    let a = c.args in
    used_given _ _ _ a.c c.requires.rule _ c.row-row.ensures _
    (c.counted_from-base.ensures.value, c.counted_from-base.ensures.range)
    a.ps.now.p a.ps.now.q a.ps.now.r a.ps.now.s c.requires.contexts_in_table 3 (omega arith)

pub fits_if_used-requires-3 : goal.fits_if_used-requires-3
fits_if_used-requires-3 c =
    let a = c.args in
    used_given _ _ _ a.c c.requires.rule _ c.row-row.ensures _
    (c.counted_from-base.ensures.value, c.counted_from-base.ensures.range)
    a.ps.now.p a.ps.now.q a.ps.now.r a.ps.now.s c.requires.contexts_in_table 2 (omega arith)

pub fits_if_used-requires-2 : goal.fits_if_used-requires-2
fits_if_used-requires-2 c =
    let a = c.args in
    used_given _ _ _ a.c c.requires.rule _ c.row-row.ensures _
    (c.counted_from-base.ensures.value, c.counted_from-base.ensures.range)
    a.ps.now.p a.ps.now.q a.ps.now.r a.ps.now.s c.requires.contexts_in_table 1 (omega arith)

pub fits_if_used-requires : goal.fits_if_used-requires
fits_if_used-requires c =
    let a = c.args in
    used_given _ _ _ a.c c.requires.rule _ c.row-row.ensures _ (c.counted_from-base.ensures.value, c.counted_from-base.ensures.range)
    a.ps.now.p a.ps.now.q a.ps.now.r a.ps.now.s c.requires.contexts_in_table 0 (omega arith)

pub returns : goal.returns
returns c =
    let a = c.args in
    shaped_says _ _ _ a.c c.requires.rule _ c.row-row.ensures _
    (c.counted_from-base.ensures.value, c.counted_from-base.ensures.range)
    a.ps.now.p a.ps.now.q a.ps.now.r a.ps.now.s c.fits_if_used.ensures
    c.fits_if_used-2.ensures
    c.fits_if_used-3.ensures c.fits_if_used-4.ensures
