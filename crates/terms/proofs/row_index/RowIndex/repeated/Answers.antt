-- The chain goes on to the row before it in its bucket.
use mathlib.Core.Path.{sym, ◌∙◌}
use Rattle.terms.proofs.IndexLaws.{search_start, search_next}
use Rattle.terms.proofs.row_index.RowIndex.repeated.Goals as goal

pub loop-at-init : goal.loop-at-init
loop-at-init c = search_start _ _ _ _ _ _ c.requires.3 c.requires.2 c.from-at.ensures

pub loop-at-smaller : goal.loop-at-smaller
loop-at-smaller c =
    (search_next _ _ _ _ c.loop-at.invariant c.loop-at-test.true (sym c.holds.ensures ∙ c.if-holds.false) _ _ c.requires.3 c.from-at-in-loop-at.ensures).1

pub loop-at-preserved : goal.loop-at-preserved
loop-at-preserved c =
    (search_next _ _ _ _ c.loop-at.invariant c.loop-at-test.true (sym c.holds.ensures ∙ c.if-holds.false) _ _ c.requires.3 c.from-at-in-loop-at.ensures).0
