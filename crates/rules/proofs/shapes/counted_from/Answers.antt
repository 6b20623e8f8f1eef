use Rattle.rules.proofs.ShapeLaws.{counted_itself, counted_empty, counted_parent}
use borrow.Author.Rules.{rules}
use Rattle.rules.proofs.shapes.counted_from.Goals as goal

pub returns-then-rule-ne2 : goal.returns-then-rule-ne2
returns-then-rule-ne2 c = record { value = counted_itself _ _ _ _ c.if-rule-ne2.true; range = search rules }

pub returns-then-n-eq0 : goal.returns-then-n-eq0
returns-then-n-eq0 c = record { value = counted_empty _ _ _ _ c.if-rule-ne2.false c.if-n-eq0.true; range = search rules }

pub returns : goal.returns
returns c =
    let whole = counted_parent _ _ _ _ c.if-rule-ne2.false _ c.requires
    c.if-n-eq0.false c.parent.ensures.value in
    record { value = whole.0; range = whole.1 }
