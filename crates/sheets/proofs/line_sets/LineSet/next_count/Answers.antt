-- Number `count` of the list, if there is one, is the only one that can be k.
use native.Mathlib.Omega.{arith}
use Rattle.sheets.proofs.NumberingLaws.{next_more, next_same}
use Rattle.sheets.proofs.line_sets.LineSet.next_count.Goals as goal

pub returns-then-self-count : goal.returns-then-self-count
returns-then-self-count c =
    next_more c.args.self.numbers.now c.args.self.rises _ _ c.requires c.if-count-self.true
    c.if-self-count.true

pub returns-else-self-count : goal.returns-else-self-count
returns-else-self-count c =
    next_same c.args.self.numbers.now c.args.self.rises _ _ c.requires (λ _. c.if-self-count.false)

pub returns-else-count-self : goal.returns-else-count-self
returns-else-count-self c =
    next_same c.args.self.numbers.now c.args.self.rises _ _ c.requires
    (λ h _. omega (arith, h, c.if-count-self.false))
