-- The word at a child's place is the child's row; past the arity the row stands for itself.
use mathlib.Core.Path.{sym, ◌∙◌, ap}
use native.Mathlib.Omega.{arith}
use Rattle.terms.specs.Rows.{term}
use Rattle.terms.specs.Tag.{arity}
use Rattle.terms.proofs.Shape.{child_beyond}
use Rattle.terms.proofs.NodeLaws.{child_is, child_before}
use Rattle.terms.proofs.nodes.child.Goals as goal

pub returns-then-j-arity : goal.returns-then-j-arity
returns-then-j-arity c =
    let count = c.arity.ensures.value ∙ ap arity c.tag_at.ensures in
    let value = child_is _ _ c.requires.0.table _ c.requires.0.below.0 _ c.requires.1 (omega arith) in
    let before = child_before _ _ c.requires.0.table _ c.requires.0.below.0 _ c.requires.1 (omega arith) in
    record { value = ap (term c.args.rows.now) c.word.ensures.value ∙ value; below = omega arith }

pub returns-clause-value : goal.returns-clause-value
returns-clause-value c =
    let count = c.arity.ensures.value ∙ ap arity c.tag_at.ensures in
    sym (child_beyond _ c.args.j (omega arith))
