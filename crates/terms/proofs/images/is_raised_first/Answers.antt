-- Row u is a first whose child is row a raised.
use Rattle.terms.specs.Substitution.{shift}
use Rattle.terms.proofs.Tests.{decides_via, decides_then, decides_not}
use Rattle.terms.proofs.ImageLaws.{first_parts}
use Rattle.terms.proofs.images.is_raised_first.Goals as goal

pub returns-then-is_node : goal.returns-then-is_node
unfolding shift
returns-then-is_node c =
    decides_via (first_parts _ _ _ c.child-v.ensures.value)
    (decides_then c.is_node.ensures c.if-is_node.true c.is_shifted.ensures)

pub returns-else-is_node : goal.returns-else-is_node
unfolding shift
returns-else-is_node c =
    decides_via (first_parts _ _ _ c.child-v.ensures.value)
    (decides_not c.is_node.ensures c.if-is_node.false)
