-- Row u is an ind whose four children are the four rows raised, each under its own binders.
use Rattle.terms.specs.Substitution.{shift}
use Rattle.terms.proofs.Tests.{decides_via, ◌&◌, decides_then, decides_not}
use Rattle.terms.proofs.ImageLaws.{ind_parts}
use Rattle.terms.proofs.images.is_raised_ind.Goals as goal

pub returns-then-is_node : goal.returns-then-is_node
unfolding shift
returns-then-is_node c =
    decides_via
    (ind_parts _ _ _ _ _ _ _ _ _ c.child-v.ensures.value c.child-w.ensures.value
    c.child-x.ensures.value c.child-y.ensures.value)
    (decides_then c.is_node.ensures c.if-is_node.true
    (c.is_shifted.ensures & c.is_shifted-then-is_node.ensures & c.is_shifted-then-is_node-2.ensures
    & c.is_shifted-then-is_node-3.ensures))

pub returns-else-is_node : goal.returns-else-is_node
unfolding shift
returns-else-is_node c =
    decides_via
    (ind_parts _ _ _ _ _ _ _ _ _ c.child-v.ensures.value c.child-w.ensures.value
    c.child-x.ensures.value c.child-y.ensures.value)
    (decides_not c.is_node.ensures c.if-is_node.false)
