use Rattle.terms.proofs.Tests.{◌&◌}
use Rattle.rules.proofs.normalisation.are_nodes.Goals as goal

pub returns : goal.returns
returns c = c.is_node.ensures & c.is_node-2.ensures
