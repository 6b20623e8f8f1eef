-- A row spells the node exactly if it holds the node's words.
use Rattle.terms.proofs.NodeLaws.{node_decided}
use Rattle.terms.proofs.nodes.is_node.Goals as goal

pub returns : goal.returns
returns c = node_decided _ _ c.args.node c.requires _ _ c.from.ensures c.holds.ensures
