-- Equal tags and equal numbers are equal heads.
use Rattle.terms.proofs.NodeLaws.{heads_decided}
use Rattle.terms.proofs.nodes.same_head.Goals as goal

pub returns : goal.returns
returns c = heads_decided _ _ _ c.requires _ _ _ _ c.word.ensures.value c.word-2.ensures.value c.number.ensures.value c.number-2.ensures.value
