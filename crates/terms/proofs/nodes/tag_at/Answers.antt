-- The tag's word is one of the thirteen.
use mathlib.Core.Path.{sym, ◌∙◌, ap}
use Rattle.terms.specs.Tag.{tag_of}
use Rattle.terms.proofs.NodeLaws.{row_tag}
use Rattle.terms.proofs.nodes.tag_at.Goals as goal

pub returns : goal.returns
returns c = c.of_word.ensures ∙ ap tag_of c.word.ensures.value ∙ sym (row_tag _ _ c.requires.table _ c.requires.below.0)
