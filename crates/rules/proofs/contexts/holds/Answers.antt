use Rattle.rules.specs.Contexts.{holds_context}
use Rattle.rules.proofs.contexts.holds.Goals as goal

pub returns : goal.returns
unfolding holds_context
returns c = rw (c.parent.ensures.value, c.type_of.ensures.value)
