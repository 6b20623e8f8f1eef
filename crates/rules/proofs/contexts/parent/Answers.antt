use Rattle.rules.specs.Contexts.{parent_of}
use borrow.Author.Rules.{rules}
use Rattle.rules.proofs.contexts.parent.Goals as goal

pub returns : goal.returns
unfolding parent_of
returns c = record { value = search rules; range = search rules }
