use Rattle.rules.specs.Contexts.{type_of}
use borrow.Author.Rules.{rules}
use Rattle.rules.proofs.contexts.type_of.Goals as goal

pub returns : goal.returns
unfolding type_of
returns c = record { value = search rules; range = search rules }
