use Rattle.terms.specs.Substitution.{◌⟨◌⟩, on_succ}
use Rattle.terms.proofs.Tests.{◌&◌}
use Rattle.rules.proofs.typing.are_cases.Goals as goal

pub returns : goal.returns
unfolding ◌⟨◌⟩ on_succ
returns c = c.is_substituted.ensures & c.is_substituted-2.ensures
