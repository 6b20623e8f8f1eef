use Rattle.terms.proofs.Tests.{decides_via, ◌&◌}
use Rattle.rules.proofs.ContextTableAnswers.{rows_of}
use Rattle.rules.proofs.typing.types_family.Goals as goal

pub extends-requires : goal.extends-requires
extends-requires c = rows_of c.requires c.requires.given.within (c.requires.below.0, tt)

pub returns : goal.returns
returns c =
    decides_via (λ h. (h.0.0.0, h.0.0.1, h.0.1, h.1), λ t. (((t.0, t.1), t.2), t.3))
    (c.extends.ensures & c.same_term.ensures & c.same_term-2.ensures & c.is_universe.ensures)
