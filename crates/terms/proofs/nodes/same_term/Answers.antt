-- In a well-formed table equal terms have equal row numbers.
use mathlib.Core.Path.{ap}
use borrow.Author.Tests.{eqb-true, eq-eqb}
use Rattle.terms.specs.Rows.{term}
use Rattle.terms.proofs.TermLaws.{same_row}
use Rattle.terms.proofs.nodes.same_term.Goals as goal

pub returns : goal.returns
returns c = (λ h. ap (term c.args.rows.now) (eqb-true _ _ h), λ h. eq-eqb _ _ (same_row _ _ c.requires.table _ _ c.requires.below.0 c.requires.below.1.0 h))
