-- Row u is a succ whose child is the raised variable.
use mathlib.Core.Path.{◌≡◌, subst}
use Rattle.terms.specs.Decides.{Decides}
use Rattle.terms.specs.Rows.{term}
use Rattle.terms.specs.Substitution.{shift}
use Rattle.terms.proofs.Tests.{decides_via, ◌&◌}
use Rattle.terms.proofs.ImageLaws.{succ_parts, raised_variable}
use Rattle.terms.proofs.images.is_raised_succ.Goals as goal

pub returns : goal.returns
unfolding shift
returns c =
    decides_via (succ_parts _ _ _ c.child-v.ensures.value)
    (c.is_node.ensures
    & subst
    (λ s. Decides c.is_node-2.result (term c.args.rows.now c.child-v.result ≡ s))
    (raised_variable c.args.k c.args.i) c.is_node-2.ensures)
