-- Each kind of image is answered by its own test.
use mathlib.Core.Path.{◌≡◌, sym, subst}
use Rattle.terms.specs.Decides.{Decides}
use Rattle.terms.specs.Rows.{term}
use Rattle.terms.specs.Substitution.{shift}
use Rattle.terms.specs.Images.{image_term}
use Rattle.terms.proofs.ImageLaws.{raised_variable}
use Rattle.terms.proofs.images.is_raised_image.Goals as goal

pub returns-in-Var : goal.returns-in-Var
returns-in-Var c =
    subst
    (λ s. Decides c.is_node.result
    (term c.args.rows.now c.args.u ≡ shift 0 c.args.k (image_term c.args.rows.now s)))
    (sym c.in-Var.is)
    (subst (λ s. Decides c.is_node.result (term c.args.rows.now c.args.u ≡ s))
    (raised_variable c.args.k _) c.is_node.ensures)

pub returns-in-Zero : goal.returns-in-Zero
unfolding shift
returns-in-Zero c =
    subst
    (λ s. Decides c.is_node-in-Zero.result
    (term c.args.rows.now c.args.u ≡ shift 0 c.args.k (image_term c.args.rows.now s)))
    (sym c.in-Zero.is) c.is_node-in-Zero.ensures
