-- A bound index stays, for a free one what is put is raised.
use mathlib.Core.Path.{◌∙◌, ap}
use Rattle.terms.specs.Substitution.{substitute}
use Rattle.terms.specs.Images.{substitution, image_term}
use Rattle.terms.proofs.SubstitutionLaws.{image_bound, image_free}
use Rattle.terms.proofs.ImageLaws.{image_means}
use Rattle.terms.proofs.images.SubstOperation.is_image.Goals as goal

pub returns-then-i-k : goal.returns-then-i-k
unfolding substitute
returns-then-i-k c =
    let bound = image_bound _ (substitution c.args.rows.now c.args.self) _ c.if-i-k.true in
    rw (← bound) at c.is_node.ensures

pub returns : goal.returns
unfolding substitute
returns c =
    let image =
    ap (image_term c.args.rows.now) c.image_of.ensures ∙ image_means c.args.rows.now c.args.self _ in
    let free = image_free _ (substitution c.args.rows.now c.args.self) _ c.if-i-k.false in
    rw (image, ← free) at c.is_raised_image.ensures
