-- A bound index stays, a free one is raised.
use mathlib.Core.Path.{◌≡◌, sym, ◌∙◌, subst}
use Rattle.terms.specs.Decides.{Decides}
use Rattle.terms.specs.Rows.{term}
use Rattle.terms.specs.Substitution.{shift, raise}
use Rattle.terms.specs.Term.{var}
use Rattle.terms.proofs.SubstitutionLaws.{raise_bound, raise_free}
use Rattle.terms.proofs.images.ShiftOperation.is_image.Goals.{then-i-k, else-i-k}
use Rattle.terms.proofs.images.ShiftOperation.is_image.Goals as goal

pub returns : goal.returns
unfolding shift
returns c =
    let raised : c.if-i-k.raised ≡ raise c.args.k c.args.self.by c.args.i =
    elim c.if-i-k.branch [
      | then-i-k w ↦ w.raised-is ∙ sym (raise_bound _ _ _ w.if-i-k.true)
      | else-i-k w ↦ w.raised-is ∙ sym (raise_free _ _ _ w.if-i-k.false)
    ] in
    subst (λ m. Decides c.is_node.result (term c.args.rows.now c.args.u ≡ var m)) raised c.is_node.ensures
