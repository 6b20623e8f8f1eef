-- A variable and a universe have a number, the others none.
use mathlib.Core.Path.{◌∙◌, subst}
use Prim.Native.Nat.{◌<◌}
use Rattle.terms.specs.Tag.{arity, used}
use Rattle.terms.proofs.TagTables.{numbered, not_numbered}
use Rattle.terms.proofs.NodeLaws.{number_is}
use Rattle.terms.proofs.nodes.number.Goals as goal

pub returns-in-Var-clause-value : goal.returns-in-Var-clause-value
returns-in-Var-clause-value c =
    let number = subst (λ τ. arity τ < used τ) c.tag_at.ensures (numbered _ c.in-Var.is) in
    c.word.ensures.value ∙ number_is _ _ c.requires.table _ c.requires.below.0 number

pub returns-in_default-clause-value : goal.returns-in_default-clause-value
returns-in_default-clause-value c = not_numbered c.in_default.not-Var c.in_default.not-Univ _ c.tag_at.ensures
