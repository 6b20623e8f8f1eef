use mathlib.Core.Path.{sym, ◌∙◌}
use Rattle.rules.proofs.AncestorLaws.{ancestor_numbered, entry_above, none_above}
use Rattle.rules.proofs.contexts.entry.Goals as goal

pub returns-in_err-ancestor : goal.returns-in_err-ancestor
returns-in_err-ancestor c =
    c.from_residual.ensures ∙ none_above _ _ _ (sym c.ancestor.ensures ∙ c.in_err-ancestor.was)

pub nearest-requires : goal.nearest-requires
nearest-requires c =
    ancestor_numbered _ _ _ _ c.requires (sym c.ancestor.ensures ∙ c.in_ok-ancestor.was)

pub returns : goal.returns
returns c =
    c.nearest.ensures ∙ entry_above _ _ _ _ (sym c.ancestor.ensures ∙ c.in_ok-ancestor.was)
