-- Document 02, A9: in a derivation no judgment of form 0 to 3 has a stray variable, since the rules keep that; and what
-- an accepted sheet states is a derivation. Likewise for contexts that are stated well formed.
-- Assumes nothing.
use mathlib.Core.List.{List}
use Rattle.terms.proofs.AllLaws.{all_image}
use Rattle.rules.specs.Judgment.{Judgment}
use Rattle.rules.specs.Scoped.{NoStray}
use Rattle.rules.proofs.ContextBounds.{keeps}
use Rattle.rules.proofs.PremiseLaws.{InContext, premise_forms}
use Rattle.sheets.specs.Layout.{edition_of}
use Rattle.sheets.specs.Accepted.{stated_by}
use Rattle.sheets.proofs.AcceptedLaws.{accepted_good}
use Rattle.derivations.specs.Derivation.{judgment_at}
use Rattle.derivations.specs.Scopes.{NothingStray, ContextsStated, OfDerivations, OfSheets}
use Rattle.derivations.proofs.DerivationLaws.{along}
use Rattle.derivations.proofs.StatedContexts.{contexts_in_lem}
use Rattle.derivations.proofs.SheetDerives.{stated_derivation}

pub derivations_no_stray : OfDerivations NothingStray
derivations_no_stray edition js d =
    along d (λ i. InContext (judgment_at js i) → NoStray (judgment_at js i))
    (λ i h kept low.
    let s = d i h in
    let forms = premise_forms s.follows low in
    keeps s.follows low (all_image (judgment_at js) InContext NoStray s.places kept forms))

pub derivations_contexts : OfDerivations ContextsStated
derivations_contexts edition js d = contexts_in_lem d

-- what holds of derivations holds of what sheets state
of_sheets : (P : List Judgment → Type 0) → OfDerivations P → OfSheets P
of_sheets P h b a = h (edition_of b) (stated_by b) (stated_derivation (accepted_good b a))

pub no_stray : OfSheets NothingStray
no_stray = of_sheets NothingStray derivations_no_stray

pub contexts_stated : OfSheets ContextsStated
contexts_stated = of_sheets ContextsStated derivations_contexts
