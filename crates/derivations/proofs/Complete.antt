-- Demand 3 (b): some accepted sheet of the edition states just this list exactly if the list is a derivation by the
-- edition's rules that fits.
-- Assumes nothing.
use mathlib.Core.Path.{◌≡◌, subst, subst₂}
use mathlib.Core.List.{List}
use Prim.Native.Nat.{ℕ}
use Rattle.rules.specs.Judgment.{Judgment}
use Rattle.rules.specs.Editions.{IsEdition}
use Rattle.derivations.specs.Derivation.{Derivation}
use Rattle.derivations.specs.Fits.{Fits}
use Rattle.sheets.specs.Layout.{edition_of}
use Rattle.sheets.specs.Accepted.{Bytes, IsAccepted, stated_by}
use Rattle.derivations.specs.Demand3.{Complete}
use Rattle.sheets.proofs.AcceptedLaws.{good_accepted, accepted_good}
use Rattle.derivations.proofs.SheetDerives.{stated_derivation}
use Rattle.derivations.proofs.SheetFits.{stated_fits}
use Rattle.derivations.proofs.Listing.{term_list, context_list, listing}
use Rattle.derivations.proofs.SheetOf.{sheet, edition_back, good, states_all, bytes}

module _ (edition : ℕ) (js : List Judgment) where
  -- an accepted sheet of the edition that states the list
  abbrev States : Type 0
  States = (b : List ℕ) × Bytes b × IsAccepted b × (edition_of b ≡ edition) × (stated_by b ≡ js)

  from_sheet : States → Derivation edition js × Fits js
  from_sheet s =
      let g = accepted_good s.0 s.2 in
      (subst₂ Derivation s.3 s.4 (stated_derivation g), subst Fits s.4 (stated_fits g))

  to_sheet : IsEdition edition → Derivation edition js → Fits js → States
  to_sheet e d f =
      let D = term_list js in
      let E = context_list js in
      let l = listing js f in (
        sheet edition e js d D E l f.short,
        bytes edition e js d D E l f.short,
        good_accepted (good edition e js d D E l f.short),
        edition_back edition e js d D E l f.short,
        states_all edition e js d D E l f.short,
      )

pub complete_by_sheets : Complete
complete_by_sheets edition e js = (from_sheet edition js, λ p. to_sheet edition js e p.0 p.1)
