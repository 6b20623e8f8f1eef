use mathlib.Core.Path.{sym, ◌∙◌}
use native.Mathlib.Omega.{arith}
use Rattle.sheets.proofs.GoodSheetLaws.{admitted_good, admitted_so}
use Rattle.sheets.proofs.good_sheet.GoodSheet.admit.Goals as goal

pub edition_of-requires : goal.edition_of-requires
edition_of-requires c =
    omega (arith, (admitted_good _ _ _ (sym c.admit.ensures.answer ∙ c.in_ok-counts.was)).tables.laid.long)

pub invariant_of-result : goal.invariant_of-result
invariant_of-result c =
    record {
      accepted = admitted_so _ _ _ (sym c.admit.ensures.answer ∙ c.in_ok-counts.was);
      own = c.edition_of.ensures;
      small = λ i. omega (arith, c.type_inv.bytes i);
    }
