use native.Mathlib.Omega.{arith}
use Rattle.sheets.specs.Layout.{contexts_in}
use Rattle.sheets.proofs.BufferLaws.{part_to_end}
use Rattle.sheets.proofs.GoodSheetLaws.{admitted_good}
use Rattle.sheets.proofs.good_sheet.GoodSheet.tables.Goals as goal

pub overflow_mul-start : goal.overflow_mul-start
overflow_mul-start c = omega (arith, (admitted_good _ _ _ c.args.self.accepted).tables.laid)

pub slice_bounds-result-count : goal.slice_bounds-result-count
slice_bounds-result-count c = omega (arith, (admitted_good _ _ _ c.args.self.accepted).tables.laid)

pub slice_bounds-result-start : goal.slice_bounds-result-start
slice_bounds-result-start c = omega (arith, (admitted_good _ _ _ c.args.self.accepted).tables.laid)

pub returns-clause-contexts : goal.returns-clause-contexts
unfolding contexts_in
returns-clause-contexts c = part_to_end c.args.self.bytes.now _
