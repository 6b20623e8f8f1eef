use native.Mathlib.Omega.{arith}
use Rattle.sheets.proofs.CitingLaws.{part_lines, citing_lines}
use Rattle.sheets.proofs.GoodSheetLaws.{admitted_good}
use Rattle.sheets.proofs.good_sheet.GoodSheet.lines.Goals as goal

pub overflow_mul-start : goal.overflow_mul-start
overflow_mul-start c = omega (arith, (admitted_good _ _ _ c.args.self.accepted).tables.laid)

pub overflow_mul-start-2 : goal.overflow_mul-start-2
overflow_mul-start-2 c = omega (arith, (admitted_good _ _ _ c.args.self.accepted).tables.laid)

pub overflow_add-start : goal.overflow_add-start
overflow_add-start c = omega (arith, (admitted_good _ _ _ c.args.self.accepted).tables.laid)

pub slice_bounds-result-count : goal.slice_bounds-result-count
slice_bounds-result-count c = omega (arith, (admitted_good _ _ _ c.args.self.accepted).tables.laid)

pub slice_bounds-result-start : goal.slice_bounds-result-start
slice_bounds-result-start c = omega (arith, (admitted_good _ _ _ c.args.self.accepted).tables.laid)

pub returns-clause-rows : goal.returns-clause-rows
returns-clause-rows c = part_lines c.args.self.bytes.now _ _

pub invariant_of-result : goal.invariant_of-result
invariant_of-result c = record { citing = citing_lines _ _ _ _ (admitted_good _ _ _ c.args.self.accepted) c.args.self.own }
