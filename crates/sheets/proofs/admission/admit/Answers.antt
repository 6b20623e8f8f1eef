use mathlib.Core.Path.{sym, ◌∙◌, ap}
use native.Mathlib.Omega.{arith}
use Rattle.sheets.specs.Admission.{after_lines, after_contexts, after_terms}
use Rattle.sheets.proofs.RefusalLaws.{exits}
use Rattle.sheets.proofs.AnswerLaws.{laid_out, sizes_room, work_left, on_terms, contexts_whole, on_contexts}
use Rattle.sheets.proofs.AnswerLaws.{well_formed, on_lines, layout_wrong}
use Rattle.sheets.proofs.admission.admit.Goals as goal

pub returns-in_err-counts-clause-answer : goal.returns-in_err-counts-clause-answer
returns-in_err-counts-clause-answer c =
    exits c.from_residual.ensures ∙ (layout_wrong _ _ _ _ c.read_layout.ensures c.in_err-counts.was).0

pub returns-in_err-counts-clause-left : goal.returns-in_err-counts-clause-left
returns-in_err-counts-clause-left c = (layout_wrong _ _ _ _ c.read_layout.ensures c.in_err-counts.was).1

pub check_terms-requires : goal.check_terms-requires
check_terms-requires c =
    let shown = c.read_layout.ensures in
    let counted = c.in_ok-counts.was in
    let laid = laid_out _ _ _ _ shown counted in
    (omega (arith, laid.long), laid.few_terms, sizes_room _ _ _ _ shown counted)

pub returns-in_err-check_terms-clause-answer : goal.returns-in_err-check_terms-clause-answer
unfolding after_terms
returns-in_err-check_terms-clause-answer c =
    exits c.from_residual-in_err-check_terms.ensures ∙ ap (after_terms _ _) (sym c.in_err-check_terms.was)
    ∙ on_terms _ _ _ _ c.read_layout.ensures c.in_ok-counts.was _ c.check_terms.ensures.answer

pub returns-in_err-check_terms-clause-left : goal.returns-in_err-check_terms-clause-left
returns-in_err-check_terms-clause-left c =
    c.check_terms.ensures.sizes ∙ work_left _ _ _ _ c.read_layout.ensures c.in_ok-counts.was

pub overflow_mul-start : goal.overflow_mul-start
overflow_mul-start c = omega (arith, laid_out _ _ _ _ c.read_layout.ensures c.in_ok-counts.was)

pub slice_bounds-check_contexts-count : goal.slice_bounds-check_contexts-count
slice_bounds-check_contexts-count c = omega (arith, laid_out _ _ _ _ c.read_layout.ensures c.in_ok-counts.was)

pub slice_bounds-check_contexts-start : goal.slice_bounds-check_contexts-start
slice_bounds-check_contexts-start c = omega (arith, laid_out _ _ _ _ c.read_layout.ensures c.in_ok-counts.was)

pub check_contexts-requires : goal.check_contexts-requires
check_contexts-requires c =
    contexts_whole _ _ _ _ c.read_layout.ensures c.in_ok-counts.was _ c.check_terms.ensures.answer c.in_ok-check_terms.was

pub returns-in_err-check_contexts-clause-answer : goal.returns-in_err-check_contexts-clause-answer
unfolding after_contexts
returns-in_err-check_contexts-clause-answer c =
    exits c.from_residual-in_err-check_contexts.ensures ∙ ap (after_contexts _ _) (sym c.in_err-check_contexts.was)
    ∙ on_contexts _ _ _ _ c.read_layout.ensures c.in_ok-counts.was _ c.check_terms.ensures.answer c.in_ok-check_terms.was _
    c.check_contexts.ensures

pub returns-in_err-check_contexts-clause-left : goal.returns-in_err-check_contexts-clause-left
returns-in_err-check_contexts-clause-left c =
    c.check_terms.ensures.sizes ∙ work_left _ _ _ _ c.read_layout.ensures c.in_ok-counts.was

pub check_lines-requires : goal.check_lines-requires
check_lines-requires c =
    well_formed _ _ _ _ c.read_layout.ensures c.in_ok-counts.was _ c.check_terms.ensures.answer c.in_ok-check_terms.was _
    c.check_contexts.ensures c.in_ok-check_contexts.was

pub returns-in_err-check_lines-clause-answer : goal.returns-in_err-check_lines-clause-answer
unfolding after_lines
returns-in_err-check_lines-clause-answer c =
    exits c.from_residual-in_err-check_lines.ensures ∙ ap (after_lines _) (sym c.in_err-check_lines.was)
    ∙ on_lines _ _ _ _ c.read_layout.ensures c.in_ok-counts.was _ c.check_terms.ensures.answer c.in_ok-check_terms.was _
    c.check_contexts.ensures c.in_ok-check_contexts.was _ c.check_lines.ensures

pub returns-in_err-check_lines-clause-left : goal.returns-in_err-check_lines-clause-left
returns-in_err-check_lines-clause-left c =
    c.check_terms.ensures.sizes ∙ work_left _ _ _ _ c.read_layout.ensures c.in_ok-counts.was

pub returns-clause-answer : goal.returns-clause-answer
unfolding after_lines
returns-clause-answer c =
    ap (after_lines _) (sym c.in_ok-check_lines.was)
    ∙ on_lines _ _ _ _ c.read_layout.ensures c.in_ok-counts.was _ c.check_terms.ensures.answer c.in_ok-check_terms.was _
    c.check_contexts.ensures c.in_ok-check_contexts.was _ c.check_lines.ensures

pub returns-clause-left : goal.returns-clause-left
returns-clause-left c =
    c.check_terms.ensures.sizes ∙ work_left _ _ _ _ c.read_layout.ensures c.in_ok-counts.was
