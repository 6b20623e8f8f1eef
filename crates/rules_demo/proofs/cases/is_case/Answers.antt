-- The tests together are `Case`.
-- Assumes nothing.
use Rattle.rules_demo.proofs.CaseLaws.{case_says}
use Rattle.rules_demo.proofs.cases.is_case.Goals as goal

pub returns : goal.returns
returns c =
    case_says c.args.t c.args.n c.args.rule _ c.args.c c.args.ps.now.p c.args.ps.now.q
    c.args.ps.now.r c.args.ps.now.s c.is_rule.ensures c.conclusion_form.ensures
    c.is_numbered.ensures c.is_numbered-2.ensures c.is_numbered-3.ensures
    c.is_numbered-4.ensures c.is_numbered-5.ensures
