-- A case over sound tables is what `follows` asks for; each answer then says what the two tests said.
-- Assumes nothing.
use Rattle.rules.specs.RuleChecks.{in_order}
use Rattle.rules_demo.proofs.CaseLaws.{case_in_tables}
use Rattle.rules_demo.proofs.cases.answer_to.Goals as goal

pub follows-requires : goal.follows-requires
follows-requires c =
    case_in_tables _ _ _ _ _ (in_order c.args.ps.now) _ c.args.checked.sound (c.is_case.ensures.0 c.if-is_case.true)
