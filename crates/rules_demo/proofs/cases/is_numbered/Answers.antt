-- The five tests together are `Numbered`.
-- Assumes nothing.
use Rattle.rules_demo.proofs.CaseLaws.{numbered_says}
use Rattle.rules_demo.proofs.cases.is_numbered.Goals as goal

pub returns : goal.returns
returns c =
    numbered_says c.args.t c.args.n c.args.j c.subject_use-used.ensures
    c.last_context.ensures
