-- Each way out by the law of the check that took it.
-- Assumes nothing.
use Rattle.rules_demo.proofs.CaseLaws.{faulty_terms_lem, contexts_say}
use Rattle.rules_demo.proofs.tables.are_sound.Goals as goal

pub returns-in_default : goal.returns-in_default
returns-in_default c =
    faulty_terms_lem _ _ _ _ c.requires.0 _ c.check_terms.ensures.answer _ c.in_default.is

pub returns : goal.returns
returns c =
    rw c.is_ok.ensures.value
    (contexts_say _ _ _ _ c.requires.0 _ c.check_terms.ensures.answer c.if-t-gt3072.false
    c.if-n-gt256.false c.in-Ok.is c.requires.1 _ c.check_contexts.ensures)
