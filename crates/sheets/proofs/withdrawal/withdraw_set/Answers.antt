use mathlib.Core.Path.{◌∙◌}
use Rattle.sheets.proofs.RefusalLaws.{exits}
use Rattle.sheets.proofs.SetAnswers.{kept, handed_on, gone_on}
use Rattle.sheets.proofs.withdrawal.withdraw_set.Goals as goal

pub returns-in_err-admitted : goal.returns-in_err-admitted
returns-in_err-admitted c =
    let h = handed_on _ _ _ _ c.in_err-admitted.ensures.answer in
    let answer = exits c.from_residual.ensures ∙ h.0 in
    record { answer = answer; left = c.admit.ensures.left; written = h.1; kept = kept _ _ _ _ _ _ answer h.1 }

pub returns : goal.returns
returns c =
    let admitted = c.in_ok-admitted.ensures.answer in
    let listed = c.withdraw_listed.ensures in
    let h = gone_on _ _ _ _ _ admitted.1 _ _ (rw admitted.0 at listed.answer) (rw admitted.0 at listed.left) in
    record { answer = h.0; left = c.admit.ensures.left; written = h.1; kept = kept _ _ _ _ _ _ h.0 h.1 }
