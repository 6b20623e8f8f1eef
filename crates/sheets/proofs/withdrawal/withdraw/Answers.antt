use mathlib.Core.Path.{sym, ◌∙◌}
use Rattle.sheets.proofs.OneLineLaws.{single_answer, single_out, single_keeps}
use Rattle.sheets.proofs.withdrawal.withdraw.Goals as goal

pub returns : goal.returns
returns c =
    let all = c.withdraw_set.ensures in
    record {
      answer = all.answer ∙ sym (single_answer _ _ _ _);
      left = all.left;
      written = all.written ∙ sym (single_out _ _ _ _);
      kept = single_keeps _ _ _ _ all.kept;
    }
