use mathlib.Core.Path.{sym, ap}
use Rattle.sheets.specs.Conversion.{convert_after, output_from}
use Rattle.sheets.proofs.RefusalLaws.{exits}
use Rattle.sheets.proofs.ConversionAnswers.{concludes}
use Rattle.sheets.proofs.conversion.convert.Goals as goal

pub returns-in_err-admitted : goal.returns-in_err-admitted
unfolding convert_after output_from
returns-in_err-admitted c =
    let h = concludes _ _ _ _ c.in_err-admitted.ensures.answer _ _ (exits c.from_residual.ensures) (ap (output_from _ _) (sym (exits c.from_residual.ensures))) in
    record { answer = h.0; left = c.admit.ensures.left; written = h.1; kept = h.2 }

pub returns : goal.returns
unfolding convert_after
returns c =
    let admitted = c.in_ok-admitted.ensures.answer in
    let done = c.convert_admitted.ensures in
    let h = concludes _ _ _ _ admitted.1 _ _ (rw admitted.0 at done.answer) (rw admitted.0 at done.left) in
    record { answer = h.0; left = c.admit.ensures.left; written = h.1; kept = h.2 }
