use Rattle.sheets.proofs.LineLaws.{subjects_bound}
use Rattle.sheets.proofs.lines.subjects_fit.Goals as goal

pub returns : goal.returns
returns c =
    subjects_bound _ _ c.subject_use-used.ensures c.bound.ensures
    c.bound-2.ensures c.bound-3.ensures
