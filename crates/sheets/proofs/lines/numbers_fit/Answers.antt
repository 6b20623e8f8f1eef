use Rattle.sheets.proofs.LineLaws.{numbers_joined}
use Rattle.sheets.proofs.lines.numbers_fit.Goals as goal

pub returns : goal.returns
returns c =
    numbers_joined _ _ _ _ c.from-j.ensures c.requires c.last_context.ensures
    c.subjects_fit.ensures c.premises_fit.ensures
