use mathlib.Core.Path.{◌∙◌}
use Rattle.sheets.proofs.LineAnswers.{fits_no, fits_rest, rule_known_lem}
use Rattle.sheets.proofs.lines.line_fits.Goals as goal

pub premise_count-requires : goal.premise_count-requires
premise_count-requires c =
    rule_known_lem _ 0 0 0 _ c.rule_fits.ensures c.if-rule_fits.true

pub returns-then-rule_fits : goal.returns-then-rule_fits
returns-then-rule_fits c = c.numbers_fit.ensures ∙ fits_rest _ _ _ _ _ c.rule_fits.ensures c.if-rule_fits.true

pub returns-else-rule_fits : goal.returns-else-rule_fits
returns-else-rule_fits c = fits_no _ _ _ _ _ c.rule_fits.ensures c.if-rule_fits.false
