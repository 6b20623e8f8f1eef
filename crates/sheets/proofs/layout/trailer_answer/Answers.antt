use mathlib.Core.Path.{sym, ◌∙◌}
use Rattle.sheets.proofs.LayoutLaws.{trailer_2, trailer_3, trailer_4, trailer_counted}
use Rattle.sheets.proofs.layout.trailer_answer.Goals as goal

pub returns-then-not-mark_fits : goal.returns-then-not-mark_fits
returns-then-not-mark_fits c = sym (trailer_2 _ _ _ (sym c.mark_fits.ensures ∙ c.if-not-mark_fits.true))

pub returns-then-not-counts_fit : goal.returns-then-not-counts_fit
returns-then-not-counts_fit c =
    sym (trailer_3 _ _ _ (sym c.mark_fits.ensures ∙ c.if-not-mark_fits.false) (sym c.counts_fit.ensures ∙ c.if-not-counts_fit.true))

pub returns-then-work-t : goal.returns-then-work-t
returns-then-work-t c =
    sym (trailer_4 _ _ _ (sym c.mark_fits.ensures ∙ c.if-not-mark_fits.false) (sym c.counts_fit.ensures ∙ c.if-not-counts_fit.false) c.if-work-t.true)

pub returns : goal.returns
returns c =
    sym (trailer_counted _ _ _ (sym c.mark_fits.ensures ∙ c.if-not-mark_fits.false) (sym c.counts_fit.ensures ∙ c.if-not-counts_fit.false) c.if-work-t.false)
