use mathlib.Core.Path.{refl, sym, ◌∙◌, ap}
use Rattle.std.specs.Prelude.{Err}
use Rattle.sheets.proofs.RefusalLaws.{exits}
use Rattle.sheets.proofs.GoodSheetLaws.{admitted_good}
use Rattle.sheets.proofs.NormalityLaws.{term_missing, term-answered, normality_refused, normality_accepted}
use Rattle.sheets.proofs.normality.mark_normal.Goals as goal

pub returns-in_err-counts-clause-answer : goal.returns-in_err-counts-clause-answer
returns-in_err-counts-clause-answer c =
    exits c.from_residual.ensures ∙ sym (normality_refused _ _ _ _ _ (sym c.admit.ensures.answer ∙ c.in_err-counts.was))

pub returns-then-counts-term-clause-answer : goal.returns-then-counts-term-clause-answer
returns-then-counts-term-clause-answer c =
    ap Err c.at.ensures ∙ term_missing _ _ _ c.if-counts-term.true
    ∙ sym (normality_accepted _ _ _ _ _ _ (sym c.admit.ensures.answer ∙ c.in_ok-counts.was))

pub is_normal-requires : goal.is_normal-requires
is_normal-requires c =
    let tables = (admitted_good _ _ _ (sym c.admit.ensures.answer ∙ c.in_ok-counts.was)).tables in
    record {
      count = c.in_ok-counts.counts.terms;
      few = tables.laid.few_terms;
      table = tables.terms;
      below = (c.if-counts-term.false, tt);
    }

pub returns-clause-answer : goal.returns-clause-answer
returns-clause-answer c =
    term-answered _ _ _ c.if-counts-term.false _ _ c.is_normal.ensures refl
    ∙ sym (normality_accepted _ _ _ _ _ _ (sym c.admit.ensures.answer ∙ c.in_ok-counts.was))
