use mathlib.Core.Path.{sym, ◌∙◌, ap}
use native.Mathlib.Omega.{arith}
use Rattle.std.proofs.Common.{unwrap_or}
use Rattle.terms.proofs.Tests.{refuted}
use Rattle.sheets.specs.Conversion.{WantsMotive}
use Rattle.sheets.proofs.GoodSheetLaws.{admitted_good}
use Rattle.sheets.proofs.MotiveLineLaws.{says_wants, premise_own, asks_is}
use Rattle.sheets.proofs.MotiveLineLaws.{read_in_tables, asking_form, found_premise}
use Rattle.sheets.proofs.motive_lines.new_premise.Goals.{Then-asks_motive}
use Rattle.sheets.proofs.motive_lines.new_premise.Goals as goal

-- where the test passed
wants : (c : Then-asks_motive) → let start = c.args in
    WantsMotive start.sheet.bytes.now start.sheet.counts.terms start.sheet.counts.contexts start.n
wants c =
    let asks = asks_is _ _ _ _ c.requires.line_value.1 c.asks_motive.ensures in
    (says_wants _ _ _ _).0 (sym asks ∙ c.if-asks_motive.true)

pub motive_asked_by-asked-requires : goal.motive_asked_by-asked-requires
motive_asked_by-asked-requires c =
    let line = c.requires.line_value in
    let good = admitted_good _ _ _ c.args.sheet.accepted in
    let judgment = c.into.ensures in record { judgments_in_tables = rw (c.tables.ensures.terms, c.tables.ensures.contexts) (read_in_tables good _ line.0 line.1 judgment); form_value = asking_form good _ line.0 line.1 judgment (wants (goal.at.motive_asked_by-asked-requires c).Then-asks_motive) }

pub returns-then-asks_motive : goal.returns-then-asks_motive
returns-then-asks_motive c =
    let line = c.requires.line_value in
    let good = admitted_good _ _ _ c.args.sheet.accepted in
    c.unwrap_or.ensures ∙ ap (λ place. unwrap_or place c.args.n) c.first_equal.ensures
    ∙ found_premise good _ line.0 line.1 c.into.ensures (wants (goal.at.returns-then-asks_motive c).Then-asks_motive)
    c.args.given.now c.requires.motives_given (rw c.tables.ensures.terms at c.motive_asked_by-asked.ensures)

pub returns : goal.returns
returns c =
    let asks = asks_is _ _ _ _ c.requires.line_value.1 c.asks_motive.ensures in
    sym (premise_own _ _ _ _ (refuted (says_wants _ _ _ _) (sym asks ∙ c.if-asks_motive.false)))

pub first_equal-requires : goal.first_equal-requires
first_equal-requires c =
    omega (arith, (admitted_good _ _ _ c.args.sheet.accepted).tables.laid.few_lines, c.requires.line_value.0)
