use mathlib.Core.Path.{refl, sym, ◌∙◌, ap, subst}
use Rattle.terms.specs.Lists.{listed}
use Rattle.sheets.specs.Batch.{answer_for}
use Rattle.sheets.specs.Opening.{Answerable, answer_in}
use Rattle.sheets.proofs.BatchLaws.{wanted_element}
use Rattle.sheets.proofs.GoodSheetLaws.{admitted_good}
use Rattle.sheets.proofs.OpeningLaws.{search_answerable}
use Rattle.sheets.proofs.FillingLaws.{filling_start, filling_element}
use Rattle.sheets.proofs.batch.search_each.Goals as goal

pub loop-i-init : goal.loop-i-init
unfolding listed
loop-i-init g c = filling_start _ _ _ refl

pub loop-i-preserved : goal.loop-i-preserved
unfolding answer_in
loop-i-preserved g c =
    filling_element _ c.requires c.loop-i.invariant c.loop-i-test.true
    (c.answer_for.ensures
    ∙ ap answer_for c.search_in.ensures
    ∙ ap (answer_in c.args.opened.now.sheet.bytes.now c.args.opened.now.sheet.counts)
    (c.wanted.ensures
    ∙ wanted_element g.J.Judgment.wanted c.args.list.now _ _ c.loop-i-test.true c.index-list-i.is))

pub answer_for-requires : goal.answer_for-requires
answer_for-requires g c =
    subst Answerable (sym c.search_in.ensures)
    (search_answerable _ _ _ _ (admitted_good _ _ _ c.args.opened.now.sheet.accepted).tables.laid.few_lines)
