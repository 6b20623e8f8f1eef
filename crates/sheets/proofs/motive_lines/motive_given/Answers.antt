use Rattle.sheets.proofs.GoodSheetLaws.{admitted_good}
use Rattle.sheets.proofs.MotiveLineLaws.{read_in_tables, number_given}
use Rattle.sheets.proofs.motive_lines.motive_given.Goals as goal

pub motive_given_by-requires : goal.motive_given_by-requires
motive_given_by-requires c =
    let pre = c.requires in
    let good = admitted_good _ _ _ c.args.sheet.accepted in rw (c.tables.ensures.terms, c.tables.ensures.contexts) (read_in_tables good _ pre.0 pre.1 c.into.ensures)

pub returns : goal.returns
returns c =
    let pre = c.requires in
    let good = admitted_good _ _ _ c.args.sheet.accepted in
    number_given good _ pre.0 pre.1 c.into.ensures (rw (c.tables.ensures.terms, c.tables.ensures.contexts) at c.motive_given_by.ensures.number)
