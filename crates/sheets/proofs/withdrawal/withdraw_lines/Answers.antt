use mathlib.Core.Path.{refl, sym, ◌∙◌, ap}
use Rattle.std.specs.Prelude.{Err}
use native.Mathlib.Omega.{arith}
use Rattle.sheets.specs.Withdrawal.{out_from}
use Rattle.sheets.specs.WithdrawalSet.{kept_length}
use Rattle.sheets.proofs.LineSetLaws.{few_listed}
use Rattle.sheets.proofs.GoodSheetLaws.{admitted_good}
use Rattle.sheets.proofs.SetAnswers.{answer_12, answer_13, answer_written, writer_asks}
use Rattle.sheets.proofs.SetAnswers.{writer_room, writer_leaves}
use Rattle.sheets.proofs.withdrawal.withdraw_lines.Goals as goal

pub returns-in-Some : goal.returns-in-Some
unfolding out_from
returns-in-Some c =
    let lines = c.lines.ensures in
    let used = rw lines.count at c.in-Some.ensures in
    record { answer = ap Err c.at.ensures ∙ answer_12 _ _ _ _ (admitted_good _ _ _ c.args.sheet.accepted) _ _ lines.edition lines.rows _ (sym used.1) used.0; left = refl }

pub overflow_sub-left : goal.overflow_sub-left
overflow_sub-left c =
    few_listed c.args.set.numbers.now c.args.sheet.counts.lines c.args.set.rises c.requires.all_lines

pub returns-then-out-length : goal.returns-then-out-length
unfolding out_from kept_length
returns-then-out-length c =
    record {
      answer = ap Err c.into.ensures ∙ answer_13 _ _ _ _ (admitted_good _ _ _ c.args.sheet.accepted) _ _ c.lines.ensures.edition c.lines.ensures.rows c.args.sheet.counts.lines (sym (rw c.lines.ensures.count at c.in_default.ensures))
          (omega arith)
          c.if-out-length.true;
      left = refl;
    }

pub write_sheet-requires : goal.write_sheet-requires
unfolding kept_length
write_sheet-requires c =
    let own = c.args.sheet.own in
    let numbers = c.new-numbers.ensures in record {
      small_trailer = writer_asks _ _ _ _ (admitted_good _ _ _ c.args.sheet.accepted) c.args.set.rises c.requires.all_lines numbers own c.trailer_for-trailer.ensures;
      t_in_bounds = writer_room _ _ _ _ (admitted_good _ _ _ c.args.sheet.accepted) c.args.set.rises c.requires.all_lines numbers own c.trailer_for-trailer.ensures _
          c.if-out-length.false;
    }

pub returns : goal.returns
unfolding out_from kept_length
returns c =
    let own = c.args.sheet.own in record {
      answer = answer_written _ _ _ _ (admitted_good _ _ _ c.args.sheet.accepted) _ _ c.lines.ensures.edition c.lines.ensures.rows c.args.sheet.counts.lines (sym (rw c.lines.ensures.count at c.in_default.ensures))
          (omega arith)
          c.if-out-length.false;
      left = writer_leaves _ _ _ _ (admitted_good _ _ _ c.args.sheet.accepted) c.args.set.rises c.requires.all_lines c.new-numbers.ensures own
          c.trailer_for-trailer.ensures
          c.args.sheet.small _ _
          c.write_sheet.ensures;
    }

pub overflow_mul-length : goal.overflow_mul-length
overflow_mul-length c = omega (arith, (admitted_good _ _ _ c.args.sheet.accepted).tables.laid)

pub overflow_mul-length-2 : goal.overflow_mul-length-2
overflow_mul-length-2 c = omega (arith, (admitted_good _ _ _ c.args.sheet.accepted).tables.laid)

pub overflow_add-length : goal.overflow_add-length
overflow_add-length c = omega (arith, (admitted_good _ _ _ c.args.sheet.accepted).tables.laid)

pub overflow_add-length-2 : goal.overflow_add-length-2
overflow_add-length-2 c = omega (arith, (admitted_good _ _ _ c.args.sheet.accepted).tables.laid)

pub overflow_add-length-3 : goal.overflow_add-length-3
overflow_add-length-3 c = omega (arith, (admitted_good _ _ _ c.args.sheet.accepted).tables.laid)

pub new-numbers-requires : goal.new-numbers-requires
new-numbers-requires c = (admitted_good _ _ _ c.args.sheet.accepted).tables.laid.few_lines

pub trailer_for-trailer-requires : goal.trailer_for-trailer-requires
trailer_for-trailer-requires c =
    let laid = (admitted_good _ _ _ c.args.sheet.accepted).tables.laid in
    (laid.few_terms, laid.few_contexts, omega (arith, laid.few_lines))

pub kept_use-requires : goal.kept_use-requires
kept_use-requires c = rw c.lines.ensures.count (c.requires.all_lines, c.new-numbers.ensures)
