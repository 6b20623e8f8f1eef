use mathlib.Core.Path.{refl, sym, ◌∙◌, ap}
use native.Mathlib.Omega.{arith}
use Rattle.std.specs.Prelude.{Err}
use Rattle.sheets.specs.declared.refusals.Fault.TheVariants.{NoMotive}
use Rattle.sheets.specs.Refusals.{refused}
use Rattle.sheets.specs.Conversion.{output_from}
use Rattle.sheets.proofs.ConversionLaws.{answer_20, answer_21, answer_13, answer_written}
use Rattle.sheets.proofs.GoodSheetLaws.{admitted_good}
use Rattle.sheets.proofs.ConversionAnswers.{writer_leaves}
use Rattle.sheets.proofs.conversion.convert_admitted.Goals as goal

pub returns-then-up_to_date : goal.returns-then-up_to_date
unfolding output_from
returns-then-up_to_date c = record { answer = ap Err c.into.ensures ∙ sym (answer_20 _ _ _ _ _ (omega (arith, c.args.sheet.own, c.if-up_to_date.true))); left = refl }

pub returns-in-Err : goal.returns-in-Err
unfolding output_from
returns-in-Err c =
    let without = c.in-Err.ensures.place in record {
      answer = ap Err c.at.ensures ∙ ap (refused NoMotive) (sym without.1)
          ∙ sym (answer_21 _ _ _ _ _ (omega (arith, c.args.sheet.own, c.if-up_to_date.false))
          (omega (arith, without)));
      left = refl;
    }

pub returns-then-out-length : goal.returns-then-out-length
unfolding output_from
returns-then-out-length c =
    record {
      answer = ap Err c.into-then-out-length.ensures ∙ sym
          (answer_13 _ _ _ _ _ (omega (arith, c.args.sheet.own, c.if-up_to_date.false))
          (omega (arith, c.in_default.ensures.place)) c.if-out-length.true);
      left = refl;
    }

pub returns : goal.returns
unfolding output_from
returns c =
    let all = c.in_default.ensures in record {
      answer = sym
          (answer_written _ _ _ _ _ (omega (arith, c.args.sheet.own, c.if-up_to_date.false))
          (omega (arith, all.place)) c.if-out-length.false);
      left = writer_leaves _ _ _ _ (admitted_good _ _ _ c.args.sheet.accepted) c.find_motives.new.first
          (λ n h. all.found n (omega (arith, h, all.place))) _ _ c.write_converted.ensures;
    }

pub overflow_mul-terms : goal.overflow_mul-terms
overflow_mul-terms c = omega (arith, (admitted_good _ _ _ c.args.sheet.accepted).tables.laid)

pub overflow_mul-contexts : goal.overflow_mul-contexts
overflow_mul-contexts c = omega (arith, (admitted_good _ _ _ c.args.sheet.accepted).tables.laid)

pub overflow_add-terms : goal.overflow_add-terms
overflow_add-terms c = omega (arith, (admitted_good _ _ _ c.args.sheet.accepted).tables.laid)

pub write_converted-requires-clause-start_bound : goal.write_converted-requires-clause-start_bound
write_converted-requires-clause-start_bound c =
    let laid = (admitted_good _ _ _ c.args.sheet.accepted).tables.laid in
    (omega (arith, laid), laid.few_lines, omega (arith, laid.long))
