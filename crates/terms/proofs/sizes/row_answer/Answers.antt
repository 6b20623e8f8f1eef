-- The index tells of repetition what the definition does.
use native.Mathlib.Omega.{arith}
use Rattle.std.proofs.lemmas.Grind.{common_steps}
use Rattle.terms.specs.Sizes.{row_answer}
use Rattle.terms.proofs.CheckLaws.{over_limit, within_limit}
use Rattle.terms.proofs.RepetitionLaws.{repeated_told}
use Rattle.terms.proofs.sizes.row_answer.Goals as goal

pub returns-then-repeated : goal.returns-then-repeated
unfolding row_answer
returns-then-repeated c = let told = repeated_told _ _ _ _ c.repeated.ensures in grind (arith, common_steps)

pub returns-then-too_large : goal.returns-then-too_large
unfolding row_answer
returns-then-too_large c =
    let told = repeated_told _ _ _ _ c.repeated.ensures in
    let large = over_limit c.row_size-size.result (omega arith) in
    let size = c.row_size-size.ensures _ _ c.requires.3 in
    grind (arith, common_steps)

pub returns : goal.returns
unfolding row_answer
returns c =
    let told = repeated_told _ _ _ _ c.repeated.ensures in
    let small = within_limit _ c.if-too_large.false in
    let size = c.row_size-size.ensures _ _ c.requires.3 in
    grind (arith, common_steps)
