use mathlib.Core.Path.{sym, ◌∙◌}
use native.Mathlib.Omega.{arith}
use lib.Dec.{eqb}
use lib.ListN.{drop, length-drop}
use Rattle.std.proofs.Common.{rules, tests}
use Rattle.std.proofs.lemmas.Iterator.{YieldsList-from_slice}
use Rattle.std.proofs.lemmas.Iterator.Search.{position_from_yields_List}
use Rattle.answers.proofs.PartLaws.{position_is, rest_whole}
use Rattle.answers.proofs.parts.place_of.Goals as goal

pub returns-in-Some-clause-value : goal.returns-in-Some-clause-value
returns-in-Some-clause-value c =
    let rest = drop c.args.from c.args.text.now in
    let found = position_from_yields_List (λ b. eqb b c.args.byte) _ _ c.position.result c.position.ensures.ran
    (YieldsList-from_slice rest (c.iter.ensures.rest ∙ rest_whole c.args.text.now c.args.from)) (λ x b q k. search (rules, tests)) in
    omega (arith, position_is c.args.byte rest (sym c.in-Some.is ∙ found))

pub returns-in-None-clause-value : goal.returns-in-None-clause-value
returns-in-None-clause-value c =
    let rest = drop c.args.from c.args.text.now in
    let found = position_from_yields_List (λ b. eqb b c.args.byte) _ _ c.position.result c.position.ensures.ran
    (YieldsList-from_slice rest (c.iter.ensures.rest ∙ rest_whole c.args.text.now c.args.from)) (λ x b q k. search (rules, tests)) in
    omega (arith, c.requires, position_is c.args.byte rest (sym c.in-None.is ∙ found), length-drop c.args.from c.args.text.now)
