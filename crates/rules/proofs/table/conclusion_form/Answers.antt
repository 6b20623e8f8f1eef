use mathlib.Core.Path.{sym}
use mathlib.Core.Logic.{inl, inr}
use native.Mathlib.Omega.{arith}
use Rattle.rules.proofs.TableLaws.{range_0, range_1, range_2, range_3, range_4, range_5, range_6}
use Rattle.rules.proofs.RuleTableEntries.{form_none}
use Rattle.rules.proofs.table.conclusion_form.Goals as goal

pub returns-in-1-to-2 : goal.returns-in-1-to-2
returns-in-1-to-2 c = sym ((range_0 _ (omega arith, omega arith)).1 (omega arith, omega arith))

pub returns-in-3-to-16 : goal.returns-in-3-to-16
returns-in-3-to-16 c = sym ((range_1 _ (omega arith, omega arith)).1 (omega arith, omega arith))

pub returns-in-17-to-34 : goal.returns-in-17-to-34
returns-in-17-to-34 c = sym ((range_2 _ (omega arith, omega arith)).1 (inl (omega arith, omega arith)))

pub returns-in-35-to-43 : goal.returns-in-35-to-43
returns-in-35-to-43 c = sym ((range_3 _ (omega arith, omega arith)).1 (omega arith, omega arith))

pub returns-in-44-to-53 : goal.returns-in-44-to-53
returns-in-44-to-53 c = sym ((range_4 _ (omega arith, omega arith)).1 (omega arith, omega arith))

pub returns-in-54-to-58 : goal.returns-in-54-to-58
returns-in-54-to-58 c = sym ((range_5 _ (omega arith, omega arith)).1 (omega arith, omega arith))

pub returns-in-59-to-67 : goal.returns-in-59-to-67
returns-in-59-to-67 c = sym ((range_6 _ (omega arith, omega arith)).1 (omega arith, omega arith))

pub returns-in-68-to-69 : goal.returns-in-68-to-69
returns-in-68-to-69 c = sym ((range_2 _ (omega arith, omega arith)).1 (inr (omega arith, omega arith)))

pub returns-in_default : goal.returns-in_default
returns-in_default c = form_none _ (λ known. omega (arith, known))

pub returns-in_default-2 : goal.returns-in_default-2
returns-in_default-2 c = form_none _ (λ known. omega (arith, known))
