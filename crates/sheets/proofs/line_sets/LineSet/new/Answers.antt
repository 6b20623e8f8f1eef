use mathlib.Core.Path.{refl, sym, ◌∙◌}
use Rattle.std.specs.Prelude.{nat_lt, ◌≡◌}
use borrow.Author.Rules.{rules}
use Rattle.std.proofs.lemmas.Fn.{always_returns_same}
use Rattle.sheets.specs.LineSets.{rises as rises_test}
use Rattle.sheets.proofs.LineSetLaws.{rises_sorted, rises_says}
use Rattle.sheets.proofs.line_sets.LineSet.new.Goals.{After-is_sorted_by}
use Rattle.sheets.proofs.line_sets.LineSet.new.Goals as goal

-- the comparison of neighbours tests whether the list rises
tested : (c : After-is_sorted_by) → c.is_sorted_by.result ≡ rises_test c.args.numbers.now
tested c =
    rises_sorted c.args.numbers.now _
    (c.is_sorted_by.ensures.cases nat_lt (always_returns_same _ _ _ (λ a r f k. search rules)))

pub invariant_of-result : goal.invariant_of-result
invariant_of-result c =
    let passed = tested (goal.at.invariant_of-result c).After-is_sorted_by in
    record { rises = (rises_says c.args.numbers.now).0 (sym passed ∙ c.if-is_sorted_by.true) }

pub returns-then-is_sorted_by : goal.returns-then-is_sorted_by
returns-then-is_sorted_by c =
    (sym (tested (goal.at.returns-then-is_sorted_by c).After-is_sorted_by) ∙ c.if-is_sorted_by.true, refl)

pub returns-else-is_sorted_by : goal.returns-else-is_sorted_by
returns-else-is_sorted_by c =
    sym (tested (goal.at.returns-else-is_sorted_by c).After-is_sorted_by) ∙ c.if-is_sorted_by.false
