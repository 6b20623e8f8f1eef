use mathlib.Core.Path.{refl}
use Rattle.std.specs.Prelude.{Some}
use mathlib.Core.Logic.{inl, inr}
use native.Mathlib.Omega.{arith}
use borrow.Author.Rules.{rules}
use Rattle.sheets.specs.LineSets.{last_listed}
use Rattle.sheets.proofs.LineSetLaws.{few_listed}
use Rattle.sheets.proofs.KeptUseLaws.{none_listed, found_start, Asking, place_within, rule_known_lem}
use Rattle.sheets.proofs.KeptUseLaws.{premises_few, none_found, one_found, found_use}
use Rattle.sheets.proofs.uses.kept_use.Goals.{After-old_number-place, in-Some+else-highest-last, in_default}
use Rattle.sheets.proofs.uses.kept_use.Goals as goal

pub returns-then-size-eq0 : goal.returns-then-size-eq0
returns-then-size-eq0 c = none_listed _ _ _ _ c.requires.0 c.if-size-eq0.true

pub overflow_sub-left : goal.overflow_sub-left
overflow_sub-left c =
    few_listed c.args.set.numbers.now c.args.lines.count c.args.set.rises c.requires.0

pub loop-m-init : goal.loop-m-init
loop-m-init c =
    found_start _ _ _ _ c.args.set.rises c.args.lines.citing.2

-- what is known of the line that is asked
asking : (c : After-old_number-place)
    → Asking c.args.lines.edition c.args.lines.rows.now c.args.lines.count c.args.set.numbers.now c.args.numbers.now.below c.args.numbers.now.kept
    c.loop-m.m c.old_number-place.result
asking c =
    record {
      sheet = c.args.lines.citing;
      numbered = (c.args.set.rises, c.requires.0, c.requires.1);
      within = c.loop-m-test.true;
      place_is = c.old_number-place.ensures;
    }

pub line-line-requires : goal.line-line-requires
line-line-requires c =
    let a = asking (goal.at.line-line-requires c).After-old_number-place in omega (arith, a, place_within a)

pub highest_listed-requires : goal.highest_listed-requires
highest_listed-requires c =
    let a = asking (goal.at.highest_listed-requires c).After-old_number-place in
    let read = c.line-line.ensures in
    record { rule = rule_known_lem a _ read; p0_bound = premises_few a _ read }

pub loop-m-preserved : goal.loop-m-preserved
loop-m-preserved c =
    let asked = asking (goal.at.loop-m-preserved c).After-old_number-place in
    let read = c.line-line.ensures in
    elim c.match-highest_listed.branch [
      | in-Some+else-highest-last w ↦
          rw w.found-is
          (one_found asked _ read c.loop-m.invariant _ w.in-Some.ensures _ refl _ w.higher_use-highest.ensures)
      | in_default w ↦ rw w.found-is (none_found asked _ read c.loop-m.invariant _ w.in_default.ensures refl)
    ]

pub returns-then-highest-last : goal.returns-then-highest-last
unfolding last_listed
returns-then-highest-last c =
    let asked = asking (goal.at.returns-then-highest-last c).After-old_number-place in
    found_use _ _ _ _ c.args.set.rises c.requires.0 _ (Some c.higher_use-highest.result)
    (one_found asked _ c.line-line.ensures c.loop-m.invariant _ c.in-Some.ensures _ refl _
    c.higher_use-highest.ensures)
    (inr (omega (arith, c.if-highest-last.true)))

pub returns : goal.returns
returns c =
    search (rules, found_use _ _ _ _ c.args.set.rises c.requires.0 _ _ c.loop-m.invariant (inl c.loop-m-test.false))
