use mathlib.Core.Path.{refl, sym, ◌∙◌, ap}
use Rattle.std.specs.Prelude.{Err}
use Prim.Native.Nat.{◌≤◌, ◌<◌}
use native.Mathlib.Omega.{arith}
use lib.ListN.{length}
use Rattle.sheets.specs.Withdrawal.{out_from}
use Rattle.sheets.specs.LineSets.{last_listed}
use Rattle.sheets.proofs.LineSetLaws.{rises_says}
use Rattle.sheets.proofs.SetLaws.{all_lines, not_rising_lem, not_there, lines_there}
use Rattle.sheets.proofs.withdrawal.withdraw_listed.Goals as goal
use Rattle.sheets.proofs.withdrawal.withdraw_listed.Goals.{Joined-count-gt0, then-count-gt0+else-sheet-last, else-count-gt0}

pub returns-in_default : goal.returns-in_default
unfolding out_from
returns-in_default c = record { answer = ap Err c.into.ensures ∙ sym (not_rising_lem _ _ _ _ _ _ c.in_default.ensures); left = refl }

pub returns-then-sheet-last : goal.returns-then-sheet-last
unfolding out_from last_listed
returns-then-sheet-last c =
    let rises = c.in-Some.ensures.0 in
    record { answer = ap Err c.at.ensures ∙ sym (not_there _ _ _ _ _ _ rises (c.if-count-gt0.true, c.if-sheet-last.true)); left = refl }

-- no listed number is that of no line
none_beyond : (c : Joined-count-gt0)
    → (0 < length c.args.set.now) × (c.args.sheet.counts.lines ≤ last_listed c.args.set.now) → ⊥
unfolding last_listed
none_beyond c m =
    elim c.if-count-gt0.branch [
      | then-count-gt0+else-sheet-last w ↦ omega (arith, w.if-sheet-last.false, m.1)
      | else-count-gt0 w ↦ omega (arith, w.if-count-gt0.false, m.0)
    ]

pub withdraw_lines-requires : goal.withdraw_lines-requires
withdraw_lines-requires c =
    let set = c.in-Some.ensures in
    let all = all_lines c.args.sheet.counts.lines c.args.set.now ((rises_says _).0 set.0)
    (none_beyond (goal.at.withdraw_lines-requires c).Joined-count-gt0) in
    record { all_lines = rw set.1 all }

pub returns : goal.returns
returns c =
    let lines = c.withdraw_lines.ensures in
    let set = c.in-Some.ensures in
    let answer = lines_there _ _ _ c.args.sheet.counts.lines c.args.set.now _ set.0
    (none_beyond (goal.at.returns c).Joined-count-gt0) in
    record { answer = (rw set.1 at lines.answer) ∙ sym answer; left = rw set.1 at lines.left }
