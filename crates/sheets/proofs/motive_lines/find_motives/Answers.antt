use mathlib.Core.Path.{◌≡◌}
use Prim.Native.Nat.{ℕ, ◌<◌}
use native.Mathlib.Omega.{arith}
use lib.ListN.{length-replicate}
use Rattle.sheets.specs.Lines.{line_at}
use Rattle.sheets.proofs.GoodSheetLaws.{admitted_good}
use Rattle.sheets.proofs.MotiveLineLaws.{read_is, asks_is, found_start, found_end, found-without}
use Rattle.sheets.proofs.MotiveLineLaws.{premise_small, found_next}
use Rattle.sheets.proofs.motive_lines.find_motives.Goals.{After-line-line, In-loop-n}
use Rattle.sheets.proofs.motive_lines.find_motives.Goals as goal

-- no line is behind the arrays
few : (c : In-loop-n) → c.loop-n.n < 1024
few c = omega (arith, (admitted_good _ _ _ c.args.sheet.accepted).tables.laid.few_lines, c.loop-n-test.true)

-- the line that is read is line n
read : (c : After-line-line)
    → let start = c.args in
    c.line-line.result ≡ line_at start.sheet.bytes.now start.sheet.counts.terms start.sheet.counts.contexts c.loop-n.n
read c = read_is _ _ _ _ c.lines-lines.ensures.edition c.lines-lines.ensures.rows c.line-line.ensures

pub loop-n-init : goal.loop-n-init
loop-n-init c = found_start _ _ _ _ _ _ c.requires (length-replicate {A = ℕ} 1024 0)

pub new_premise-premise-requires : goal.new_premise-premise-requires
new_premise-premise-requires c =
    let pre = c.requires in
    record { line_value = (c.loop-n-test.true, read (goal.at.new_premise-premise-requires c).After-line-line); motives_given = c.loop-n.invariant.motives }

pub returns-then-asks_motive-premise : goal.returns-then-asks_motive-premise
returns-then-asks_motive-premise c =
    let whole = found-without _ _ _ _ c.loop-n.invariant c.loop-n-test.true
    (asks_is _ _ _ _ (read (goal.at.returns-then-asks_motive-premise c).After-line-line) c.asks_motive.ensures) c.new_premise-premise.ensures
    c.if-asks_motive-premise.true in
    record { place = whole.0; found = whole.1 }

pub overflow_cast-first : goal.overflow_cast-first
overflow_cast-first c =
    let pre = c.requires in
    record {
      fits = premise_small _ _ _ _ c.loop-n.invariant c.loop-n-test.true
          (asks_is _ _ _ _ (read (goal.at.overflow_cast-first c).After-line-line) c.asks_motive.ensures) c.new_premise-premise.ensures
          (admitted_good _ _ _ c.args.sheet.accepted).tables.laid.few_lines;
    }

pub motive_given-requires : goal.motive_given-requires
motive_given-requires c =
    (c.loop-n-test.true, read (goal.at.motive_given-requires c).After-line-line)

pub loop-n-preserved : goal.loop-n-preserved
loop-n-preserved c =
    let pre = c.requires in
    found_next _ _ _ _ c.loop-n.invariant c.loop-n-test.true
    (asks_is _ _ _ _ (read (goal.at.loop-n-preserved c).After-line-line) c.asks_motive.ensures)
    c.new_premise-premise.ensures c.if-asks_motive-premise.false (admitted_good _ _ _ c.args.sheet.accepted).tables.laid.few_lines
    c.motive_given.ensures

pub returns : goal.returns
returns c =
    let whole = found_end _ _ _ _ c.loop-n.invariant c.loop-n-test.false in
    record { place = whole.0; found = whole.1 }

pub line-line-requires : goal.line-line-requires
line-line-requires c = omega (arith, c.lines-lines.ensures.count, c.loop-n-test.true)
