use native.Mathlib.Omega.{arith}
use borrow.Author.Rules.{rules}
use Rattle.std.proofs.iter.runs.Made.{chains}
use Rattle.sheets.proofs.MotiveLineLaws.{first_position}
use Rattle.sheets.proofs.motive_lines.first_equal.Goals as goal

pub returns : goal.returns
returns c =
    first_position c.args.numbers.now c.args.count c.args.wanted (omega arith) _
    (search (rules, chains))
