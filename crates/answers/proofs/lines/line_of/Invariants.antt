-- The word and the numbers so far are put, each number with its space in at most 21 bytes.
use Rattle.std.proofs.Common.{◌≡◌, ◌+◌, ◌*◌, ◌≤◌, ◌++◌, length, take, flat_map}
use Rattle.answers.specs.Text.{field}
use Rattle.answers.proofs.lines.line_of.Given as goal

abbrev pub invariant-loop-number : goal.invariant-loop-number
invariant-loop-number l =
    (l.line.bytes ≡ l.word ++ flat_map field (take l.number-index l.numbers))
    × (length l.line.bytes ≤ 7 + 21 * l.number-index)
