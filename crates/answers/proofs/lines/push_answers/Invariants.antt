-- The answers so far are put, each with its line end in at most 21 bytes.
use Rattle.std.proofs.Common.{◌≡◌, ◌+◌, ◌*◌, ◌≤◌, ◌++◌, length, take, flat_map}
use Rattle.answers.specs.Text.{answer_line}
use Rattle.answers.proofs.lines.push_answers.Given as goal

abbrev pub invariant-loop-answer : goal.invariant-loop-answer
invariant-loop-answer l =
    (l.text.bytes ≡ l.initial.text.bytes ++ flat_map answer_line (take l.answer-index l.answers))
    × (length l.text.bytes ≤ length l.initial.text.bytes + 21 * l.answer-index)
