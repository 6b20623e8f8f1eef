-- Each arm by the law of its bytes.
-- Assumes nothing.
use native.Mathlib.Omega.{arith}
use Rattle.rules_demo.proofs.ReaderLaws.{comment_behind, digit_behind, below_digits, above_digits}
use Rattle.rules_demo.proofs.numbers.behind.Goals as goal

pub returns-in-35 : goal.returns-in-35
returns-in-35 c = comment_behind _ _ c.in-35.is

pub returns-in-48-to-57 : goal.returns-in-48-to-57
returns-in-48-to-57 c = digit_behind _ _ _ c.from.ensures (omega arith) (omega arith)

pub returns-in_default : goal.returns-in_default
returns-in_default c = below_digits _ _ (λ e. grind arith) (omega arith)

pub returns-in_default-2 : goal.returns-in_default-2
returns-in_default-2 c = above_digits _ _ (omega arith)
