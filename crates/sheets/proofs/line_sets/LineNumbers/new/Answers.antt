use Prim.Native.Nat.{ℕ, ◌+◌, ◌-◌, ◌≤◌}
use native.Mathlib.Omega.{arith}
use lib.ListN.{length-replicate, set as write}
use Rattle.sheets.proofs.LineSetLaws.{count_within}
use Rattle.sheets.proofs.NumberingLaws.{Numbered, numbered_start, numbered_next, numbered_end}
use Rattle.sheets.proofs.line_sets.LineNumbers.new.Goals.{In-loop-k, After-next_count-count}
use Rattle.sheets.proofs.line_sets.LineNumbers.new.Goals as goal

-- no more numbers are below a line than there are lines before it
few : (c : In-loop-k) → c.loop-k.count ≤ c.loop-k.k
few c =
    omega (
      arith,
      c.loop-k.invariant.counted,
      count_within c.args.set.numbers.now c.args.set.rises c.loop-k.k,
    )

pub loop-k-init : goal.loop-k-init
loop-k-init c =
    numbered_start _ c.args.set.rises _ _ _ (length-replicate {A = ℕ} 1025 0) (length-replicate {A = ℕ} 1025 0)

pub overflow_sub-new : goal.overflow_sub-new
overflow_sub-new c = few (goal.at.overflow_sub-new c).In-loop-k

pub overflow_cast-numbers : goal.overflow_cast-numbers
overflow_cast-numbers c = record { fits = omega (arith, few (goal.at.overflow_cast-numbers c).In-loop-k) }

-- line k is numbered
numbered : (c : After-next_count-count) → let loop = c.loop-k in
    Numbered c.args.set.numbers.now c.args.lines (write loop.numbers.below loop.k loop.count)
    (write loop.numbers.kept (loop.k - loop.count) loop.k) c.next_count-count.result (loop.k + 1)
numbered c =
    let loop = c.loop-k in
    numbered_next _ c.args.set.rises _ loop.numbers.below loop.numbers.kept _ _ loop.invariant _ c.requires
    c.loop-k-test.true c.next_count-count.ensures

pub loop-k-preserved : goal.loop-k-preserved
loop-k-preserved c = numbered (goal.at.loop-k-preserved c).After-next_count-count

pub returns-2 : goal.returns-2
returns-2 c =
    numbered_end _ c.args.set.rises _ _ _ _ _ (numbered (goal.at.returns-2 c).After-next_count-count) (omega arith)
