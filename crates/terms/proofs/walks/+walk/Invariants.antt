-- The row number falls at each child, and the memory keeps what held.
use Prim.Native.Nat.{◌+◌, ◌*◌}
use Rattle.terms.specs.Memo.{MemoHolds}
use Rattle.terms.proofs.WalkLaws.{Walk}
use Rattle.terms.proofs.walks.+walk.Given as goal

abbrev pub decreases-walk : goal.decreases-walk
decreases-walk g l = 2 * l.t + 1

-- twice the row, and one more before its heads are compared
abbrev pub decreases-walk_here : goal.decreases-walk_here
decreases-walk_here g l = 2 * l.t

abbrev pub invariant-walk_here-loop-j : goal.invariant-walk_here-loop-j
invariant-walk_here-loop-j g l =
    let op = g.O.Operation in
    Walk l.rows (op.named l.op) (op.image l.op l.rows) l.k l.t l.u l.j × MemoHolds l.rows (op.image l.op l.rows) l.memo
