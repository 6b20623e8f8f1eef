use mathlib.Core.Path.{sym, ◌∙◌}
use Prim.Native.Nat.{◌<◌}
use native.Mathlib.Omega.{arith}
use lib.ListN.{get_or}
use Rattle.sheets.proofs.CitingLaws.{premises_within}
use Rattle.sheets.proofs.HeightArrayLaws.{height_none, height_some}
use Rattle.sheets.proofs.heights.height_of.Goals.{Else-premise_count-eq0}
use Rattle.sheets.proofs.heights.height_of.Goals as goal

pub returns-then-premise_count-eq0 : goal.returns-then-premise_count-eq0
returns-then-premise_count-eq0 c =
    height_none (λ n. get_or c.args.heights.now n 0) c.args.line 1024 c.requires.0
    (sym c.premise_count.ensures.value ∙ c.if-premise_count-eq0.true)

-- the premises lie within the array
few : (c : Else-premise_count-eq0) → let line = c.args.line in
    (line.p0 < 1024) × (line.p1 < 1024) × (line.p2 < 1024) × (line.p3 < 1024)
few c = premises_within c.args.line 1024 c.requires.0 1024 (omega arith) (omega arith)

pub offset_bounds-heights-line : goal.offset_bounds-heights-line
offset_bounds-heights-line c = omega (arith, few (goal.at.offset_bounds-heights-line c).Else-premise_count-eq0)

pub bounds-heights-line : goal.bounds-heights-line
bounds-heights-line c = omega (arith, few (goal.at.bounds-heights-line c).Else-premise_count-eq0)

pub offset_bounds-heights-line-2 : goal.offset_bounds-heights-line-2
offset_bounds-heights-line-2 c = omega (arith, few (goal.at.offset_bounds-heights-line-2 c).Else-premise_count-eq0)

pub bounds-heights-line-2 : goal.bounds-heights-line-2
bounds-heights-line-2 c = omega (arith, few (goal.at.bounds-heights-line-2 c).Else-premise_count-eq0)

pub offset_bounds-heights-line-3 : goal.offset_bounds-heights-line-3
offset_bounds-heights-line-3 c = omega (arith, few (goal.at.offset_bounds-heights-line-3 c).Else-premise_count-eq0)

pub bounds-heights-line-3 : goal.bounds-heights-line-3
bounds-heights-line-3 c = omega (arith, few (goal.at.bounds-heights-line-3 c).Else-premise_count-eq0)

pub offset_bounds-heights-line-4 : goal.offset_bounds-heights-line-4
offset_bounds-heights-line-4 c = omega (arith, few (goal.at.offset_bounds-heights-line-4 c).Else-premise_count-eq0)

pub bounds-heights-line-4 : goal.bounds-heights-line-4
bounds-heights-line-4 c = omega (arith, few (goal.at.bounds-heights-line-4 c).Else-premise_count-eq0)

pub returns : goal.returns
returns c =
    cc (
      c.max.ensures,
      c.max-first.ensures,
      c.max-second.ensures,
      height_some (λ n. get_or c.args.heights.now n 0) c.args.line 1024 c.requires.0
          c.requires.1 (λ e. c.if-premise_count-eq0.false (c.premise_count.ensures.value ∙ e)),
    )
