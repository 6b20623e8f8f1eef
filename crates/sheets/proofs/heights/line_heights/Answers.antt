use Rattle.sheets.proofs.HeightArrayLaws.{filled_start, filled_end, line_cites, first_ground}
use Rattle.sheets.proofs.HeightArrayLaws.{next_small, filled_next}
use Rattle.sheets.proofs.heights.line_heights.Goals as goal

pub loop-n-init : goal.loop-n-init
loop-n-init c = filled_start _ _ _

pub height_of-height-requires : goal.height_of-height-requires
height_of-height-requires c =
    let pre = c.args.lines.citing in
    let read = c.line.ensures in
    let within = c.loop-n-test.true in (
      line_cites _ _ _ pre.1 pre.2 _ _ c.loop-n.invariant within _ read,
      first_ground _ _ _ pre.1 pre.2 _ _ c.loop-n.invariant within _ read,
    )

pub overflow_cast-heights : goal.overflow_cast-heights
overflow_cast-heights c =
    let pre = c.args.lines.citing in
    let within = c.loop-n-test.true in
    record {
      fits = next_small _ _ _ pre.1 pre.2 _ _ c.loop-n.invariant within _ c.line.ensures _
          c.height_of-height.ensures;
    }

pub loop-n-preserved : goal.loop-n-preserved
loop-n-preserved c =
    let pre = c.args.lines.citing in
    filled_next _ _ _ pre.1 pre.2 _ _ c.loop-n.invariant c.loop-n-test.true _
    c.line.ensures _ c.height_of-height.ensures

pub returns : goal.returns
returns c = filled_end _ _ _ c.loop-n.invariant c.loop-n-test.false
