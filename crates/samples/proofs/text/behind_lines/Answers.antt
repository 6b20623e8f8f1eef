use Rattle.samples.proofs.TextLaws.{line_passes, lines_passed}
use Rattle.samples.proofs.text.behind_lines.Goals as goal

pub loop-passed-preserved : goal.loop-passed-preserved
loop-passed-preserved c =
    line_passes c.loop-passed.invariant c.place_of.ensures.value c.loop-passed-test.true c.behind-place.ensures

pub returns-clause-rest : goal.returns-clause-rest
returns-clause-rest c = (lines_passed c.loop-passed.invariant c.loop-passed-test.false).0
