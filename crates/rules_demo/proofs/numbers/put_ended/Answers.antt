-- A number ends only between a number and a place that is none; then it is put.
-- Assumes nothing.
use Rattle.rules_demo.proofs.ReaderLaws.{none_ends, not_ended, one_ends}
use Rattle.rules_demo.proofs.WordBufferLaws.{none_put}
use Rattle.rules_demo.proofs.numbers.put_ended.Goals as goal

pub returns-in_default : goal.returns-in_default
returns-in_default c = rw (none_ends _ _ c.in_default.not-Number) (none_put _ _ c.requires)

pub returns-in-Number-next : goal.returns-in-Number-next
returns-in-Number-next c =
    rw (not_ended _ _ _ _ c.in-Number.is c.in-Number-next.is) (none_put _ _ c.requires)

pub returns : goal.returns
returns c =
    rw (one_ends _ _ _ c.in-Number.is c.in_default-next.not-Number) c.put.ensures
