-- Without room nothing is put; the two stores put one word.
-- Assumes nothing.
use Rattle.rules_demo.proofs.WordBufferLaws.{full, one_put}
use Rattle.rules_demo.proofs.numbers.put.Goals as goal

pub returns-then-out-at-lt2 : goal.returns-then-out-at-lt2
returns-then-out-at-lt2 c = full _ _ c.requires _ c.if-out-at-lt2.true

pub returns : goal.returns
returns c = rw c.to_le_bytes.ensures (one_put _ _ c.requires _ c.if-out-at-lt2.false)
