use native.Mathlib.Omega.{arith}
use Rattle.terms_demo.specs.Tables.{byte_in}
use Rattle.terms_demo.proofs.FillLaws.{fill_more}
use Rattle.terms_demo.proofs.tables.fill.Goals as goal

pub loop-i-preserved : goal.loop-i-preserved
unfolding byte_in
loop-i-preserved c = fill_more _ _ _ (omega arith) c.loop-i.invariant
