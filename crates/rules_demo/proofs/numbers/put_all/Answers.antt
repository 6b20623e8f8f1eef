use Rattle.rules_demo.proofs.ReaderLaws.{start, goes_on, finished}
use Rattle.rules_demo.proofs.numbers.put_all.Goals as goal

pub loop-i-init : goal.loop-i-init
loop-i-init c = start _ _

pub loop-i-preserved : goal.loop-i-preserved
loop-i-preserved c =
    goes_on c.loop-i.invariant c.loop-i-test.true c.next_place-next.ensures
    c.put_ended-count.ensures

pub returns : goal.returns
returns c = finished c.loop-i.invariant c.loop-i-test.false
