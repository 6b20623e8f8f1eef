use mathlib.Core.Path.{refl, sym}
use native.Mathlib.Omega.{arith}
use Rattle.answers.specs.Numbers.{is_digit}
use Rattle.answers.proofs.NumberLaws.{goes_on}
use Rattle.answers.proofs.numbers.read_number.Goals as goal

pub loop-byte-preserved : goal.loop-byte-preserved
unfolding is_digit
loop-byte-preserved c =
    let tens = c.in_ok-tens.ensures in
    let sum = c.in_ok-number.ensures in
    goes_on _ _ _ c.loop-byte.invariant c.loop-byte-test.true _ refl (sym c.if-not-is_ascii_digit.ensures.value) _
    c.from.ensures (omega (arith, tens, sum)) (omega (arith, sum))
