use mathlib.Core.Path.{◌≡◌, ◌∙◌, ap}
use Prim.Native.Nat.{◌-◌}
use native.Mathlib.Omega.{arith}
use lib.ListN.{take}
use Rattle.answers.proofs.PartLaws.{part_is, rest_is, rest_whole}
use Rattle.answers.proofs.parts.cut.Goals as goal

pub returns-clause-before : goal.returns-clause-before
returns-clause-before c =
    let place = c.place_of-place.result in
    let same : place ≡ place - 0 = omega arith in
    ap (λ n. take n c.args.text.now) same ∙ part_is _ _ 0 c.place_of-place.ensures.value

pub returns-clause-behind : goal.returns-clause-behind
returns-clause-behind c =
    rest_whole c.args.text.now c.behind.result ∙ rest_is _ _ 0 c.place_of-place.ensures.value (omega arith) c.behind.ensures
