use mathlib.Core.Path.{sym, ◌∙◌, ap}
use Prim.Native.Nat.{ℕ}
use native.Mathlib.Omega.{arith}
use lib.ListN.{get_or}
use Rattle.sheets.specs.Easiest.{better}
use Rattle.sheets.proofs.EasiestLaws.{better_before, better_later}
use Rattle.sheets.proofs.searching.better.Goals as goal

pub returns-in-Some : goal.returns-in-Some
returns-in-Some c =
    let height : ℕ → ℕ = λ k. get_or c.args.heights.now k 0 in
    better_before height _ c.args.n (omega (arith, c.if-heights-b.true)) ∙ ap (λ o. better height o c.args.n) (sym c.in-Some.is)

pub returns-in_default : goal.returns-in_default
returns-in_default c =
    let height : ℕ → ℕ = λ k. get_or c.args.heights.now k 0 in
    better_later height _ c.args.n (omega (arith, c.if-heights-b.false)) ∙ ap (λ o. better height o c.args.n) (sym c.in-Some.is)

pub returns-in_default-2 : goal.returns-in_default-2
unfolding better
returns-in_default-2 c = sym (rw (c.in_default.is, better))
