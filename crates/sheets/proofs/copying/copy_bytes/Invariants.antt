-- The invariant is that the bytes before are copied and those behind them are untouched.
use lib.ListN.{take}
use Rattle.sheets.proofs.FillingLaws.{Filling}
use Rattle.sheets.proofs.copying.copy_bytes.Given as goal

abbrev pub invariant-loop-i : goal.invariant-loop-i
invariant-loop-i l = Filling (λ k. take k l.sheet) l.count l.initial.out l.out l.i
