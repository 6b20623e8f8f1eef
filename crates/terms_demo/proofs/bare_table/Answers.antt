-- The tests run only where the check found the table sound.
use native.Mathlib.Omega.{arith}
use Rattle.terms_demo.proofs.InTable.{faultless_rows}
use Rattle.terms_demo.proofs.bare_table.Goals as goal

pub invariant_of-substituted_without_rows : goal.invariant_of-substituted_without_rows
invariant_of-substituted_without_rows g c =
    record { sound = faultless_rows _ 6 _ c.in_ok-checked.ensures.answer c.in-Ok.is (omega arith) }
