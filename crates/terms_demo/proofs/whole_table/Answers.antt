-- The tests run only where the check found the table sound.
use native.Mathlib.Omega.{arith}
use Rattle.terms_demo.proofs.InTable.{faultless_rows}
use Rattle.terms_demo.proofs.whole_table.Goals as goal

pub invariant_of-write_tests : goal.invariant_of-write_tests
invariant_of-write_tests g c =
    record { sound = faultless_rows _ 43 _ c.in_ok-checked.ensures.answer c.in-Ok.is (omega arith) }
