-- An admitted sheet as the code hands it on: what its parts are, and what is done with it.
-- Assumes nothing.
use mathlib.Core.Path.{◌≡◌}
use mathlib.Core.List.{List}
use Prim.Native.Nat.{ℕ}
use native.Mathlib.Omega.{arith}
use Rattle.std.specs.Prelude.{Ok}
use Rattle.sheets.specs.declared.refusals.Counts.{Counts}
use Rattle.sheets.specs.Admission.{admit_of}
use Rattle.sheets.specs.Good.{Good}
use Rattle.sheets.proofs.AdmissionLaws.{accepted_is}

module _ (b : List ℕ) (n : Counts) where
  -- accepted with some work buffer, it is good, and accepted with one of just the terms' words
  pub admitted_good : (work : ℕ) → admit_of b work ≡ Ok n → Good b n.terms n.contexts n.lines
  admitted_good work e = ((accepted_is b work n.terms n.contexts n.lines).0 e).0

  pub admitted_so : (work : ℕ) → admit_of b work ≡ Ok n → admit_of b n.terms ≡ Ok n
  admitted_so work e =
      (accepted_is b n.terms n.terms n.contexts n.lines).1 (admitted_good work e, omega arith)
