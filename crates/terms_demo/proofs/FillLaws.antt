-- One byte more is filled.
-- Assumes nothing.
use mathlib.Core.Path.{◌≡◌, sym, ◌∙◌, ap}
use mathlib.Core.List.{List}
use Prim.Native.Nat.{ℕ, ◌+◌, ◌<◌}
use native.Mathlib.Decide.{ℕ_discrete}
use native.Mathlib.Omega.{arith}
use lib.ListN.{length, get_or, set}
use lib.Seq.{get_or-set_same, get_or-set_other}
use Rattle.terms_demo.specs.Tables.{byte_in, Filled}

pub fill_more : (rows : List (List ℕ)) (bytes : List ℕ) (n : ℕ) → n < length bytes → Filled rows bytes n → Filled rows (set bytes n (byte_in rows n)) (n + 1)
fill_more rows bytes n inside filled i h = at (ℕ_discrete i n)
  where
    at : Dec (i ≡ n) → get_or (set bytes n (byte_in rows n)) i 0 ≡ byte_in rows i
    at (yes e) = ap (λ j. get_or (set bytes n (byte_in rows n)) j 0) e ∙ get_or-set_same bytes n (byte_in rows n) 0 inside ∙ ap (byte_in rows) (sym e)
    at (no e) = get_or-set_other bytes n i (byte_in rows n) 0 e ∙ filled i (omega arith)
