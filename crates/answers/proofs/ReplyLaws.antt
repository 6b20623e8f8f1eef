-- A length that is answered is within the output.
-- Assumes nothing.
use mathlib.Core.Path.{◌≡◌, refl, sym, ◌∙◌}
use mathlib.Core.List.{List}
use Prim.Native.Nat.{ℕ, ◌≤◌}
use Rattle.std.specs.Prelude.{Result, Ok, Err, IfOk}
use Rattle.sheets.specs.declared.refusals.Refusal.{Refusal}
use Rattle.sheets.specs.WithdrawalSet.{withdraw_set_of}
use Rattle.sheets.specs.Conversion.{convert_of}
use Rattle.sheets.proofs.AnsweredLaws.{set_written_fits, converted_fits}

ok_within : {room : ℕ} (a : Result ℕ Refusal) → ((length : ℕ) → a ≡ Ok length → length ≤ room)
    → IfOk a (λ length. length ≤ room)
ok_within (Ok length) h = h length refl
ok_within (Err e) h = tt

pub set_written_within : (bytes set : List ℕ) (work room : ℕ) (a : Result ℕ Refusal)
    → a ≡ withdraw_set_of bytes set work room → IfOk a (λ length. length ≤ room)
set_written_within bytes set work room a is =
    ok_within a (λ length e. set_written_fits bytes set work room length (sym is ∙ e))

pub converted_within : (bytes : List ℕ) (work room : ℕ) (a : Result ℕ Refusal) → a ≡ convert_of bytes work room
    → IfOk a (λ length. length ≤ room)
converted_within bytes work room a is = ok_within a (λ length e. converted_fits bytes work room length (sym is ∙ e))
