-- Withdrawal of a set by single withdrawals: document 02, A6, "The outcome is what single withdrawals would give, taken
-- from the highest number down, with an output of enough length at each; an empty set gives the sheet itself." Laws
-- by_singles, sheet_by_singles: so it is, for an accepted sheet, a list that rises, a work buffer of T words or more,
-- and an output of 52,240 bytes or more at each.
use Rattle.std.specs.Prelude.{true, false, List, [], ◌∷◌, ℕ, ltb, length, take, Result, Ok, Err}
use Rattle.sheets.specs.declared.refusals.Fault.{Fault}
use Rattle.sheets.specs.declared.refusals.Fault.TheVariants.{Room}
use Rattle.sheets.specs.declared.refusals.Refusal.{Refusal}
use Rattle.sheets.specs.Refusals.{refused}
use Rattle.sheets.specs.LineSets.{old_number}
use Rattle.sheets.specs.Withdrawal.{withdraw_of, out_after}

-- what single withdrawals come to: a sheet, or the refusal of one of them
pub data Singles : Type 0 where
  left : List ℕ → Singles
  stopped : Fault → ℕ → Singles

-- the output that each is handed; a work buffer of 3,072 words serves every sheet
module _ (out : List ℕ) where
  -- Line n is withdrawn from a sheet without the lines of the set, and answered so: "the new sheet is the output up to
  -- the length returned". A place is given in the old numbering; that of 11 stays, since only the first can be refused
  -- so, when the set is empty.
  unfoldable pub after_single : List ℕ → ℕ → List ℕ → Result ℕ Refusal → Singles
  after_single set n sheet (Ok new) = left (take new (out_after sheet n 3072 out))
  after_single set n sheet (Err r) = stopped r.fault (old_number set r.place)

  -- the next single withdrawal, if none was refused before
  unfoldable pub withdraw_next : List ℕ → ℕ → Singles → Singles
  withdraw_next set n (left sheet) = after_single set n sheet (withdraw_of sheet n 3072 (length out))
  withdraw_next set n (stopped fault place) = stopped fault place

  unfoldable pub singly : List ℕ → List ℕ → Singles
  singly bytes [] = left bytes
  singly bytes (n ∷ set) = withdraw_next set n (singly bytes set)

-- what is answered then: number 13 "is measured against the final length only"
unfoldable pub in_room : ℕ → Singles → Result ℕ Refusal
in_room room (left sheet) = elim (ltb room (length sheet)) [ true ↦ refused Room 0 | false ↦ Ok (length sheet) ]
in_room room (stopped fault place) = refused fault place
