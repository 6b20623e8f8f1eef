-- Refusals: no two faults have one number, and what the exit of a `?` hands on.
-- Assumes nothing.
use mathlib.Core.Path.{◌≡◌, refl, sym, ◌∙◌, ap}
use mathlib.Core.List.{List, [], ◌∷◌}
use lib.ListN.{get_or}
use Rattle.std.specs.Prelude.{Result, Err}
use Rattle.std.specs.Result.{IsErr, IsErrAnd}
use Rattle.std.proofs.lemmas.Result.{err_from_is_err_and}
use Rattle.terms.specs.Faults.{number_of as row_number}
use Rattle.terms.specs.declared.sizes.RowFault.TheVariants.{Malformed, Repeated, TooLarge}
use Rattle.sheets.specs.declared.refusals.Fault.{Fault}
use Rattle.sheets.specs.declared.refusals.Fault.TheVariants.{
  Length,
  Mark,
  Counts as CountsFault,
  WorkBuffer,
  Term,
  Context,
  Numbers,
  NoInstance,
  NoLine,
  LineUsed,
  Room,
  NotStated,
  NoTerm,
  NotRising,
  AnswerRoom,
  UpToDate,
  NoMotive,
}
use Rattle.sheets.specs.declared.refusals.Refusal.{Refusal}
use Rattle.sheets.specs.Refusals.{number_of}

-- the faults by their numbers; 0, 15 and 16 are none
unfoldable by_number : List Fault
by_number =
    Length ∷ Length ∷ Mark ∷ CountsFault ∷ WorkBuffer ∷ Term Malformed ∷ Term Repeated ∷ Term TooLarge ∷ Context ∷ Numbers
    ∷ NoInstance ∷ NoLine ∷ LineUsed ∷ Room ∷ NotStated ∷ Length ∷ Length ∷ NoTerm ∷ NotRising ∷ AnswerRoom ∷ UpToDate
    ∷ NoMotive ∷ []

numbered : (f : Fault) → get_or by_number (number_of f) Length ≡ f
unfolding by_number number_of row_number
numbered Length = refl
numbered Mark = refl
numbered CountsFault = refl
numbered WorkBuffer = refl
numbered (Term Malformed) = refl
numbered (Term Repeated) = refl
numbered (Term TooLarge) = refl
numbered Context = refl
numbered Numbers = refl
numbered NoInstance = refl
numbered NoLine = refl
numbered LineUsed = refl
numbered Room = refl
numbered NotStated = refl
numbered NoTerm = refl
numbered NotRising = refl
numbered AnswerRoom = refl
numbered UpToDate = refl
numbered NoMotive = refl

-- each is told by its number
pub one_number : (a b : Fault) → number_of a ≡ number_of b → a ≡ b
one_number a b e = sym (numbered a) ∙ ap (λ n. get_or by_number n Length) e ∙ numbered b

-- at the exit of a `?`, where the refusal is x
pub exits : {A : Type 0} {r : Result A Refusal} {x : Refusal} → IsErr r × IsErrAnd r (λ y. y ≡ x) → r ≡ Err x
exits {r = r} h = let p = err_from_is_err_and r h.1 in p.1 ∙ ap Err p.2
