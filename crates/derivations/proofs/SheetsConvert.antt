-- Every accepted sheet of edition 1 or 2 converts: document 02, A11. A line of rule 33 or 34 cites a judgment in
-- G,Nat,P, so that an earlier line gives P a universe in G,Nat (MotivesStated); number 21 is never answered.
-- Assumes nothing.
use mathlib.Core.Path.{◌≡◌, refl, subst₂}
use mathlib.Core.List.{List}
use Prim.Native.Nat.{ℕ, ◌≤◌, ◌<◌}
use native.Mathlib.Omega.{arith}
use lib.ListN.{length}
use Rattle.rules.specs.Motives.{GivesMotive}
use Rattle.std.specs.Prelude.{Ok}
use Rattle.sheets.specs.declared.refusals.Fault.{Fault}
use Rattle.sheets.specs.declared.refusals.Fault.TheVariants.{NoMotive}
use Rattle.sheets.specs.Refusals.{number_of, refused}
use Rattle.sheets.specs.Layout.{edition_of}
use Rattle.sheets.specs.Lines.{cited_by, line_at}
use Rattle.sheets.specs.Good.{Good}
use Rattle.sheets.specs.Accepted.{IsAccepted}
use Rattle.sheets.specs.Conversion.{new_edition, convert_of, AllMotives}
use Rattle.sheets.specs.Conversion.{AdmittedConversionMeans, asks_already, no_motive, no_room, whole}
use Rattle.sheets.specs.Answered.{ConversionMeans, unfit, admitted}
use Rattle.sheets.proofs.AdmissionLaws.{fault_number}
use Rattle.sheets.proofs.AcceptedLaws.{accepted_good}
use Rattle.sheets.proofs.AnsweredLaws.{conversion_is}
use Rattle.derivations.proofs.MotivesStated.{motive_stands}
use Rattle.derivations.proofs.SheetDerives.{stated-length, stated_at_lem, cited_earlier}
use Rattle.derivations.proofs.SheetDerives.{stated_follows, stated_derivation}

-- in a good sheet every line that wants a motive has one
pub motives_stand : {b : List ℕ} {T C L : ℕ} → Good b T C L → AllMotives b T C L
motives_stand {b} {T} {C} {L} g n h wants =
    let l = line_at b T C n in
    let m =
    motive_stands (stated_derivation g) n (omega (arith, stated-length g)) l.rule wants.1 (cited_by l)
    (cited_earlier g n h) (stated_follows g n h) in (
      m.0,
      m.1,
      subst₂ GivesMotive (stated_at_lem g m.0 (omega (arith, m.1))) (stated_at_lem g n h) m.2,
    )

-- "Old sheets must move": with a work buffer of at least T words and room for its length, every accepted sheet of
-- edition 1 or 2 is converted
pub every_sheet_converts : (b : List ℕ) (a : IsAccepted b) (work room : ℕ) → edition_of b < new_edition → a.T ≤ work
    → length b ≤ room → convert_of b work room ≡ Ok (length b)
every_sheet_converts b a work room old fits enough =
    let g = accepted_good b a in
    (conversion_is b work room (Ok (length b))).1 (admitted g fits (whole old (motives_stand g) enough))

-- "a line without such an earlier line with 21": there is none on an accepted sheet, and admission's own numbers are
-- lower, so that no input and no buffers have this answer
module _ (b : List ℕ) (work room : ℕ) where
  admitted_not_21 : {T C L : ℕ} {fault : Fault} {place : ℕ} → Good b T C L
      → AdmittedConversionMeans b T C L room (refused fault place) → number_of fault ≡ 21 → ⊥
  unfolding number_of
  admitted_not_21 g (asks_already h) e = omega (arith, e)
  admitted_not_21 g (no_motive {n} old w) e = w.without (motives_stand g n w.within w.wants)
  admitted_not_21 g (no_room old all short) e = omega (arith, e)

  not_21 : {fault : Fault} {place : ℕ} → ConversionMeans b work room (refused fault place) → number_of fault ≡ 21 → ⊥
  not_21 (unfit f) e = omega (arith, fault_number f, e)
  not_21 (admitted g fits m) e = admitted_not_21 g m e

  pub never_21 : (place : ℕ) → convert_of b work room ≡ refused NoMotive place → ⊥
  unfolding number_of
  never_21 place e = not_21 ((conversion_is b work room (refused NoMotive place)).0 e) refl
