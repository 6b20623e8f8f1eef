-- A step reads as document 01 has it: an instance of a rule whose premises all stand earlier in the list. And document
-- 02, A5: edition 2 adds rules to those of edition 1; of edition 3 see MotivesStated. And induction along a derivation.
-- Assumes nothing.
use mathlib.Core.Path.{◌≡◌, refl, sym, ◌∙◌, ap₂, subst}
use mathlib.Core.Logic.{◌↔◌}
use mathlib.Core.List.Memᴰ
use mathlib.Core.List.Memᴰ.{head as here}
use mathlib.Core.List.Memᴰ.{tail as there}
use mathlib.Core.List.{List, [], ◌∷◌, map}
use Prim.Native.Nat.{ℕ, zero, suc, ◌+◌, ◌-◌, ◌≤◌, ◌<◌}
use native.Mathlib.Decide.{dec_le}
use native.Mathlib.Omega.{arith}
use lib.ListN.{length, take}
use lib.Seq.{get_or-take, length-take-le}
use Rattle.terms.specs.Lists.{AllBelow, All}
use Rattle.terms.proofs.AllLaws.{all_more}
use Rattle.rules.specs.Judgment.{Judgment, wf}
use Rattle.rules.specs.Instance.{Instance}
use Rattle.rules.specs.Editions.{IsEdition, last_rule, AsksMotive, row_in}
use Rattle.rules.proofs.TableFitsLaws.{row_fits}
use Rattle.rules.proofs.EditionLaws.{row_known, row_own, row_motive}
use Rattle.derivations.specs.Lists.{◌∈◌}
use Rattle.derivations.specs.Derivation.{judgment_at, Step, Derivation}
use Rattle.derivations.proofs.ListLaws.{of_places, in_place, place_of}

-- an instance of a rule that the edition admits, with this conclusion, whose premises all stand in the list
pub record Follows (edition : ℕ) (before : List Judgment) (conclusion : Judgment) : Type 0 where
  pub rule : ℕ
  pub premises : List Judgment
  pub follows : Instance (row_in edition rule) premises conclusion
  pub stand : (p : Judgment) → p ∈ premises → p ∈ before

module _ (js : List Judgment) (i : ℕ) (h : i < length js) where
  place_in : (k : ℕ) → k < i → judgment_at js k ∈ take i js
  place_in k l = Memᴰ.cast (sym (get_or-take i js k (wf []) l)) (in_place (take i js) k (wf []) (omega (arith, length-take-le i js (omega arith))))

  places_in : (places : List ℕ) → AllBelow i places → (p : Judgment) → p ∈ map (judgment_at js) places → p ∈ take i js
  places_in places b p m =
      let at = of_places (judgment_at js) i places b m in Memᴰ.cast at.2 (place_in at.0 at.1)

  places_of : (ps : List Judgment) → ((p : Judgment) → p ∈ ps → p ∈ take i js) → (places : List ℕ) × AllBelow i places × (map (judgment_at js) places ≡ ps)
  places_of [] s = ([], tt, refl)
  places_of (p ∷ ps) s =
      let k = place_of (take i js) (wf []) (s p (here refl)) in
      let l : k.0 < i = omega (arith, k.1, length-take-le i js (omega arith)) in
      let r = places_of ps (λ q m. s q (there m)) in
      (k.0 ∷ r.0, (l, r.1), ap₂ ◌∷◌ (sym (k.2 ∙ get_or-take i js k.0 (wf []) l)) r.2)

  pub step_is : (edition : ℕ) → Step edition js i ↔ Follows edition (take i js) (judgment_at js i)
  step_is edition = (
    (λ s. record { rule = s.rule; premises = map (judgment_at js) s.places; follows = s.follows; stand = places_in s.places s.earlier }),
    λ f.
        let r = places_of f.premises f.stand in
        record {
          rule = f.rule;
          places = r.0;
          earlier = r.1;
          follows = subst (λ ps. Instance (row_in edition f.rule) ps (judgment_at js i)) (sym r.2) f.follows;
        },
  )

-- whatever is an instance, some edition judges by that row: edition 2 but for rules 33 and 34 with the motive
pub every_rule : {n : ℕ} {ps : List Judgment} {c : Judgment} → Instance n ps c
    → (edition : ℕ) × (rule : ℕ) × IsEdition edition × (row_in edition rule ≡ n)
unfolding last_rule
every_rule {n} i =
    elim (dec_le n 67) [
      | yes h ↦ (2, n, (omega arith, omega arith), row_own 2 n h (λ asks. omega (arith, asks)))
      | no h ↦ let known = (row_fits i).known in
          let asks : AsksMotive 3 (n - 35) = (omega arith, (omega (arith, h), omega (arith, known))) in
          let joined : n - 35 + 35 ≡ n = omega (arith, h) in
          (3, n - 35, (omega arith, omega arith), row_motive 3 (n - 35) asks ∙ joined)
    ]

-- a derivation by one edition is one by any other that has the same rows for the rules that it uses
pub same_rows : (e f : ℕ) (js : List Judgment) (d : Derivation e js)
    → ((i : ℕ) (h : i < length js) → row_in e (d i h).rule ≡ row_in f (d i h).rule) → Derivation f js
same_rows e f js d same i h =
    let s = d i h in
    record {
      rule = s.rule;
      places = s.places;
      earlier = s.earlier;
      follows = subst (λ r. Instance r (map (judgment_at js) s.places) (judgment_at js i)) (same i h) s.follows;
    }

-- the rules that a derivation uses are among those that the edition admits
pub rules_admitted : (edition : ℕ) (js : List Judgment) (d : Derivation edition js) (i : ℕ) (h : i < length js)
    → (d i h).rule ≤ last_rule edition
rules_admitted edition js d i h = ((row_known edition (d i h).rule).0 (row_fits (d i h).follows).known).1

-- a rule that editions 1 and 2 admit has one row
row_shared : (e f rule : ℕ) → e ≤ 2 → f ≤ 2 → rule ≤ last_rule e → rule ≤ last_rule f → row_in e rule ≡ row_in f rule
row_shared e f rule a b h k =
    row_own e rule h (λ asks. omega (arith, asks)) ∙ sym (row_own f rule k (λ asks. omega (arith, asks)))

-- a derivation by edition 1 is one by edition 2
pub later_edition : (js : List Judgment) → Derivation 1 js → Derivation 2 js
unfolding last_rule
later_edition js d =
    same_rows 1 2 js d
    (λ i h.
    let old = rules_admitted 1 js d i h in
    row_shared 1 2 (d i h).rule (omega arith) (omega arith) old (omega (arith, old)))

-- and one by edition 2 that uses rules of edition 1 alone is one by edition 1
pub earlier_edition : (js : List Judgment) (d : Derivation 2 js)
    → ((i : ℕ) (h : i < length js) → (d i h).rule ≤ last_rule 1) → Derivation 1 js
earlier_edition js d old =
    same_rows 2 1 js d
    (λ i h. row_shared 2 1 (d i h).rule (omega arith) (omega arith) (rules_admitted 2 js d i h) (old i h))

-- induction along what is cited: what holds at a place if it holds at those that its step cites, holds at every place
module _ {edition : ℕ} {js : List Judgment} (d : Derivation edition js) (P : ℕ → Type 0)
    (step : (i : ℕ) (h : i < length js) → All P (d i h).places → P i) where
  along_to : (bound i : ℕ) → i < bound → i < length js → P i
  along_to zero i l h = absurd (omega arith)
  along_to (suc bound) i l h =
      let s = d i h in
      step i h (all_more (λ k. k < i) P s.places (λ k low. along_to bound k (omega arith) (omega arith)) s.earlier)

  pub along : (i : ℕ) → i < length js → P i
  along i h = along_to (suc i) i (omega arith) h
