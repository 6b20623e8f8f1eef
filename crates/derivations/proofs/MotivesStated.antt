-- Editions 2 and 3 have the same derivations: document 02, A10. Rules 33 and 34 cite G,Nat,P |- c : .., so that P has a
-- universe in G,Nat by an earlier judgment (StatedContexts), which edition 3 has the rule cite too.
-- Assumes nothing.
use mathlib.Core.Path.{◌≡◌, refl, sym, ◌∙◌, ap, subst}
use mathlib.Core.Logic.{◌↔◌, ⊎_elim}
use mathlib.Core.List.{List, [], ◌∷◌, map}
use Prim.Native.Nat.{ℕ, ◌≤◌, ◌<◌}
use native.Mathlib.Omega.{arith}
use lib.ListN.{length}
use Rattle.terms.specs.Term.{nat}
use Rattle.terms.specs.Tag.{child}
use Rattle.terms.specs.Lists.{AllBelow}
use Rattle.rules.specs.Judgment.{Judgment, context_of, s1}
use Rattle.rules.specs.Instance.{Instance}
use Rattle.rules.specs.Editions.{last_rule, AsksMotive}
use Rattle.rules.specs.Motives.{GivesMotive, WithMotive}
use Rattle.rules.proofs.EditionLaws.{motive_or_not}
use Rattle.rules.proofs.MotiveLaws.{with_motive, as_printed, enters_motive}
use Rattle.rules.proofs.PremiseLaws.{InContext}
use Rattle.derivations.specs.Derivation.{judgment_at, Step, Derivation}
use Rattle.derivations.proofs.ListLaws.{of_places}
use Rattle.derivations.proofs.StatedContexts.{types_in}

-- edition 2 asks for no motive
printed : {rule : ℕ} → AsksMotive 2 rule → ⊥
printed asks = omega (arith, asks)

-- a rule that asks for none is the same in both
shared : (e f : ℕ) → last_rule e ≡ last_rule f → {js : List Judgment} {i : ℕ} (s : Step e js i)
    → (AsksMotive e s.rule → ⊥) → (AsksMotive f s.rule → ⊥) → Step f js i
shared e f same s p q =
    let i = (as_printed e s.rule p).0 s.follows in
    record {
      rule = s.rule;
      places = s.places;
      earlier = s.earlier;
      follows = (as_printed f s.rule q).1 (omega (arith, i.0, same), i.1);
    }

module _ {js : List Judgment} {i : ℕ} where
  -- what follows with the motive follows without it
  dropped : (rule : ℕ) → AsksMotive 3 rule → (places : List ℕ) → AllBelow i places
      → WithMotive rule (map (judgment_at js) places) (judgment_at js i) → Step 2 js i
  unfolding last_rule
  dropped rule asks [] earlier none = absurd none
  dropped rule asks (m ∷ places) earlier h =
      record {
        rule = rule;
        places = places;
        earlier = earlier.1;
        follows = (as_printed 2 rule printed).1 (omega (arith, asks), h.1);
      }

-- before a judgment that follows by one of the two rules as printed, its motive stands
module _ {edition : ℕ} {js : List Judgment} (d : Derivation edition js) (i : ℕ) (h : i < length js) where
  pub motive_stands : (rule : ℕ) → (33 ≤ rule) × (rule ≤ 34) → (places : List ℕ) → AllBelow i places
      → Instance rule (map (judgment_at js) places) (judgment_at js i)
      → (k : ℕ) × (k < i) × GivesMotive (judgment_at js k) (judgment_at js i)
  motive_stands rule range places earlier follows =
      let c = judgment_at js i in
      let entry = enters_motive rule range _ c follows in
      let at = of_places (judgment_at js) i places earlier entry.1 in
      let typ =
      types_in d at.0 (omega (arith, at.1)) (subst InContext at.2 entry.2) [] (child (s1 c) 1)
      (nat ∷ context_of c) (ap context_of (sym at.2) ∙ entry.3) in
      (typ.type_place, omega (arith, typ.type_earlier, at.1), (typ.level, typ.type))

module _ (js : List Judgment) where
  with_motives : Derivation 2 js → Derivation 3 js
  unfolding last_rule
  with_motives d i h =
      let s = d i h in
      ⊎_elim
      (λ asks.
      let old = ((as_printed 2 s.rule printed).0 s.follows).1 in
      let m = motive_stands d i h s.rule asks.1 s.places s.earlier old in
      record {
        rule = s.rule;
        places = m.0 ∷ s.places;
        earlier = (m.1, s.earlier);
        follows = (with_motive 3 s.rule asks).1 (m.2, old);
      }) (shared 2 3 refl s printed) (motive_or_not 3 s.rule)

  without_motives : Derivation 3 js → Derivation 2 js
  unfolding last_rule
  without_motives d i h =
      let s = d i h in
      ⊎_elim
      (λ asks. dropped s.rule asks s.places s.earlier ((with_motive 3 s.rule asks).0 s.follows))
      (λ plain. shared 3 2 refl s plain printed) (motive_or_not 3 s.rule)

  pub same_derivations : Derivation 2 js ↔ Derivation 3 js
  same_derivations = (with_motives, without_motives)
