-- A derivation states that the contexts of its judgments of forms 0 to 3 are well formed, each at its judgment's place
-- or before it: a judgment's first premise stands in its context or in one that adds entries, and a context with an
-- entry is well formed by what says so of the context without it.
-- Assumes nothing.
use mathlib.Core.Path.{◌≡◌, refl, ◌∙◌, ap, subst}
use mathlib.Core.List.{List, [], ◌∷◌, ◌++◌, map, nil≢cons}
use Prim.Native.Nat.{ℕ, ◌≤◌, ◌<◌}
use native.Mathlib.Decide.{dec_le}
use native.Mathlib.Omega.{arith}
use lib.ListN.{length, drop}
use Rattle.terms.specs.Term.{Term, univ}
use Rattle.terms.specs.Lists.{AllBelow, All}
use Rattle.rules.specs.Judgment.{Context, Judgment, wf, typed, equal, sub, normal, neutral, steps, form, context_of}
use Rattle.rules.specs.Instance.{Instance}
use Rattle.rules.specs.Editions.{row_in}
use Rattle.rules.proofs.PremiseLaws.{InContext, premise_forms, no_premise_lem, first_premise, cons_premises}
use Rattle.derivations.specs.Derivation.{judgment_at, Derivation}
use Rattle.derivations.specs.Scopes.{WellFormedBy, ContextsStated}
use Rattle.derivations.proofs.DerivationLaws.{along}

-- a judgment of form 0 says that its context is well formed
form_0 : (j : Judgment) → form j ≡ 0 → j ≡ wf (context_of j)
unfolding form context_of
form_0 (wf G) e = refl
form_0 (typed G a A) e = absurd (omega (arith, e))
form_0 (equal G a b A) e = absurd (omega (arith, e))
form_0 (sub G A B) e = absurd (omega (arith, e))
form_0 (normal G a) e = absurd (omega (arith, e))
form_0 (neutral G a) e = absurd (omega (arith, e))
form_0 (steps G a b) e = absurd (omega (arith, e))

-- before place k it stands that G is well formed, and that A has a universe in it
pub record EntryStated (js : List Judgment) (k : ℕ) (A : Term) (G : Context) : Type 0 where
  pub level : ℕ
  pub context_place : ℕ
  pub context_earlier : context_place < k
  pub context : judgment_at js context_place ≡ wf G
  pub type_place : ℕ
  pub type_earlier : type_place < k
  pub type : judgment_at js type_place ≡ typed G A (univ level)

later : {js : List Judgment} {k : ℕ} {A : Term} {G : Context} (i : ℕ) → k ≤ i → EntryStated js k A G
    → EntryStated js i A G
later i h a =
    record {
      level = a.level;
      context_place = a.context_place;
      context_earlier = omega (arith, h, a.context_earlier);
      context = a.context;
      type_place = a.type_place;
      type_earlier = omega (arith, h, a.type_earlier);
      type = a.type;
    }

entry_from : (js : List Judgment) (k : ℕ) (A : Term) (G : Context) (level : ℕ) (places : List ℕ) → AllBelow k places
    → map (judgment_at js) places ≡ wf G ∷ typed G A (univ level) ∷ [] → EntryStated js k A G
entry_from js k A G level [] b e = absurd (nil≢cons e)
entry_from js k A G level (p ∷ []) b e = absurd (nil≢cons (ap (drop 1) e))
entry_from js k A G level (p ∷ q ∷ places) b e =
    record {
      level = level;
      context_place = p;
      context_earlier = b.0;
      context = cc;
      type_place = q;
      type_earlier = b.1.0;
      type = cc;
    }

module _ {edition : ℕ} {js : List Judgment} (d : Derivation edition js) where
  -- where a context with an entry is well formed, the premises of WF-CONS stand earlier
  entry_stated : (A : Term) (G : Context) (k : ℕ) → k < length js → judgment_at js k ≡ wf (A ∷ G)
      → EntryStated js k A G
  entry_stated A G k h e =
      let s = d k h in
      let cited = map (judgment_at js) s.places in
      let p = cons_premises (subst (Instance (row_in edition s.rule) cited) e s.follows) in
      entry_from js k A G p.0 s.places s.earlier p.1

  -- so where a context is well formed, each beginning of it is, there or earlier
  beginning_stated : (new G : Context) (k : ℕ) → k < length js → judgment_at js k ≡ wf (new ++ G) → WellFormedBy js k G
  beginning_stated [] G k h e = (k, omega arith, e)
  beginning_stated (A ∷ new) G k h e =
      let a = entry_stated A (new ++ G) k h e in
      let low = a.context_earlier in
      let w = beginning_stated new G a.context_place (omega (arith, low)) a.context in
      (w.0, omega (arith, low, w.1), w.2)

  abbrev Stated : ℕ → Type 0
  Stated i = InContext (judgment_at js i) → WellFormedBy js i (context_of (judgment_at js i))

  -- from the first premise
  from_premises : {n : ℕ} {c : Judgment} (i : ℕ) → i < length js → (places : List ℕ) → AllBelow i places
      → Instance n (map (judgment_at js) places) c → 0 < form c → InContext c → All Stated places
      → WellFormedBy js i (context_of c)
  from_premises i h [] b follows some low e = absurd (omega (arith, no_premise_lem follows low))
  from_premises {c = c} i h (p ∷ places) b follows some low e =
      let first = first_premise follows some in
      let w = e.0 (premise_forms follows low).0 in
      let before : w.0 < i = omega (arith, w.1, b.0) in
      let v = beginning_stated first.0 (context_of c) w.0 (omega arith) (w.2 ∙ ap wf first.1) in
      (v.0, omega (arith, v.1), v.2)

  pub contexts_in_lem : ContextsStated js
  contexts_in_lem = along d Stated step
    where
      step : (i : ℕ) (h : i < length js) → All Stated (d i h).places → Stated i
      step i h e low =
          elim (dec_le 1 (form (judgment_at js i))) [
            | yes some ↦ from_premises i h (d i h).places (d i h).earlier (d i h).follows some low e
            | no none ↦ (i, omega arith, form_0 (judgment_at js i) (omega arith))
          ]

  -- every type of such a context has a universe in the entries before it, by an earlier judgment
  pub types_in : (i : ℕ) → i < length js → InContext (judgment_at js i) → (new : Context) (A : Term) (G : Context)
      → context_of (judgment_at js i) ≡ new ++ A ∷ G → EntryStated js i A G
  types_in i h low new A G e =
      let w = contexts_in_lem i h low in
      let v = beginning_stated new (A ∷ G) w.0 (omega (arith, w.1)) (w.2 ∙ ap wf e) in
      later i (omega (arith, v.1, w.1)) (entry_stated A G v.0 (omega (arith, v.1, w.1)) v.2)
