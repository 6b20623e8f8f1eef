-- What the rules that conclude forms 0 to 3 rest on: premises of these forms, the first of them in the conclusion's
-- context or in one that adds entries to it.
-- Assumes nothing.
use mathlib.Core.Path.{◌≡◌, refl, ◌∙◌, ap}
use mathlib.Core.List.{List, [], ◌∷◌, ◌++◌}
use Prim.Native.Nat.{ℕ, ◌≤◌, ◌<◌}
use native.Mathlib.Omega.{arith}
use Rattle.terms.specs.Term.{Term, univ}
use Rattle.terms.specs.Lists.{All}
use Rattle.terms.proofs.AllLaws.{all_at}
use Rattle.rules.specs.Judgment.{Context, Judgment, wf, typed, form, context_of}
use Rattle.rules.specs.Instance.{Instance, wf_nil, wf_cons, n_univ, n_zero, n_nat, n_var}
use Rattle.rules.specs.RuleTable.{conclusion_form}
use Rattle.rules.specs.Stated.{last_form_in_context}
use Rattle.rules.proofs.TableLaws.{premises_in_context, counted_same}
use Rattle.rules.proofs.TableFitsLaws.{row_fits}

-- one of forms 0 to 3
abbrev pub InContext : Judgment → Type 0
InContext j = form j ≤ last_form_in_context

pub premise_forms : {n : ℕ} {ps : List Judgment} {c : Judgment} → Instance n ps c → InContext c → All InContext ps
premise_forms {n} {ps} {c} i low =
    let fits = row_fits i in
    let rests = premises_in_context n fits.known (omega (arith, fits.concludes)) in
    all_at InContext c ps (λ j h. omega (arith, fits.forms j h, rests j (omega (arith, fits.count))))

-- WF-NIL alone of these has no premise
pub no_premise_lem : {n : ℕ} {c : Judgment} → Instance n [] c → InContext c → form c ≡ 0
unfolding form
no_premise_lem wf_nil low = refl
no_premise_lem (n_univ i) low = absurd (omega arith)
no_premise_lem n_zero low = absurd (omega arith)
no_premise_lem n_nat low = absurd (omega arith)
no_premise_lem (n_var x) low = absurd (omega arith)

-- the first premise stands in the conclusion's context, or adds entries to it: rule 2 alone counts added entries from
-- another context, and it concludes form 0
pub first_premise : {n : ℕ} {p : Judgment} {ps : List Judgment} {c : Judgment} → Instance n (p ∷ ps) c → 0 < form c
    → (new : Context) × (context_of p ≡ new ++ context_of c)
unfolding conclusion_form
first_premise {n} {p} {ps} {c} i high =
    let fits = row_fits i in
    let adds = fits.added 0 (omega arith) in
    let other : n ≡ 2 → ⊥ = λ e. omega (arith, fits.concludes, ap conclusion_form e) in
    (adds.new, adds.joined ∙ ap (λ G. adds.new ++ G) (counted_same n (context_of c) other))

-- WF-CONS alone concludes that a context with an entry is well formed
pub cons_premises : {n : ℕ} {ps : List Judgment} {A : Term} {G : Context} → Instance n ps (wf (A ∷ G))
    → (i : ℕ) × (ps ≡ wf G ∷ typed G A (univ i) ∷ [])
cons_premises (wf_cons G A i) = (i, refl)
