-- No rule brings in a stray variable: document 02, A9. Each form has its rules in order; `keeps` joins them. A premise
-- is taken apart as (s, (fa, (fA, _))): its context is scoped, its subjects a, A have free indices below the length.
-- Assumes nothing.
use mathlib.Core.Path.{◌≡◌, subst}
use mathlib.Core.Logic.{◌↔◌}
use mathlib.Core.List.{List, [], ◌∷◌}
use Prim.Native.Nat.{ℕ, suc, ◌+◌, ◌-◌, ◌≤◌}
use native.Mathlib.Omega.{arith}
use lib.ListN.{length}
use Rattle.terms.specs.Term.{Term, first, succ, ind}
use Rattle.terms.specs.Substitution.{shift, ◌⟨◌⟩, on_both}
use Rattle.terms.specs.FreeIndices.{FreeBelow}
use Rattle.terms.specs.Lists.{All}
use Rattle.terms.proofs.FreeIndexLaws.{free_shift, free_instantiate, free_both}
use Rattle.terms.proofs.FreeIndexLaws.{free_shift_back₀, free_instantiate_back₀}
use Rattle.rules.specs.Judgment.{Context, Judgment, wf, typed, equal, sub, normal, neutral, steps, form}
use Rattle.rules.specs.Stated.{last_form_in_context}
use Rattle.rules.specs.Instance.{
  Entry,
  here,
  there,
  Instance,
  wf_nil,
  wf_cons,
  wt_var,
  wt_pi,
  wt_abs,
  wt_app,
  wt_univ,
  wt_sig,
  wt_pair,
  wt_proj1,
  wt_proj2,
  wt_nat,
  wt_zero,
  wt_succ,
  wt_ind,
  wt_conv,
  e_refl,
  e_sym,
  e_trans,
  e_pi,
  e_absext,
  e_app,
  e_sig,
  e_pairext,
  e_proj1,
  e_proj2,
  e_suc,
  e_ind,
  e_conv,
  e_appabs,
  e_projpair1,
  e_projpair2,
  e_indzero,
  e_indsuc,
  e_indzero_cited,
  e_indsuc_cited,
  l_trans,
  l_eq,
  l_univ,
  l_pi,
  l_pi_smaller,
  l_sig,
  l_piproj1,
  l_piproj2,
  l_sigproj1,
  l_sigproj2,
}
use Rattle.rules.specs.Scoped.{Scoped, NoStray}
use Rattle.rules.proofs.ContextTableEntries.{entry_long}

-- every entry's type has free indices below the number of entries before it
abbrev pub ByEntry : Context → Type 0
ByEntry G = (x before : ℕ) (A : Term) → Entry G x A → before + suc x ≡ length G → FreeBelow before A

by_entry : {G : Context} → Scoped G → ByEntry G
unfolding Scoped
by_entry s x before A (here {G}) e =
    let same : length G ≡ before = omega (arith, e) in subst (λ n. FreeBelow n A) same s.0
by_entry s x before A (there e) b = by_entry s.1 _ before A e (omega (arith, b))

from_entries : (G : Context) → ByEntry G → Scoped G
unfolding Scoped
from_entries [] h = tt
from_entries (A ∷ G) h =
    (h 0 (length G) A here (omega arith), from_entries G (λ x n B e b. h (suc x) n B (there e) (omega (arith, b))))

pub scoped_is : (G : Context) → Scoped G ↔ ByEntry G
scoped_is G = (by_entry, from_entries G)

-- raised past the entries from it on, an entry's type has free indices below the length
free_entry : {G : Context} {A : Term} {x : ℕ} → Entry G x A → Scoped G → FreeBelow (length G) (shift 0 (suc x) A)
free_entry {G} {A} {x} e s =
    let before = length G - suc x in
    let joined : before + suc x ≡ length G = omega (arith, entry_long e) in
    subst (λ n. FreeBelow n (shift 0 (suc x) A)) joined (free_shift 0 before (suc x) A (by_entry s x before A e joined))

context_keeps : {n : ℕ} {ps : List Judgment} {G : Context} → Instance n ps (wf G) → All NoStray ps → Scoped G
unfolding NoStray
context_keeps wf_nil h = tt
context_keeps (wf_cons G A i) ((s, _), ((_, (fA, _)), _)) = (fA, s)

typing_keeps : {n : ℕ} {ps : List Judgment} {G : Context} {a A : Term}
    → Instance n ps (typed G a A) → All NoStray ps → Scoped G × FreeBelow (length G) a × FreeBelow (length G) A
unfolding NoStray FreeBelow
typing_keeps (wt_var G A x e) ((s, _), _) = (s, entry_long e, free_entry e s)
typing_keeps (wt_pi G A B i) ((s, (fA, _)), ((_, (fB, _)), _)) = (s, (fA, fB), tt)
typing_keeps (wt_abs G A B b) (((fA, s), (fb, (fB, _))), _) = (s, fb, (fA, fB))
typing_keeps (wt_app G A B a b) ((s, (fb, ((fA, fB), _))), ((_, (fa, _)), _)) =
    (s, (fb, fa), free_instantiate (length G) a B fa fB)
typing_keeps (wt_univ G i) ((s, _), _) = (s, tt, tt)
typing_keeps (wt_sig G A B i) ((s, (fA, _)), ((_, (fB, _)), _)) = (s, (fA, fB), tt)
typing_keeps (wt_pair G A B a b i) ((s, (fa, _)), ((_, (fb, _)), ((_, (fAB, _)), _))) = (s, (fa, fb), fAB)
typing_keeps (wt_proj1 G A B a) ((s, (fa, ((fA, fB), _))), _) = (s, fa, fA)
typing_keeps (wt_proj2 G A B a) ((s, (fa, ((fA, fB), _))), _) = (s, fa, free_instantiate (length G) (first a) B fa fB)
typing_keeps (wt_nat G i) ((s, _), _) = (s, tt, tt)
typing_keeps (wt_zero G) ((s, _), _) = (s, tt, tt)
typing_keeps (wt_succ G a) ((s, (fa, _)), _) = (s, fa, tt)
typing_keeps (wt_ind G P a b c i) ((_, (fP, _)), ((s, (fa, _)), ((_, (fb, _)), ((_, (fc, _)), _)))) =
    (s, (fP, fa, fb, fc), free_instantiate (length G) a P fa fP)
typing_keeps (wt_conv G A B a) ((s, (fa, _)), ((_, (_, (fB, _))), _)) = (s, fa, fB)

-- E-INDSUC, with or without the motive
successor_keeps : (G : Context) (P a b c : Term) → Scoped G → FreeBelow (length G) (ind P a b c)
    → Scoped G × FreeBelow (length G) (ind P (succ a) b c) × FreeBelow (length G) (on_both c a (ind P a b c))
    × FreeBelow (length G) (P ⟨ succ a ⟩)
unfolding FreeBelow
successor_keeps G P a b c s (fP, fa, fb, fc) = (
  s,
  (fP, fa, fb, fc),
  free_both (length G) c a (ind P a b c) fa (fP, fa, fb, fc) fc,
  free_instantiate (length G) (succ a) P fa fP,
)

equality_keeps : {n : ℕ} {ps : List Judgment} {G : Context} {a b A : Term}
    → Instance n ps (equal G a b A) → All NoStray ps
    → Scoped G × FreeBelow (length G) a × FreeBelow (length G) b × FreeBelow (length G) A
unfolding NoStray FreeBelow
equality_keeps (e_refl G A a) ((s, (fa, (fA, _))), _) = (s, fa, fa, fA)
equality_keeps (e_sym G A a b) ((s, (fb, (fa, (fA, _)))), _) = (s, fa, fb, fA)
equality_keeps (e_trans G A a b c) ((s, (fa, (_, (fA, _)))), ((_, (_, (fc, _))), _)) = (s, fa, fc, fA)
equality_keeps (e_pi G A₀ A₁ B₀ B₁ i) ((s, (fA₀, (fA₁, _))), ((_, (fB₀, (fB₁, _))), _)) =
    (s, (fA₀, fB₀), (fA₁, fB₁), tt)
equality_keeps (e_absext G A B a b) (((fA, s), ((fa, _), ((fb, _), (fB, _)))), _) =
    (s, free_shift_back₀ (length G) a fa, free_shift_back₀ (length G) b fb, (fA, fB))
equality_keeps (e_app G A B a₀ a₁ b₀ b₁) ((s, (fb₀, (fb₁, ((fA, fB), _)))), ((_, (fa₀, (fa₁, _))), _)) =
    (s, (fb₀, fa₀), (fb₁, fa₁), free_instantiate (length G) a₀ B fa₀ fB)
equality_keeps (e_sig G A₀ A₁ B₀ B₁ i) ((s, (fA₀, (fA₁, _))), ((_, (fB₀, (fB₁, _))), _)) =
    (s, (fA₀, fB₀), (fA₁, fB₁), tt)
-- B stands in the second premise's type alone, instantiated
equality_keeps (e_pairext G A B a b) ((s, (fa, (fb, (fA, _)))), ((_, (_, (_, (fB, _)))), _)) =
    (s, fa, fb, (fA, free_instantiate_back₀ (length G) (first a) B fB))
equality_keeps (e_proj1 G A B a b) ((s, (fa, (fb, ((fA, fB), _)))), _) = (s, fa, fb, fA)
equality_keeps (e_proj2 G A B a b) ((s, (fa, (fb, ((fA, fB), _)))), _) =
    (s, fa, fb, free_instantiate (length G) (first a) B fa fB)
equality_keeps (e_suc G a b) ((s, (fa, (fb, _))), _) = (s, fa, fb, tt)
equality_keeps (e_ind G P₀ P₁ a₀ a₁ b₀ b₁ c₀ c₁ i)
    ((_, (fP₀, (fP₁, _))), ((s, (fa₀, (fa₁, _))), ((_, (fb₀, (fb₁, _))), ((_, (fc₀, (fc₁, _))), _)))) =
    (s, (fP₀, fa₀, fb₀, fc₀), (fP₁, fa₁, fb₁, fc₁), free_instantiate (length G) a₀ P₀ fa₀ fP₀)
equality_keeps (e_conv G A B a b) ((s, (fa, (fb, _))), ((_, (_, (fB, _))), _)) = (s, fa, fb, fB)
equality_keeps (e_appabs G A B a b) ((s, (fb, _)), ((_, (fa, (fB, _))), _)) =
    (s, (fa, fb), free_instantiate (length G) b a fb fa, free_instantiate (length G) b B fb fB)
equality_keeps (e_projpair1 G A B a b i) ((s, (fa, (fA, _))), ((_, (fb, _)), _)) = (s, (fa, fb), fa, fA)
equality_keeps (e_projpair2 G A B a b i) ((s, (fa, _)), ((_, (fb, (fB, _))), _)) = (s, (fa, fb), fb, fB)
-- P is no premise's subject, but an entry of the last one's context
equality_keeps (e_indzero G P b c) ((s, (fb, (fPz, _))), (((fP, _), (fc, _)), _)) = (s, (fP, tt, fb, fc), fb, fPz)
equality_keeps (e_indsuc G P a b c) ((s, (fa, _)), ((_, (fb, _)), (((fP, _), (fc, _)), _))) =
    successor_keeps G P a b c s (fP, fa, fb, fc)
-- the motive has it as subject
equality_keeps (e_indzero_cited G P b c i) ((_, (fP, _)), ((s, (fb, (fPz, _))), ((_, (fc, _)), _))) =
    (s, (fP, tt, fb, fc), fb, fPz)
equality_keeps (e_indsuc_cited G P a b c i)
    ((_, (fP, _)), ((s, (fa, _)), ((_, (fb, _)), ((_, (fc, _)), _)))) =
    successor_keeps G P a b c s (fP, fa, fb, fc)

subtyping_keeps : {n : ℕ} {ps : List Judgment} {G : Context} {A B : Term}
    → Instance n ps (sub G A B) → All NoStray ps → Scoped G × FreeBelow (length G) A × FreeBelow (length G) B
unfolding NoStray FreeBelow
subtyping_keeps (l_trans G A B C) ((s, (fA, _)), ((_, (_, (fC, _))), _)) = (s, fA, fC)
subtyping_keeps (l_eq G A B i) ((s, (fA, (fB, _))), _) = (s, fA, fB)
subtyping_keeps (l_univ G i j l) ((s, _), _) = (s, tt, tt)
-- of the second premise's context the length counts alone, so that both readings go alike
subtyping_keeps (l_pi G A₀ A₁ B₀ B₁) ((s, (fA₁, (fA₀, _))), ((_, (fB₀, (fB₁, _))), _)) = (s, (fA₀, fB₀), (fA₁, fB₁))
subtyping_keeps (l_pi_smaller G A₀ A₁ B₀ B₁) ((s, (fA₁, (fA₀, _))), ((_, (fB₀, (fB₁, _))), _)) =
    (s, (fA₀, fB₀), (fA₁, fB₁))
subtyping_keeps (l_sig G A₀ A₁ B₀ B₁) ((s, (fA₀, (fA₁, _))), ((_, (fB₀, (fB₁, _))), _)) = (s, (fA₀, fB₀), (fA₁, fB₁))
subtyping_keeps (l_piproj1 G A₀ A₁ B₀ B₁) ((s, ((fA₀, _), ((fA₁, _), _))), _) = (s, fA₁, fA₀)
subtyping_keeps (l_piproj2 G A₀ A₁ B₀ B₁ a₀ a₁) ((s, ((_, fB₀), ((_, fB₁), _))), ((_, (fa₀, (fa₁, _))), _)) =
    (s, free_instantiate (length G) a₀ B₀ fa₀ fB₀, free_instantiate (length G) a₁ B₁ fa₁ fB₁)
subtyping_keeps (l_sigproj1 G A₀ A₁ B₀ B₁) ((s, ((fA₀, _), ((fA₁, _), _))), _) = (s, fA₀, fA₁)
subtyping_keeps (l_sigproj2 G A₀ A₁ B₀ B₁ a₀ a₁) ((s, ((_, fB₀), ((_, fB₁), _))), ((_, (fa₀, (fa₁, _))), _)) =
    (s, free_instantiate (length G) a₀ B₀ fa₀ fB₀, free_instantiate (length G) a₁ B₁ fa₁ fB₁)

-- a conclusion of form 0 to 3 has no stray variable if no premise has one
pub keeps : {n : ℕ} {ps : List Judgment} {c : Judgment}
    → Instance n ps c → form c ≤ last_form_in_context → All NoStray ps → NoStray c
unfolding NoStray form
keeps {c = wf G} i l h = (context_keeps i h, tt)
keeps {c = typed G a A} i l h = let k = typing_keeps i h in (k.0, (k.1, (k.2, tt)))
keeps {c = equal G a b A} i l h = let k = equality_keeps i h in (k.0, (k.1, (k.2, (k.3, tt))))
keeps {c = sub G A B} i l h = let k = subtyping_keeps i h in (k.0, (k.1, (k.2, tt)))
keeps {c = normal G a} i l h = absurd (omega arith)
keeps {c = neutral G a} i l h = absurd (omega arith)
keeps {c = steps G a b} i l h = absurd (omega arith)
