-- Rules 44 to 67 hold in the empty context alone, and no other rule concludes one of forms 4 to 6: document 02, A5.
-- Their premises add no entry (`row_fits`), and so stand there too.
-- Assumes nothing.
use mathlib.Core.Path.{◌≡◌, refl}
use mathlib.Core.List.{List, []}
use Prim.Native.Nat.{ℕ, ◌<◌}
use native.Mathlib.Omega.{arith}
use Rattle.terms.specs.Term.{Term}
use Rattle.rules.specs.Judgment.{Context, Judgment, wf, typed, equal, sub, normal, neutral, steps, form, context_of}
use Rattle.rules.specs.Stated.{last_form_in_context}
use Rattle.rules.specs.Instance.{
  Instance,
  n_abs,
  n_pair,
  n_pi,
  n_sig,
  n_succ,
  n_univ,
  n_sne,
  n_zero,
  n_nat,
  n_exp,
  n_var,
  n_app,
  n_proj1,
  n_proj2,
  n_ind,
  n_appabs,
  n_appcong,
  n_projpair1,
  n_projpair2,
  n_projcong1,
  n_projcong2,
  n_indzero,
  n_indsuc,
  n_indcong,
}

normal_empty : {n : ℕ} {ps : List Judgment} {G : Context} {a : Term} → Instance n ps (normal G a) → G ≡ []
normal_empty (n_abs b) = refl
normal_empty (n_pair a b) = refl
normal_empty (n_pi A B) = refl
normal_empty (n_sig A B) = refl
normal_empty (n_succ a) = refl
normal_empty (n_univ i) = refl
normal_empty (n_sne a) = refl
normal_empty n_zero = refl
normal_empty n_nat = refl
normal_empty (n_exp a b) = refl

neutral_empty : {n : ℕ} {ps : List Judgment} {G : Context} {a : Term} → Instance n ps (neutral G a) → G ≡ []
neutral_empty (n_var x) = refl
neutral_empty (n_app a b) = refl
neutral_empty (n_proj1 a) = refl
neutral_empty (n_proj2 a) = refl
neutral_empty (n_ind P a b c) = refl

steps_empty : {n : ℕ} {ps : List Judgment} {G : Context} {a b : Term} → Instance n ps (steps G a b) → G ≡ []
steps_empty (n_appabs a b) = refl
steps_empty (n_appcong a₀ a₁ b) = refl
steps_empty (n_projpair1 a b) = refl
steps_empty (n_projpair2 a b) = refl
steps_empty (n_projcong1 a b) = refl
steps_empty (n_projcong2 a b) = refl
steps_empty (n_indzero P b c) = refl
steps_empty (n_indsuc P a b c) = refl
steps_empty (n_indcong P a₀ a₁ b c) = refl

pub empty_context : {n : ℕ} {ps : List Judgment} {c : Judgment}
    → Instance n ps c → last_form_in_context < form c → context_of c ≡ []
unfolding form context_of
empty_context {c = wf G} i h = absurd (omega arith)
empty_context {c = typed G a A} i h = absurd (omega arith)
empty_context {c = equal G a b A} i h = absurd (omega arith)
empty_context {c = sub G A B} i h = absurd (omega arith)
empty_context {c = normal G a} i h = normal_empty i
empty_context {c = neutral G a} i h = neutral_empty i
empty_context {c = steps G a b} i h = steps_empty i
