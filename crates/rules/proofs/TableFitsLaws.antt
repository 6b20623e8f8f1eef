-- Every instance of a rule has its row's conclusion form, premise count, premise forms and added entries.
use mathlib.Core.Path.{◌≡◌, refl}
use mathlib.Core.List.{List, [], ◌∷◌, ◌++◌}
use Prim.Native.Nat.{ℕ, zero, suc, ◌<◌}
use native.Mathlib.Nat.{not-suc-le-zero, le_of_suc-le-suc}
use lib.Dec.{T, leb, lit≤}
use lib.ListN.{get_or, length}
use Rattle.terms.specs.Term.{nat}
use Rattle.rules.specs.Judgment.{Context, Judgment, form, context_of}
use Rattle.rules.specs.Instance.{
  Instance,
  wf_nil,
  wf_cons,
  wt_var,
  wt_pi,
  wt_abs,
  wt_app,
  wt_univ,
  wt_sig,
  wt_pair,
  wt_proj1,
  wt_proj2,
  wt_nat,
  wt_zero,
  wt_succ,
  wt_ind,
  wt_conv,
  e_refl,
  e_sym,
  e_trans,
  e_pi,
  e_absext,
  e_app,
  e_sig,
  e_pairext,
  e_proj1,
  e_proj2,
  e_suc,
  e_ind,
  e_conv,
  e_appabs,
  e_projpair1,
  e_projpair2,
  e_indzero,
  e_indsuc,
  l_trans,
  l_eq,
  l_univ,
  l_pi,
  l_pi_smaller,
  l_sig,
  l_piproj1,
  l_piproj2,
  l_sigproj1,
  l_sigproj2,
  n_abs,
  n_pair,
  n_pi,
  n_sig,
  n_succ,
  n_univ,
  n_sne,
  n_zero,
  n_nat,
  n_exp,
  n_var,
  n_app,
  n_proj1,
  n_proj2,
  n_ind,
  n_appabs,
  n_appcong,
  n_projpair1,
  n_projpair2,
  n_projcong1,
  n_projcong2,
  n_indzero,
  n_indsuc,
  n_indcong,
  e_indzero_cited,
  e_indsuc_cited,
}
use Rattle.rules.specs.RuleTable.{rule_count, FitsRow, Adds, counted_from, conclusion_form, premise_count, premise_form, added_entries}

-- the added entries of a premise, named
more : {G : Context} (new : Context) → Adds (new ++ G) G (length new)
more new = record { new = new; many = refl; joined = refl }

same : {G : Context} → Adds G G 0
same = more []

-- premise after premise: forms and added entries, as functions of the place
abbrev Premises : (forms added : ℕ → ℕ) → Context → List Judgment → Type 0
Premises forms added G [] = Unit {0}
Premises forms added G (p ∷ ps) =
    (form p ≡ forms 0) × Adds (context_of p) G (added 0) × Premises (λ j. forms (suc j)) (λ j. added (suc j)) G ps

at : (forms added : ℕ → ℕ) (G : Context) (d : Judgment) (ps : List Judgment) → Premises forms added G ps
    → (j : ℕ) → j < length ps → (form (get_or ps j d) ≡ forms j) × Adds (context_of (get_or ps j d)) G (added j)
at forms added G d [] h j l = absurd (not-suc-le-zero l)
at forms added G d (p ∷ ps) h zero l = (h.0, h.1)
at forms added G d (p ∷ ps) h (suc j) l =
    at (λ j. forms (suc j)) (λ j. added (suc j)) G d ps h.2 j (le_of_suc-le-suc l)

fit : {rule : ℕ} {ps : List Judgment} {c : Judgment} → T (leb 1 rule) → T (leb rule rule_count)
    → form c ≡ conclusion_form rule → length ps ≡ premise_count rule
    → Premises (premise_form rule) (added_entries rule) (counted_from rule (context_of c)) ps → FitsRow rule ps c
fit {rule} {ps} {c} s t e l h = record {
  known = (lit≤ s, lit≤ t);
  concludes = e;
  count = l;
  forms = λ j m. (every j m).0;
  added = λ j m. (every j m).1;
}
  where
    every : (j : ℕ) → j < length ps
        → (form (get_or ps j c) ≡ premise_form rule j) × Adds (context_of (get_or ps j c)) (counted_from rule (context_of c)) (added_entries rule j)
    every = at (premise_form rule) (added_entries rule) (counted_from rule (context_of c)) c ps h

pub row_fits : {n : ℕ} {ps : List Judgment} {c : Judgment} → Instance n ps c → FitsRow n ps c
unfolding conclusion_form premise_count premise_form added_entries counted_from form context_of
row_fits wf_nil = fit tt tt refl refl tt
row_fits (wf_cons G A i) = fit tt tt refl refl (refl, same, (refl, same, tt))
row_fits (wt_var G A x e) = fit tt tt refl refl (refl, same, tt)
row_fits (wt_pi G A B i) = fit tt tt refl refl (refl, same, (refl, more (A ∷ []), tt))
row_fits (wt_abs G A B b) = fit tt tt refl refl (refl, more (A ∷ []), tt)
row_fits (wt_app G A B a b) = fit tt tt refl refl (refl, same, (refl, same, tt))
row_fits (wt_univ G i) = fit tt tt refl refl (refl, same, tt)
row_fits (wt_sig G A B i) = fit tt tt refl refl (refl, same, (refl, more (A ∷ []), tt))
row_fits (wt_pair G A B a b i) = fit tt tt refl refl (refl, same, (refl, same, (refl, same, tt)))
row_fits (wt_proj1 G A B a) = fit tt tt refl refl (refl, same, tt)
row_fits (wt_proj2 G A B a) = fit tt tt refl refl (refl, same, tt)
row_fits (wt_nat G i) = fit tt tt refl refl (refl, same, tt)
row_fits (wt_zero G) = fit tt tt refl refl (refl, same, tt)
row_fits (wt_succ G a) = fit tt tt refl refl (refl, same, tt)
row_fits (wt_ind G P a b c i) = fit tt tt refl refl (refl, more (nat ∷ []), (refl, same, (refl, same, (refl, more (P ∷ nat ∷ []), tt))))
row_fits (wt_conv G A B a) = fit tt tt refl refl (refl, same, (refl, same, tt))
row_fits (e_refl G A a) = fit tt tt refl refl (refl, same, tt)
row_fits (e_sym G A a b) = fit tt tt refl refl (refl, same, tt)
row_fits (e_trans G A a b c) = fit tt tt refl refl (refl, same, (refl, same, tt))
row_fits (e_pi G A₀ A₁ B₀ B₁ i) = fit tt tt refl refl (refl, same, (refl, more (A₀ ∷ []), tt))
row_fits (e_absext G A B a b) = fit tt tt refl refl (refl, more (A ∷ []), tt)
row_fits (e_app G A B a₀ a₁ b₀ b₁) = fit tt tt refl refl (refl, same, (refl, same, tt))
row_fits (e_sig G A₀ A₁ B₀ B₁ i) = fit tt tt refl refl (refl, same, (refl, more (A₀ ∷ []), tt))
row_fits (e_pairext G A B a b) = fit tt tt refl refl (refl, same, (refl, same, tt))
row_fits (e_proj1 G A B a b) = fit tt tt refl refl (refl, same, tt)
row_fits (e_proj2 G A B a b) = fit tt tt refl refl (refl, same, tt)
row_fits (e_suc G a b) = fit tt tt refl refl (refl, same, tt)
row_fits (e_ind G P₀ P₁ a₀ a₁ b₀ b₁ c₀ c₁ i) = fit tt tt refl refl (refl, more (nat ∷ []), (refl, same, (refl, same, (refl, more (P₀ ∷ nat ∷ []), tt))))
row_fits (e_conv G A B a b) = fit tt tt refl refl (refl, same, (refl, same, tt))
row_fits (e_appabs G A B a b) = fit tt tt refl refl (refl, same, (refl, more (A ∷ []), tt))
row_fits (e_projpair1 G A B a b i) = fit tt tt refl refl (refl, same, (refl, same, (refl, same, tt)))
row_fits (e_projpair2 G A B a b i) = fit tt tt refl refl (refl, same, (refl, same, (refl, same, tt)))
row_fits (e_indzero G P b c) = fit tt tt refl refl (refl, same, (refl, more (P ∷ nat ∷ []), tt))
row_fits (e_indsuc G P a b c) = fit tt tt refl refl (refl, same, (refl, same, (refl, more (P ∷ nat ∷ []), tt)))
row_fits (l_trans G A B C) = fit tt tt refl refl (refl, same, (refl, same, tt))
row_fits (l_eq G A B i) = fit tt tt refl refl (refl, same, tt)
row_fits (l_univ G i j l) = fit tt tt refl refl (refl, same, tt)
row_fits (l_pi G A₀ A₁ B₀ B₁) = fit tt tt refl refl (refl, same, (refl, more (A₀ ∷ []), tt))
row_fits (l_pi_smaller G A₀ A₁ B₀ B₁) = fit tt tt refl refl (refl, same, (refl, more (A₁ ∷ []), tt))
row_fits (l_sig G A₀ A₁ B₀ B₁) = fit tt tt refl refl (refl, same, (refl, more (A₁ ∷ []), tt))
row_fits (l_piproj1 G A₀ A₁ B₀ B₁) = fit tt tt refl refl (refl, same, tt)
row_fits (l_piproj2 G A₀ A₁ B₀ B₁ a₀ a₁) = fit tt tt refl refl (refl, same, (refl, same, tt))
row_fits (l_sigproj1 G A₀ A₁ B₀ B₁) = fit tt tt refl refl (refl, same, tt)
row_fits (l_sigproj2 G A₀ A₁ B₀ B₁ a₀ a₁) = fit tt tt refl refl (refl, same, (refl, same, tt))
row_fits (n_abs b) = fit tt tt refl refl (refl, same, tt)
row_fits (n_pair a b) = fit tt tt refl refl (refl, same, (refl, same, tt))
row_fits (n_pi A B) = fit tt tt refl refl (refl, same, (refl, same, tt))
row_fits (n_sig A B) = fit tt tt refl refl (refl, same, (refl, same, tt))
row_fits (n_succ a) = fit tt tt refl refl (refl, same, tt)
row_fits (n_univ i) = fit tt tt refl refl tt
row_fits (n_sne a) = fit tt tt refl refl (refl, same, tt)
row_fits n_zero = fit tt tt refl refl tt
row_fits n_nat = fit tt tt refl refl tt
row_fits (n_exp a b) = fit tt tt refl refl (refl, same, (refl, same, tt))
row_fits (n_var x) = fit tt tt refl refl tt
row_fits (n_app a b) = fit tt tt refl refl (refl, same, (refl, same, tt))
row_fits (n_proj1 a) = fit tt tt refl refl (refl, same, tt)
row_fits (n_proj2 a) = fit tt tt refl refl (refl, same, tt)
row_fits (n_ind P a b c) = fit tt tt refl refl (refl, same, (refl, same, (refl, same, (refl, same, tt))))
row_fits (n_appabs a b) = fit tt tt refl refl (refl, same, tt)
row_fits (n_appcong a₀ a₁ b) = fit tt tt refl refl (refl, same, (refl, same, tt))
row_fits (n_projpair1 a b) = fit tt tt refl refl (refl, same, tt)
row_fits (n_projpair2 a b) = fit tt tt refl refl (refl, same, tt)
row_fits (n_projcong1 a b) = fit tt tt refl refl (refl, same, tt)
row_fits (n_projcong2 a b) = fit tt tt refl refl (refl, same, tt)
row_fits (n_indzero P b c) = fit tt tt refl refl (refl, same, (refl, same, (refl, same, tt)))
row_fits (n_indsuc P a b c) = fit tt tt refl refl (refl, same, (refl, same, (refl, same, (refl, same, tt))))
row_fits (n_indcong P a₀ a₁ b c) = fit tt tt refl refl (refl, same, (refl, same, (refl, same, (refl, same, tt))))
row_fits (e_indzero_cited G P b c i) =
    fit tt tt refl refl (refl, more (nat ∷ []), (refl, same, (refl, more (P ∷ nat ∷ []), tt)))
row_fits (e_indsuc_cited G P a b c i) =
    fit tt tt refl refl (refl, more (nat ∷ []), (refl, same, (refl, same, (refl, more (P ∷ nat ∷ []), tt))))
