-- Whether a judgment is the conclusion of an instance of rule n with given premises, decided by computation: document
-- 01, check 10. The type of `instance?` says all. It reads the rule's letters off the judgments, makes the one instance
-- of the rule that has these letters, and compares that instance with the judgments. Which of rule 38's two readings is
-- made is told by the second premise's context.
use Rattle.std.specs.Prelude.{◌≡◌, refl, List, [], ◌∷◌, ℕ, zero, suc, ◌≤◌, get_or}
use Rattle.std.proofs.Common.{sym, ap, subst}
use Rattle.std.proofs.Math.Path.{subst₃}
use Rattle.std.proofs.Math.Option.{Option, none, some}
use Rattle.std.proofs.Math.Decide.{ℕ_discrete, dec_le}
use Rattle.terms.specs.Term.{Term, var, univ, pi}
use Rattle.terms.specs.Substitution.{shift, ◌⟨◌⟩, on_succ, on_both}
use Rattle.terms.specs.Tag.{number_in, child}
use Rattle.rules.specs.Judgment.{Context, Judgment, wf, typed, sub, context_of, s1, s2, s3, term?, list?, judgment?}
use Rattle.rules.specs.Instance.{
  Entry,
  here,
  there,
  Instance,
  wf_nil,
  wf_cons,
  wt_var,
  wt_pi,
  wt_abs,
  wt_app,
  wt_univ,
  wt_sig,
  wt_pair,
  wt_proj1,
  wt_proj2,
  wt_nat,
  wt_zero,
  wt_succ,
  wt_ind,
  wt_conv,
  e_refl,
  e_sym,
  e_trans,
  e_pi,
  e_absext,
  e_app,
  e_sig,
  e_pairext,
  e_proj1,
  e_proj2,
  e_suc,
  e_ind,
  e_conv,
  e_appabs,
  e_projpair1,
  e_projpair2,
  e_indzero,
  e_indsuc,
  l_trans,
  l_eq,
  l_univ,
  l_pi,
  l_pi_smaller,
  l_sig,
  l_piproj1,
  l_piproj2,
  l_sigproj1,
  l_sigproj2,
  n_abs,
  n_pair,
  n_pi,
  n_sig,
  n_succ,
  n_univ,
  n_sne,
  n_zero,
  n_nat,
  n_exp,
  n_var,
  n_app,
  n_proj1,
  n_proj2,
  n_ind,
  n_appabs,
  n_appcong,
  n_projpair1,
  n_projpair2,
  n_projcong1,
  n_projcong2,
  n_indzero,
  n_indsuc,
  n_indcong,
  e_indzero_cited,
  e_indsuc_cited,
}

-- an instance with its rule, premises and conclusion
abbrev pub Candidate : Type 0
Candidate = record { number : ℕ; premises : List Judgment; conclusion : Judgment; holds : Instance number premises conclusion }

abbrev found : {n : ℕ} {ps : List Judgment} {c : Judgment} → Instance n ps c → Candidate
found {n} {ps} {c} i = record { number = n; premises = ps; conclusion = c; holds = i }

abbrev pub Matches : ℕ → List Judgment → Judgment → Candidate → Type 0
Matches n ps c k = (k.number ≡ n) × (k.premises ≡ ps) × (k.conclusion ≡ c)

-- Rule 3's condition, x : A in G. Where it fails there is no instance of the rule, and one of rule 1 stands in: its
-- number differs.
deeper : {G : Context} {B : Term} {x : ℕ} → Option ((A : Term) × Entry G x A) → Option ((A : Term) × Entry (B ∷ G) (suc x) A)
deeper none = none
deeper (some e) = some (e.0, there e.1)

entry_at : (G : Context) (x : ℕ) → Option ((A : Term) × Entry G x A)
unfolding deeper
entry_at [] x = none
entry_at (A ∷ G) zero = some (A, here)
entry_at (B ∷ G) (suc x) = deeper (entry_at G x)

at_entry : {G : Context} {A : Term} {x : ℕ} (e : Entry G x A) → entry_at G x ≡ some (A, e)
unfolding entry_at
at_entry here = refl
at_entry (there e) = ap deeper (at_entry e)

variable : {G : Context} {x : ℕ} → Option ((A : Term) × Entry G x A) → Candidate
variable none = found wf_nil
variable {G} {x} (some e) = found (wt_var G e.0 x e.1)

variable_same : {G : Context} {A : Term} {x : ℕ} → Entry G x A
    → Matches 3 (wf G ∷ []) (typed G (var x) (shift 0 (suc x) A)) (variable (entry_at G x))
unfolding variable at_entry
variable_same {G} {A} {x} e =
    subst (λ o. Matches 3 (wf G ∷ []) (typed G (var x) (shift 0 (suc x) A)) (variable o)) (sym (at_entry e)) (refl, refl, refl)

-- rule 37's condition, i ≤ j, likewise
levels : {i j : ℕ} → Context → Dec (i ≤ j) → Candidate
levels {i} {j} G (yes l) = found (l_univ G i j l)
levels G (no q) = found wf_nil

levels_same : (G : Context) {i j : ℕ} → i ≤ j → (d : Dec (i ≤ j)) → Matches 37 (wf G ∷ []) (sub G (univ i) (univ j)) (levels G d)
unfolding levels
levels_same G l (yes m) = (refl, refl, refl)
levels_same G l (no q) = absurd (q l)

-- rule 38's two readings: the printed one if the second premise, in H, stands under A₀, else the one under A₁
domains : {H : Context} (G : Context) (A₀ A₁ B₀ B₁ : Term) → Dec (H ≡ A₀ ∷ G) → Candidate
domains G A₀ A₁ B₀ B₁ (yes e) = found (l_pi G A₀ A₁ B₀ B₁)
domains G A₀ A₁ B₀ B₁ (no q) = found (l_pi_smaller G A₀ A₁ B₀ B₁)

printed_same : (G : Context) (A₀ A₁ B₀ B₁ : Term) (d : Dec (◌≡◌ {A = Context} (A₀ ∷ G) (A₀ ∷ G)))
    → Matches 38 (sub G A₁ A₀ ∷ sub (A₀ ∷ G) B₀ B₁ ∷ []) (sub G (pi A₀ B₀) (pi A₁ B₁)) (domains G A₀ A₁ B₀ B₁ d)
unfolding domains
printed_same G A₀ A₁ B₀ B₁ (yes e) = (refl, refl, refl)
printed_same G A₀ A₁ B₀ B₁ (no q) = absurd (q refl)

-- where A₀ is A₁ the printed reading is found, with the same premises
smaller_same : (G : Context) (A₀ A₁ B₀ B₁ : Term) (d : Dec (◌≡◌ {A = Context} (A₁ ∷ G) (A₀ ∷ G)))
    → Matches 38 (sub G A₁ A₀ ∷ sub (A₁ ∷ G) B₀ B₁ ∷ []) (sub G (pi A₀ B₀) (pi A₁ B₁)) (domains G A₀ A₁ B₀ B₁ d)
unfolding domains
smaller_same G A₀ A₁ B₀ B₁ (yes e) = (refl, ap (λ H. sub G A₁ A₀ ∷ sub H B₀ B₁ ∷ []) (sym e), refl)
smaller_same G A₀ A₁ B₀ B₁ (no q) = (refl, refl, refl)

-- For each number from 0, which is no rule: the candidate, from the conclusion c and the premises p, q, r, s.
-- Functions, so that only the one that is asked for is computed.
candidates : List (Judgment → Judgment → Judgment → Judgment → Judgment → Candidate)
unfolding variable entry_at levels domains dec_le context_of s1 s2 s3 term? list? number_in child
candidates =
    (λ c p q r s. found wf_nil) ∷
    (λ c p q r s. found wf_nil) ∷
    (λ c p q r s. found (wf_cons (context_of p) (s1 q) (number_in (s3 q)))) ∷
    (λ c p q r s. variable (entry_at (context_of c) (number_in (s1 c)))) ∷
    (λ c p q r s. found (wt_pi (context_of c) (s1 p) (s1 q) (number_in (s3 c)))) ∷
    (λ c p q r s. found (wt_abs (context_of c) (child (s3 c) 1) (s3 p) (s1 p))) ∷
    (λ c p q r s. found (wt_app (context_of c) (s3 q) (child (s3 p) 2) (s1 q) (s1 p))) ∷
    (λ c p q r s. found (wt_univ (context_of c) (number_in (s1 c)))) ∷
    (λ c p q r s. found (wt_sig (context_of c) (s1 p) (s1 q) (number_in (s3 c)))) ∷
    (λ c p q r s. found (wt_pair (context_of c) (s3 p) (child (s3 c) 2) (s1 p) (s1 q) (number_in (s3 r)))) ∷
    (λ c p q r s. found (wt_proj1 (context_of c) (s3 c) (child (s3 p) 2) (s1 p))) ∷
    (λ c p q r s. found (wt_proj2 (context_of c) (child (s3 p) 1) (child (s3 p) 2) (s1 p))) ∷
    (λ c p q r s. found (wt_nat (context_of c) (number_in (s3 c)))) ∷
    (λ c p q r s. found (wt_zero (context_of c))) ∷
    (λ c p q r s. found (wt_succ (context_of c) (s1 p))) ∷
    (λ c p q r s. found (wt_ind (context_of c) (s1 p) (s1 q) (s1 r) (s1 s) (number_in (s3 p)))) ∷
    (λ c p q r s. found (wt_conv (context_of c) (s1 q) (s2 q) (s1 p))) ∷
    (λ c p q r s. found (e_refl (context_of c) (s3 c) (s1 c))) ∷
    (λ c p q r s. found (e_sym (context_of c) (s3 c) (s1 c) (s2 c))) ∷
    (λ c p q r s. found (e_trans (context_of c) (s3 c) (s1 p) (s2 p) (s2 q))) ∷
    (λ c p q r s. found (e_pi (context_of c) (s1 p) (s2 p) (s1 q) (s2 q) (number_in (s3 c)))) ∷
    (λ c p q r s. found (e_absext (context_of c) (child (s3 c) 1) (s3 p) (s1 c) (s2 c))) ∷
    (λ c p q r s. found (e_app (context_of c) (s3 q) (child (s3 p) 2) (s1 q) (s2 q) (s1 p) (s2 p))) ∷
    (λ c p q r s. found (e_sig (context_of c) (s1 p) (s2 p) (s1 q) (s2 q) (number_in (s3 c)))) ∷
    (λ c p q r s. found (e_pairext (context_of c) (s3 p) (child (s3 c) 2) (s1 c) (s2 c))) ∷
    (λ c p q r s. found (e_proj1 (context_of c) (s3 c) (child (s3 p) 2) (s1 p) (s2 p))) ∷
    (λ c p q r s. found (e_proj2 (context_of c) (child (s3 p) 1) (child (s3 p) 2) (s1 p) (s2 p))) ∷
    (λ c p q r s. found (e_suc (context_of c) (s1 p) (s2 p))) ∷
    (λ c p q r s. found (e_ind (context_of c) (s1 p) (s2 p) (s1 q) (s2 q) (s1 r) (s2 r) (s1 s) (s2 s) (number_in (s3 p)))) ∷
    (λ c p q r s. found (e_conv (context_of c) (s1 q) (s2 q) (s1 p) (s2 p))) ∷
    (λ c p q r s. found (e_appabs (context_of c) (s3 p) (s3 q) (s1 q) (s1 p))) ∷
    (λ c p q r s. found (e_projpair1 (context_of c) (s3 p) (child (s1 r) 2) (s1 p) (s1 q) (number_in (s3 r)))) ∷
    (λ c p q r s. found (e_projpair2 (context_of c) (s3 p) (child (s1 r) 2) (s1 p) (s1 q) (number_in (s3 r)))) ∷
    (λ c p q r s. found (e_indzero (context_of c) (child (s1 c) 1) (s1 p) (s1 q))) ∷
    (λ c p q r s. found (e_indsuc (context_of c) (child (s1 c) 1) (s1 p) (s1 q) (s1 r))) ∷
    (λ c p q r s. found (l_trans (context_of c) (s1 p) (s2 p) (s2 q))) ∷
    (λ c p q r s. found (l_eq (context_of c) (s1 c) (s2 c) (number_in (s3 p)))) ∷
    (λ c p q r s. levels (context_of c) (dec_le (number_in (s1 c)) (number_in (s2 c)))) ∷
    (λ c p q r s. domains (context_of c) (s2 p) (s1 p) (s1 q) (s2 q) (list? term? (context_of q) (s2 p ∷ context_of c))) ∷
    (λ c p q r s. found (l_sig (context_of c) (s1 p) (s2 p) (s1 q) (s2 q))) ∷
    (λ c p q r s. found (l_piproj1 (context_of c) (s2 c) (s1 c) (child (s1 p) 2) (child (s2 p) 2))) ∷
    (λ c p q r s. found (l_piproj2 (context_of c) (child (s1 p) 1) (s3 q) (child (s1 p) 2) (child (s2 p) 2) (s1 q) (s2 q))) ∷
    (λ c p q r s. found (l_sigproj1 (context_of c) (s1 c) (s2 c) (child (s1 p) 2) (child (s2 p) 2))) ∷
    (λ c p q r s. found (l_sigproj2 (context_of c) (s3 q) (child (s2 p) 1) (child (s1 p) 2) (child (s2 p) 2) (s1 q) (s2 q))) ∷
    (λ c p q r s. found (n_abs (s1 p))) ∷
    (λ c p q r s. found (n_pair (s1 p) (s1 q))) ∷
    (λ c p q r s. found (n_pi (s1 p) (s1 q))) ∷
    (λ c p q r s. found (n_sig (s1 p) (s1 q))) ∷
    (λ c p q r s. found (n_succ (s1 p))) ∷
    (λ c p q r s. found (n_univ (number_in (s1 c)))) ∷
    (λ c p q r s. found (n_sne (s1 c))) ∷
    (λ c p q r s. found n_zero) ∷
    (λ c p q r s. found n_nat) ∷
    (λ c p q r s. found (n_exp (s1 p) (s2 p))) ∷
    (λ c p q r s. found (n_var (number_in (s1 c)))) ∷
    (λ c p q r s. found (n_app (s1 p) (s1 q))) ∷
    (λ c p q r s. found (n_proj1 (s1 p))) ∷
    (λ c p q r s. found (n_proj2 (s1 p))) ∷
    (λ c p q r s. found (n_ind (s1 p) (s1 q) (s1 r) (s1 s))) ∷
    (λ c p q r s. found (n_appabs (child (child (s1 c) 1) 1) (s1 p))) ∷
    (λ c p q r s. found (n_appcong (s1 q) (s2 q) (s1 p))) ∷
    (λ c p q r s. found (n_projpair1 (s2 c) (s1 p))) ∷
    (λ c p q r s. found (n_projpair2 (s1 p) (s2 c))) ∷
    (λ c p q r s. found (n_projcong1 (s1 p) (s2 p))) ∷
    (λ c p q r s. found (n_projcong2 (s1 p) (s2 p))) ∷
    (λ c p q r s. found (n_indzero (s1 p) (s1 q) (s1 r))) ∷
    (λ c p q r s. found (n_indsuc (s1 p) (s1 q) (s1 r) (s1 s))) ∷
    (λ c p q r s. found (n_indcong (s1 p) (s1 s) (s2 s) (s1 q) (s1 r))) ∷
    (λ c p q r s. found (e_indzero_cited (context_of c) (s1 p) (s1 q) (s1 r) (number_in (s3 p)))) ∷
    (λ c p q r s. found (e_indsuc_cited (context_of c) (s1 p) (s1 q) (s1 r) (s1 s) (number_in (s3 p)))) ∷
    []

-- the instance of rule n whose letters are read off these judgments; past the last rule again one of rule 1
unfoldable pub nearest : ℕ → List Judgment → Judgment → Candidate
unfolding candidates
nearest n ps c = get_or candidates n (λ c p q r s. found wf_nil) c (get_or ps 0 c) (get_or ps 1 c) (get_or ps 2 c) (get_or ps 3 c)

-- an instance is its own candidate: its letters are read off right
pub same : {n : ℕ} {ps : List Judgment} {c : Judgment} → Instance n ps c → Matches n ps c (nearest n ps c)
unfolding nearest variable_same levels_same printed_same smaller_same
same wf_nil = (refl, refl, refl)
same (wf_cons G A i) = (refl, refl, refl)
same (wt_var G A x e) = variable_same e
same (wt_pi G A B i) = (refl, refl, refl)
same (wt_abs G A B b) = (refl, refl, refl)
same (wt_app G A B a b) = (refl, refl, refl)
same (wt_univ G i) = (refl, refl, refl)
same (wt_sig G A B i) = (refl, refl, refl)
same (wt_pair G A B a b i) = (refl, refl, refl)
same (wt_proj1 G A B a) = (refl, refl, refl)
same (wt_proj2 G A B a) = (refl, refl, refl)
same (wt_nat G i) = (refl, refl, refl)
same (wt_zero G) = (refl, refl, refl)
same (wt_succ G a) = (refl, refl, refl)
same (wt_ind G P a b c i) = (refl, refl, refl)
same (wt_conv G A B a) = (refl, refl, refl)
same (e_refl G A a) = (refl, refl, refl)
same (e_sym G A a b) = (refl, refl, refl)
same (e_trans G A a b c) = (refl, refl, refl)
same (e_pi G A₀ A₁ B₀ B₁ i) = (refl, refl, refl)
same (e_absext G A B a b) = (refl, refl, refl)
same (e_app G A B a₀ a₁ b₀ b₁) = (refl, refl, refl)
same (e_sig G A₀ A₁ B₀ B₁ i) = (refl, refl, refl)
same (e_pairext G A B a b) = (refl, refl, refl)
same (e_proj1 G A B a b) = (refl, refl, refl)
same (e_proj2 G A B a b) = (refl, refl, refl)
same (e_suc G a b) = (refl, refl, refl)
same (e_ind G P₀ P₁ a₀ a₁ b₀ b₁ c₀ c₁ i) = (refl, refl, refl)
same (e_conv G A B a b) = (refl, refl, refl)
same (e_appabs G A B a b) = (refl, refl, refl)
same (e_projpair1 G A B a b i) = (refl, refl, refl)
same (e_projpair2 G A B a b i) = (refl, refl, refl)
same (e_indzero G P b c) = (refl, refl, refl)
same (e_indsuc G P a b c) = (refl, refl, refl)
same (l_trans G A B C) = (refl, refl, refl)
same (l_eq G A B i) = (refl, refl, refl)
same (l_univ G i j l) = levels_same G l (dec_le i j)
same (l_pi G A₀ A₁ B₀ B₁) = printed_same G A₀ A₁ B₀ B₁ (list? term? (A₀ ∷ G) (A₀ ∷ G))
same (l_pi_smaller G A₀ A₁ B₀ B₁) = smaller_same G A₀ A₁ B₀ B₁ (list? term? (A₁ ∷ G) (A₀ ∷ G))
same (l_sig G A₀ A₁ B₀ B₁) = (refl, refl, refl)
same (l_piproj1 G A₀ A₁ B₀ B₁) = (refl, refl, refl)
same (l_piproj2 G A₀ A₁ B₀ B₁ a₀ a₁) = (refl, refl, refl)
same (l_sigproj1 G A₀ A₁ B₀ B₁) = (refl, refl, refl)
same (l_sigproj2 G A₀ A₁ B₀ B₁ a₀ a₁) = (refl, refl, refl)
same (n_abs b) = (refl, refl, refl)
same (n_pair a b) = (refl, refl, refl)
same (n_pi A B) = (refl, refl, refl)
same (n_sig A B) = (refl, refl, refl)
same (n_succ a) = (refl, refl, refl)
same (n_univ i) = (refl, refl, refl)
same (n_sne a) = (refl, refl, refl)
same n_zero = (refl, refl, refl)
same n_nat = (refl, refl, refl)
same (n_exp a b) = (refl, refl, refl)
same (n_var x) = (refl, refl, refl)
same (n_app a b) = (refl, refl, refl)
same (n_proj1 a) = (refl, refl, refl)
same (n_proj2 a) = (refl, refl, refl)
same (n_ind P a b c) = (refl, refl, refl)
same (n_appabs a b) = (refl, refl, refl)
same (n_appcong a₀ a₁ b) = (refl, refl, refl)
same (n_projpair1 a b) = (refl, refl, refl)
same (n_projpair2 a b) = (refl, refl, refl)
same (n_projcong1 a b) = (refl, refl, refl)
same (n_projcong2 a b) = (refl, refl, refl)
same (n_indzero P b c) = (refl, refl, refl)
same (n_indsuc P a b c) = (refl, refl, refl)
same (n_indcong P a₀ a₁ b c) = (refl, refl, refl)
same (e_indzero_cited G P b c i) = (refl, refl, refl)
same (e_indsuc_cited G P a b c i) = (refl, refl, refl)

decide : {n : ℕ} {ps : List Judgment} {c : Judgment} (k : Candidate) → (Instance n ps c → Matches n ps c k)
    → Dec (k.number ≡ n) → Dec (k.premises ≡ ps) → Dec (k.conclusion ≡ c) → Dec (Instance n ps c)
decide k h (yes e) (yes f) (yes g) = yes (subst₃ Instance e f g k.holds)
decide k h (yes e) (yes f) (no g) = no (λ i. g (h i).2)
decide k h (yes e) (no f) g = no (λ i. f (h i).1)
decide k h (no e) f g = no (λ i. e (h i).0)

unfoldable pub instance? : (n : ℕ) (ps : List Judgment) (c : Judgment) → Dec (Instance n ps c)
unfolding nearest same decide list? judgment? ℕ_discrete shift ◌⟨◌⟩ on_succ on_both
instance? n ps c =
    let k : Candidate = nearest n ps c in
    decide k same (ℕ_discrete k.number n) (list? judgment? k.premises ps) (judgment? k.conclusion c)
