-- The 67 rules, a constructor each, named, numbered and ordered as printed: 1 to 43 are sections 1 and 2 of source
-- document 000 as document 01 amends them, rule 38 with two, one a reading (document 02, A3); 44 to 67 are section 4
-- (document 02, A5). Numbers 68 and 69 are rules 33 and 34 as edition 3 states them (document 02, A10).
-- `Instance n premises conclusion` is an instance of the rule that row n of the rule table is for; its premises stand
-- left to right as printed. A constructor takes the context (44 to 67 take none), then the rule's letters, capitals
-- first, each in the order of the alphabet; conditions come last.
use Rattle.std.specs.Prelude.{List, [], ◌∷◌, ℕ, zero, suc, ◌≤◌}
use Rattle.terms.specs.Term.{Term, var, univ, pi, lam, app, sigma, pair, first, second, nat, zer, succ, ind}
use Rattle.terms.specs.Substitution.{shift, ◌⟨◌⟩, on_succ, on_both}
use Rattle.rules.specs.Judgment.{Context, Judgment, wf, typed, equal, sub, normal, neutral, steps}

-- x : A in G. The variable x is the entry that x others are nearer than.
pub data Entry : Context → ℕ → Term → Type 0 where
  here : {G : Context} {A : Term} → Entry (A ∷ G) zero A
  there : {G : Context} {A B : Term} {x : ℕ} → Entry G x A → Entry (B ∷ G) (suc x) A

pub data Instance : ℕ → List Judgment → Judgment → Type 0 where
  -- Contexts, form 0. "x not in G" is built into the indices.
  wf_nil : Instance 1 [] (wf [])
  wf_cons : (G : Context) (A : Term) (i : ℕ)
      → Instance 2 (wf G ∷ typed G A (univ i) ∷ []) (wf (A ∷ G))
  -- Typing, form 1.
  -- amended: the entry's type is raised past the entries from it on; that x : A is in G is a condition, no premise
  wt_var : (G : Context) (A : Term) (x : ℕ) → Entry G x A
      → Instance 3 (wf G ∷ []) (typed G (var x) (shift 0 (suc x) A))
  wt_pi : (G : Context) (A B : Term) (i : ℕ)
      → Instance 4 (typed G A (univ i) ∷ typed (A ∷ G) B (univ i) ∷ []) (typed G (pi A B) (univ i))
  wt_abs : (G : Context) (A B b : Term)
      → Instance 5 (typed (A ∷ G) b B ∷ []) (typed G (lam b) (pi A B))
  wt_app : (G : Context) (A B a b : Term)
      → Instance 6 (typed G b (pi A B) ∷ typed G a A ∷ []) (typed G (app b a) (B ⟨ a ⟩))
  wt_univ : (G : Context) (i : ℕ)
      → Instance 7 (wf G ∷ []) (typed G (univ i) (univ (suc i)))
  wt_sig : (G : Context) (A B : Term) (i : ℕ)
      → Instance 8 (typed G A (univ i) ∷ typed (A ∷ G) B (univ i) ∷ []) (typed G (sigma A B) (univ i))
  wt_pair : (G : Context) (A B a b : Term) (i : ℕ)
      → Instance 9 (typed G a A ∷ typed G b (B ⟨ a ⟩) ∷ typed G (sigma A B) (univ i) ∷ []) (typed G (pair a b) (sigma A B))
  wt_proj1 : (G : Context) (A B a : Term)
      → Instance 10 (typed G a (sigma A B) ∷ []) (typed G (first a) A)
  wt_proj2 : (G : Context) (A B a : Term)
      → Instance 11 (typed G a (sigma A B) ∷ []) (typed G (second a) (B ⟨ first a ⟩))
  -- amended: what stands above the misplaced bar of 12, 13 and 14 is a premise
  wt_nat : (G : Context) (i : ℕ)
      → Instance 12 (wf G ∷ []) (typed G nat (univ i))
  wt_zero : (G : Context)
      → Instance 13 (wf G ∷ []) (typed G zer nat)
  wt_succ : (G : Context) (a : Term)
      → Instance 14 (typed G a nat ∷ []) (typed G (succ a) nat)
  -- amended: the last premise types c, printed b1, and the conclusion's type is P[a], printed A[a]
  wt_ind : (G : Context) (P a b c : Term) (i : ℕ)
      → Instance 15
      (typed (nat ∷ G) P (univ i) ∷ typed G a nat ∷ typed G b (P ⟨ zer ⟩) ∷ typed (P ∷ nat ∷ G) c (on_succ P) ∷ [])
      (typed G (ind P a b c) (P ⟨ a ⟩))
  -- amended: absent in print
  wt_conv : (G : Context) (A B a : Term)
      → Instance 16 (typed G a A ∷ sub G A B ∷ []) (typed G a B)
  -- Equality, form 2.
  -- amended: what stands above the misplaced bar of 17, 18, 25 and 27 is a premise
  e_refl : (G : Context) (A a : Term)
      → Instance 17 (typed G a A ∷ []) (equal G a a A)
  e_sym : (G : Context) (A a b : Term)
      → Instance 18 (equal G b a A ∷ []) (equal G a b A)
  e_trans : (G : Context) (A a b c : Term)
      → Instance 19 (equal G a b A ∷ equal G b c A ∷ []) (equal G a c A)
  e_pi : (G : Context) (A₀ A₁ B₀ B₁ : Term) (i : ℕ)
      → Instance 20 (equal G A₀ A₁ (univ i) ∷ equal (A₀ ∷ G) B₀ B₁ (univ i) ∷ []) (equal G (pi A₀ B₀) (pi A₁ B₁) (univ i))
  -- amended: a and b stand in the premise raised by 1; that raising is what "x not in G" asks, so no condition is left
  e_absext : (G : Context) (A B a b : Term)
      → Instance 21 (equal (A ∷ G) (app (shift 0 1 a) (var 0)) (app (shift 0 1 b) (var 0)) B ∷ []) (equal G a b (pi A B))
  e_app : (G : Context) (A B a₀ a₁ b₀ b₁ : Term)
      → Instance 22 (equal G b₀ b₁ (pi A B) ∷ equal G a₀ a₁ A ∷ []) (equal G (app b₀ a₀) (app b₁ a₁) (B ⟨ a₀ ⟩))
  e_sig : (G : Context) (A₀ A₁ B₀ B₁ : Term) (i : ℕ)
      → Instance 23 (equal G A₀ A₁ (univ i) ∷ equal (A₀ ∷ G) B₀ B₁ (univ i) ∷ []) (equal G (sigma A₀ B₀) (sigma A₁ B₁) (univ i))
  e_pairext : (G : Context) (A B a b : Term)
      → Instance 24 (equal G (first a) (first b) A ∷ equal G (second a) (second b) (B ⟨ first a ⟩) ∷ []) (equal G a b (sigma A B))
  e_proj1 : (G : Context) (A B a b : Term)
      → Instance 25 (equal G a b (sigma A B) ∷ []) (equal G (first a) (first b) A)
  -- at first a, neither second a nor first b
  e_proj2 : (G : Context) (A B a b : Term)
      → Instance 26 (equal G a b (sigma A B) ∷ []) (equal G (second a) (second b) (B ⟨ first a ⟩))
  e_suc : (G : Context) (a b : Term)
      → Instance 27 (equal G a b nat ∷ []) (equal G (succ a) (succ b) nat)
  e_ind : (G : Context) (P₀ P₁ a₀ a₁ b₀ b₁ c₀ c₁ : Term) (i : ℕ)
      → Instance 28
      (equal (nat ∷ G) P₀ P₁ (univ i) ∷ equal G a₀ a₁ nat ∷ equal G b₀ b₁ (P₀ ⟨ zer ⟩) ∷ equal (P₀ ∷ nat ∷ G) c₀ c₁ (on_succ P₀) ∷ [])
      (equal G (ind P₀ a₀ b₀ c₀) (ind P₁ a₁ b₁ c₁) (P₀ ⟨ a₀ ⟩))
  -- amended: printed with A ≤ B below the bar and no conclusion
  e_conv : (G : Context) (A B a b : Term)
      → Instance 29 (equal G a b A ∷ sub G A B ∷ []) (equal G a b B)
  -- amended: printed with a : B below the bar and no conclusion
  e_appabs : (G : Context) (A B a b : Term)
      → Instance 30 (typed G b A ∷ typed (A ∷ G) a B ∷ []) (equal G (app (lam a) b) (a ⟨ b ⟩) (B ⟨ b ⟩))
  -- amended: 31 and 32 have a third premise, in which B is read
  e_projpair1 : (G : Context) (A B a b : Term) (i : ℕ)
      → Instance 31 (typed G a A ∷ typed G b (B ⟨ a ⟩) ∷ typed G (sigma A B) (univ i) ∷ []) (equal G (first (pair a b)) a A)
  e_projpair2 : (G : Context) (A B a b : Term) (i : ℕ)
      → Instance 32 (typed G a A ∷ typed G b (B ⟨ a ⟩) ∷ typed G (sigma A B) (univ i) ∷ []) (equal G (second (pair a b)) b (B ⟨ a ⟩))
  e_indzero : (G : Context) (P b c : Term)
      → Instance 33 (typed G b (P ⟨ zer ⟩) ∷ typed (P ∷ nat ∷ G) c (on_succ P) ∷ []) (equal G (ind P zer b c) b (P ⟨ zer ⟩))
  -- amended: in c, y takes ind P a b c and x takes a, together
  e_indsuc : (G : Context) (P a b c : Term)
      → Instance 34
      (typed G a nat ∷ typed G b (P ⟨ zer ⟩) ∷ typed (P ∷ nat ∷ G) c (on_succ P) ∷ [])
      (equal G (ind P (succ a) b c) (on_both c a (ind P a b c)) (P ⟨ succ a ⟩))
  -- Subtyping, form 3.
  l_trans : (G : Context) (A B C : Term)
      → Instance 35 (sub G A B ∷ sub G B C ∷ []) (sub G A C)
  l_eq : (G : Context) (A B : Term) (i : ℕ)
      → Instance 36 (equal G A B (univ i) ∷ []) (sub G A B)
  -- amended: i ≤ j is a condition, no premise
  l_univ : (G : Context) (i j : ℕ) → i ≤ j
      → Instance 37 (wf G ∷ []) (sub G (univ i) (univ j))
  -- as printed: A₁ ≤ A₀, and the second premise under A₀
  l_pi : (G : Context) (A₀ A₁ B₀ B₁ : Term)
      → Instance 38 (sub G A₁ A₀ ∷ sub (A₀ ∷ G) B₀ B₁ ∷ []) (sub G (pi A₀ B₀) (pi A₁ B₁))
  -- document 02, A3: or the second premise under A₁, the smaller domain
  l_pi_smaller : (G : Context) (A₀ A₁ B₀ B₁ : Term)
      → Instance 38 (sub G A₁ A₀ ∷ sub (A₁ ∷ G) B₀ B₁ ∷ []) (sub G (pi A₀ B₀) (pi A₁ B₁))
  l_sig : (G : Context) (A₀ A₁ B₀ B₁ : Term)
      → Instance 39 (sub G A₀ A₁ ∷ sub (A₁ ∷ G) B₀ B₁ ∷ []) (sub G (sigma A₀ B₀) (sigma A₁ B₁))
  l_piproj1 : (G : Context) (A₀ A₁ B₀ B₁ : Term)
      → Instance 40 (sub G (pi A₀ B₀) (pi A₁ B₁) ∷ []) (sub G A₁ A₀)
  l_piproj2 : (G : Context) (A₀ A₁ B₀ B₁ a₀ a₁ : Term)
      → Instance 41 (sub G (pi A₀ B₀) (pi A₁ B₁) ∷ equal G a₀ a₁ A₁ ∷ []) (sub G (B₀ ⟨ a₀ ⟩) (B₁ ⟨ a₁ ⟩))
  l_sigproj1 : (G : Context) (A₀ A₁ B₀ B₁ : Term)
      → Instance 42 (sub G (sigma A₀ B₀) (sigma A₁ B₁) ∷ []) (sub G A₀ A₁)
  l_sigproj2 : (G : Context) (A₀ A₁ B₀ B₁ a₀ a₁ : Term)
      → Instance 43 (sub G (sigma A₀ B₀) (sigma A₁ B₁) ∷ equal G a₀ a₁ A₀ ∷ []) (sub G (B₀ ⟨ a₀ ⟩) (B₁ ⟨ a₁ ⟩))
  -- Strong normal forms, form 4. Rules 44 to 67 hold in the empty context alone; a part that binds variables is cited
  -- as it stands.
  n_abs : (b : Term)
      → Instance 44 (normal [] b ∷ []) (normal [] (lam b))
  n_pair : (a b : Term)
      → Instance 45 (normal [] a ∷ normal [] b ∷ []) (normal [] (pair a b))
  n_pi : (A B : Term)
      → Instance 46 (normal [] A ∷ normal [] B ∷ []) (normal [] (pi A B))
  n_sig : (A B : Term)
      → Instance 47 (normal [] A ∷ normal [] B ∷ []) (normal [] (sigma A B))
  n_succ : (a : Term)
      → Instance 48 (normal [] a ∷ []) (normal [] (succ a))
  n_univ : (i : ℕ)
      → Instance 49 [] (normal [] (univ i))
  n_sne : (a : Term)
      → Instance 50 (neutral [] a ∷ []) (normal [] a)
  n_zero : Instance 51 [] (normal [] zer)
  n_nat : Instance 52 [] (normal [] nat)
  n_exp : (a b : Term)
      → Instance 53 (steps [] a b ∷ normal [] b ∷ []) (normal [] a)
  -- Strong neutral forms, form 5.
  n_var : (x : ℕ)
      → Instance 54 [] (neutral [] (var x))
  n_app : (a b : Term)
      → Instance 55 (neutral [] a ∷ normal [] b ∷ []) (neutral [] (app a b))
  n_proj1 : (a : Term)
      → Instance 56 (neutral [] a ∷ []) (neutral [] (first a))
  n_proj2 : (a : Term)
      → Instance 57 (neutral [] a ∷ []) (neutral [] (second a))
  n_ind : (P a b c : Term)
      → Instance 58 (normal [] P ∷ neutral [] a ∷ normal [] b ∷ normal [] c ∷ []) (neutral [] (ind P a b c))
  -- Strong head steps, form 6.
  n_appabs : (a b : Term)
      → Instance 59 (normal [] b ∷ []) (steps [] (app (lam a) b) (a ⟨ b ⟩))
  n_appcong : (a₀ a₁ b : Term)
      → Instance 60 (normal [] b ∷ steps [] a₀ a₁ ∷ []) (steps [] (app a₀ b) (app a₁ b))
  n_projpair1 : (a b : Term)
      → Instance 61 (normal [] b ∷ []) (steps [] (first (pair a b)) a)
  n_projpair2 : (a b : Term)
      → Instance 62 (normal [] a ∷ []) (steps [] (second (pair a b)) b)
  n_projcong1 : (a b : Term)
      → Instance 63 (steps [] a b ∷ []) (steps [] (first a) (first b))
  n_projcong2 : (a b : Term)
      → Instance 64 (steps [] a b ∷ []) (steps [] (second a) (second b))
  n_indzero : (P b c : Term)
      → Instance 65 (normal [] P ∷ normal [] b ∷ normal [] c ∷ []) (steps [] (ind P zer b c) b)
  -- in c, y takes ind P a b c and x takes a, together
  n_indsuc : (P a b c : Term)
      → Instance 66
      (normal [] P ∷ normal [] a ∷ normal [] b ∷ normal [] c ∷ [])
      (steps [] (ind P (succ a) b c) (on_both c a (ind P a b c)))
  n_indcong : (P a₀ a₁ b c : Term)
      → Instance 67
      (normal [] P ∷ normal [] b ∷ normal [] c ∷ steps [] a₀ a₁ ∷ [])
      (steps [] (ind P a₀ b c) (ind P a₁ b c))
  -- Rules 33 and 34 of edition 3, form 2: G,Nat |- P : U_i is the first premise, the printed ones stand behind it.
  e_indzero_cited : (G : Context) (P b c : Term) (i : ℕ)
      → Instance 68
      (typed (nat ∷ G) P (univ i) ∷ typed G b (P ⟨ zer ⟩) ∷ typed (P ∷ nat ∷ G) c (on_succ P) ∷ [])
      (equal G (ind P zer b c) b (P ⟨ zer ⟩))
  e_indsuc_cited : (G : Context) (P a b c : Term) (i : ℕ)
      → Instance 69
      (typed (nat ∷ G) P (univ i) ∷ typed G a nat ∷ typed G b (P ⟨ zer ⟩) ∷ typed (P ∷ nat ∷ G) c (on_succ P) ∷ [])
      (equal G (ind P (succ a) b c) (on_both c a (ind P a b c)) (P ⟨ succ a ⟩))
