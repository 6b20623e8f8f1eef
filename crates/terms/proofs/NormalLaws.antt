-- Normal and neutral terms: what is asked of their children, that they can be told by computation, and that no
-- primitive beta step applies at any place in a normal term.
-- Assumes nothing.
use mathlib.Core.Path.{◌≡◌, refl, sym, ◌∙◌}
use mathlib.Core.Bool.{Bool, true, false, ◌&&◌, false≢true}
use Prim.Native.Nat.{ℕ, ◌≤◌}
use native.Mathlib.Omega.{arith}
use lib.Dec.{eqb}
use Rattle.terms.specs.Term.{Term, var, univ, pi, lam, app, sigma, pair, first, second, nat, zer, succ, ind}
use Rattle.terms.specs.Decides.{Decides}
use Rattle.terms.specs.Tag.{Tag, tag_in, arity, child}
use Rattle.terms.specs.Reduction.{
  Beta,
  pb_appabs,
  pb_projpair1,
  pb_projpair2,
  pb_indzero,
  pb_indsuc,
  Inside,
  itself,
  deeper,
}
use Rattle.terms.specs.NormalForms.{
  Normal,
  n_abs,
  n_pair,
  n_pi,
  n_sig,
  n_succ,
  n_univ,
  n_sne,
  n_zero,
  n_nat,
  Neutral,
  n_var,
  n_app,
  n_proj1,
  n_proj2,
  n_ind,
  is_normal,
  is_neutral,
}
use Rattle.terms.specs.Recognition.{heads_neutral, scrutinised}
use Rattle.terms.proofs.Shape.{each, AtChildren}
use Rattle.terms.proofs.Tests.{says_yes, says_no, decides_via, ◌&◌}

neutral_head : {t : Term} → Neutral t → heads_neutral (tag_in t) ≡ true
unfolding heads_neutral tag_in
neutral_head (n_var x) = refl
neutral_head (n_app h k) = refl
neutral_head (n_proj1 h) = refl
neutral_head (n_proj2 h) = refl
neutral_head (n_ind h k l m) = refl

pub not_neutral : {t : Term} → heads_neutral (tag_in t) ≡ false → Neutral t → ⊥
not_neutral e h = false≢true (sym e ∙ neutral_head h)

-- a normal term whose tag a neutral one can have is neutral
pub normal_neutral : {t : Term} → heads_neutral (tag_in t) ≡ true → Normal t → Neutral t
unfolding heads_neutral tag_in
normal_neutral e (n_abs h) = absurd (false≢true e)
normal_neutral e (n_pair h k) = absurd (false≢true e)
normal_neutral e (n_pi h k) = absurd (false≢true e)
normal_neutral e (n_sig h k) = absurd (false≢true e)
normal_neutral e (n_succ h) = absurd (false≢true e)
normal_neutral e (n_univ i) = absurd (false≢true e)
normal_neutral e (n_sne h) = h
normal_neutral e n_zero = absurd (false≢true e)
normal_neutral e n_nat = absurd (false≢true e)

-- what is asked of a child: to be neutral where it is scrutinised, else to be normal
abbrev pub Asked : Bool → Term → Type 0
Asked true t = Neutral t
Asked false t = Normal t

-- what a neutral term asks of its child at place j
abbrev pub Part : Tag → ℕ → Term → Type 0
Part τ j t = Asked (eqb j (scrutinised τ)) t

asked_normal : (s : Bool) {t : Term} → Asked s t → Normal t
asked_normal true h = n_sne h
asked_normal false h = h

-- the children of a neutral and of a normal term
pub neutral_parts : {t : Term} → Neutral t → AtChildren (tag_in t) (λ j. Part (tag_in t) j (child t j))
unfolding tag_in arity child scrutinised
neutral_parts (n_var x) = each _ 0 tt
neutral_parts (n_app h k) = each _ 2 ((tt, h), k)
neutral_parts (n_proj1 h) = each _ 1 (tt, h)
neutral_parts (n_proj2 h) = each _ 1 (tt, h)
neutral_parts (n_ind h k l m) = each _ 4 ((((tt, h), k), l), m)

pub normal_parts : {t : Term} → Normal t → AtChildren (tag_in t) (λ j. Normal (child t j))
unfolding tag_in arity child
normal_parts (n_abs h) = each _ 1 (tt, h)
normal_parts (n_pair h k) = each _ 2 ((tt, h), k)
normal_parts (n_pi h k) = each _ 2 ((tt, h), k)
normal_parts (n_sig h k) = each _ 2 ((tt, h), k)
normal_parts (n_succ h) = each _ 1 (tt, h)
normal_parts (n_univ i) = each _ 0 tt
normal_parts (n_sne {a} h) = λ j low high. asked_normal (eqb j (scrutinised (tag_in a))) (neutral_parts h j low high)
normal_parts n_zero = each _ 0 tt
normal_parts n_nat = each _ 0 tt

-- and children that are so make the term so
pub normal_made : (t : Term) → heads_neutral (tag_in t) ≡ false → AtChildren (tag_in t) (λ j. Normal (child t j))
    → Normal t
unfolding heads_neutral tag_in arity child
normal_made (var x) e h = absurd (false≢true (sym e))
normal_made (univ i) e h = n_univ i
normal_made (pi A B) e h = n_pi (h 1 (omega arith) (omega arith)) (h 2 (omega arith) (omega arith))
normal_made (lam b) e h = n_abs (h 1 (omega arith) (omega arith))
normal_made (app a b) e h = absurd (false≢true (sym e))
normal_made (sigma A B) e h = n_sig (h 1 (omega arith) (omega arith)) (h 2 (omega arith) (omega arith))
normal_made (pair a b) e h = n_pair (h 1 (omega arith) (omega arith)) (h 2 (omega arith) (omega arith))
normal_made (first a) e h = absurd (false≢true (sym e))
normal_made (second a) e h = absurd (false≢true (sym e))
normal_made nat e h = n_nat
normal_made zer e h = n_zero
normal_made (succ a) e h = n_succ (h 1 (omega arith) (omega arith))
normal_made (ind P a b c) e h = absurd (false≢true (sym e))

pub neutral_made : (t : Term) → heads_neutral (tag_in t) ≡ true → AtChildren (tag_in t) (λ j. Part (tag_in t) j (child t j))
    → Neutral t
unfolding heads_neutral tag_in arity child scrutinised
neutral_made (var x) e h = n_var x
neutral_made (univ i) e h = absurd (false≢true e)
neutral_made (pi A B) e h = absurd (false≢true e)
neutral_made (lam b) e h = absurd (false≢true e)
neutral_made (app a b) e h = n_app (h 1 (omega arith) (omega arith)) (h 2 (omega arith) (omega arith))
neutral_made (sigma A B) e h = absurd (false≢true e)
neutral_made (pair a b) e h = absurd (false≢true e)
neutral_made (first a) e h = n_proj1 (h 1 (omega arith) (omega arith))
neutral_made (second a) e h = n_proj2 (h 1 (omega arith) (omega arith))
neutral_made nat e h = absurd (false≢true e)
neutral_made zer e h = absurd (false≢true e)
neutral_made (succ a) e h = absurd (false≢true e)
neutral_made (ind P a b c) e h =
    n_ind (h 1 (omega arith) (omega arith)) (h 2 (omega arith) (omega arith)) (h 3 (omega arith) (omega arith))
    (h 4 (omega arith) (omega arith))

inside_normal : {u t : Term} → Inside u t → Normal t → Normal u
inside_normal itself h = h
inside_normal (deeper j low high i) h = inside_normal i (normal_parts h j low high)

-- the left side of a primitive beta step is not neutral: what it scrutinises is none
no_redex : {t u : Term} → Beta t u → Neutral t → ⊥
unfolding heads_neutral tag_in
no_redex (pb_appabs a b) (n_app h k) = not_neutral refl h
no_redex (pb_projpair1 a b) (n_proj1 h) = not_neutral refl h
no_redex (pb_projpair2 a b) (n_proj2 h) = not_neutral refl h
no_redex (pb_indzero P b c) (n_ind h k l m) = not_neutral refl k
no_redex (pb_indsuc P a b c) (n_ind h k l m) = not_neutral refl k

beta_head : {t u : Term} → Beta t u → heads_neutral (tag_in t) ≡ true
unfolding heads_neutral tag_in
beta_head (pb_appabs a b) = refl
beta_head (pb_projpair1 a b) = refl
beta_head (pb_projpair2 a b) = refl
beta_head (pb_indzero P b c) = refl
beta_head (pb_indsuc P a b c) = refl

-- "a yes implies that no primitive beta step of section 3 applies at any place in it"
pub no_beta : {t u v : Term} → Normal t → Inside u t → Beta u v → ⊥
no_beta h i b = no_redex b (normal_neutral (beta_head b) (inside_normal i h))

-- "Zero applied to zero is neither"
pub zero_not_neutral : Neutral (app zer zer) → ⊥
unfolding heads_neutral tag_in
zero_not_neutral (n_app h k) = not_neutral refl h

pub zero_not_normal : Normal (app zer zer) → ⊥
unfolding heads_neutral tag_in
zero_not_normal h = zero_not_neutral (normal_neutral refl h)

-- tests of the parts make a test of the term: for a constructor with two parts,
both_decided : (t : Term) (r s : Bool) → 2 ≤ arity (tag_in t) → (Normal (child t 1) → Normal (child t 2) → Normal t)
    → Decides r (Normal (child t 1)) → Decides s (Normal (child t 2)) → Decides (r && s) (Normal t)
both_decided t r s two make d e =
    decides_via (
      λ p. make p.0 p.1,
      λ h. (normal_parts h 1 (omega arith) (omega arith), normal_parts h 2 (omega arith) (omega arith)),
    ) (d & e)

-- and for what scrutinises
app_decided : {a b : Term} (r s : Bool) → Decides r (Neutral a) → Decides s (Normal b)
    → Decides (r && s) (Neutral (app a b))
app_decided {a} {b} r s d e = decides_via (λ p. n_app p.0 p.1, parts) (d & e)
  where
    parts : Neutral (app a b) → Neutral a × Normal b
    parts (n_app h k) = (h, k)

proj1_decided : {a : Term} (r : Bool) → Decides r (Neutral a) → Decides r (Neutral (first a))
proj1_decided {a} r d = decides_via (n_proj1, part) d
  where
    part : Neutral (first a) → Neutral a
    part (n_proj1 h) = h

proj2_decided : {a : Term} (r : Bool) → Decides r (Neutral a) → Decides r (Neutral (second a))
proj2_decided {a} r d = decides_via (n_proj2, part) d
  where
    part : Neutral (second a) → Neutral a
    part (n_proj2 h) = h

ind_decided : {P a b c : Term} (r s u v : Bool)
    → Decides r (Normal P) → Decides s (Neutral a) → Decides u (Normal b) → Decides v (Normal c)
    → Decides (r && s && u && v) (Neutral (ind P a b c))
ind_decided {P} {a} {b} {c} r s u v d e f g =
    decides_via (λ p. n_ind p.0.0.0 p.0.0.1 p.0.1 p.1, parts) (d & e & f & g)
  where
    parts : Neutral (ind P a b c) → ((Normal P × Neutral a) × Normal b) × Normal c
    parts (n_ind h k l m) = (((h, k), l), m)

pub by_neutral : {t : Term} → heads_neutral (tag_in t) ≡ true → (r : Bool) → Decides r (Neutral t) → Decides r (Normal t)
by_neutral e r d = decides_via (n_sne, normal_neutral e) d

-- the computed tests tell normal and neutral terms
mutual
  unfolding is_normal heads_neutral tag_in arity child

  pub normal_decided : (t : Term) → Decides (is_normal t) (Normal t)
  normal_decided (var x) = says_yes (n_sne (n_var x))
  normal_decided (univ i) = says_yes (n_univ i)
  normal_decided (pi A B) = both_decided (pi A B) _ _ (omega arith) n_pi (normal_decided A) (normal_decided B)
  normal_decided (lam b) = decides_via (n_abs, λ h. normal_parts h 1 (omega arith) (omega arith)) (normal_decided b)
  normal_decided (app a b) = by_neutral refl _ (app_decided _ _ (neutral_decided a) (normal_decided b))
  normal_decided (sigma A B) = both_decided (sigma A B) _ _ (omega arith) n_sig (normal_decided A) (normal_decided B)
  normal_decided (pair a b) = both_decided (pair a b) _ _ (omega arith) n_pair (normal_decided a) (normal_decided b)
  normal_decided (first a) = by_neutral refl _ (proj1_decided _ (neutral_decided a))
  normal_decided (second a) = by_neutral refl _ (proj2_decided _ (neutral_decided a))
  normal_decided nat = says_yes n_nat
  normal_decided zer = says_yes n_zero
  normal_decided (succ a) = decides_via (n_succ, λ h. normal_parts h 1 (omega arith) (omega arith)) (normal_decided a)
  normal_decided (ind P a b c) =
      by_neutral refl _
      (ind_decided _ _ _ _ (normal_decided P) (neutral_decided a) (normal_decided b) (normal_decided c))

  pub neutral_decided : (t : Term) → Decides (is_neutral t) (Neutral t)
  neutral_decided (var x) = says_yes (n_var x)
  neutral_decided (univ i) = says_no (not_neutral refl)
  neutral_decided (pi A B) = says_no (not_neutral refl)
  neutral_decided (lam b) = says_no (not_neutral refl)
  neutral_decided (app a b) = app_decided _ _ (neutral_decided a) (normal_decided b)
  neutral_decided (sigma A B) = says_no (not_neutral refl)
  neutral_decided (pair a b) = says_no (not_neutral refl)
  neutral_decided (first a) = proj1_decided _ (neutral_decided a)
  neutral_decided (second a) = proj2_decided _ (neutral_decided a)
  neutral_decided nat = says_no (not_neutral refl)
  neutral_decided zer = says_no (not_neutral refl)
  neutral_decided (succ a) = says_no (not_neutral refl)
  neutral_decided (ind P a b c) =
      ind_decided _ _ _ _ (normal_decided P) (neutral_decided a) (normal_decided b) (normal_decided c)
