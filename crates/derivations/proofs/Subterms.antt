-- Subterms by way of children: a term's subterms are itself and its children's, and its children stand behind it.
-- Assumes nothing.
use mathlib.Core.Path.{◌≡◌, refl, sym, ap, subst}
use mathlib.Core.Logic.{◌⊎◌, inl, inr, ⊎_elim}
use mathlib.Core.List.Memᴰ
use mathlib.Core.List.Memᴰ.{head as here}
use mathlib.Core.List.Memᴰ.{tail as there}
use mathlib.Core.List.{List, [], ◌∷◌, ◌++◌, flat_map, append-nil}
use Prim.Native.Nat.{ℕ, zero, suc}
use native.Mathlib.Omega.{arith}
use Rattle.terms.specs.Term.{Term, var, univ, pi, lam, app, sigma, pair, first, second, nat, zer, succ, ind}
use Rattle.terms.specs.Tag.{Tag, none, Var, Univ, Pi, Lam, App, Sigma, Pair, First, Second, Nat, Zero, Succ, Ind, arity, shape, children}
use Rattle.terms.proofs.Shape.{AtChildren, by_shape}
use Rattle.terms.specs.Lists.{listed}
use Rattle.derivations.specs.Lists.{◌∈◌}
use Rattle.derivations.specs.Fits.{subterms}
use Rattle.derivations.proofs.ListLaws.{Among, in_listed, of_listed, in_flat, of_flat}
use Rattle.derivations.proofs.Numbering.{Closed, closed_append}

children-shape : (τ : Tag) (n : ℕ) (x : ℕ → Term) → children (shape τ n x) ≡ listed (λ i. x (suc i)) (arity τ)
unfolding shape children arity listed
children-shape none n x = refl
children-shape Var n x = refl
children-shape Univ n x = refl
children-shape Pi n x = refl
children-shape Lam n x = refl
children-shape App n x = refl
children-shape Sigma n x = refl
children-shape Pair n x = refl
children-shape First n x = refl
children-shape Second n x = refl
children-shape Nat n x = refl
children-shape Zero n x = refl
children-shape Succ n x = refl
children-shape Ind n x = refl

subterms-children : (t : Term) → subterms t ≡ t ∷ flat_map subterms (children t)
unfolding subterms children flat_map
subterms-children (var i) = refl
subterms-children (univ l) = refl
subterms-children (pi a b) = ap (λ l. pi a b ∷ (subterms a ++ l)) (sym (append-nil (subterms b)))
subterms-children (lam b) = ap (λ l. lam b ∷ l) (sym (append-nil (subterms b)))
subterms-children (app b a) = ap (λ l. app b a ∷ (subterms b ++ l)) (sym (append-nil (subterms a)))
subterms-children (sigma a b) = ap (λ l. sigma a b ∷ (subterms a ++ l)) (sym (append-nil (subterms b)))
subterms-children (pair a b) = ap (λ l. pair a b ∷ (subterms a ++ l)) (sym (append-nil (subterms b)))
subterms-children (first a) = ap (λ l. first a ∷ l) (sym (append-nil (subterms a)))
subterms-children (second a) = ap (λ l. second a ∷ l) (sym (append-nil (subterms a)))
subterms-children nat = refl
subterms-children zer = refl
subterms-children (succ a) = ap (λ l. succ a ∷ l) (sym (append-nil (subterms a)))
subterms-children (ind p a b c) = ap (λ l. ind p a b c ∷ (subterms p ++ (subterms a ++ (subterms b ++ l)))) (sym (append-nil (subterms c)))

module _ (τ : Tag) (n : ℕ) (x : ℕ → Term) where
  pub in_children : AtChildren τ (λ j. x j ∈ children (shape τ n x))
  in_children zero low high = absurd (omega arith)
  in_children (suc i) low high = subst (λ l. x (suc i) ∈ l) (sym (children-shape τ n x)) (in_listed (λ k. x (suc k)) (arity τ) i high)

  pub of_children : {y : Term} → y ∈ children (shape τ n x) → Among (λ i. x (suc i)) (arity τ) y
  of_children {y} m = of_listed (λ i. x (suc i)) (arity τ) (subst (λ l. y ∈ l) (children-shape τ n x) m)

pub self_in : (t : Term) → t ∈ subterms t
self_in t = subst (λ l. t ∈ l) (sym (subterms-children t)) (here refl)

pub of_subterms : (t : Term) {u : Term} → u ∈ subterms t → (u ≡ t) ⊎ ((y : Term) × (y ∈ children t) × (u ∈ subterms y))
of_subterms t {u} m = ⊎_elim (λ e. inl e) (λ k. inr (of_flat subterms (children t) k)) (Memᴰ.cases_cons (subst (λ l. u ∈ l) (subterms-children t) m))

module _ {A B : Type 0} (parts : B → List B) (f : A → List B) where
  pub closed_flat : (l : List A) → ((y : A) → y ∈ l → Closed parts (f y)) → Closed parts (flat_map f l)
  unfolding flat_map
  closed_flat [] h = tt
  closed_flat (y ∷ l) h = closed_append parts (f y) (flat_map f l) (h y (here refl)) (closed_flat l (λ z k. h z (there k)))

pub closed_subterms : (t : Term) → Closed children (subterms t)
unfolding subterms children
closed_subterms = by_shape (λ t. Closed children (subterms t)) (λ i. ((λ y k. absurd (Memᴰ.not-nil k)), tt)) shaped
  where
    shaped : (τ : Tag) (n : ℕ) (x : ℕ → Term) → (τ ≡ Var → ⊥) → (τ ≡ none → ⊥) → AtChildren τ (λ j. Closed children (subterms (x j))) → Closed children (subterms (shape τ n x))
    shaped τ n x v u ih =
        subst (λ l. Closed children l) (sym (subterms-children (shape τ n x))) (
          (λ y k. in_flat subterms (children (shape τ n x)) k (self_in y)),
          closed_flat children subterms (children (shape τ n x))
              (λ y k. let c = of_children τ n x k in subst (λ w. Closed children (subterms w)) (sym c.2) (ih (suc c.0) (omega arith) c.1)),
        )
