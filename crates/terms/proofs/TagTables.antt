-- The facts on limits and places that every tag has.
-- Assumes nothing.
use mathlib.Core.Path.{◌≡◌, refl, sym, ◌∙◌, ap}
use mathlib.Core.Logic.{◌⊎◌, ⊎_elim}
use Prim.Native.Nat.{ℕ, ◌≤◌, ◌<◌}
use native.Mathlib.Omega.{arith}
use Rattle.terms.specs.declared.tags.Tag as source
use Rattle.terms.specs.declared.tags.Tag.TheVariants as source_tag
use Rattle.terms.specs.Term.{Term}
use Rattle.terms.specs.Tag.{tag_meant, tag_in, number_in, child, Tag, none, Var, Univ, Pi, Lam, App, Sigma, Pair, First, Second, Nat, Zero, Succ, Ind, arity, used}
use Rattle.terms.specs.Table.{limit}
use Rattle.terms.proofs.Shape.{shape_view, no_number, each, AtChildren}

-- a child's number is limited by its row's
pub child-limit : (τ : Tag) (n : ℕ) → AtChildren τ (λ j. limit τ n j ≡ n)
unfolding limit arity
child-limit none n = each _ 0 tt
child-limit Var n = each _ 0 tt
child-limit Univ n = each _ 0 tt
child-limit Pi n = each _ 2 ((tt, refl), refl)
child-limit Lam n = each _ 1 (tt, refl)
child-limit App n = each _ 2 ((tt, refl), refl)
child-limit Sigma n = each _ 2 ((tt, refl), refl)
child-limit Pair n = each _ 2 ((tt, refl), refl)
child-limit First n = each _ 1 (tt, refl)
child-limit Second n = each _ 1 (tt, refl)
child-limit Nat n = each _ 0 tt
child-limit Zero n = each _ 0 tt
child-limit Succ n = each _ 1 (tt, refl)
child-limit Ind n = each _ 4 ((((tt, refl), refl), refl), refl)

pub arity_most : (τ : Tag) → arity τ ≤ 4
unfolding arity
arity_most none = omega arith
arity_most Var = omega arith
arity_most Univ = omega arith
arity_most Pi = omega arith
arity_most Lam = omega arith
arity_most App = omega arith
arity_most Sigma = omega arith
arity_most Pair = omega arith
arity_most First = omega arith
arity_most Second = omega arith
arity_most Nat = omega arith
arity_most Zero = omega arith
arity_most Succ = omega arith
arity_most Ind = omega arith

-- the value of the source that means a tag; none has none
source_of : Tag → source.Tag
source_of none = source_tag.Var
source_of Var = source_tag.Var
source_of Univ = source_tag.Univ
source_of Pi = source_tag.Pi
source_of Lam = source_tag.Lam
source_of App = source_tag.App
source_of Sigma = source_tag.Sigma
source_of Pair = source_tag.Pair
source_of First = source_tag.First
source_of Second = source_tag.Second
source_of Nat = source_tag.Nat
source_of Zero = source_tag.Zero
source_of Succ = source_tag.Succ
source_of Ind = source_tag.Ind

source_of_meant : (τ : source.Tag) → source_of (tag_meant τ) ≡ τ
unfolding source_of
source_of_meant source_tag.Var = refl
source_of_meant source_tag.Univ = refl
source_of_meant source_tag.Pi = refl
source_of_meant source_tag.Lam = refl
source_of_meant source_tag.App = refl
source_of_meant source_tag.Sigma = refl
source_of_meant source_tag.Pair = refl
source_of_meant source_tag.First = refl
source_of_meant source_tag.Second = refl
source_of_meant source_tag.Nat = refl
source_of_meant source_tag.Zero = refl
source_of_meant source_tag.Succ = refl
source_of_meant source_tag.Ind = refl

-- two values of the source that mean one tag are equal
pub meant_inj : {σ τ : source.Tag} → tag_meant σ ≡ tag_meant τ → σ ≡ τ
meant_inj {σ} {τ} e = sym (source_of_meant σ) ∙ ap source_of e ∙ source_of_meant τ

-- a variable and a universe have a number, the others none
pub numbered : (τ : source.Tag) → (τ ≡ source_tag.Var) ⊎ (τ ≡ source_tag.Univ) → arity (tag_meant τ) < used (tag_meant τ)
unfolding arity used
numbered τ = ⊎_elim (λ e. rw e (omega arith)) (λ e. rw e (omega arith))

pub not_numbered : {τ : source.Tag} → (τ ≡ source_tag.Var → ⊥) → (τ ≡ source_tag.Univ → ⊥)
    → (t : Term) → tag_meant τ ≡ tag_in t → 0 ≡ number_in t
not_numbered v u t e =
    let none = no_number (tag_in t) (number_in t) (child t) (λ f. v (meant_inj (e ∙ f))) (λ f. u (meant_inj (e ∙ f))) in
    sym (ap number_in (sym (shape_view t)) ∙ none)
