-- What shift and substitution share: the image of a term that is no variable has the same head, and its children are the
-- images of the term's children under the binders crossed.
use Rattle.std.specs.Prelude.{◌≡◌, refl, ℕ}
use Rattle.terms.specs.Term.{Term}
use Rattle.terms.specs.Substitution.{shift, substitute}
use Rattle.terms.specs.Tag.{Tag, none, Var, Univ, Pi, Lam, App, Sigma, Pair, First, Second, Nat, Zero, Succ, Ind, binders, under, shape}

-- F k is the image under k binders
pub record GoesUnder (F : ℕ → Term → Term) : Type 0 where
  pub goes : (τ : Tag) (n : ℕ) (x : ℕ → Term) (k : ℕ) → (τ ≡ Var → ⊥)
      → F k (shape τ n x) ≡ shape τ n (λ j. F (under (binders τ j) k) (x j))

shift_shape : (τ : Tag) (n : ℕ) (x : ℕ → Term) (k : ℕ) (d : ℕ) → (τ ≡ Var → ⊥)
    → shift k d (shape τ n x) ≡ shape τ n (λ j. shift (under (binders τ j) k) d (x j))
unfolding shape shift under binders
shift_shape none n x k d h = refl
shift_shape Var n x k d h = absurd (h refl)
shift_shape Univ n x k d h = refl
shift_shape Pi n x k d h = refl
shift_shape Lam n x k d h = refl
shift_shape App n x k d h = refl
shift_shape Sigma n x k d h = refl
shift_shape Pair n x k d h = refl
shift_shape First n x k d h = refl
shift_shape Second n x k d h = refl
shift_shape Nat n x k d h = refl
shift_shape Zero n x k d h = refl
shift_shape Succ n x k d h = refl
shift_shape Ind n x k d h = refl

pub shift_goes : (d : ℕ) → GoesUnder (λ k t. shift k d t)
shift_goes d = record { goes = λ τ n x k h. shift_shape τ n x k d h }

substitute_shape : (τ : Tag) (n : ℕ) (x : ℕ → Term) (k : ℕ) (σ : (ℕ → Term)) → (τ ≡ Var → ⊥)
    → substitute k σ (shape τ n x) ≡ shape τ n (λ j. substitute (under (binders τ j) k) σ (x j))
unfolding shape substitute under binders
substitute_shape none n x k σ h = refl
substitute_shape Var n x k σ h = absurd (h refl)
substitute_shape Univ n x k σ h = refl
substitute_shape Pi n x k σ h = refl
substitute_shape Lam n x k σ h = refl
substitute_shape App n x k σ h = refl
substitute_shape Sigma n x k σ h = refl
substitute_shape Pair n x k σ h = refl
substitute_shape First n x k σ h = refl
substitute_shape Second n x k σ h = refl
substitute_shape Nat n x k σ h = refl
substitute_shape Zero n x k σ h = refl
substitute_shape Succ n x k σ h = refl
substitute_shape Ind n x k σ h = refl

pub substitute_goes : (σ : ℕ → Term) → GoesUnder (λ k t. substitute k σ t)
substitute_goes σ = record { goes = λ τ n x k h. substitute_shape τ n x k σ h }
