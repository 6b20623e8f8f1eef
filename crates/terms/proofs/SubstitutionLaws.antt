-- Laws of raising and replacing free indices: what becomes of a variable below the cutoff k and from it on, when
-- raising changes nothing, raising as a substitution, and substitutions that agree at each index.
-- Assumes nothing.
use mathlib.Core.Path.{◌≡◌, refl, sym, ◌∙◌, ap, fun_ext}
use mathlib.Core.Bool.{Bool, true, false}
use Prim.Native.Nat.{ℕ, ◌+◌, ◌-◌, ◌≤◌, ◌<◌, zero-le}
use native.Mathlib.Omega.{arith}
use lib.Dec.{ltb}
use borrow.Author.Tests.{ltb-true, ltb-false, lt-ltb, le-ltb}
use Rattle.terms.specs.Term.{Term, var}
use Rattle.terms.specs.Substitution.{raise, shift, image_under, substitute, raise_by}
use Rattle.terms.specs.Operations.{shift_goes, substitute_goes}
use Rattle.terms.proofs.Shape.{shape_cong, by_shape}

-- under k binders an index is bound or free: what follows in both cases holds
pub at_cutoff : (P : Type 0) (k i : ℕ) → (i < k → P) → (k ≤ i → P) → P
at_cutoff P k i bound free = go (ltb i k) refl
  where
    go : (b : Bool) → ltb i k ≡ b → P
    go true e = bound (ltb-true i k e)
    go false e = free (ltb-false i k e)

-- what raising makes of an index
pub raise_bound : (k d i : ℕ) → i < k → raise k d i ≡ i
unfolding raise
raise_bound k d i h = rw (lt-ltb, raise)

pub raise_free : (k d i : ℕ) → k ≤ i → raise k d i ≡ i + d
unfolding raise
raise_free k d i h = rw (le-ltb, raise)

-- what a substitution puts for an index
pub image_bound : (k : ℕ) (σ : ℕ → Term) (i : ℕ) → i < k → image_under k σ i ≡ var i
unfolding image_under
image_bound k σ i h = rw (lt-ltb, image_under)

pub image_free : (k : ℕ) (σ : ℕ → Term) (i : ℕ) → k ≤ i → image_under k σ i ≡ shift 0 k (σ (i - k))
unfolding image_under
image_free k σ i h = rw (le-ltb, image_under)

pub shift_zero : (k : ℕ) (t : Term) → shift k 0 t ≡ t
unfolding shift
shift_zero k t = by_shape (λ t. (k : ℕ) → shift k 0 t ≡ t)
    (λ i k. at_cutoff _ k i (λ h. ap var (raise_bound k 0 i h)) (λ h. ap var (raise_free k 0 i h ∙ omega arith)))
    (λ τ n x h _ at k. (shift_goes 0).goes τ n x k h ∙ shape_cong τ n _ x (λ j low high. at j low high _))
    t k

pub shift_as_substitution : (k d : ℕ) (t : Term) → shift k d t ≡ substitute k (raise_by d) t
unfolding shift substitute raise_by
shift_as_substitution k d t = by_shape (λ t. (k : ℕ) → shift k d t ≡ substitute k (raise_by d) t)
    (λ i k. at_cutoff _ k i
    (λ h. ap var (raise_bound k d i h) ∙ sym (image_bound k (raise_by d) i h))
    (λ h. let e : raise k d i ≡ raise 0 k (i - k + d) = omega (arith, raise_free k d i h, raise_free 0 k (i - k + d) zero-le) in
    ap var e ∙ sym (image_free k (raise_by d) i h)))
    (λ τ n x h _ at k. (shift_goes d).goes τ n x k h ∙ shape_cong τ n _ _ (λ j low high. at j low high _) ∙ sym ((substitute_goes _).goes τ n x k h))
    t k

pub substitute_cong : (k : ℕ) (σ ρ : ℕ → Term) → ((i : ℕ) → σ i ≡ ρ i) → (t : Term) → substitute k σ t ≡ substitute k ρ t
substitute_cong k σ ρ h t = ap (λ f. substitute k f t) (fun_ext h)
