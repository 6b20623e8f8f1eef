-- How raising and replacing change the bound on a term's free indices, and what a bound on the result says of the term.
-- A law whose name ends in ₀ is the one before it at k = 0, under no binder.
-- Assumes nothing.
use mathlib.Core.Path.{◌≡◌, refl, sym, subst}
use mathlib.Core.Logic.{◌≢◌}
use Prim.Native.Nat.{ℕ, zero, suc, ◌+◌, ◌-◌, ◌≤◌, ◌<◌, zero-le}
use native.Mathlib.Nat.{zero-add}
use native.Mathlib.Omega.{arith}
use Rattle.terms.specs.Term.{Term, var}
use Rattle.terms.specs.Substitution.{shift, substitute, instantiate, instantiate_both, ◌⟨◌⟩, on_both}
use Rattle.terms.specs.FreeIndices.{FreeBelow}
use Rattle.terms.specs.Tag.{Tag, Var, under, binders, shape}
use Rattle.terms.specs.Operations.{shift_goes, substitute_goes}
use Rattle.terms.proofs.Shape.{under_is, free_shape, by_shape}
use Rattle.terms.proofs.SubstitutionLaws.{at_cutoff, raise_bound, raise_free, image_bound, image_free}

-- F goes to a term's children, k counting the binders crossed; R k n m relates the bounds n before F and m after it,
-- and is kept when binders are crossed. Then a law on bounds that holds at variables holds at every term.
module _ (F : ℕ → Term → Term)
    (at_children : (τ : Tag) (n : ℕ) (x : ℕ → Term) (k : ℕ) → τ ≢ Var → F k (shape τ n x) ≡ shape τ n (λ j. F (under (binders τ j) k) (x j)))
    (R : ℕ → ℕ → ℕ → Type 0)
    (crossed : (b k n m : ℕ) → R k n m → R (under b k) (under b n) (under b m)) where
  free_after : ((i k n m : ℕ) → R k n m → i < n → FreeBelow m (F k (var i))) → (t : Term) (k n m : ℕ) → R k n m → FreeBelow n t → FreeBelow m (F k t)
  unfolding FreeBelow
  free_after at_var = by_shape (λ t. (k n m : ℕ) → R k n m → FreeBelow n t → FreeBelow m (F k t)) at_var
      (λ τ l x h _ at k n m r f. subst (FreeBelow m) (sym (at_children τ l x k h))
      ((free_shape τ l _ m h).1 (λ j low high. at j low high _ _ _ (crossed _ k n m r) ((free_shape τ l x n h).0 f j low high))))

  free_before : ((i k n m : ℕ) → R k n m → FreeBelow m (F k (var i)) → i < n) → (t : Term) (k n m : ℕ) → R k n m → FreeBelow m (F k t) → FreeBelow n t
  unfolding FreeBelow
  free_before at_var = by_shape (λ t. (k n m : ℕ) → R k n m → FreeBelow m (F k t) → FreeBelow n t) at_var
      (λ τ l x h _ at k n m r f. (free_shape τ l x n h).1
      (λ j low high. at j low high _ _ _ (crossed _ k n m r) ((free_shape τ l _ m h).0 (subst (FreeBelow m) (at_children τ l x k h) f) j low high)))

pub free_more : (n m : ℕ) (t : Term) → n ≤ m → FreeBelow n t → FreeBelow m t
unfolding FreeBelow
free_more n m t = free_after (λ k t. t) (λ τ l x k h. refl) (λ k n m. n ≤ m)
    (λ b k n m h. omega (arith, under_is b n, under_is b m))
    (λ i k n m h low. omega arith) t 0 n m

-- raised from any cutoff on: a bound n becomes n + d
pub free_shift : (k n d : ℕ) (t : Term) → FreeBelow n t → FreeBelow (n + d) (shift k d t)
unfolding FreeBelow shift
free_shift k n d t = free_after (λ k. shift k d) (shift_goes d).goes (λ k n m. n + d ≤ m)
    (λ b k n m h. omega (arith, under_is b n, under_is b m))
    (λ i k n m h low. at_cutoff _ k i (λ b. omega (arith, raise_bound k d i b)) (λ f. omega (arith, raise_free k d i f)))
    t k n (n + d) (omega arith)

-- for any σ: where it puts terms below m for the indices below n, the bound n becomes m
pub free_substitute : (k n m : ℕ) (σ : ℕ → Term) (t : Term) → ((i : ℕ) → i < n → FreeBelow m (σ i)) → FreeBelow (k + n) t → FreeBelow (k + m) (substitute k σ t)
unfolding FreeBelow substitute
free_substitute k n m σ t h = free_after (λ k. substitute k σ) (substitute_goes σ).goes (λ k n' m'. (n' ≤ k + n) × (k + m ≤ m'))
    (λ b k n' m' r. omega (arith, under_is b k, under_is b n', under_is b m'))
    (λ i k n' m' r low. at_cutoff _ k i
    (λ b. subst (FreeBelow m') (sym (image_bound k σ i b)) (omega arith))
    (λ f. subst (FreeBelow m') (sym (image_free k σ i f)) (free_more (m + k) m' (shift 0 k (σ (i - k))) (omega arith) (free_shift 0 m k (σ (i - k)) (h (i - k) (omega arith))))))
    t k (k + n) (k + m) (omega arith)

pub free_substitute₀ : (n m : ℕ) (σ : ℕ → Term) (t : Term) → ((i : ℕ) → i < n → FreeBelow m (σ i)) → FreeBelow n t → FreeBelow m (substitute 0 σ t)
free_substitute₀ n m σ t h f = rw zero-add at (free_substitute 0 n m σ t h (rw zero-add f))

image_below : (n : ℕ) (a : Term) → FreeBelow n a → (i : ℕ) → i < suc n → FreeBelow n (instantiate a i)
unfolding FreeBelow instantiate
image_below n a f zero h = f
image_below n a f (suc i) h = omega arith

images_below : (n : ℕ) (a r : Term) → FreeBelow n a → FreeBelow n r
    → (i : ℕ) → i < suc (suc n) → FreeBelow n (instantiate_both a r i)
unfolding FreeBelow instantiate_both
images_below n a r f g zero h = g
images_below n a r f g (suc zero) h = f
images_below n a r f g (suc (suc i)) h = omega arith

-- B[a] has the bound of a where that of B is at most one higher
pub free_instantiate : (n : ℕ) (a t : Term) → FreeBelow n a → FreeBelow (suc n) t → FreeBelow n (t ⟨ a ⟩)
unfolding ◌⟨◌⟩
free_instantiate n a t f = free_substitute₀ (suc n) n (instantiate a) t (image_below n a f)

-- and so has c with y and x replaced, where that of c is at most two higher
pub free_both : (n : ℕ) (c a r : Term) → FreeBelow n a → FreeBelow n r → FreeBelow (suc (suc n)) c
    → FreeBelow n (on_both c a r)
unfolding on_both
free_both n c a r f g = free_substitute₀ (suc (suc n)) n (instantiate_both a r) c (images_below n a r f g)

-- back from the raised term: its bound was lower by 1
pub free_shift_back : (k n : ℕ) (t : Term) → FreeBelow (k + suc n) (shift k 1 t) → FreeBelow (k + n) t
unfolding FreeBelow shift
free_shift_back k n t = free_before (λ k. shift k 1) (shift_goes 1).goes (λ k n m. (k ≤ n) × (m ≤ suc n))
    (λ b k n m r. omega (arith, under_is b k, under_is b n, under_is b m))
    (λ i k n m r f. at_cutoff _ k i (λ b. omega arith) (λ h. omega (arith, raise_free k 1 i h)))
    t k (k + n) (k + suc n) (omega arith)

pub free_shift_back₀ : (n : ℕ) (a : Term) → FreeBelow (suc n) (shift 0 1 a) → FreeBelow n a
free_shift_back₀ n a f = rw zero-add at (free_shift_back 0 n a (rw zero-add f))

-- its case of a variable i = k + j: i is k, or i - 1 is below m
instantiate_back : (k n m : ℕ) (a : Term) (j i : ℕ) → k < n → m < n → i ≡ k + j → FreeBelow m (shift 0 k (instantiate a j)) → i < n
unfolding FreeBelow shift instantiate
instantiate_back k n m a zero i low less e f = omega arith
instantiate_back k n m a (suc j) i low less e f = omega (arith, raise_free 0 k j zero-le)

-- back from B[a], whatever a is: the bound of B is at most one higher
pub free_instantiate_back : (k n : ℕ) (a t : Term) → FreeBelow (k + n) (substitute k (instantiate a) t) → FreeBelow (k + suc n) t
unfolding FreeBelow substitute
free_instantiate_back k n a t = free_before (λ k. substitute k (instantiate a)) (substitute_goes (instantiate a)).goes (λ k n m. (k < n) × (m < n))
    (λ b k n m r. omega (arith, under_is b k, under_is b n, under_is b m))
    (λ i k n m r f. at_cutoff _ k i (λ b. omega arith)
    (λ h. instantiate_back k n m a (i - k) i r.0 r.1 (omega arith) (subst (FreeBelow m) (image_free k (instantiate a) i h) f)))
    t k (k + suc n) (k + n) (omega arith)

pub free_instantiate_back₀ : (n : ℕ) (a t : Term) → FreeBelow n (t ⟨ a ⟩) → FreeBelow (suc n) t
unfolding ◌⟨◌⟩
free_instantiate_back₀ n a t f = rw zero-add at (free_instantiate_back 0 n a t (rw zero-add f))
