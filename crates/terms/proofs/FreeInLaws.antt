-- A term has free indices below n exactly if every index that is free in it is.
-- Assumes nothing.
use mathlib.Core.Path.{◌≡◌, sym, ap, subst}
use mathlib.Core.Logic.{◌↔◌, ◌≢◌}
use Prim.Native.Nat.{ℕ, ◌-◌, ◌≤◌, ◌<◌}
use native.Mathlib.Decide.{dec_le}
use native.Mathlib.Omega.{arith}
use Rattle.terms.specs.Term.{Term}
use Rattle.terms.specs.FreeIndices.{FreeIn, itself, deeper, FreeBelow}
use Rattle.terms.specs.Tag.{Tag, none, Var, arity, binders, under, shape, tag_in, number_in, child}
use Rattle.terms.proofs.Shape.{AtChildren, under_is, child-shape, tag_in-shape, shape_view, free_shape, by_shape}

-- the bound of a child is higher by what it binds; a variable has no child
free_child : (t : Term) (n : ℕ) → FreeBelow n t
    → AtChildren (tag_in t) (λ j. FreeBelow (under (binders (tag_in t) j) n) (child t j))
unfolding arity
free_child t n f j low high =
    let other : tag_in t ≢ Var = λ e. omega (arith, low, high, ap arity e) in
    (free_shape (tag_in t) (number_in t) (child t) n other).0 (subst (FreeBelow n) (sym (shape_view t)) f) j low high

index_below : {i : ℕ} {t : Term} → FreeIn i t → (n : ℕ) → FreeBelow n t → i < n
unfolding FreeBelow
index_below itself n f = f
index_below (deeper {i} {t} j low high o) n f =
    let b = binders (tag_in t) j in
    omega (arith, index_below o (under b n) (free_child t n f j low high), under_is b i, under_is b n)

-- what is free in a child and not bound there is free in the term
out_of_child : (τ : Tag) (m : ℕ) (x : ℕ → Term) → τ ≢ none → (i j : ℕ) → 1 ≤ j → j ≤ arity τ
    → FreeIn (under (binders τ j) i) (x j) → FreeIn i (shape τ m x)
out_of_child τ m x known i j low high o =
    let same = tag_in-shape τ m x known in
    deeper j low (subst (λ σ. j ≤ arity σ) (sym same) high)
    (subst (λ σ. FreeIn (under (binders σ j) i) (child (shape τ m x) j)) (sym same)
    (subst (FreeIn (under (binders τ j) i)) (sym (child-shape τ m x j low high)) o))

all_below_free : (t : Term) (n : ℕ) → ((i : ℕ) → FreeIn i t → i < n) → FreeBelow n t
unfolding FreeBelow
all_below_free = by_shape (λ t. (n : ℕ) → ((i : ℕ) → FreeIn i t → i < n) → FreeBelow n t) (λ i n h. h i itself)
    (λ τ m x other known at n h. (free_shape τ m x n other).1
    (λ j low high. at j low high (under (binders τ j) n) (λ k o. in_child τ m x known n h j low high k o)))
  where
    in_child : (τ : Tag) (m : ℕ) (x : ℕ → Term) → τ ≢ none → (n : ℕ) → ((i : ℕ) → FreeIn i (shape τ m x) → i < n)
        → (j : ℕ) → 1 ≤ j → j ≤ arity τ → (k : ℕ) → FreeIn k (x j) → k < under (binders τ j) n
    in_child τ m x known n h j low high k o =
        let b = binders τ j in
        elim (dec_le b k) [
          | yes free ↦
              let raised : k ≡ under b (k - b) = omega (arith, free, under_is b (k - b)) in
              let i = out_of_child τ m x known (k - b) j low high (subst (λ l. FreeIn l (x j)) raised o) in
              omega (arith, free, h (k - b) i, under_is b n)
          | no bound ↦ omega (arith, bound, under_is b n)
        ]

pub free_below_is : (t : Term) (n : ℕ) → FreeBelow n t ↔ ((i : ℕ) → FreeIn i t → i < n)
free_below_is t n = (λ f i o. index_below o n f, all_below_free t n)
