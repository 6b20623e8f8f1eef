-- Raising and replacing free indices: document 01, "Amended readings".
-- k counts the binders crossed so far: indices below k are bound inside the term and stay.
use Rattle.std.specs.Prelude.{ℕ, zero, suc, ◌+◌, ◌-◌, true, false, ltb}
use Rattle.terms.specs.Term.{Term, var, univ, pi, lam, app, sigma, pair, first, second, nat, zer, succ, ind}

-- the index i "raised" by d, where it is free under k binders
unfoldable pub raise : ℕ → ℕ → ℕ → ℕ
raise k d i = elim (ltb i k) [ true ↦ i | false ↦ i + d ]

-- every free index raised by d
unfoldable pub shift : ℕ → ℕ → Term → Term
unfolding raise
shift k d (var i) = var (raise k d i)
shift k d (univ l) = univ l
shift k d (pi a b) = pi (shift k d a) (shift (suc k) d b)
shift k d (lam b) = lam (shift (suc k) d b)
shift k d (app b a) = app (shift k d b) (shift k d a)
shift k d (sigma a b) = sigma (shift k d a) (shift (suc k) d b)
shift k d (pair a b) = pair (shift k d a) (shift k d b)
shift k d (first a) = first (shift k d a)
shift k d (second a) = second (shift k d a)
shift k d nat = nat
shift k d zer = zer
shift k d (succ a) = succ (shift k d a)
shift k d (ind p a b c) = ind (shift (suc k) d p) (shift k d a) (shift k d b) (shift (suc (suc k)) d c)

-- what the variable i becomes under k binders: what σ puts for it, raised by the binders crossed
unfoldable pub image_under : ℕ → (ℕ → Term) → ℕ → Term
unfolding shift
image_under k σ i = elim (ltb i k) [ true ↦ var i | false ↦ shift 0 k (σ (i - k)) ]

-- all free indices replaced together: σ says what takes the place of each
unfoldable pub substitute : ℕ → (ℕ → Term) → Term → Term
unfolding image_under
substitute k σ (var i) = image_under k σ i
substitute k σ (univ l) = univ l
substitute k σ (pi a b) = pi (substitute k σ a) (substitute (suc k) σ b)
substitute k σ (lam b) = lam (substitute (suc k) σ b)
substitute k σ (app b a) = app (substitute k σ b) (substitute k σ a)
substitute k σ (sigma a b) = sigma (substitute k σ a) (substitute (suc k) σ b)
substitute k σ (pair a b) = pair (substitute k σ a) (substitute k σ b)
substitute k σ (first a) = first (substitute k σ a)
substitute k σ (second a) = second (substitute k σ a)
substitute k σ nat = nat
substitute k σ zer = zer
substitute k σ (succ a) = succ (substitute k σ a)
substitute k σ (ind p a b c) = ind (substitute (suc k) σ p) (substitute k σ a) (substitute k σ b) (substitute (suc (suc k)) σ c)

-- a for index 0, the others lowered by 1
unfoldable pub instantiate : Term → ℕ → Term
instantiate a zero = a
instantiate a (suc i) = var i

-- succ of the variable 1 for index 0, the others raised by 1
unfoldable pub outer_succ : ℕ → Term
outer_succ zero = succ (var 1)
outer_succ (suc i) = var (suc (suc i))

-- r for index 0 (y) and a for index 1 (x), the others lowered by 2
unfoldable pub instantiate_both : Term → Term → ℕ → Term
instantiate_both a r zero = r
instantiate_both a r (suc zero) = a
instantiate_both a r (suc (suc i)) = var i

-- every free index i becomes i + d: "raised" as a substitution
unfoldable pub raise_by : ℕ → ℕ → Term
raise_by d i = var (i + d)

infixl 80 ◌⟨◌⟩
-- B[a]
unfoldable pub ◌⟨◌⟩ : Term → Term → Term
unfolding substitute instantiate
◌⟨◌⟩ b a = substitute 0 (instantiate a) b

-- P[succ x], under Nat and P
unfoldable pub on_succ : Term → Term
unfolding substitute outer_succ
on_succ p = substitute 0 outer_succ p

-- E-INDSUC: in c, y takes r and x takes a, together
unfoldable pub on_both : Term → Term → Term → Term
unfolding substitute instantiate_both
on_both c a r = substitute 0 (instantiate_both a r) c
