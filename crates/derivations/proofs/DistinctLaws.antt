-- The list without repetitions has the same elements, each once; and that a list has at most n different elements is
-- what a reader thinks: some list of at most n elements has them all.
-- Assumes nothing.
use mathlib.Core.Path.{◌≡◌, refl, sym, ◌∙◌, ap}
use mathlib.Core.Logic.{◌↔◌, ⊎_elim}
use mathlib.Core.List.Memᴰ
use mathlib.Core.List.Memᴰ.{head as here}
use mathlib.Core.List.Memᴰ.{tail as there}
use mathlib.Core.List.{List, [], ◌∷◌}
use Prim.Native.Nat.{ℕ, suc, ◌≤◌}
use native.Mathlib.Omega.{arith}
use lib.ListN.{length}
use Rattle.derivations.specs.Lists.{◌∈◌, member?, before, distinct, AtMost}

-- each element stands in the list once
abbrev pub Once : {A : Type 0} → List A → Type 0
Once [] = Unit {0}
Once (x ∷ l) = (x ∈ l → ⊥) × Once l

-- all that stand in the first list stand in the second
abbrev pub Within : {A : Type 0} → List A → List A → Type 0
Within {A} l m = (x : A) → x ∈ l → x ∈ m

module _ {A : Type 0} where
  of_before : {x y : A} {l r : List A} (p : Dec (x ∈ l)) → Within r l → y ∈ before p r → y ∈ (x ∷ l)
  unfolding before
  of_before {y = y} (yes m) w k = there (w y k)
  of_before {y = y} (no m) w k = ⊎_elim (λ e. here e) (λ q. there (w y q)) (Memᴰ.cases_cons k)

  in_before : {x y : A} {l r : List A} (p : Dec (x ∈ l)) → Within l r → y ∈ (x ∷ l) → y ∈ before p r
  unfolding before
  in_before {x} {y} (yes m) w k = ⊎_elim (λ e. Memᴰ.cast e (w x m)) (λ q. w y q) (Memᴰ.cases_cons k)
  in_before {x} {y} (no m) w k = ⊎_elim (λ e. here e) (λ q. there (w y q)) (Memᴰ.cases_cons k)

  once_before : {x : A} {l r : List A} (p : Dec (x ∈ l)) → Within r l → Once r → Once (before p r)
  unfolding before
  once_before (yes m) w o = o
  once_before {x} (no m) w o = ((λ k. m (w x k)), o)

  module _ (d : Discrete A) where
    pub of_distinct : (l : List A) → Within (distinct d l) l
    unfolding distinct
    of_distinct [] y k = k
    of_distinct (x ∷ l) y k = of_before (member? d x l) (of_distinct l) k

    pub in_distinct : (l : List A) → Within l (distinct d l)
    unfolding distinct
    in_distinct [] y k = k
    in_distinct (x ∷ l) y k = in_before (member? d x l) (in_distinct l) k

    pub distinct_once : (l : List A) → Once (distinct d l)
    unfolding distinct
    distinct_once [] = tt
    distinct_once (x ∷ l) = once_before (member? d x l) (of_distinct l) (distinct_once l)

  -- a list without one of its elements
  pub record Without (x : A) (m : List A) : Type 0 where
    pub rest : List A
    pub shorter : length m ≡ suc (length rest)
    pub others : (y : A) → y ∈ m → (y ≡ x → ⊥) → y ∈ rest

  removed : {x : A} (m : List A) → x ∈ m → Without x m
  removed [] k = absurd (Memᴰ.not-nil k)
  removed {x} (z ∷ m) k = ⊎_elim now (λ q. later (removed m q)) (Memᴰ.cases_cons k)
    where
      now : x ≡ z → Without x (z ∷ m)
      now e = record { rest = m; shorter = refl; others = λ y n f. ⊎_elim (λ g. absurd (f (g ∙ sym e))) (λ q. q) (Memᴰ.cases_cons n) }

      later : Without x m → Without x (z ∷ m)
      later w =
          record {
            rest = z ∷ w.rest;
            shorter = ap suc w.shorter;
            others = λ y n f. ⊎_elim (λ g. here g) (λ q. there (w.others y q f)) (Memᴰ.cases_cons n);
          }

  once_short : (l m : List A) → Once l → Within l m → length l ≤ length m
  once_short [] m o w = omega arith
  once_short (x ∷ l) m o w =
      let r = removed m (w x (here refl)) in
      let s = once_short l r.rest o.1 (λ y k. r.others y (w y (there k)) (λ e. o.0 (Memᴰ.cast (sym e) k))) in
      omega (arith, r.shorter)

  pub at_most_is : (d : Discrete A) (n : ℕ) (l : List A) → AtMost d n l ↔ ((m : List A) × (length m ≤ n) × ((x : A) → x ∈ l → x ∈ m))
  at_most_is d n l = (
    (λ h. (distinct d l, h, in_distinct d l)),
    λ m. let s = once_short (distinct d l) m.0 (distinct_once d l) (λ x k. m.2 x (of_distinct d l x k)) in omega (arith, m.1),
  )
