-- Laws of lists: the values of a function in order, joined lists, members by place and marked members.
-- Assumes nothing.
use mathlib.Core.Path.{◌≡◌, refl, sym, subst}
use mathlib.Core.Logic.{⊎_elim}
use mathlib.Core.Bool.{Bool, true, false}
use mathlib.Core.List.Memᴰ
use mathlib.Core.List.Memᴰ.{head as here}
use mathlib.Core.List.Memᴰ.{tail as there}
use mathlib.Core.List.{List, [], ◌∷◌, map, flat_map}
use Prim.Native.Nat.{ℕ, zero, suc, ◌<◌}
use native.Mathlib.Omega.{arith}
use lib.ListN.{length, get_or}
use Rattle.terms.specs.Lists.{AllBelow, listed, selected}
use Rattle.terms.proofs.Tests.{never}
use Rattle.derivations.specs.Lists.{◌∈◌}

module _ {A : Type 0} where
  pub in_listed : (f : ℕ → A) (n i : ℕ) → i < n → f i ∈ listed f n
  unfolding listed
  in_listed f zero i h = absurd (omega arith)
  in_listed f (suc n) zero h = here refl
  in_listed f (suc n) (suc i) h = there (in_listed (λ k. f (suc k)) n i (omega arith))

  -- an element at some place below n
  abbrev pub Among : (ℕ → A) → ℕ → A → Type 0
  Among f n x = (i : ℕ) × (i < n) × (x ≡ f i)

  pub of_listed : (f : ℕ → A) (n : ℕ) {x : A} → x ∈ listed f n → Among f n x
  unfolding listed
  of_listed f zero m = absurd (Memᴰ.not-nil m)
  of_listed f (suc n) {x} m = ⊎_elim (λ e. (0, omega arith, e)) (λ k. later (of_listed (λ i. f (suc i)) n k)) (Memᴰ.cases_cons m)
    where
      later : Among (λ i. f (suc i)) n x → Among f (suc n) x
      later a = (suc a.0, omega (arith, a.1), a.2)

  -- what stands at one of these places
  pub of_places : (f : ℕ → A) (n : ℕ) (places : List ℕ) → AllBelow n places → {x : A} → x ∈ map f places → Among f n x
  of_places f n [] b m = absurd (Memᴰ.not-nil m)
  of_places f n (k ∷ places) b m =
      ⊎_elim (λ e. (k, b.0, e)) (λ l. of_places f n places b.1 l) (Memᴰ.cases_cons m)

  pub in_place : (l : List A) (i : ℕ) (d : A) → i < length l → get_or l i d ∈ l
  in_place [] i d h = absurd (omega arith)
  in_place (x ∷ l) zero d h = here refl
  in_place (x ∷ l) (suc i) d h = there (in_place l i d (omega arith))

  pub place_of : {x : A} (l : List A) (d : A) → x ∈ l → Among (λ i. get_or l i d) (length l) x
  place_of [] d m = absurd (Memᴰ.not-nil m)
  place_of {x} (y ∷ l) d m = ⊎_elim (λ e. (0, omega arith, e)) (λ k. later (place_of l d k)) (Memᴰ.cases_cons m)
    where
      later : Among (λ i. get_or l i d) (length l) x → Among (λ i. get_or (y ∷ l) i d) (suc (length l)) x
      later a = (suc a.0, omega (arith, a.1), a.2)

  -- the marked elements are those at the marked places
  pub in_selected : (used : List Bool) (l : List A) (k : ℕ) (d : A) → k < length l → get_or used k false ≡ true
      → get_or l k d ∈ selected used l
  unfolding selected
  in_selected [] l k d h u = never u refl
  in_selected (b ∷ used) [] k d h u = absurd (omega arith)
  in_selected (true ∷ used) (x ∷ l) zero d h u = here refl
  in_selected (true ∷ used) (x ∷ l) (suc k) d h u = there (in_selected used l k d (omega arith) u)
  in_selected (false ∷ used) (x ∷ l) zero d h u = never u refl
  in_selected (false ∷ used) (x ∷ l) (suc k) d h u = in_selected used l k d (omega arith) u

  pub of_selected : (P : A → Type 0) (used : List Bool) (l : List A) (d : A)
      → ((k : ℕ) → get_or used k false ≡ true → P (get_or l k d)) → {x : A} → x ∈ selected used l → P x
  unfolding selected
  of_selected P [] l d h m = absurd (Memᴰ.not-nil m)
  of_selected P (b ∷ used) [] d h m = absurd (Memᴰ.not-nil m)
  of_selected P (true ∷ used) (y ∷ l) d h m =
      ⊎_elim (λ e. subst P (sym e) (h 0 refl)) (λ k. of_selected P used l d (λ i. h (suc i)) k) (Memᴰ.cases_cons m)
  of_selected P (false ∷ used) (y ∷ l) d h m = of_selected P used l d (λ i. h (suc i)) m

module _ {A B : Type 0} (f : A → List B) where
  pub in_flat : {y : A} {x : B} (l : List A) → y ∈ l → x ∈ f y → x ∈ flat_map f l
  unfolding flat_map
  in_flat [] k m = absurd (Memᴰ.not-nil k)
  in_flat {y} {x} (z ∷ l) k m =
      ⊎_elim (λ e. Memᴰ.append_left (flat_map f l) (subst (λ w. x ∈ f w) e m)) (λ q. Memᴰ.append_right (f z) (in_flat l q m)) (Memᴰ.cases_cons k)

  pub of_flat : {x : B} (l : List A) → x ∈ flat_map f l → (y : A) × (y ∈ l) × (x ∈ f y)
  unfolding flat_map
  of_flat [] m = absurd (Memᴰ.not-nil m)
  of_flat {x} (z ∷ l) m = ⊎_elim (λ k. (z, here refl, k)) (λ k. later (of_flat l k)) (Memᴰ.append_cases (f z) m)
    where
      later : (y : A) × (y ∈ l) × (x ∈ f y) → (y : A) × (y ∈ (z ∷ l)) × (x ∈ f y)
      later a = (a.0, there a.1, a.2)
