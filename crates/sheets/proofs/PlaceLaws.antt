-- A list without the elements at listed places: without one place more, the lowest, it has one element less.
-- Assumes nothing.
use mathlib.Core.Path.{◌≡◌, refl, sym, ◌∙◌, ap}
use mathlib.Core.Logic.{⊎_elim}
use mathlib.Core.Bool.{Bool, true, false, not}
use mathlib.Core.List.{List, [], ◌∷◌}
use Prim.Native.Nat.{ℕ, zero, suc, ◌≤◌}
use native.Mathlib.Omega.{arith}
use lib.ListN.{length}
use Rattle.terms.specs.Lists.{listed, without, selected}
use Rattle.terms.proofs.Tests.{refutes, decides_same, decides_via}
use Rattle.sheets.specs.LineSets.{Rises, is_listed, without_places}
use Rattle.sheets.proofs.LineSetLaws.{listed_says, listed_first, listed_later, listed_split, rises_above}
use Rattle.sheets.proofs.SheetWithout.{listed_same}

module _ {A : Type 0} where
  -- the elements at whose places the test passes
  abbrev kept : (ℕ → Bool) → List A → List A
  kept f l = selected (listed f (length l)) l

  kept_all : (f : ℕ → Bool) (l : List A) → ((k : ℕ) → f k ≡ true) → kept f l ≡ l
  unfolding listed selected
  kept_all f [] h = refl
  kept_all f (x ∷ l) h =
      ap (λ c. selected (c ∷ listed (λ k. f (suc k)) (length l)) (x ∷ l)) (h 0)
      ∙ ap (λ r. x ∷ r) (kept_all (λ k. f (suc k)) l (λ k. h (suc k)))

  -- two tests that differ at place n alone
  kept_without : (n : ℕ) (f g : ℕ → Bool) (l : List A) → f n ≡ false → ((k : ℕ) → (k ≡ n → ⊥) → f k ≡ g k)
      → ((k : ℕ) → k ≤ n → g k ≡ true) → kept f l ≡ without n (kept g l)
  unfolding listed selected without
  kept_without n f g [] here others passes = refl
  kept_without zero f g (x ∷ l) here others passes =
      ap (λ c. selected (c ∷ listed (λ k. f (suc k)) (length l)) (x ∷ l)) here
      ∙ ap (λ r. selected r l)
      (listed_same (λ k. f (suc k)) (λ k. g (suc k)) (length l) (λ k _. others (suc k) (λ e. omega (arith, e))))
      ∙ sym (ap (λ c. without 0 (selected (c ∷ listed (λ k. g (suc k)) (length l)) (x ∷ l))) (passes 0 (omega arith)))
  kept_without (suc n) f g (x ∷ l) here others passes =
      ap (λ c. selected (c ∷ listed (λ k. f (suc k)) (length l)) (x ∷ l)) first
      ∙ ap (λ r. x ∷ r)
      (kept_without n (λ k. f (suc k)) (λ k. g (suc k)) l here
      (λ k d. others (suc k) (λ e. d (omega (arith, e)))) (λ k h. passes (suc k) (omega arith)))
      ∙ sym
      (ap (λ c. without (suc n) (selected (c ∷ listed (λ k. g (suc k)) (length l)) (x ∷ l))) (passes 0 (omega arith)))
    where
      first : f 0 ≡ true
      first = others 0 (λ e. omega (arith, e)) ∙ passes 0 (omega arith)

  pub without_none : (l : List A) → without_places [] l ≡ l
  unfolding without_places is_listed
  without_none l = kept_all (λ k. not (is_listed [] k)) l (λ k. refl)

  pub without_next : (n : ℕ) (set : List ℕ) → Rises (n ∷ set) → (l : List A)
      → without_places (n ∷ set) l ≡ without n (without_places set l)
  unfolding without_places
  without_next n set rising l =
      kept_without n (λ k. not (is_listed (n ∷ set) k)) (λ k. not (is_listed set k)) l here others passes
    where
      here : not (is_listed (n ∷ set) n) ≡ false
      here = ap not ((listed_says (n ∷ set) n).1 (listed_first n set))

      others : (k : ℕ) → (k ≡ n → ⊥) → not (is_listed (n ∷ set) k) ≡ not (is_listed set k)
      others k d =
          ap not
          (decides_same (is_listed (n ∷ set) k) (is_listed set k) (listed_says (n ∷ set) k)
          (decides_via (listed_later n k set, λ h. ⊎_elim (λ e. absurd (d (sym e))) (λ x. x) (listed_split n k set h))
          (listed_says set k)))

      passes : (k : ℕ) → k ≤ n → not (is_listed set k) ≡ true
      passes k h =
          ap not (refutes (is_listed set k) (listed_says set k) (λ x. omega (arith, rises_above n set rising k x)))
