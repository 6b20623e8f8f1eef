-- The easiest of the lines that are chosen: the search answers line i exactly if i is that line, and none exactly if no
-- line is chosen; there is one easiest line at most.
-- Assumes nothing.
use mathlib.Core.Path.{◌≡◌, refl, sym, ap, subst}
use mathlib.Core.Logic.{◌↔◌}
use mathlib.Core.Bool.{Bool, true, false}
use Rattle.std.specs.Prelude.{Option, Some, None, IfSome}
use Prim.Native.Nat.{ℕ, zero, suc, ◌≤◌, ◌<◌}
use native.Mathlib.Omega.{arith}
use lib.Dec.{leb}
use borrow.Author.Tests.{leb-true, leb-false}
use Rattle.terms.specs.Decides.{Decides}
use Rattle.terms.proofs.Shape.{below_or_last}
use Rattle.terms.proofs.Tests.{says_le, refutes, refuted}
use Rattle.sheets.specs.Easiest.{better, easiest, Easiest}

-- there is one at most
pub easiest_one : {Chosen : ℕ → Type 0} {height : ℕ → ℕ} {count i j : ℕ}
    → Easiest Chosen height count i → Easiest Chosen height count j → i ≡ j
easiest_one {height} {i} {j} a b =
    let same : height i ≡ height j = omega (arith, a.least j b.within b.is, b.least i a.within a.is) in
    omega (arith, a.last j b.within b.is (sym same), b.last i a.within a.is same)

module _ (Chosen : ℕ → Type 0) (height : ℕ → ℕ) where
  -- what the best of the first n lines means
  data Best (n : ℕ) : Option ℕ → Type 0 where
    no_line : ((k : ℕ) → k < n → Chosen k → ⊥) → Best n None
    line : {i : ℕ} → Easiest Chosen height n i → Best n (Some i)

  -- line i is no higher than line k, if that is chosen; and no earlier, if it is as high
  abbrev NoHigher : ℕ → ℕ → Type 0
  NoHigher i k = Chosen k → height i ≤ height k

  abbrev NoEarlier : ℕ → ℕ → Type 0
  NoEarlier i k = Chosen k → height k ≡ height i → k ≤ i

  -- a line more that is not chosen
  passed : (n : ℕ) {o : Option ℕ} → (Chosen n → ⊥) → Best n o → Best (suc n) o
  passed n not (no_line f) = no_line (λ k h. below_or_last (λ m. Chosen m → ⊥) n k (omega arith) (f k) not)
  passed n not (line {i} b) =
      line {i = i} (record {
        within = omega (arith, b.within);
        is = b.is;
        least = λ k h. below_or_last (NoHigher i) n k (omega arith) (b.least k) (λ c. absurd (not c));
        last = λ k h. below_or_last (NoEarlier i) n k (omega arith) (b.last k) (λ c. absurd (not c));
      })

  -- line n is chosen, and no line before it is lower
  newest : (n : ℕ) → Chosen n → ((k : ℕ) → k < n → NoHigher n k) → Best (suc n) (Some n)
  newest n c lower =
      line {i = n} (record {
        within = omega arith;
        is = c;
        least = λ k h. below_or_last (NoHigher n) n k (omega arith) (lower k) (λ d. omega arith);
        last = λ k h d e. omega arith;
      })

  -- a line more that is chosen, and is the best if it is no higher
  taken : (n : ℕ) {o : Option ℕ} → Chosen n → Best n o → Best (suc n) (better height o n)
  unfolding better
  taken n c (no_line f) = newest n c (λ k l d. absurd (f k l d))
  taken n c (line {i} b) = at (leb (height n) (height i)) refl
    where
      at : (t : Bool) → leb (height n) (height i) ≡ t → Best (suc n) (elim t [ true ↦ Some n | false ↦ Some i ])
      at true e =
          let lower : height n ≤ height i = leb-true (height n) (height i) e in
          newest n c (λ k l d. omega (arith, lower, b.least k l d))
      at false e =
          let higher : height i < height n = leb-false (height n) (height i) e in
          line {i = i} (record {
            within = omega (arith, b.within);
            is = b.is;
            least = λ k h. below_or_last (NoHigher i) n k (omega arith) (b.least k) (λ d. omega (arith, higher));
            last = λ k h.
                below_or_last (NoEarlier i) n k (omega arith) (b.last k) (λ d f. absurd (omega (arith, higher, f)));
          })

  module _ (chosen : ℕ → Bool) (says : (n : ℕ) → Decides (chosen n) (Chosen n)) where
    abbrev found : ℕ → Option ℕ
    found = easiest chosen height

    best : (count : ℕ) → Best count (found count)
    unfolding easiest
    best zero = no_line (λ k h. absurd (omega arith))
    best (suc n) = at (best n) (chosen n) (says n)
      where
        at : Best n (found n) → (t : Bool) → Decides t (Chosen n)
            → Best (suc n) (elim t [ true ↦ better height (found n) n | false ↦ found n ])
        at b true d = taken n (d.0 refl) b
        at b false d = passed n (refuted d refl) b

    pub easiest_is : (count i : ℕ) → (easiest chosen height count ≡ Some i) ↔ Easiest Chosen height count i
    easiest_is count i = (λ e. from (subst (Best count) e (best count)), λ b. to b (found count) (best count))
      where
        from : Best count (Some i) → Easiest Chosen height count i
        from (line b) = b

        to : Easiest Chosen height count i → (o : Option ℕ) → Best count o → o ≡ Some i
        to b None (no_line f) = absurd (f i b.within b.is)
        to b (Some j) (line a) = ap Some (easiest_one a b)

    pub none_is : (count : ℕ) → (easiest chosen height count ≡ None) ↔ ((n : ℕ) → n < count → Chosen n → ⊥)
    none_is count = (λ e. from (subst (Best count) e (best count)), λ f. to f (found count) (best count))
      where
        from : Best count None → (n : ℕ) → n < count → Chosen n → ⊥
        from (no_line f) = f

        to : ((n : ℕ) → n < count → Chosen n → ⊥) → (o : Option ℕ) → Best count o → o ≡ None
        to f None b = refl
        to f (Some j) (line a) = absurd (f j a.within a.is)

-- `better`
module _ (height : ℕ → ℕ) (best n : ℕ) where
  pub better_before : height best < height n → Some best ≡ better height (Some best) n
  unfolding better
  better_before lower = sym (rw (refutes (leb (height n) (height best)) (says_le (height n) (height best)) (λ l. omega (arith, lower)), better))

  pub better_later : height n ≤ height best → Some n ≡ better height (Some best) n
  unfolding better
  better_later lower = sym (rw ((says_le (height n) (height best)).1 lower, better))

-- heights that agree on the first count lines
pub better_same : (f g : ℕ → ℕ) (count : ℕ) (best : Option ℕ) (n : ℕ) → ((k : ℕ) → k < count → f k ≡ g k)
    → IfSome best (λ b. b < count) → n < count → better f best n ≡ better g best n
unfolding better
better_same f g count None n same there within = refl
better_same f g count (Some best) n same there within =
    λ i. elim (leb (same n within i) (same best there i)) [ true ↦ Some n | false ↦ Some best ]
