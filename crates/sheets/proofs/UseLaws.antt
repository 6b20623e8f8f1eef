-- Listed lines that lines which stay use: what the search for the highest of them answers.
-- Assumes nothing.
use mathlib.Core.Path.{◌≡◌, refl, sym, subst}
use mathlib.Core.Logic.{◌↔◌}
use mathlib.Core.Bool.{◌&&◌, not}
use mathlib.Core.List.{List}
use Prim.Native.Nat.{ℕ, suc, ◌+◌, ◌-◌, ◌≤◌, ◌<◌}
use native.Mathlib.Omega.{arith}
use borrow.Author.Tests.{not-true}
use Rattle.terms.specs.Decides.{Decides}
use Rattle.terms.proofs.Tests.{says_lt, refuted, refutes, ◌&◌}
use Rattle.terms.proofs.SearchLaws.{Between, stops, passes, search_means, FirstOf, first_tells}
use Rattle.terms.proofs.SearchLaws.{first_holds, first_found, first_at_lem}
use Rattle.sheets.specs.Lines.{line_of}
use Rattle.sheets.specs.LineSets.{is_listed, Listed, Stays}
use Rattle.sheets.specs.Withdrawal.{uses}
use Rattle.sheets.specs.WithdrawalSet.{first_kept_use, kept_use, AllLines, KeptUses, HighestUsed, NoneUsed}
use Rattle.sheets.proofs.LineSetLaws.{listed_says}
use Rattle.sheets.proofs.WithdrawalLaws.{uses_says}

stays_says : (set : List ℕ) (k : ℕ) → Decides (not (is_listed set k)) (Stays set k)
stays_says set k = (
  λ h. refuted (listed_says set k) (not-true (is_listed set k) h),
  λ s. rw (refutes (is_listed set k) (listed_says set k) s),
)

-- what holds of the first i lines from the last one down holds of each of them
from_last : (Q : ℕ → Type 0) (L i : ℕ) → Between (λ j. Q (L - suc j)) 0 i → (m : ℕ) → m < L → L ≤ m + i → Q m
from_last Q L i all m h l = subst Q back (all (L - suc m) (omega arith) (omega arith))
  where
    back : L - suc (L - suc m) ≡ m
    back = omega arith

module _ (edition : ℕ) (lines : List ℕ) (L : ℕ) (set : List ℕ) where
  -- line n is used by line k, which stays
  abbrev UsedBy : ℕ → ℕ → Type 0
  UsedBy = KeptUses edition lines set

  -- the lowest line that does; L if there is none
  abbrev lowest : ℕ → ℕ
  lowest = first_kept_use edition lines L set

  says_used : (n k : ℕ) → Decides (not (is_listed set k) && uses (line_of edition lines k) n) (UsedBy n k)
  says_used n k = stays_says set k & uses_says (line_of edition lines k) n

  -- it is below L exactly if there is one, and that one it is
  lowest_uses : (n : ℕ) → lowest n < L → UsedBy n (lowest n) × ((k : ℕ) → k < lowest n → UsedBy n k → ⊥)
  unfolding first_kept_use
  lowest_uses n l = first_holds (UsedBy n) (says_used n) L l

  lowest_within : (n k : ℕ) → k < L → UsedBy n k → lowest n < L
  unfolding first_kept_use
  lowest_within n k h u = first_found (UsedBy n) (says_used n) L k h u

  lowest_at : (n p : ℕ) → p < L → UsedBy n p → ((k : ℕ) → k < p → UsedBy n k → ⊥) → lowest n ≡ p
  unfolding first_kept_use
  lowest_at n p h u least = first_at_lem (UsedBy n) (says_used n) L p h u least

  not_within : (n : ℕ) → ((k : ℕ) → k < L → UsedBy n k → ⊥) → lowest n < L → ⊥
  not_within n none l = none (lowest n) l (lowest_uses n l).0

  -- line n is listed and used by a line that stays
  abbrev ListedUsed : ℕ → Type 0
  ListedUsed n = Listed set n × (lowest n < L)

  -- what the search of the lines from the last one down answers
  abbrev Answer : ℕ → Type 0
  Answer = FirstOf (λ i. ListedUsed (L - suc i)) (λ i. lowest (L - suc i)) L 0 L

  answer_means : (p : ℕ) → (kept_use edition lines L set ≡ p) ↔ Answer p
  unfolding kept_use
  answer_means =
      search_means
      (first_tells (λ i. ListedUsed (L - suc i)) (λ i. lowest (L - suc i))
      (λ i. listed_says set (L - suc i) & says_lt (lowest (L - suc i)) L))
      L L 0 L (omega arith)

  answer : Answer (kept_use edition lines L set)
  answer = (answer_means (kept_use edition lines L set)).0 refl

  module _ (all : AllLines L set) where
    -- where none of the first i lines from the last one down is so, no line that stays uses a listed one among them
    none_above : (i : ℕ) → Between (λ j. ListedUsed (L - suc j) → ⊥) 0 i
        → (n : ℕ) → L ≤ n + i → Listed set n → (k : ℕ) → k < L → UsedBy n k → ⊥
    none_above i before n h l k m u =
        from_last (λ n. ListedUsed n → ⊥) L i before n (all n l) h (l, lowest_within n k m u)

    highest_at : (i : ℕ) → i < L → Between (λ j. ListedUsed (L - suc j) → ⊥) 0 i → ListedUsed (L - suc i)
        → HighestUsed edition lines L set (L - suc i) (lowest (L - suc i))
    highest_at i h before x =
        record {
          listed = x.0;
          within = x.1;
          uses = (lowest_uses (L - suc i) x.1).0;
          lowest = (lowest_uses (L - suc i) x.1).1;
          highest = λ m above. none_above i before m (omega arith);
        }

    pub use_highest : kept_use edition lines L set < L
        → (n : ℕ) × HighestUsed edition lines L set n (kept_use edition lines L set)
    use_highest l = from answer
      where
        from : Answer (kept_use edition lines L set)
            → (n : ℕ) × HighestUsed edition lines L set n (kept_use edition lines L set)
        from (stops i low high before x) = (
          L - suc i,
          subst (HighestUsed edition lines L set (L - suc i)) (sym x.1) (highest_at i high before x.0),
        )
        from (passes none e) = absurd (omega arith)

    pub use_none : L ≤ kept_use edition lines L set → NoneUsed edition lines L set
    use_none l = from answer
      where
        from : Answer (kept_use edition lines L set) → NoneUsed edition lines L set
        from (stops i low high before x) = absurd (omega (arith, x.0.1, x.1))
        from (passes none e) = λ n. none_above L none n (omega arith)

    pub highest_use : (n p : ℕ) → HighestUsed edition lines L set n p → kept_use edition lines L set ≡ p
    highest_use n p u =
        (answer_means p).1
        (stops (L - suc n) (omega arith) (omega (arith, within)) before
        (subst (λ m. ListedUsed m × (p ≡ lowest m)) place ((u.listed, omega (arith, here, u.within)), sym here)))
      where
        within : n < L
        within = all n u.listed

        place : n ≡ L - suc (L - suc n)
        place = omega (arith, within)

        here : lowest n ≡ p
        here = lowest_at n p u.within u.uses u.lowest

        before : Between (λ j. ListedUsed (L - suc j) → ⊥) 0 (L - suc n)
        before j _ h x = not_within (L - suc j) (u.highest (L - suc j) (omega arith) x.0) x.1

    -- the answer for none is L itself
    pub unused_use : NoneUsed edition lines L set → kept_use edition lines L set ≡ L
    unused_use none =
        (answer_means L).1 (passes (λ i _ _ x. not_within (L - suc i) (none (L - suc i) x.0) x.1) refl)

    pub none_use : NoneUsed edition lines L set → L ≤ kept_use edition lines L set
    none_use none = omega (arith, unused_use none)
