-- What the functions on single rows answer, from what their callees answer.
-- Assumes nothing.
use mathlib.Core.Path.{◌≡◌, ◌∙◌, ap, subst}
use mathlib.Core.Bool.{true}
use mathlib.Core.List.{List, [], ◌∷◌}
use Prim.Native.Nat.{ℕ, zero, suc, ◌+◌, ◌*◌, ◌≤◌, ◌<◌}
use native.Mathlib.Omega.{arith}
use lib.ListN.{get_or}
use Rattle.terms.specs.Tag.{tag_of, arity}
use Rattle.terms.specs.Words.{word_at}
use Rattle.terms.specs.Rows.{word, tag, row_of}
use Rattle.terms.specs.Sizes.{fits_row, sum_to, row_size}
use Rattle.terms.specs.declared.rows.Row.{Row}
use Rattle.terms.proofs.GoodRows.{row_word, fits_child}
use Rattle.terms.proofs.TagTables.{arity_most}

-- `child_size`: what it answers, where x is the child's size
abbrev Summand : ℕ → ℕ → ℕ → ℕ → Type 0
Summand count j x s = (j ≤ count → s ≡ x) × (count < j → s ≡ 0)

-- at most four places count
sum-places : (f : ℕ → ℕ) (count s t u v : ℕ) → count ≤ 4
    → Summand count 1 (f 1) s → Summand count 2 (f 2) t → Summand count 3 (f 3) u → Summand count 4 (f 4) v
    → 1 + s + t + u + v ≡ 1 + sum_to count f
unfolding sum_to
sum-places f zero s t u v l p q x y = omega arith
sum-places f (suc zero) s t u v l p q x y = omega arith
sum-places f (suc (suc zero)) s t u v l p q x y = omega arith
sum-places f (suc (suc (suc zero))) s t u v l p q x y = omega arith
sum-places f (suc (suc (suc (suc zero)))) s t u v l p q x y = omega arith
sum-places f (suc (suc (suc (suc (suc n))))) s t u v l p q x y = absurd (omega arith)

-- `row_size`: the children that the tag uses have their sizes in the list
pub children_known : (r : Row) (count n : ℕ) → fits_row r n ≡ true → count ≡ arity (tag_of r.tag)
    → (1 ≤ count → r.a < n) × (2 ≤ count → r.b < n) × (3 ≤ count → r.c < n) × (4 ≤ count → r.d < n)
unfolding row_word
children_known r count n h e =
    let below = fits_child r n h in (
      λ l. below 1 (omega arith) (omega arith),
      λ l. below 2 (omega arith) (omega arith),
      λ l. below 3 (omega arith) (omega arith),
      λ l. below 4 (omega arith) (omega arith),
    )

module _ (sizes : List ℕ) where
  module _ (count s t u v : ℕ) where
    abbrev Summands : Row → Type 0
    Summands r =
        (count ≡ arity (tag_of r.tag)) × Summand count 1 (get_or sizes r.a 0) s × Summand count 2 (get_or sizes r.b 0) t
        × Summand count 3 (get_or sizes r.c 0) u × Summand count 4 (get_or sizes r.d 0) v

    at_row : (bytes : List ℕ) (n : ℕ) → Summands (row_of bytes n) → 1 + s + t + u + v ≡ row_size bytes n sizes
    unfolding row_of row_size tag
    at_row bytes n p =
        sum-places (λ j. get_or sizes (word bytes n j) 0) count s t u v (omega (arith, arity_most (tag bytes n), p.0)) p.1 p.2 p.3 p.4
        ∙ ap (λ m. 1 + sum_to m (λ j. get_or sizes (word bytes n j) 0)) p.0

    pub size_is : (r : Row) → Summands r → (bytes : List ℕ) (n : ℕ) → r ≡ row_of bytes n → 1 + s + t + u + v ≡ row_size bytes n sizes
    size_is r p bytes n e = at_row bytes n (subst Summands e p)

-- any five words are a row of some table, so that the promise of `row_size` says what it answers
pub some_table : (r : Row) → (bytes : List ℕ) × (r ≡ row_of bytes 0)
unfolding row_of word word_at
some_table r = (r.tag ∷ 0 ∷ r.a ∷ 0 ∷ r.b ∷ 0 ∷ r.c ∷ 0 ∷ r.d ∷ 0 ∷ [], λ i. record { tag = low r.tag i; a = low r.a i; b = low r.b i; c = low r.c i; d = low r.d i })
  where
    low : (w : ℕ) → w ≡ w + 256 * 0
    low w = omega arith
