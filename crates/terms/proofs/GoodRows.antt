-- The test of five words answers for the declarative reading of a row, number 5; what words that pass it and a good row
-- give.
-- Assumes nothing.
use mathlib.Core.Path.{◌≡◌, refl, subst}
use mathlib.Core.Bool.{true}
use mathlib.Core.List.{List, [], ◌∷◌}
use Prim.Native.Nat.{ℕ, zero, suc, ◌≤◌, ◌<◌}
use native.Mathlib.Omega.{arith}
use Rattle.std.proofs.lemmas.Grind.{common_steps}
use lib.ListN.{get_or}
use borrow.Author.Tests.{lt-leb}
use Rattle.terms.specs.Tag.{tag_of, used}
use Rattle.terms.specs.Rows.{word, tag, row_of}
use Rattle.terms.specs.Table.{GoodRow, limit}
use Rattle.terms.specs.Sizes.{fits_row}
use Rattle.terms.specs.declared.rows.Row.{Row}
use Rattle.terms.proofs.Shape.{AtChildren, each}
use Rattle.terms.proofs.TagTables.{child-limit, arity_most}

-- word j of five words
unfoldable pub row_word : Row → ℕ → ℕ
row_word r j = get_or (r.tag ∷ r.a ∷ r.b ∷ r.c ∷ r.d ∷ []) j 0

-- five words, whether or not a table holds them
module _ (r : Row) (n : ℕ) where
  module _ (h : fits_row r n ≡ true) where
    pub fits_tag : (1 ≤ r.tag) × (r.tag ≤ 13)
    unfolding fits_row
    fits_tag = grind (arith, common_steps)

    fits_operand : (j : ℕ) → 1 ≤ j → j ≤ 4 → row_word r j < limit (tag_of r.tag) n j
    unfolding fits_row row_word
    fits_operand = each _ 4 ((((tt, grind (arith, common_steps)), grind (arith, common_steps)), grind (arith, common_steps)), grind (arith, common_steps))

    -- a child's number is below that of the row with these words
    pub fits_child : AtChildren (tag_of r.tag) (λ j. row_word r j < n)
    fits_child j low high = subst (λ m. row_word r j < m) (child-limit (tag_of r.tag) n j low high) (fits_operand j low (omega (arith, arity_most (tag_of r.tag))))

module _ (bytes : List ℕ) (n : ℕ) where
  pub row_word_lem : (j : ℕ) → j < 5 → row_word (row_of bytes n) j ≡ word bytes n j
  unfolding row_word row_of
  row_word_lem zero l = refl
  row_word_lem (suc j) l = each (λ i. row_word (row_of bytes n) i ≡ word bytes n i) 4 ((((tt, refl), refl), refl), refl) (suc j) (omega arith) (omega arith)

  pub fits_good : fits_row (row_of bytes n) n ≡ true → GoodRow bytes n
  unfolding row_of tag
  fits_good h =
      let t = fits_tag (row_of bytes n) n h in
      record {
        low = t.0;
        high = t.1;
        operands = λ j low high. subst (λ w. w < limit (tag bytes n) n j) (row_word_lem j (omega arith)) (fits_operand (row_of bytes n) n h j low high);
      }

  pub good_fits : GoodRow bytes n → fits_row (row_of bytes n) n ≡ true
  unfolding row_of tag fits_row
  good_fits g =
      let a = g.operands 1 (omega arith) (omega arith) in
      let b = g.operands 2 (omega arith) (omega arith) in
      let c = g.operands 3 (omega arith) (omega arith) in
      let d = g.operands 4 (omega arith) (omega arith) in
      grind (arith, common_steps)

  module _ (g : GoodRow bytes n) where
    -- a child's number is below its row's
    pub good_child : AtChildren (tag bytes n) (λ j. word bytes n j < n)
    good_child j low high = subst (λ m. word bytes n j < m) (child-limit (tag bytes n) n j low high) (g.operands j low (omega (arith, arity_most (tag bytes n))))

    -- an unused operand is 0
    pub good_unused : (j : ℕ) → used (tag bytes n) < j → j ≤ 4 → word bytes n j ≡ 0
    unfolding limit
    good_unused j low high =
        let l : word bytes n j < 1 = subst (λ m. word bytes n j < m) (rw (lt-leb j (used (tag bytes n)) low, limit)) (g.operands j (omega arith) high) in
        omega arith
