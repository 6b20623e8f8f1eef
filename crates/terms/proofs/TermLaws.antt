-- The tree that a row spells: it unfolds one level at a time, depends on no row behind, and in a well-formed table
-- equal trees stand in one row only.
-- Assumes nothing.
use mathlib.Core.Path.{◌≡◌, refl, sym, ◌∙◌, ap, subst}
use mathlib.Core.Logic.{◌↔◌}
use mathlib.Core.List.{List}
use Prim.Native.Nat.{ℕ, zero, suc, ◌+◌, ◌*◌, ◌≤◌, ◌<◌}
use native.Mathlib.Decide.{dec_le}
use native.Mathlib.Omega.{arith}
use lib.ListN.{get_or}
use Rattle.terms.specs.Term.{Term}
use Rattle.terms.specs.Tag.{tag_of, arity, used, shape, tag_in, number_in}
use Rattle.terms.specs.Words.{word_at}
use Rattle.terms.specs.Rows.{word, tag, term_to, term}
use Rattle.terms.specs.Table.{GoodRow, TermTable}
use Rattle.terms.proofs.Shape.{AtChildren, shape_cong, children_equal, tag_in-shape, number_shape, used_number, tag_of_inj, tag_of_known}
use Rattle.terms.proofs.TagTables.{arity_most}
use Rattle.terms.proofs.GoodRows.{good_child, good_unused}

-- the children of each row below count stand before it
abbrev pub Downward : List ℕ → ℕ → Type 0
Downward bytes count = (n : ℕ) → n < count → AtChildren (tag bytes n) (λ j. word bytes n j < n)

module _ (bytes : List ℕ) (count : ℕ) (down : Downward bytes count) where
  -- any depth over the row's number shows the whole tree
  depth_enough : (d e n : ℕ) → n < count → n < d → n < e → term_to d bytes n ≡ term_to e bytes n
  unfolding term_to
  depth_enough zero e n h l m = absurd (omega arith)
  depth_enough (suc d) zero n h l m = absurd (omega arith)
  depth_enough (suc d) (suc e) n h l m =
      shape_cong (tag bytes n) (word bytes n 1) _ _
      (λ j low high. let c = down n h j low high in depth_enough d e (word bytes n j) (omega arith) (omega arith) (omega arith))

  pub term_step : (n : ℕ) → n < count → term bytes n ≡ shape (tag bytes n) (word bytes n 1) (λ j. term bytes (word bytes n j))
  unfolding term term_to
  term_step n h =
      shape_cong (tag bytes n) (word bytes n 1) _ _
      (λ j low high. let c = down n h j low high in depth_enough n (suc (word bytes n j)) (word bytes n j) (omega arith) (omega arith) (omega arith))

  -- tables with the same words in the first count rows spell the same trees there
  module _ (other : List ℕ) (same : (n j : ℕ) → n < count → j < 5 → word bytes n j ≡ word other n j) where
    same_to : (d n : ℕ) → n < count → term_to d bytes n ≡ term_to d other n
    unfolding term_to tag
    same_to zero n h = refl
    same_to (suc d) n h =
        shape_cong (tag bytes n) (word bytes n 1) _ _
        (λ j low high.
        let c = down n h j low high in
        let k : j < 5 = omega (arith, arity_most (tag bytes n)) in
        same_to d (word bytes n j) (omega arith) ∙ ap (term_to d other) (same n j h k))
        ∙ (λ i. shape (tag_of (same n 0 h (omega arith) i)) (same n 1 h (omega arith) i) (λ j. term_to d other (word other n j)))

    pub same_term : (n : ℕ) → n < count → term bytes n ≡ term other n
    unfolding term
    same_term n h = same_to (suc n) n h

-- what row n spells does not depend on what stands behind it
pub term_before : (bytes other : List ℕ) (count : ℕ) → Downward bytes count → ((i : ℕ) → i < 10 * count → get_or bytes i 0 ≡ get_or other i 0) → (n : ℕ) → n < count → term bytes n ≡ term other n
unfolding word word_at
term_before bytes other count down agree n h =
    same_term bytes count down other
    (λ m j l k. λ i. agree (2 * (5 * m + j)) (omega arith) i + 256 * agree (2 * (5 * m + j) + 1) (omega arith) i) n h

-- a description of a row by its words, in a table of count rows: what `Row` holds of a row that is there
pub record Described (count : ℕ) (w : ℕ → ℕ) : Type 0 where
  pub low : 1 ≤ w 0
  pub high : w 0 ≤ 13
  pub children : AtChildren (tag_of (w 0)) (λ j. w j < count)
  pub unused : (j : ℕ) → used (tag_of (w 0)) < j → j ≤ 4 → w j ≡ 0

-- the tree that such words spell
abbrev pub spelled : List ℕ → (ℕ → ℕ) → Term
spelled bytes w = shape (tag_of (w 0)) (w 1) (λ j. term bytes (w j))

module _ (bytes : List ℕ) (count : ℕ) (table : TermTable bytes count) where
  pub downward : Downward bytes count
  downward n h = good_child bytes n (table.rows n h)

  pub row_described : (n : ℕ) → n < count → Described count (word bytes n)
  unfolding tag
  row_described n h =
      let g = table.rows n h in
      record {
        low = g.low;
        high = g.high;
        children = λ j low high. let c = good_child bytes n g j low high in omega arith;
        unused = good_unused bytes n g;
      }

  pub unfolded : (n : ℕ) → n < count → term bytes n ≡ spelled bytes (word bytes n)
  unfolding tag
  unfolded n h = term_step bytes count downward n h

  -- a row that spells a description holds its words, if its children stand in one row only
  words_agree : (n : ℕ) → n < count → (w : ℕ → ℕ) → Described count w
      → ((c d : ℕ) → c < n → d < count → term bytes c ≡ term bytes d → c ≡ d)
      → term bytes n ≡ spelled bytes w → (j : ℕ) → j < 5 → word bytes n j ≡ w j
  unfolding tag
  words_agree n h w d once e = at
    where
      g : GoodRow bytes n
      g = table.rows n h

      trees : spelled bytes (word bytes n) ≡ spelled bytes w
      trees = sym (unfolded n h) ∙ e

      tags : tag_of (word bytes n 0) ≡ tag_of (w 0)
      tags = sym (tag_in-shape _ (word bytes n 1) _ (tag_of_known _ g.low g.high)) ∙ ap tag_in trees ∙ tag_in-shape _ (w 1) _ (tag_of_known _ d.low d.high)

      trees' : shape (tag_of (w 0)) (word bytes n 1) (λ j. term bytes (word bytes n j)) ≡ spelled bytes w
      trees' = subst (λ τ. shape τ (word bytes n 1) (λ j. term bytes (word bytes n j)) ≡ spelled bytes w) tags trees

      operand : (j : ℕ) → 1 ≤ j → j ≤ 4 → word bytes n j ≡ w j
      operand j low high =
          elim (dec_le j (arity (tag_of (w 0)))) [
            | yes child ↦ once (word bytes n j) (w j) (good_child bytes n g j low (subst (λ τ. j ≤ arity τ) (sym tags) child)) (d.children j low child) (children_equal _ _ _ _ _ trees' j low child)
            | no other ↦ elim (dec_le j (used (tag_of (w 0)))) [
              | yes number ↦ used_number (tag_of (w 0)) j (omega arith) number (λ k. word bytes n k ≡ w k) (λ few. sym (number_shape _ (word bytes n 1) _ few) ∙ ap number_in trees' ∙ number_shape _ (w 1) _ few)
              | no beyond ↦ good_unused bytes n g j (subst (λ τ. used τ < j) (sym tags) (omega arith)) high ∙ sym (d.unused j (omega arith) high)
            ]
          ]

      at : (j : ℕ) → j < 5 → word bytes n j ≡ w j
      at zero l = tag_of_inj (word bytes n 0) (w 0) g.high d.high tags
      at (suc j) l = operand (suc j) (omega arith) (omega arith)

  once_to : (bound t u : ℕ) → t < bound → t < count → u < count → term bytes t ≡ term bytes u → t ≡ u
  once_to zero t u b h k e = absurd (omega arith)
  once_to (suc bound) t u b h k e =
      table.distinct t u h k
      (words_agree t h (word bytes u) (row_described u k) (λ c d l m f. once_to bound c d (omega arith) (omega arith) m f) (e ∙ unfolded u k))

  -- equal terms have equal row numbers
  pub same_row : (t u : ℕ) → t < count → u < count → term bytes t ≡ term bytes u → t ≡ u
  same_row t u h k e = once_to (suc t) t u (omega arith) h k e

  -- a row holds the words of a description exactly if it spells its tree
  pub holds_spells : (n : ℕ) → n < count → (w : ℕ → ℕ) → Described count w → ((j : ℕ) → j < 5 → word bytes n j ≡ w j) ↔ (term bytes n ≡ spelled bytes w)
  holds_spells n h w d = (
    λ f. unfolded n h ∙ shape_cong _ _ _ _ (λ j low high. ap (term bytes) (f j (omega (arith, arity_most (tag_of (word bytes n 0)))))) ∙ (λ i. shape (tag_of (f 0 (omega arith) i)) (f 1 (omega arith) i) (λ j. term bytes (w j))),
    λ e. words_agree n h w d (λ c d' l m f. same_row c d' (omega arith) m f) e,
  )
