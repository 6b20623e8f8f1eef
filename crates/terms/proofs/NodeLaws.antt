-- What the tests on a row's head answer, from the words that they read.
-- Assumes nothing.
use mathlib.Core.Path.{◌≡◌, refl, sym, ◌∙◌, ap, subst}
use mathlib.Core.Logic.{◌↔◌}
use mathlib.Core.Bool.{Bool, true, ◌&&◌}
use mathlib.Core.List.{List, [], ◌∷◌}
use Prim.Native.Nat.{ℕ, zero, suc, ◌≤◌, ◌<◌}
use native.Mathlib.Omega.{arith}
use lib.Dec.{eqb}
use borrow.Author.Tests.{eqb-true, eq-eqb}
use Rattle.terms.specs.Term.{var}
use Rattle.terms.specs.Decides.{Decides}
use Rattle.terms.specs.Tag.{Var, tag_of, arity, used, shape, tag_in, number_in, child}
use Rattle.terms.specs.Rows.{word, tag, term, holds_row}
use Rattle.terms.specs.Table.{TermTable, RowsInTable}
use Rattle.terms.specs.Lists.{AllBelow}
use Rattle.terms.specs.Nodes.{node_term, node_children, node_row, SameHead}
use Rattle.terms.specs.declared.rows.Row.{Row}
use Rattle.terms.specs.declared.nodes.Node.{Node}
use Rattle.terms.specs.declared.nodes.Node.TheVariants as node
use Rattle.terms.proofs.Tables.{and_left, and_right}
use Rattle.terms.proofs.Shape.{Each, each, tag_in-shape, tag_of_known, tag_of_inj, child-shape, number_shape}
use Rattle.terms.proofs.GoodRows.{row_word, good_child}
use Rattle.terms.proofs.TermLaws.{Described, spelled, row_described, unfolded, holds_spells}

abbrev pub Holds : List ℕ → ℕ → Row → Type 0
Holds bytes n r = (j : ℕ) → j < 5 → word bytes n j ≡ row_word r j

-- five tests joined as `holds_row` joins them
five : (p q a b c : Bool) → ((p ≡ true) × (q ≡ true) × (a ≡ true) × (b ≡ true) × (c ≡ true)) ↔ ((p && (q && a && b && c)) ≡ true)
five p q a b c = (λ h. rw (h.0, h.1, h.2, h.3, h.4), apart)
  where
    apart : (p && (q && a && b && c)) ≡ true → (p ≡ true) × (q ≡ true) × (a ≡ true) × (b ≡ true) × (c ≡ true)
    apart h =
        let h3 = and_right p (q && a && b && c) h in
        let h2 = and_left (q && a && b) c h3 in
        let h1 = and_left (q && a) b h2 in
        (and_left p (q && a && b && c) h, and_left q a h1, and_right q a h1, and_right (q && a) b h2, and_right (q && a && b) c h3)

holds_five : (bytes : List ℕ) (n : ℕ) (r : Row)
    → ((eqb (word bytes n 1) r.a ≡ true) × (eqb (word bytes n 0) r.tag ≡ true) × (eqb (word bytes n 2) r.b ≡ true) × (eqb (word bytes n 3) r.c ≡ true) × (eqb (word bytes n 4) r.d ≡ true))
    ↔ (holds_row bytes n r ≡ true)
unfolding holds_row
holds_five bytes n r = five (eqb (word bytes n 1) r.a) (eqb (word bytes n 0) r.tag) (eqb (word bytes n 2) r.b) (eqb (word bytes n 3) r.c) (eqb (word bytes n 4) r.d)

-- the test on a row's words answers for all five
pub holds_words : (bytes : List ℕ) (n : ℕ) (r : Row) → (holds_row bytes n r ≡ true) ↔ Holds bytes n r
unfolding row_word
holds_words bytes n r = (there, back)
  where
    there : holds_row bytes n r ≡ true → Holds bytes n r
    there h zero l = eqb-true _ _ ((holds_five bytes n r).1 h).1
    there h (suc j) l =
        let t = (holds_five bytes n r).1 h in
        each (λ i. word bytes n i ≡ row_word r i) 4 ((((tt, eqb-true _ _ t.0), eqb-true _ _ t.2), eqb-true _ _ t.3), eqb-true _ _ t.4) (suc j) (omega arith) (omega arith)

    back : Holds bytes n r → holds_row bytes n r ≡ true
    back h = (holds_five bytes n r).0 (eq-eqb _ _ (h 1 (omega arith)), eq-eqb _ _ (h 0 (omega arith)), eq-eqb _ _ (h 2 (omega arith)), eq-eqb _ _ (h 3 (omega arith)), eq-eqb _ _ (h 4 (omega arith)))

-- five words describe a row if the children that its tag has stand in the table, and no operand is used behind them
module _ (count : ℕ) (r : Row) (low : 1 ≤ r.tag) (high : r.tag ≤ 13) where
  describes : (m u : ℕ) → m ≡ arity (tag_of r.tag) → u ≡ used (tag_of r.tag) → Each (λ j. row_word r j < count) m
      → Each (λ j. u < j → row_word r j ≡ 0) 4 → Described count (row_word r)
  unfolding row_word
  describes m u e f children unused =
      record {
        low = low;
        high = high;
        children = λ j at within. each (λ j. row_word r j < count) m children j at (subst (λ a. j ≤ a) (sym e) within);
        unused =
            λ j behind within.
            each (λ j. u < j → row_word r j ≡ 0) 4 unused j (omega arith) within (subst (λ a. a < j) (sym f) behind);
      }

-- no operand is used behind none, behind one and behind two of them
module _ (tag a : ℕ) where
  behind_none : Each (λ j. 0 < j → row_word (record { tag = tag; a = 0; b = 0; c = 0; d = 0 }) j ≡ 0) 4
  unfolding row_word
  behind_none = ((((tt, λ l. refl), λ l. refl), λ l. refl), λ l. refl)

  behind_one : Each (λ j. 1 < j → row_word (record { tag = tag; a = a; b = 0; c = 0; d = 0 }) j ≡ 0) 4
  unfolding row_word
  behind_one = ((((tt, λ l. absurd (omega arith)), λ l. refl), λ l. refl), λ l. refl)

  behind_two : (b : ℕ) → Each (λ j. 2 < j → row_word (record { tag = tag; a = a; b = b; c = 0; d = 0 }) j ≡ 0) 4
  unfolding row_word
  behind_two b = ((((tt, λ l. absurd (omega arith)), λ l. absurd (omega arith)), λ l. refl), λ l. refl)

-- a node whose children are rows of the table describes a row
module _ (count : ℕ) where
  described : (n : Node) → AllBelow count (node_children n) → Described count (row_word (node_row n))
  unfolding row_word arity used tag_of
  described (node.Var i) h = describes count _ (omega arith) (omega arith) 0 1 refl refl tt (behind_one 1 i)
  described (node.Univ l) h = describes count _ (omega arith) (omega arith) 0 1 refl refl tt (behind_one 2 l)
  described (node.Pi a b) h =
      describes count _ (omega arith) (omega arith) 2 2 refl refl ((tt, h.0), h.1.0) (behind_two 3 a b)
  described (node.Lam b) h = describes count _ (omega arith) (omega arith) 1 1 refl refl (tt, h.0) (behind_one 4 b)
  described (node.App b a) h =
      describes count _ (omega arith) (omega arith) 2 2 refl refl ((tt, h.0), h.1.0) (behind_two 5 b a)
  described (node.Sigma a b) h =
      describes count _ (omega arith) (omega arith) 2 2 refl refl ((tt, h.0), h.1.0) (behind_two 6 a b)
  described (node.Pair a b) h =
      describes count _ (omega arith) (omega arith) 2 2 refl refl ((tt, h.0), h.1.0) (behind_two 7 a b)
  described (node.First a) h = describes count _ (omega arith) (omega arith) 1 1 refl refl (tt, h.0) (behind_one 8 a)
  described (node.Second a) h = describes count _ (omega arith) (omega arith) 1 1 refl refl (tt, h.0) (behind_one 9 a)
  described node.Nat h = describes count _ (omega arith) (omega arith) 0 0 refl refl tt (behind_none 10 0)
  described node.Zero h = describes count _ (omega arith) (omega arith) 0 0 refl refl tt (behind_none 11 0)
  described (node.Succ a) h = describes count _ (omega arith) (omega arith) 1 1 refl refl (tt, h.0) (behind_one 12 a)
  described (node.Ind p a b c) h =
      describes count _ (omega arith) (omega arith) 4 4 refl refl ((((tt, h.0), h.1.0), h.1.1.0), h.1.1.1.0) all_used
    where
      all_used : Each (λ j. 4 < j → row_word (node_row (node.Ind p a b c)) j ≡ 0) 4
      all_used =
          ((((tt, λ l. absurd (omega arith)), λ l. absurd (omega arith)), λ l. absurd (omega arith)), λ l. absurd (omega arith))

-- the row of a node spells its term
node_spelled : (bytes : List ℕ) (n : Node) → spelled bytes (row_word (node_row n)) ≡ node_term bytes n
unfolding row_word shape tag_of
node_spelled bytes (node.Var i) = refl
node_spelled bytes (node.Univ l) = refl
node_spelled bytes (node.Pi a b) = refl
node_spelled bytes (node.Lam b) = refl
node_spelled bytes (node.App b a) = refl
node_spelled bytes (node.Sigma a b) = refl
node_spelled bytes (node.Pair a b) = refl
node_spelled bytes (node.First a) = refl
node_spelled bytes (node.Second a) = refl
node_spelled bytes node.Nat = refl
node_spelled bytes node.Zero = refl
node_spelled bytes (node.Succ a) = refl
node_spelled bytes (node.Ind p a b c) = refl

-- `is_node`
pub node_decided : (bytes : List ℕ) (n : ℕ) (m : Node) → RowsInTable bytes (n ∷ node_children m)
    → (row : Row) (r : Bool) → row ≡ node_row m → r ≡ holds_row bytes n row
    → Decides r (term bytes n ≡ node_term bytes m)
node_decided bytes n m g row r e f =
    let spells = holds_spells bytes g.count g.table n g.below.0 (row_word (node_row m)) (described g.count m g.below.1) in
    let words = holds_words bytes n (node_row m) in
    let whole : r ≡ holds_row bytes n (node_row m) = f ∙ ap (holds_row bytes n) e in
    (λ h. spells.0 (words.0 (sym whole ∙ h)) ∙ node_spelled bytes m, λ h. whole ∙ words.1 (spells.1 (h ∙ sym (node_spelled bytes m))))

-- row n has so many children
abbrev pub row_arity : List ℕ → ℕ → ℕ
row_arity bytes n = arity (tag_in (term bytes n))

module _ (bytes : List ℕ) (count : ℕ) (table : TermTable bytes count) (n : ℕ) (h : n < count) where
  pub row_tag : tag_in (term bytes n) ≡ tag_of (word bytes n 0)
  row_tag =
      let d = row_described bytes count table n h in
      ap tag_in (unfolded bytes count table n h) ∙ tag_in-shape _ (word bytes n 1) _ (tag_of_known _ d.low d.high)

  -- the words have as many children as the term
  in_words : (j : ℕ) → j ≤ row_arity bytes n → j ≤ arity (tag_of (word bytes n 0))
  in_words j h = subst (λ τ. j ≤ arity τ) row_tag h

  pub child_is : (j : ℕ) → 1 ≤ j → j ≤ row_arity bytes n → term bytes (word bytes n j) ≡ child (term bytes n) j
  child_is j low high =
      sym (ap (λ t. child t j) (unfolded bytes count table n h) ∙ child-shape _ (word bytes n 1) (λ i. term bytes (word bytes n i)) j low (in_words j high))

  pub child_before : (j : ℕ) → 1 ≤ j → j ≤ row_arity bytes n → word bytes n j < n
  unfolding tag
  child_before j low high = good_child bytes n (table.rows n h) j low (in_words j high)

  -- a variable's row
  pub variable_row : {i : ℕ} → tag_in (term bytes n) ≡ Var → i ≡ word bytes n 1 → term bytes n ≡ var i
  unfolding shape
  variable_row e f =
      unfolded bytes count table n h ∙ (λ p. shape ((sym row_tag ∙ e) p) (sym f p) (λ j. term bytes (word bytes n j)))

  -- `number`
  pub number_is : arity (tag_in (term bytes n)) < used (tag_in (term bytes n)) → word bytes n 1 ≡ number_in (term bytes n)
  number_is l =
      let numbered = subst (λ τ. arity τ < used τ) row_tag l in
      sym (ap number_in (unfolded bytes count table n h) ∙ number_shape _ (word bytes n 1) _ numbered)

-- `same_head`
pub heads_decided : (bytes : List ℕ) (t u : ℕ) → RowsInTable bytes (t ∷ u ∷ []) → (v w m n : ℕ)
    → v ≡ word bytes t 0 → w ≡ word bytes u 0 → m ≡ number_in (term bytes t) → n ≡ number_in (term bytes u)
    → Decides (eqb v w && eqb m n) (SameHead (term bytes t) (term bytes u))
heads_decided bytes t u g v w m n e f k l = (
  λ h. (tags.1 (eqb-true v w (and_left (eqb v w) (eqb m n) h)), sym k ∙ eqb-true m n (and_right (eqb v w) (eqb m n) h) ∙ l),
  λ h. rw (eq-eqb v w (tags.0 h.0), eq-eqb m n (k ∙ h.1 ∙ sym l)),
)
  where
    tags : (tag_in (term bytes t) ≡ tag_in (term bytes u)) ↔ (v ≡ w)
    tags =
        let tt' = row_tag bytes g.count g.table t g.below.0 in
        let tu = row_tag bytes g.count g.table u g.below.1.0 in
        let dt = row_described bytes g.count g.table t g.below.0 in
        let du = row_described bytes g.count g.table u g.below.1.0 in
        (λ h. e ∙ tag_of_inj _ _ dt.high du.high (sym tt' ∙ h ∙ tu) ∙ sym f, λ h. tt' ∙ ap tag_of (sym e ∙ h ∙ f) ∙ sym tu)
