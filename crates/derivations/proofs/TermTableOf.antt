-- A well-formed term table for a list of terms in which each stands once and its children behind it: row n spells the
-- term numbered n.
-- Assumes nothing.
use mathlib.Core.Path.{◌≡◌, refl, sym, ◌∙◌, ap, subst}
use mathlib.Core.Logic.{◌≢◌}
use mathlib.Core.List.{List}
use Prim.Native.Nat.{ℕ, zero, suc, ◌*◌, ◌≤◌, ◌<◌}
use native.Mathlib.Decide.{dec_le}
use native.Mathlib.Omega.{arith}
use borrow.Author.Tests.{lt-leb}
use lib.ListN.{length}
use Rattle.terms.specs.Term.{Term, var, univ, pi, lam, app, sigma, pair, first, second, nat, zer, succ, ind, size}
use Rattle.terms.specs.FreeIndices.{InRange}
use Rattle.terms.specs.Tag.{Tag, none, Var, Univ, Pi, Lam, App, Sigma, Pair, First, Second, Nat, Zero, Succ, Ind, tag_of, arity, used, shape, tag_in, number_in, children, child}
use Rattle.terms.specs.Rows.{word, tag, term}
use Rattle.terms.specs.Table.{limit, GoodRow, SameRow, TermTable}
use Rattle.terms.proofs.Shape.{AtChildren, tag_number, tag_in_known, shape_cong, shape_view, used_number}
use Rattle.terms.proofs.TagTables.{child-limit, arity_most}
use Rattle.terms.proofs.GoodRows.{good_child}
use Rattle.terms.proofs.TermLaws.{Downward, term_step}
use Rattle.rules.specs.Judgment.{term?}
use Rattle.derivations.specs.Lists.{◌∈◌}
use Rattle.derivations.proofs.DistinctLaws.{Once}
use Rattle.derivations.proofs.Numbering.{pick, pick_yes, pick_no, pick_either, number, numbered, numbered_in, number_below, numbered_number, numbered_once, Closed, part_in, part_lower}
use Rattle.derivations.proofs.Subterms.{in_children}

-- the number of a tag is read as the tag
tag_fits : (τ : Tag) → τ ≢ none → (tag_of (tag_number τ) ≡ τ) × (1 ≤ tag_number τ) × (tag_number τ ≤ 13)
unfolding tag_of tag_number
tag_fits none h = absurd (h refl)
tag_fits Var h = (refl, omega arith, omega arith)
tag_fits Univ h = (refl, omega arith, omega arith)
tag_fits Pi h = (refl, omega arith, omega arith)
tag_fits Lam h = (refl, omega arith, omega arith)
tag_fits App h = (refl, omega arith, omega arith)
tag_fits Sigma h = (refl, omega arith, omega arith)
tag_fits Pair h = (refl, omega arith, omega arith)
tag_fits First h = (refl, omega arith, omega arith)
tag_fits Second h = (refl, omega arith, omega arith)
tag_fits Nat h = (refl, omega arith, omega arith)
tag_fits Zero h = (refl, omega arith, omega arith)
tag_fits Succ h = (refl, omega arith, omega arith)
tag_fits Ind h = (refl, omega arith, omega arith)

-- a term depends on its number only where its tag uses one
shape_number : (τ : Tag) (m n : ℕ) (x : ℕ → Term) → (arity τ < 1 → 1 ≤ used τ → m ≡ n) → shape τ m x ≡ shape τ n x
unfolding shape arity used
shape_number none m n x h = refl
shape_number Var m n x h = ap var (h (omega arith) (omega arith))
shape_number Univ m n x h = ap univ (h (omega arith) (omega arith))
shape_number Pi m n x h = refl
shape_number Lam m n x h = refl
shape_number App m n x h = refl
shape_number Sigma m n x h = refl
shape_number Pair m n x h = refl
shape_number First m n x h = refl
shape_number Second m n x h = refl
shape_number Nat m n x h = refl
shape_number Zero m n x h = refl
shape_number Succ m n x h = refl
shape_number Ind m n x h = refl

-- the number of a term in range
number_small : (t : Term) → InRange t → number_in t < 65536
unfolding number_in InRange
number_small (var i) h = omega arith
number_small (univ l) h = omega arith
number_small (pi a b) h = omega arith
number_small (lam b) h = omega arith
number_small (app b a) h = omega arith
number_small (sigma a b) h = omega arith
number_small (pair a b) h = omega arith
number_small (first a) h = omega arith
number_small (second a) h = omega arith
number_small nat h = omega arith
number_small zer h = omega arith
number_small (succ a) h = omega arith
number_small (ind p a b c) h = omega arith

first_limit : (t : Term) (n : ℕ) → InRange t → arity (tag_in t) < used (tag_in t) → number_in t < limit (tag_in t) n 1
unfolding number_in InRange tag_in arity used limit
first_limit (var i) n h l = omega arith
first_limit (univ k) n h l = omega arith
first_limit (pi a b) n h l = absurd (omega arith)
first_limit (lam b) n h l = absurd (omega arith)
first_limit (app b a) n h l = absurd (omega arith)
first_limit (sigma a b) n h l = absurd (omega arith)
first_limit (pair a b) n h l = absurd (omega arith)
first_limit (first a) n h l = absurd (omega arith)
first_limit (second a) n h l = absurd (omega arith)
first_limit nat n h l = absurd (omega arith)
first_limit zer n h l = absurd (omega arith)
first_limit (succ a) n h l = absurd (omega arith)
first_limit (ind p a b c) n h l = absurd (omega arith)

-- a child by place is one of the children
child_in : (t : Term) → AtChildren (tag_in t) (λ j. child t j ∈ children t)
child_in t j low high = subst (λ s. child t j ∈ children s) (shape_view t) (in_children (tag_in t) (number_in t) (child t) j low high)

-- the words of a term's row: its tag, then its children's numbers in the list or its own number, then 0
operand : List Term → Term → ℕ → ℕ
operand D t j = pick (dec_le j (arity (tag_in t))) (number term? D (child t j)) (pick (dec_le j (used (tag_in t))) (number_in t) 0)

pub row_word : List Term → Term → ℕ → ℕ
row_word D t zero = tag_number (tag_in t)
row_word D t (suc j) = operand D t (suc j)

row_operand : (D : List Term) (t : Term) (j : ℕ) → 1 ≤ j → row_word D t j ≡ operand D t j
unfolding row_word
row_operand D t zero low = absurd (omega arith)
row_operand D t (suc j) low = refl

child-word : (D : List Term) (t : Term) → AtChildren (tag_in t) (λ j. row_word D t j ≡ number term? D (child t j))
unfolding operand
child-word D t j low high = row_operand D t j low ∙ pick_yes (dec_le j (arity (tag_in t))) _ _ high

number_word : (D : List Term) (t : Term) (j : ℕ) → 1 ≤ j → arity (tag_in t) < j → j ≤ used (tag_in t) → row_word D t j ≡ number_in t
unfolding operand
number_word D t j low a u = row_operand D t j low ∙ pick_no (dec_le j (arity (tag_in t))) _ _ (λ h. omega arith) ∙ pick_yes (dec_le j (used (tag_in t))) _ _ u

module _ (D : List Term) (once : Once D) (closed : Closed children D) (ranges : (t : Term) → t ∈ D → InRange t) where
  pub row_small : length D ≤ 3072 → (t : Term) → t ∈ D → (j : ℕ) → row_word D t j < 65536
  unfolding row_word operand
  row_small few t m zero = omega (arith, (tag_fits (tag_in t) (tag_in_known t)).2)
  row_small few t m (suc j) =
      pick_either (λ w. w < 65536) (dec_le (suc j) (arity (tag_in t))) _ _
      (λ h. omega (arith, number_below term? D (child t (suc j)) (part_in children term? D closed t m (child t (suc j)) (child_in t (suc j) (omega arith) h))))
      (λ h. pick_either (λ w. w < 65536) (dec_le (suc j) (used (tag_in t))) _ _ (λ k. number_small t (ranges t m)) (λ k. omega arith))

  -- the word at each place keeps its limit, in the row with the term's number
  operand_fits : (n : ℕ) → n < length D → (j : ℕ) → 1 ≤ j → row_word D (numbered zer D n) j < limit (tag_in (numbered zer D n)) n j
  unfolding operand limit
  operand_fits n h j low =
      let t = numbered zer D n in
      subst (λ w. w < limit (tag_in t) n j) (sym (row_operand D t j low))
      (pick_either (λ w. w < limit (tag_in t) n j) (dec_le j (arity (tag_in t))) _ _
      (λ a. subst (λ m. number term? D (child t j) < m) (sym (child-limit (tag_in t) n j low a)) (part_lower children term? zer D once closed n h (child t j) (child_in t j low a)))
      (λ a. pick_either (λ w. w < limit (tag_in t) n j) (dec_le j (used (tag_in t))) _ _
      (λ u. used_number (tag_in t) j (omega arith) u (λ k. number_in t < limit (tag_in t) n k) (λ few. first_limit t n (ranges t (numbered_in zer D n h)) few))
      (λ u. let l : used (tag_in t) < j = omega arith in rw (lt-leb j (used (tag_in t)) l, limit) (omega arith))))

  -- bytes whose first rows hold these words
  module _ (b : List ℕ) (holds : (n j : ℕ) → n < length D → j < 5 → word b n j ≡ row_word D (numbered zer D n) j) where
    tag_is : (n : ℕ) → n < length D → tag b n ≡ tag_in (numbered zer D n)
    unfolding tag row_word
    tag_is n h = ap tag_of (holds n 0 h (omega arith)) ∙ (tag_fits (tag_in (numbered zer D n)) (tag_in_known (numbered zer D n))).0

    good_row : (n : ℕ) → n < length D → GoodRow b n
    unfolding row_word
    good_row n h =
        let f = tag_fits (tag_in (numbered zer D n)) (tag_in_known (numbered zer D n)) in
        let e = holds n 0 h (omega arith) in
        record {
          low = omega (arith, f.1);
          high = omega (arith, f.2);
          operands = λ j low high.
              subst (λ w. w < limit (tag b n) n j) (sym (holds n j h (omega arith)))
              (subst (λ τ. row_word D (numbered zer D n) j < limit τ n j) (sym (tag_is n h)) (operand_fits n h j low));
        }

    down : Downward b (length D)
    down n h = good_child b n (good_row n h)

    spells_to : (bound n : ℕ) → n < bound → n < length D → term b n ≡ numbered zer D n
    spells_to zero n l h = absurd (omega arith)
    spells_to (suc bound) n l h =
        let t = numbered zer D n in
        term_step b (length D) down n h
        ∙ (λ i. shape (tag_is n h i) (holds n 1 h (omega arith) i) (λ j. term b (word b n j)))
        ∙ shape_cong (tag_in t) (row_word D t 1) (λ j. term b (word b n j)) (child t)
        (λ j low high.
        let k = part_lower children term? zer D once closed n h (child t j) (child_in t j low high) in
        let m = part_in children term? D closed t (numbered_in zer D n h) (child t j) (child_in t j low high) in
        ap (term b) (holds n j h (omega (arith, arity_most (tag_in t))) ∙ child-word D t j low high)
        ∙ spells_to bound (number term? D (child t j)) (omega arith) (omega arith) ∙ numbered_number term? zer D (child t j) m)
        ∙ shape_number (tag_in t) (row_word D t 1) (number_in t) (child t) (λ a u. number_word D t 1 (omega arith) a u)
        ∙ shape_view t

    -- row n spells the term numbered n
    pub spells : (n : ℕ) → n < length D → term b n ≡ numbered zer D n
    spells n h = spells_to (suc n) n (omega arith) h

    -- the row with a term's number spells it
    pub spells_number : (t : Term) → t ∈ D → term b (number term? D t) ≡ t
    spells_number t m = spells (number term? D t) (number_below term? D t m) ∙ numbered_number term? zer D t m

    same_spelled : (m n : ℕ) → m < length D → n < length D → SameRow b m n → term b m ≡ term b n
    unfolding tag
    same_spelled m n h k s =
        term_step b (length D) down m h
        ∙ shape_cong (tag b m) (word b m 1) (λ j. term b (word b m j)) (λ j. term b (word b n j)) (λ j low high. ap (term b) (s j (omega (arith, arity_most (tag b m)))))
        ∙ (λ i. shape (tag_of (s 0 (omega arith) i)) (s 1 (omega arith) i) (λ j. term b (word b n j)))
        ∙ sym (term_step b (length D) down n k)

    pub term_table_lem : 10 * length D ≤ length b → ((t : Term) → t ∈ D → size t ≤ 65535) → TermTable b (length D)
    term_table_lem whole sizes =
        record {
          whole = whole;
          rows = good_row;
          distinct = λ m n h k s. numbered_once term? zer D once m n h k (sym (spells m h) ∙ same_spelled m n h k s ∙ spells n k);
          sizes = λ n h. subst (λ t. size t ≤ 65535) (sym (spells n h)) (sizes (numbered zer D n) (numbered_in zer D n h));
        }
