-- The list that a context row stands for: it unfolds one entry at a time, depends on no row behind, and in a
-- well-formed table equal lists stand in one row only.
-- Assumes nothing.
use mathlib.Core.Path.{◌≡◌, refl, sym, ◌∙◌, ap, ap₂}
use mathlib.Core.List.{List, [], ◌∷◌, cons≢nil}
use Prim.Native.Nat.{ℕ, zero, suc, ◌+◌, ◌-◌, ◌*◌, ◌≤◌, ◌<◌}
use native.Mathlib.Omega.{arith}
use lib.ListN.{get_or}
use Rattle.terms.specs.Words.{word_at}
use Rattle.terms.specs.Rows.{term}
use Rattle.terms.specs.Table.{TermTable}
use Rattle.terms.proofs.TermLaws.{downward, term_before, same_row}
use Rattle.rules.specs.Contexts.{parent_of, type_of, context_to, context, ContextTable}

-- the parent of each row up to count stands before it
abbrev pub Earlier : List ℕ → ℕ → Type 0
Earlier contexts count = (n : ℕ) → 1 ≤ n → n ≤ count → parent_of contexts n < n

empty_to : (depth : ℕ) (terms contexts : List ℕ) → context_to depth terms contexts 0 ≡ []
unfolding context_to
empty_to zero terms contexts = refl
empty_to (suc depth) terms contexts = refl

module _ (terms contexts : List ℕ) where
  pub context_empty : context terms contexts 0 ≡ []
  unfolding context context_to
  context_empty = refl

  module _ (count : ℕ) (earlier : Earlier contexts count) where
    -- any depth from the row's number on shows the whole list
    depth_enough : (d n e : ℕ) → n ≤ count → n ≤ d → n ≤ e → context_to d terms contexts n ≡ context_to e terms contexts n
    unfolding context_to
    depth_enough zero zero e h l m = sym (empty_to e terms contexts)
    depth_enough zero (suc n) e h l m = absurd (omega arith)
    depth_enough (suc d) zero e h l m = sym (empty_to e terms contexts)
    depth_enough (suc d) (suc n) zero h l m = absurd (omega arith)
    depth_enough (suc d) (suc n) (suc e) h l m =
        let p = earlier (suc n) (omega arith) h in
        ap (λ G. term terms (type_of contexts (suc n)) ∷ G) (depth_enough d (parent_of contexts (suc n)) e (omega arith) (omega arith) (omega arith))

    pub context_step : (n : ℕ) → 1 ≤ n → n ≤ count → context terms contexts n ≡ term terms (type_of contexts n) ∷ context terms contexts (parent_of contexts n)
    unfolding context context_to
    context_step zero low high = absurd (omega arith)
    context_step (suc n) low high =
        let p = earlier (suc n) low high in
        ap (λ G. term terms (type_of contexts (suc n)) ∷ G) (depth_enough n (parent_of contexts (suc n)) (parent_of contexts (suc n)) (omega arith) (omega arith) (omega arith))

    -- tables with the same rows up to count, over terms that spell the same where they are named, hold the same
    -- contexts there
    module _ (terms' contexts' : List ℕ)
        (parents : (n : ℕ) → 1 ≤ n → n ≤ count → parent_of contexts n ≡ parent_of contexts' n)
        (types : (n : ℕ) → 1 ≤ n → n ≤ count → term terms (type_of contexts n) ≡ term terms' (type_of contexts' n)) where
      same_to : (d n : ℕ) → n ≤ count → context_to d terms contexts n ≡ context_to d terms' contexts' n
      unfolding context_to
      same_to zero n h = refl
      same_to (suc d) zero h = refl
      same_to (suc d) (suc n) h =
          let p = earlier (suc n) (omega arith) h in
          ap₂ ◌∷◌ (types (suc n) (omega arith) h)
          (same_to d (parent_of contexts (suc n)) (omega arith) ∙ ap (context_to d terms' contexts') (parents (suc n) (omega arith) h))

      pub same_context : (n : ℕ) → n ≤ count → context terms contexts n ≡ context terms' contexts' n
      unfolding context
      same_context n h = same_to n n h

-- what context n is depends neither on what stands behind its row nor on what stands behind the terms
pub context_before : (terms terms' contexts contexts' : List ℕ) (term_count count : ℕ) → TermTable terms term_count → ContextTable contexts term_count count
    → ((i : ℕ) → i < 10 * term_count → get_or terms i 0 ≡ get_or terms' i 0) → ((i : ℕ) → i < 4 * count → get_or contexts i 0 ≡ get_or contexts' i 0)
    → (n : ℕ) → n ≤ count → context terms contexts n ≡ context terms' contexts' n
unfolding parent_of type_of word_at
context_before terms terms' contexts contexts' term_count count term_table table agree agree' n h =
    same_context terms contexts count (λ m low high. (table.rows m low high).earlier) terms' contexts'
    (λ m low high. at (2 * (m - 1)) (omega arith))
    (λ m low high.
    term_before terms terms' term_count (downward terms term_count term_table) agree (type_of contexts m) (table.rows m low high).known
    ∙ ap (term terms') (at (2 * (m - 1) + 1) (omega arith)))
    n h
  where
    at : (i : ℕ) → i < 2 * count → word_at contexts i ≡ word_at contexts' i
    at i l = λ j. agree' (2 * i) (omega arith) j + 256 * agree' (2 * i + 1) (omega arith) j

module _ (terms contexts : List ℕ) (term_count count : ℕ) (term_table : TermTable terms term_count) (table : ContextTable contexts term_count count) where
  step : (n : ℕ) → 1 ≤ n → n ≤ count → context terms contexts n ≡ term terms (type_of contexts n) ∷ context terms contexts (parent_of contexts n)
  step = context_step terms contexts count (λ n low high. (table.rows n low high).earlier)

  no_entry : (n : ℕ) → 1 ≤ n → n ≤ count → context terms contexts n ≡ context terms contexts 0 → ⊥
  no_entry n low high e = cons≢nil (sym (step n low high) ∙ e ∙ context_empty terms contexts)

  once_to : (bound m n : ℕ) → m < bound → m ≤ count → n ≤ count → context terms contexts m ≡ context terms contexts n → m ≡ n
  once_to zero m n b h k e = absurd (omega arith)
  once_to (suc bound) zero zero b h k e = refl
  once_to (suc bound) zero (suc n) b h k e = absurd (no_entry (suc n) (omega arith) k (sym e))
  once_to (suc bound) (suc m) zero b h k e = absurd (no_entry (suc m) (omega arith) h e)
  once_to (suc bound) (suc m) (suc n) b h k e =
      let f = table.rows (suc m) (omega arith) h in
      let g = table.rows (suc n) (omega arith) k in
      let s = step (suc m) (omega arith) h in
      let t = step (suc n) (omega arith) k in
      table.distinct (suc m) (suc n) (omega arith) h (omega arith) k (
        once_to bound (parent_of contexts (suc m)) (parent_of contexts (suc n)) (omega arith) (omega arith) (omega arith) (cc),
        same_row terms term_count term_table (type_of contexts (suc m)) (type_of contexts (suc n)) f.known g.known (cc),
      )

  -- equal contexts have equal numbers
  pub same_number : (m n : ℕ) → m ≤ count → n ≤ count → context terms contexts m ≡ context terms contexts n → m ≡ n
  same_number m n h k e = once_to (suc m) m n (omega arith) h k e
