-- What the functions on contexts answer, each way out, from what their callees answer; what their callees ask.
-- Assumes nothing.
use mathlib.Core.Path.{◌≡◌, sym, ◌∙◌, ap, ap₂, subst}
use mathlib.Core.Logic.{◌↔◌}
use mathlib.Core.Bool.{Bool, true, false, ◌&&◌, not}
use mathlib.Core.List.{List, [], ◌∷◌, cons≢nil}
use Prim.Native.Nat.{ℕ, suc, ◌+◌, ◌-◌, ◌≤◌, ◌<◌}
use native.Mathlib.Numerals.{add-one}
use native.Mathlib.Omega.{arith}
use lib.Dec.{ltb, eqb}
use borrow.Author.Tests.{eqb-true, eq-eqb}
use Rattle.terms.specs.Term.{Term, nat}
use Rattle.terms.specs.Decides.{Decides}
use Rattle.terms.specs.Rows.{term}
use Rattle.terms.specs.Table.{RowsInTable}
use Rattle.terms.specs.Lists.{AllBelow}
use Rattle.terms.proofs.Tables.{and_left, and_right}
use Rattle.terms.proofs.Tests.{says_no}
use Rattle.terms.proofs.TermLaws.{same_row}
use Rattle.rules.specs.Judgment.{Context}
use Rattle.rules.specs.Contexts.{parent_of, type_of, context, GoodContext, ContextsInTable, InTables, context_fits, holds_context, repeated_within, repeated_context, right_context}
use Rattle.rules.proofs.ContextTableLaws.{context_empty, context_step, same_number}

module _ (contexts : List ℕ) where
  -- `repeated`
  pub repeated_next : (above row i : ℕ) → repeated_within contexts above row i ≡ false → holds_context contexts (i + 1) above row ≡ false → repeated_within contexts above row (i + 1) ≡ false
  unfolding repeated_within
  repeated_next above row i h k = rw (add-one, h, ← (add-one i), k, repeated_within)

  module _ (terms : ℕ) where
    -- `right`
    module _ (n above row : ℕ) (e : above ≡ parent_of contexts n) (f : row ≡ type_of contexts n) where
      pub right_no : (ltb above n && ltb row terms) ≡ false → false ≡ right_context contexts terms n
      unfolding right_context context_fits
      right_no h = rw (← e, ← f, h, right_context, context_fits)

      pub right_rest : (b : Bool) → (ltb above n && ltb row terms) ≡ true → b ≡ repeated_within contexts above row (n - 1) → not b ≡ right_context contexts terms n
      unfolding right_context context_fits repeated_context
      right_rest b h k = rw (← e, ← f, h, ← k, right_context, context_fits, repeated_context)

-- an equation of numbers that is as good as the statement
equal_says : {P : Type 0} (m n : ℕ) → (m ≡ n) ↔ P → Decides (eqb m n) P
equal_says m n h = (λ e. h.0 (eqb-true m n e), λ p. eq-eqb m n (h.1 p))

-- other contexts and other rows of the tables given
module _ {terms contexts : List ℕ} where
  pub other_contexts : {ns ms : List ℕ} (g : ContextsInTable terms contexts ns) → AllBelow (suc g.count) ms → ContextsInTable terms contexts ms
  other_contexts g h =
      record { term_count = g.term_count; few_terms = g.few_terms; term_table = g.term_table; count = g.count; few = g.few; table = g.table; within = h }

  pub term_rows : {ns ts : List ℕ} (g : ContextsInTable terms contexts ns) → AllBelow g.term_count ts → RowsInTable terms ts
  term_rows g h = record { count = g.term_count; few = g.few_terms; table = g.term_table; below = h }

  pub rows_known : {ns ts : List ℕ} → InTables terms contexts ns ts → RowsInTable terms ts
  rows_known g = term_rows g.given g.below

  pub rows_of : {ns ts ms us : List ℕ} (g : InTables terms contexts ns ts) → AllBelow (suc g.given.count) ms
      → AllBelow g.given.term_count us → InTables terms contexts ms us
  unfolding other_contexts
  rows_of g h k = record { given = other_contexts g.given h; below = k }

module _ (terms contexts : List ℕ) where
  pub same_says : (m n : ℕ) → ContextsInTable terms contexts (m ∷ n ∷ []) → Decides (eqb m n) (context terms contexts m ≡ context terms contexts n)
  same_says m n g =
      equal_says m n
      (ap (context terms contexts), same_number terms contexts g.term_count g.count g.term_table g.table m n (omega (arith, g.within.0)) (omega (arith, g.within.1.0)))

  -- the empty context extends none
  pub empty_says : (n : ℕ) (A : Term) (G : Context) → n ≡ 0 → Decides false (context terms contexts n ≡ A ∷ G)
  empty_says n A G h = says_no (λ e. cons≢nil (sym e ∙ ap (context terms contexts) h ∙ context_empty terms contexts))

  module _ (n : ℕ) (ns : List ℕ) (g : ContextsInTable terms contexts (n ∷ ns)) (some : n ≡ 0 → ⊥) where
    low : 1 ≤ n
    low = omega arith

    high : n ≤ g.count
    high = omega (arith, g.within.0)

    good : GoodContext contexts g.term_count n
    good = g.table.rows n low high

    type_known : type_of contexts n < g.term_count
    type_known = good.known

    parent_within : parent_of contexts n < suc g.count
    parent_within = omega (arith, good.earlier, high)

    -- an entry's type and the rest of the context are tested apart
    entry_says : (A : Term) (G : Context) (a b : Bool) → Decides a (term terms (type_of contexts n) ≡ A) → Decides b (context terms contexts (parent_of contexts n) ≡ G)
        → Decides (a && b) (context terms contexts n ≡ A ∷ G)
    entry_says A G a b d e = (
      λ h. step ∙ ap₂ ◌∷◌ (d.0 (and_left a b h)) (e.0 (and_right a b h)),
      λ f. ap₂ ◌&&◌ (d.1 (cc step)) (e.1 (cc step)),
    )
      where
        step : context terms contexts n ≡ term terms (type_of contexts n) ∷ context terms contexts (parent_of contexts n)
        step = context_step terms contexts g.count (λ m l k. (g.table.rows m l k).earlier) n low high

    -- where the rest is a context of the table
    base_says : (A : Term) (base p : ℕ) (a : Bool) → base ≤ g.count → p ≡ parent_of contexts n → Decides a (term terms (type_of contexts n) ≡ A)
        → Decides (a && eqb p base) (context terms contexts n ≡ A ∷ context terms contexts base)
    base_says A base p a h e d =
        entry_says A (context terms contexts base) a (eqb p base) d
        (equal_says p base (
          λ f. ap (context terms contexts) (sym e ∙ f),
          λ f. e ∙ same_number terms contexts g.term_count g.count g.term_table g.table (parent_of contexts n) base (omega (arith, parent_within)) h f,
        ))

    -- where the type is a row of the term table
    row_says : (row t : ℕ) → row < g.term_count → t ≡ type_of contexts n → Decides (eqb t row) (term terms (type_of contexts n) ≡ term terms row)
    row_says row t h e =
        equal_says t row (
          λ f. ap (term terms) (sym e ∙ f),
          λ f. e ∙ same_row terms g.term_count g.term_table (type_of contexts n) row type_known h f,
        )

  -- what the callees of `extends_nat` and `extends_nat_then` ask
  pub type_given : (n t : ℕ) (ns : List ℕ) → ContextsInTable terms contexts (n ∷ ns) → (n ≡ 0 → ⊥) → t ≡ type_of contexts n → RowsInTable terms (t ∷ [])
  type_given n t ns g some e = term_rows g (omega (arith, type_known n ns g some), tt)

  pub parent_given : (n p : ℕ) (ns : List ℕ) → ContextsInTable terms contexts (n ∷ ns) → (n ≡ 0 → ⊥) → p ≡ parent_of contexts n → ContextsInTable terms contexts (p ∷ ns)
  parent_given n p ns g some e = other_contexts g (omega (arith, parent_within n ns g some), g.within.1)

  -- `extends`, `extends_nat` and `extends_nat_then` of a context that has entries
  pub extends_says : (n base row t p : ℕ) → InTables terms contexts (n ∷ base ∷ []) (row ∷ []) → (n ≡ 0 → ⊥) → t ≡ type_of contexts n → p ≡ parent_of contexts n
      → Decides (eqb t row && eqb p base) (context terms contexts n ≡ term terms row ∷ context terms contexts base)
  extends_says n base row t p g some e f =
      base_says n (base ∷ []) g.given some (term terms row) base p (eqb t row) (omega (arith, g.given.within.1.0)) f
      (row_says n (base ∷ []) g.given some row t g.below.0 e)

  pub extends_nat_says : (n base t p : ℕ) (a : Bool) → ContextsInTable terms contexts (n ∷ base ∷ []) → (n ≡ 0 → ⊥) → t ≡ type_of contexts n → Decides a (term terms t ≡ nat) → p ≡ parent_of contexts n
      → Decides (a && eqb p base) (context terms contexts n ≡ nat ∷ context terms contexts base)
  extends_nat_says n base t p a g some e d f =
      base_says n (base ∷ []) g some nat base p a (omega (arith, g.within.1.0)) f (subst (λ u. Decides a (term terms u ≡ nat)) e d)

  pub extends_then_says : (n base row t p : ℕ) (b : Bool) → InTables terms contexts (n ∷ base ∷ []) (row ∷ []) → (n ≡ 0 → ⊥) → t ≡ type_of contexts n → p ≡ parent_of contexts n
      → Decides b (context terms contexts p ≡ nat ∷ context terms contexts base)
      → Decides (eqb t row && b) (context terms contexts n ≡ term terms row ∷ nat ∷ context terms contexts base)
  extends_then_says n base row t p b g some e f d =
      entry_says n (base ∷ []) g.given some (term terms row) (nat ∷ context terms contexts base) (eqb t row) b
      (row_says n (base ∷ []) g.given some row t g.below.0 e)
      (subst (λ q. Decides b (context terms contexts q ≡ nat ∷ context terms contexts base)) f d)
