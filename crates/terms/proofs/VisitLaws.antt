-- A row's children visited one after the other, each of them asked something by its place.
-- Assumes nothing.
use mathlib.Core.Path.{◌≡◌, sym, ◌∙◌, ap, subst}
use mathlib.Core.List.{List, [], ◌∷◌}
use Prim.Native.Nat.{ℕ, ◌+◌, ◌≤◌, ◌<◌}
use native.Mathlib.Omega.{arith}
use borrow.Author.Count.{below_more}
use Rattle.terms.specs.Term.{Term}
use Rattle.terms.specs.Tag.{tag_in, child}
use Rattle.terms.specs.Rows.{word, term}
use Rattle.terms.specs.Table.{RowsInTable}
use Rattle.terms.proofs.Shape.{AtChildren}
use Rattle.terms.proofs.NodeLaws.{row_arity, child_is, child_before}

-- every child of row t is as P asks for its place
abbrev pub AllParts : List ℕ → ℕ → (ℕ → Term → Type 0) → Type 0
AllParts bytes t P = AtChildren (tag_in (term bytes t)) (λ i. P i (child (term bytes t) i))

-- the children of row t are visited in turn: those before place j are as P asks
pub record Visit (bytes : List ℕ) (t : ℕ) (P : ℕ → Term → Type 0) (j : ℕ) : Type 0 where
  pub given : RowsInTable bytes (t ∷ [])
  pub from : 1 ≤ j
  pub passed : (i : ℕ) → i < j → 1 ≤ i → P i (term bytes (word bytes t i))

pub visit_start : {bytes : List ℕ} {t : ℕ} {P : ℕ → Term → Type 0} → RowsInTable bytes (t ∷ []) → Visit bytes t P 1
visit_start g = record { given = g; from = omega arith; passed = λ i high low. absurd (omega arith) }

module _ {bytes : List ℕ} {t : ℕ} {P : ℕ → Term → Type 0} {j : ℕ} (w : Visit bytes t P j) where
  child_at : (i : ℕ) → 1 ≤ i → i ≤ row_arity bytes t → term bytes (word bytes t i) ≡ child (term bytes t) i
  child_at i low h = child_is bytes w.given.count w.given.table t w.given.below.0 i low h

  pub visit_end : row_arity bytes t < j → AllParts bytes t P
  visit_end h i low high = subst (P i) (child_at i low high) (w.passed i (omega arith) low)

  -- x is the child at the place that is visited
  pub record Visited (x : ℕ) : Type 0 where
    pub below : x < t
    pub given : RowsInTable bytes (x ∷ [])
    pub next : P j (term bytes x) → Visit bytes t P (j + 1)
    pub part : AllParts bytes t P → P j (term bytes x)

  pub visit_child : {x : ℕ} → j ≤ row_arity bytes t → x ≡ word bytes t j → Visited x
  visit_child {x} h e =
      record {
        below = below;
        given =
            record {
              count = w.given.count;
              few = w.given.few;
              table = w.given.table;
              below = (omega (arith, below, w.given.below.0), tt);
            };
        next =
            λ p.
            record {
              given = w.given;
              from = omega arith;
              passed =
                  below_more (λ i. 1 ≤ i → P i (term bytes (word bytes t i))) j w.passed
                  (λ _. subst (λ y. P j (term bytes y)) e p);
            };
        part = λ all. subst (P j) (sym (ap (term bytes) e ∙ child_at j w.from h)) (all j w.from h);
      }
    where
      below : x < t
      below =
          let b = child_before bytes w.given.count w.given.table t w.given.below.0 j w.from h in
          omega arith
