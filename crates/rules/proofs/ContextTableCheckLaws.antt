-- The check of a context table answers for its declarative reading, number 8.
-- Assumes nothing.
use mathlib.Core.Path.{◌≡◌, refl, sym, ◌∙◌, ap, subst}
use mathlib.Core.Logic.{◌↔◌, ◌⊎◌, inl, inr, ⊎_elim}
use mathlib.Core.Bool.{Bool, true, false, ◌&&◌, not}
use mathlib.Core.List.{List}
use Prim.Native.Nat.{ℕ, zero, suc, ◌-◌, ◌*◌, ◌≤◌, ◌<◌}
use native.Mathlib.Omega.{arith}
use lib.ListN.{length}
use Rattle.terms.specs.Decides.{Decides}
use Rattle.terms.specs.Search.{ends_if}
use Rattle.terms.proofs.Tests.{says_no, says_lt, says_eq, refuted, decides_via, ◌&◌, decides_either, clash}
use Rattle.terms.proofs.Shape.{below_or_last}
use Rattle.terms.proofs.SearchLaws.{Between, After, Answers, stops, passes, Tells, search_means}
use Rattle.rules.specs.Contexts.{parent_of, type_of, GoodContext, RepeatsContext, ContextTable, FirstFaultyContext, context_fits, holds_context, repeated_within, repeated_context, right_context, faulty_context, check_contexts}
use Rattle.rules.specs.declared.contexts.ContextsError.{ContextsError}
use Rattle.std.specs.Prelude.{Result, Ok, Err}

-- the row that a refusal names
abbrev refused_place : Result (Unit {0}) ContextsError → ℕ
refused_place (Ok _) = 0
refused_place (Err e) = e.place

module _ (contexts : List ℕ) where
  module _ (parent entry : ℕ) where
    abbrev Holds : ℕ → Type 0
    Holds n = (parent_of contexts n ≡ parent) × (type_of contexts n ≡ entry)

    -- one of the rows 1 to n holds the words
    abbrev SomeRowHolds : ℕ → Type 0
    SomeRowHolds n = (m : ℕ) × (1 ≤ m) × (m < suc n) × Holds m

    holds_says : (n : ℕ) → Decides (holds_context contexts n parent entry) (Holds n)
    unfolding holds_context
    holds_says n = says_eq (parent_of contexts n) parent & says_eq (type_of contexts n) entry

    one_more_lem : (n : ℕ) → (SomeRowHolds n ⊎ Holds (suc n)) ↔ SomeRowHolds (suc n)
    one_more_lem n = (
      ⊎_elim (λ h. (h.0, h.1, omega (arith, h.2), h.3)) (λ h. (suc n, omega arith, omega arith, h)),
      λ h.
          below_or_last (λ m. Holds m → SomeRowHolds n ⊎ Holds (suc n)) (suc n) h.0 h.2
          (λ l e. inl (h.0, h.1, l, e)) inr h.3,
    )

    repeated_any : (n : ℕ) → Decides (repeated_within contexts parent entry n) (SomeRowHolds n)
    unfolding repeated_within
    repeated_any zero = says_no (λ h. absurd (omega (arith, h.1, h.2)))
    repeated_any (suc n) = decides_via (one_more_lem n) (decides_either (repeated_any n) (holds_says (suc n)))

    pub some_repeated : (m k : ℕ) → m ≤ k → 1 ≤ m → holds_context contexts m parent entry ≡ true
        → repeated_within contexts parent entry k ≡ true
    some_repeated m k l low h = (repeated_any k).1 (m, low, omega arith, (holds_says m).0 h)

  repeated_says : (n : ℕ) → Decides (repeated_context contexts n) (RepeatsContext contexts n)
  unfolding repeated_context
  repeated_says n =
      decides_via (λ r. (r.0, r.1, omega (arith, r.1, r.2), r.3), λ r. (r.0, r.1, omega (arith, r.2), r.3))
      (repeated_any (parent_of contexts n) (type_of contexts n) (n - 1))

module _ (contexts : List ℕ) (term_count : ℕ) where
  fits_says : (n : ℕ) → Decides (context_fits contexts term_count n) (GoodContext contexts term_count n)
  unfolding context_fits
  fits_says n =
      decides_via (λ p. record { earlier = p.0; known = p.1 }, λ g. (g.earlier, g.known))
      (says_lt (parent_of contexts n) n & says_lt (type_of contexts n) term_count)

  -- row n breaks nothing that number 8 asks; or it does, and that is the answer
  abbrev Right : ℕ → Type 0
  Right n = GoodContext contexts term_count n × (RepeatsContext contexts n → ⊥)

  abbrev Wrong : ℕ → Result (Unit {0}) ContextsError → Type 0
  Wrong n a = ((GoodContext contexts term_count n → ⊥) ⊎ RepeatsContext contexts n) × (a ≡ faulty_context n)

  rows_tell : Tells Right Wrong (λ n. ends_if (not (right_context contexts term_count n)) (faulty_context n))
  unfolding right_context ends_if
  rows_tell =
      record {
        tells = λ n. on n _ _ (fits_says n) (repeated_says contexts n);
        apart = λ n a g w. ⊎_elim (λ bad. bad g.0) g.1 w.0;
        one = λ n a b v w. v.1 ∙ sym w.1;
      }
    where
      on : (n : ℕ) (f r : Bool) → Decides f (GoodContext contexts term_count n) → Decides r (RepeatsContext contexts n)
          → After (Wrong n) (λ _. Right n) (ends_if (not (f && not r)) (faulty_context n))
      on n false r d e = (inl (refuted d refl), refl)
      on n true true d e = (inr (e.0 refl), refl)
      on n true false d e = (d.0 refl, refuted e refl)

  means : (count : ℕ) (a : Result (Unit {0}) ContextsError)
      → (check_contexts contexts term_count count ≡ a) ↔ Answers Right Wrong (Ok tt) 1 (suc count) a
  unfolding check_contexts
  means count = search_means rows_tell (Ok tt) count 1 (suc count) (omega arith)

  right_table : (count : ℕ) → 4 * count ≤ length contexts → Between Right 1 (suc count)
      → ContextTable contexts term_count count
  right_table count whole all =
      record {
        whole = whole;
        rows = λ n low high. (all n low (omega arith)).0;
        distinct = λ m n low high low' high' same.
            let not_less : m < n → ⊥ = λ l. (all n low' (omega arith)).1 (m, low, l, same) in
            let not_more : n < m → ⊥ = λ l. (all m low (omega arith)).1 (n, low', l, (sym same.0, sym same.1)) in
            omega arith;
      }

  table_right : (count : ℕ) → ContextTable contexts term_count count → Between Right 1 (suc count)
  table_right count table n low high = (
    table.rows n low (omega arith),
    λ r. let e = table.distinct r.0 n r.1 (omega (arith, r.2)) low (omega arith) r.3 in omega (arith, r.2),
  )

  -- number 8 finds no fault exactly if the table is well formed
  pub check_faultless : (count : ℕ) → 4 * count ≤ length contexts → (check_contexts contexts term_count count ≡ (Ok tt)) ↔ ContextTable contexts term_count count
  check_faultless count whole =
      (λ e. from ((means count (Ok tt)).0 e), λ table. (means count (Ok tt)).1 (passes (table_right count table) refl))
    where
      from : Answers Right Wrong (Ok tt) 1 (suc count) (Ok tt) → ContextTable contexts term_count count
      from (stops p low high before wrong) = clash (cc wrong.1)
      from (passes all e) = right_table count whole all

  -- and otherwise the first faulty row
  pub check_faulty : (count place : ℕ) → 4 * count ≤ length contexts → (check_contexts contexts term_count count ≡ faulty_context place) ↔ FirstFaultyContext contexts term_count count place
  check_faulty count place whole = (
    λ e. from ((means count (faulty_context place)).0 e),
    λ f. (means count (faulty_context place)).1 (stops place f.low (omega (arith, f.high)) (before f) (f.wrong, refl)),
  )
    where
      before : FirstFaultyContext contexts term_count count place → Between Right 1 place
      before f n low high = table_right (place - 1) f.before n low (omega arith)

      from : Answers Right Wrong (Ok tt) 1 (suc count) (faulty_context place) → FirstFaultyContext contexts term_count count place
      from (stops p low high all wrong) =
          let same : p ≡ place = ap refused_place (sym wrong.1) in
          record {
            low = omega arith;
            high = omega arith;
            before = right_table (place - 1) (omega arith) (λ n l h. all n l (omega arith));
            wrong = subst (λ n. (GoodContext contexts term_count n → ⊥) ⊎ RepeatsContext contexts n) same wrong.0;
          }
      from (passes all e) = clash cc
