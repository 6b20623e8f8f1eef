-- The entry that a look-up finds, or does not find, is the one that rule 3 speaks of.
-- Assumes nothing.
use mathlib.Core.Path.{◌≡◌, refl, sym, ap, subst}
use mathlib.Core.Logic.{◌↔◌}
use mathlib.Core.List.{List, ◌∷◌}
use Prim.Native.Nat.{ℕ, zero, suc, ◌≤◌, ◌<◌}
use native.Mathlib.Omega.{arith}
use lib.ListN.{length}
use Rattle.terms.specs.Term.{Term}
use Rattle.terms.specs.Rows.{term}
use Rattle.terms.proofs.Tests.{clash}
use Rattle.rules.specs.Judgment.{Context}
use Rattle.rules.specs.Instance.{Entry, here, there}
use Rattle.rules.specs.Contexts.{parent_of, type_of, context, ContextTable, entry_of}
use Rattle.std.specs.Prelude.{Some, None}
use Rattle.rules.proofs.ContextTableLaws.{context_empty, context_step}

pub entry_long : {G : Context} {x : ℕ} {A : Term} → Entry G x A → x < length G
entry_long here = omega arith
entry_long (there e) = let h = entry_long e in omega arith

entry_once : {G : Context} {x : ℕ} {A B : Term} → Entry G x A → Entry G x B → A ≡ B
entry_once here here = refl
entry_once (there e) (there f) = entry_once e f

differ : {A : Type 0} {row : ℕ} → Some row ≡ None → A
differ e = clash cc

module _ (terms contexts : List ℕ) (term_count count : ℕ) (table : ContextTable contexts term_count count) where
  step : (n : ℕ) → 1 ≤ n → n ≤ count → context terms contexts n ≡ term terms (type_of contexts n) ∷ context terms contexts (parent_of contexts n)
  step = context_step terms contexts count (λ n low high. (table.rows n low high).earlier)

  -- the row found is one of the terms, and its term is the entry
  pub entry_at : (x n row : ℕ) → n ≤ count → entry_of contexts n x ≡ Some row → (row < term_count) × Entry (context terms contexts n) x (term terms row)
  unfolding entry_of
  entry_at zero zero row h e = differ (sym e)
  entry_at zero (suc n) row h e =
      let f : type_of contexts (suc n) ≡ row = cc in
      let g = table.rows (suc n) (omega arith) h in
      (omega (arith, g.known), subst (λ G. Entry G zero (term terms row)) (sym (step (suc n) (omega arith) h)) (rw f here))
  entry_at (suc x) zero row h e = differ (sym e)
  entry_at (suc x) (suc n) row h e =
      let g = table.rows (suc n) (omega arith) h in
      let r = entry_at x (parent_of contexts (suc n)) row (omega (arith, g.earlier)) e in
      (r.0, subst (λ G. Entry G (suc x) (term terms row)) (sym (step (suc n) (omega arith) h)) (there r.1))

  shorter : (x n : ℕ) → n ≤ count → entry_of contexts n x ≡ None → length (context terms contexts n) ≤ x
  unfolding entry_of
  shorter zero zero h e = omega (arith, ap length (context_empty terms contexts))
  shorter zero (suc n) h e = differ e
  shorter (suc x) zero h e = omega (arith, ap length (context_empty terms contexts))
  shorter (suc x) (suc n) h e =
      let g = table.rows (suc n) (omega arith) h in
      omega (arith, shorter x (parent_of contexts (suc n)) (omega (arith, g.earlier)) e, ap length (step (suc n) (omega arith) h))

  pub entry_found : (x n row : ℕ) → n ≤ count → entry_of contexts n x ≡ Some row → (A : Term) → Entry (context terms contexts n) x A ↔ (A ≡ term terms row)
  entry_found x n row h e A =
      let r = (entry_at x n row h e).1 in
      (λ s. entry_once s r, λ f. subst (Entry (context terms contexts n) x) (sym f) r)

  pub entry_missing : (x n : ℕ) → n ≤ count → entry_of contexts n x ≡ None → (A : Term) → Entry (context terms contexts n) x A → ⊥
  entry_missing x n h e A s = omega (arith, shorter x n h e, entry_long s)

-- `nearest`
module _ (contexts : List ℕ) where
  pub found_here : (n x : ℕ) → (n ≡ 0 → ⊥) → x ≡ 0 → Some (type_of contexts n) ≡ entry_of contexts n x
  unfolding entry_of
  found_here zero zero h e = absurd (h refl)
  found_here zero (suc x) h e = absurd (h refl)
  found_here (suc n) zero h e = refl
  found_here (suc n) (suc x) h e = absurd (omega arith)

  pub found_none : (n x : ℕ) → n ≡ 0 → None ≡ entry_of contexts n x
  unfolding entry_of
  found_none zero zero h = refl
  found_none zero (suc x) h = refl
  found_none (suc n) x h = absurd (omega arith)
