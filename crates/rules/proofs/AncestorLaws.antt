-- A climb by parents: what it finds is in the table, an entry is the nearest one of an ancestor, and a context adds
-- entries to its ancestors and to no other.
-- Assumes nothing.
use mathlib.Core.Path.{◌≡◌, refl, sym, ◌∙◌, ap, subst}
use mathlib.Core.Logic.{◌↔◌}
use mathlib.Core.List.{List, [], ◌∷◌, ◌++◌, cons≢nil}
use Prim.Native.Nat.{ℕ, zero, suc, ◌-◌}
use native.Mathlib.Omega.{arith}
use lib.ListN.{length}
use lib.Dec.{eqb}
use mathlib.Core.Bool.{Bool}
use Rattle.std.specs.Prelude.{Option, Some, None}
use Rattle.std.specs.Option.{option_eq}
use Rattle.terms.specs.Decides.{Decides}
use Rattle.terms.specs.Term.{Term}
use Rattle.terms.specs.Rows.{term}
use Rattle.terms.proofs.Tests.{clash, says_no, says_eq, decides_via}
use Rattle.rules.specs.Judgment.{Context}
use Rattle.rules.specs.RuleTable.{Adds}
use Rattle.rules.specs.Contexts.{parent_of, type_of, context, NumberedContexts, ContextsInTable, ancestor_of, entry_of}
use Rattle.rules.proofs.ContextTableLaws.{context_empty, context_step, same_number}
use Rattle.rules.proofs.ContextTableAnswers.{parent_given}
use Rattle.rules.proofs.ArmLaws.{adds_none}

some_is : {m n : ℕ} → Some m ≡ Some n → m ≡ n
some_is e = cc

some_says : (o : Option ℕ) (n : ℕ) → Decides (option_eq eqb o (Some n)) (o ≡ Some n)
some_says None n = says_no (λ e. clash cc)
some_says (Some m) n = decides_via (ap Some, some_is) (says_eq m n)

module _ (contexts : List ℕ) where
  -- `ancestor`: what it looks for from context n is what it looks for, one step less, from the parent
  pub parent_numbered : (n p : ℕ) → NumberedContexts contexts (n ∷ []) → (n ≡ 0 → ⊥) → p ≡ parent_of contexts n → NumberedContexts contexts (p ∷ [])
  parent_numbered n p g some e =
      let l = (g.table.rows n (omega arith) (omega (arith, g.within.0))).earlier in
      record { term_count = g.term_count; count = g.count; table = g.table; within = (omega (arith, g.within.0), tt) }

  pub climbed : (n k : ℕ) → k ≡ 0 → Some n ≡ ancestor_of contexts n k
  unfolding ancestor_of
  climbed n zero h = refl
  climbed n (suc k) h = absurd (omega arith)

  pub climbed_further : (n k : ℕ) → (n ≡ 0 → ⊥) → (k ≡ 0 → ⊥) → ancestor_of contexts (parent_of contexts n) (k - 1) ≡ ancestor_of contexts n k
  unfolding ancestor_of
  climbed_further n zero h l = absurd (l refl)
  climbed_further zero (suc k) h l = absurd (h refl)
  climbed_further (suc n) (suc k) h l = let e : suc k - 1 ≡ k = omega arith in ap (ancestor_of contexts (parent_of contexts (suc n))) e

  pub climbed_out : (n k : ℕ) → n ≡ 0 → (k ≡ 0 → ⊥) → None ≡ ancestor_of contexts n k
  unfolding ancestor_of
  climbed_out n zero h l = absurd (l refl)
  climbed_out zero (suc k) h l = refl
  climbed_out (suc n) (suc k) h l = absurd (omega arith)

  -- an ancestor is a context of the same table
  pub ancestor_numbered : (k n m : ℕ) → NumberedContexts contexts (n ∷ []) → ancestor_of contexts n k ≡ Some m → NumberedContexts contexts (m ∷ [])
  unfolding ancestor_of
  ancestor_numbered zero n m g e =
      let f = some_is e in
      record { term_count = g.term_count; count = g.count; table = g.table; within = (omega (arith, g.within.0, f), tt) }
  ancestor_numbered (suc k) zero m g e = clash cc
  ancestor_numbered (suc k) (suc n) m g e =
      ancestor_numbered k (parent_of contexts (suc n)) m (parent_numbered (suc n) _ g (λ z. omega (arith, z)) refl) e

  -- `entry`: entry x of context n is the nearest of the context x steps up
  pub entry_above : (x n m : ℕ) → ancestor_of contexts n x ≡ Some m → entry_of contexts m 0 ≡ entry_of contexts n x
  unfolding ancestor_of entry_of
  entry_above zero n m e = ap (λ k. entry_of contexts k 0) (sym (some_is e))
  entry_above (suc x) zero m e = clash cc
  entry_above (suc x) (suc n) m e = entry_above x (parent_of contexts (suc n)) m e

  pub none_above : (x n : ℕ) → ancestor_of contexts n x ≡ None → None ≡ entry_of contexts n x
  unfolding ancestor_of entry_of
  none_above zero n e = clash cc
  none_above (suc x) zero e = refl
  none_above (suc x) (suc n) e = none_above x (parent_of contexts (suc n)) e

-- one entry more on both sides
adds_next : {H K G : Context} {A : Term} {k : ℕ} → K ≡ A ∷ H → Adds H G k ↔ Adds K G (suc k)
adds_next {H} {K} {G} {A} {k} e = (
  λ a. record { new = A ∷ a.new; many = ap suc a.many; joined = e ∙ ap (λ L. A ∷ L) a.joined },
  λ a. back a.new a.many a.joined,
)
  where
    back : (new : Context) → length new ≡ suc k → K ≡ new ++ G → Adds H G k
    back [] l j = absurd (omega arith)
    back (B ∷ new) l j = record { new = new; many = omega arith; joined = cc }

-- to the empty context nothing has been added
adds_empty : {H G : Context} {k : ℕ} → H ≡ [] → Adds H G (suc k) → ⊥
adds_empty {H} {G} {k} e a = none a.new a.many a.joined
  where
    none : (new : Context) → length new ≡ suc k → H ≡ new ++ G → ⊥
    none [] l j = omega (arith, l)
    none (B ∷ new) l j = cons≢nil (sym j ∙ e)

module _ (terms contexts : List ℕ) where
  pub parent_step : (n : ℕ) (ns : List ℕ) → ContextsInTable terms contexts (n ∷ ns) → (n ≡ 0 → ⊥)
      → context terms contexts n ≡ term terms (type_of contexts n) ∷ context terms contexts (parent_of contexts n)
  parent_step n ns g some =
      context_step terms contexts g.count (λ m low high. (g.table.rows m low high).earlier) n (omega arith) (omega (arith, g.within.0))

  -- `adds`: a context adds k entries to the context k steps up, and to no other of its table
  ancestor_adds : (k n base : ℕ) → ContextsInTable terms contexts (n ∷ base ∷ [])
      → (ancestor_of contexts n k ≡ Some base) ↔ Adds (context terms contexts n) (context terms contexts base) k
  unfolding ancestor_of
  ancestor_adds zero n base g = (
    λ e. record { new = []; many = refl; joined = ap (context terms contexts) (some_is e) },
    λ a. ap Some (same_number terms contexts g.term_count g.count g.term_table g.table n base (omega (arith, g.within.0)) (omega (arith, g.within.1.0)) (adds_none a refl)),
  )
  ancestor_adds (suc k) zero base g = (λ e. clash cc, λ a. absurd (adds_empty (context_empty terms contexts) a))
  ancestor_adds (suc k) (suc n) base g =
      let some : suc n ≡ 0 → ⊥ = λ z. omega (arith, z) in
      let up = ancestor_adds k (parent_of contexts (suc n)) base (parent_given terms contexts (suc n) _ (base ∷ []) g some refl) in
      let next = adds_next (parent_step (suc n) (base ∷ []) g some) in
      (λ e. next.0 (up.0 e), λ a. up.1 (next.1 a))

  pub adds_says : (n base k : ℕ) → ContextsInTable terms contexts (n ∷ base ∷ []) → (o : Option ℕ) → o ≡ ancestor_of contexts n k
      → (b : Bool) → b ≡ option_eq eqb o (Some base) → Decides b (Adds (context terms contexts n) (context terms contexts base) k)
  adds_says n base k g o e b f =
      subst (λ a. Decides a (Adds (context terms contexts n) (context terms contexts base) k)) (sym f)
      (decides_via (ancestor_adds k n base g) (subst (λ p. Decides (option_eq eqb o (Some base)) (p ≡ Some base)) e (some_says o base)))
