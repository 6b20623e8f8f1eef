-- The recognisers of normal and neutral terms: the tests of tags, and the rows that are remembered.
-- Assumes nothing.
use mathlib.Core.Path.{◌≡◌, sym, ◌∙◌, subst}
use mathlib.Core.Logic.{◌↔◌}
use mathlib.Core.Bool.{Bool, true, false}
use mathlib.Core.List.{List}
use Prim.Native.Nat.{ℕ}
use native.Mathlib.Decide.{ℕ_discrete}
use borrow.Author.Tests.{eq-eqb, ne_eqb}
use lib.ListN.{get_or, set, replicate}
use lib.Seq.{get_or-set_other}
use Rattle.terms.specs.Term.{Term}
use Rattle.terms.specs.Tag.{Tag}
use Rattle.terms.specs.Rows.{term}
use Rattle.terms.specs.NormalForms.{Normal, Neutral}
use Rattle.terms.specs.Recognition.{scrutinised, Known}
use Rattle.terms.proofs.Tests.{never}
use Rattle.terms.proofs.MemoLaws.{all_default}
use Rattle.terms.proofs.NormalLaws.{Asked, Part}

-- what is asked of the child at place j, by the test of the place
pub part_scrutinised : (τ : Tag) (j : ℕ) (t : Term) → j ≡ scrutinised τ → Part τ j t ↔ Neutral t
part_scrutinised τ j t e =
    let s = eq-eqb j (scrutinised τ) e in (subst (λ b. Asked b t) s, subst (λ b. Asked b t) (sym s))

pub part_other : (τ : Tag) (j : ℕ) (t : Term) → (j ≡ scrutinised τ → ⊥) → Part τ j t ↔ Normal t
part_other τ j t e =
    let s = ne_eqb j (scrutinised τ) e in (subst (λ b. Asked b t) s, subst (λ b. Asked b t) (sym s))

-- no row is remembered
pub known_none : (bytes : List ℕ) (n : ℕ) → Known bytes (replicate n false)
known_none bytes n = record { fact = λ m e. never e (all_default false n m) }

-- one more row is remembered, whose term is normal
pub known_more : {bytes : List ℕ} {known : List Bool} → Known bytes known → (t : ℕ) → Normal (term bytes t)
    → Known bytes (set known t true)
known_more {bytes} {known} k t h = record { fact = λ n e. at n e (ℕ_discrete n t) }
  where
    at : (n : ℕ) → get_or (set known t true) n false ≡ true → Dec (n ≡ t) → Normal (term bytes n)
    at n e (yes f) = subst (λ m. Normal (term bytes m)) (sym f) h
    at n e (no f) = k.fact n (sym (get_or-set_other known t n true false f) ∙ e)
