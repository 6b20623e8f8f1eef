-- Primitive beta steps on plain terms: source document 000, section 3. One clause a rule, in printed order.
use Rattle.std.specs.Prelude.{ℕ, ◌≤◌}
use Rattle.terms.specs.Term.{Term, lam, app, pair, first, second, zer, succ, ind}
use Rattle.terms.specs.Tag.{tag_in, arity, child}
use Rattle.terms.specs.Substitution.{◌⟨◌⟩, on_both}

pub data Beta : Term → Term → Type 0 where
  pb_appabs : (a b : Term) → Beta (app (lam a) b) (a ⟨ b ⟩)
  pb_projpair1 : (a b : Term) → Beta (first (pair a b)) a
  pb_projpair2 : (a b : Term) → Beta (second (pair a b)) b
  pb_indzero : (P b c : Term) → Beta (ind P zer b c) b
  pb_indsuc : (P a b c : Term) → Beta (ind P (succ a) b c) (on_both c a (ind P a b c))

-- "at any place in it" (document 02, A2): u stands in t if it is t, or stands in one of t's children
pub data Inside (u : Term) : Term → Type 0 where
  itself : Inside u u
  deeper : {t : Term} (j : ℕ) → 1 ≤ j → j ≤ arity (tag_in t) → Inside u (child t j) → Inside u t
