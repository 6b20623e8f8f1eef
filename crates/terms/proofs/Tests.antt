-- Tests that answer for a statement: numbers compared, and how tests are joined and carried over.
-- Assumes nothing.
use mathlib.Core.Path.{◌≡◌, refl, sym, ◌∙◌}
use mathlib.Core.Logic.{◌↔◌, ◌⊎◌, inl, inr}
use mathlib.Core.Bool.{Bool, true, false, ◌&&◌, ◌||◌, false≢true}
use mathlib.Core.List.{List}
use Prim.Native.Nat.{ℕ, ◌≤◌}
use native.Mathlib.Omega.{arith}
use lib.Dec.{leb}
use borrow.Author.Tests.{leb-true, le-leb}
use Rattle.std.proofs.lemmas.Bool.Decides.{Decides-and, Decides-or}
pub use Rattle.std.proofs.lemmas.Bool.Decides.{Decides-ltb as says_lt, Decides-eqb as says_eq, same_from_decides as decides_same}
use Rattle.terms.specs.Decides.{Decides}
use Rattle.terms.specs.Table.{RowsInTable}
use Rattle.terms.specs.Lists.{AllBelow}

pub either : (b : Bool) → (b ≡ true) ⊎ (b ≡ false)
either true = inl refl
either false = inr refl

pub never : {A : Type 0} {b : Bool} → b ≡ true → b ≡ false → A
never h k = absurd (false≢true (sym k ∙ h))

-- two values that differ were said to be equal
pub clash : {A : Type 0} → ◌≡◌ {A = ℕ} 0 1 → A
clash e = absurd (omega (arith, e))

pub says_yes : {P : Type 0} → P → Decides true P
says_yes p = (λ _. p, λ _. refl)

pub says_no : {P : Type 0} → (P → ⊥) → Decides false P
says_no h = (λ e. absurd (false≢true e), λ p. absurd (h p))

pub says_le : (m n : ℕ) → Decides (leb m n) (m ≤ n)
says_le m n = (leb-true m n, le-leb m n)

-- a test that answered false refutes its statement
pub refuted : {P : Type 0} {r : Bool} → Decides r P → r ≡ false → P → ⊥
refuted d f p = false≢true (sym f ∙ d.1 p)

-- and a refuted statement's test answers false
pub refutes : {P : Type 0} (r : Bool) → Decides r P → (P → ⊥) → r ≡ false
refutes true d f = absurd (f (d.0 refl))
refutes false d f = refl

-- a test of an equivalent statement
pub decides_via : {P Q : Type 0} {r : Bool} → P ↔ Q → Decides r P → Decides r Q
decides_via e d = (λ h. e.0 (d.0 h), λ q. d.1 (e.1 q))

infixl 20 ◌&◌
-- two tests are joined as the code joins them
pub ◌&◌ : {P Q : Type 0} {r s : Bool} → Decides r P → Decides s Q → Decides (r && s) (P × Q)
◌&◌ {r = r} {s = s} = Decides-and r s

pub decides_either : {P Q : Type 0} {r s : Bool} → Decides r P → Decides s Q → Decides (r || s) (P ⊎ Q)
decides_either {r = r} {s = s} = Decides-or r s

-- the first test passed, so the second answers for both; or it failed, and so do both
pub decides_then : {P Q : Type 0} {r s : Bool} → Decides r P → r ≡ true → Decides s Q → Decides s (P × Q)
decides_then d h e = (λ k. (d.0 h, e.0 k), λ p. e.1 p.1)

pub decides_not : {P Q : Type 0} {r : Bool} → Decides r P → r ≡ false → Decides false (P × Q)
decides_not d f = says_no (λ p. refuted d f p.0)

-- other rows of the same table
pub other_rows : {bytes ns ms : List ℕ} → ((count : ℕ) → AllBelow count ns → AllBelow count ms) → RowsInTable bytes ns → RowsInTable bytes ms
other_rows f g = record { count = g.count; few = g.few; table = g.table; below = f g.count g.below }
