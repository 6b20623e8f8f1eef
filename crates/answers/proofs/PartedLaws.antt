-- Texts of digits, parted by a byte that is no digit.
-- Assumes nothing.
use mathlib.Core.Path.{◌≡◌, refl, sym, ◌∙◌, ap}
use mathlib.Core.Bool.{Bool, true, false, cond, and-eq-true_iff, false≢true}
use mathlib.Core.List.{List, [], ◌∷◌, ◌++◌}
use Prim.Native.Nat.{ℕ, ◌≤◌}
use native.Mathlib.Omega.{arith}
use lib.Dec.{eqb}
use lib.ListN.{length}
use borrow.Author.Tests.{eqb-true, eq-eqb, ne_eqb}
use Rattle.answers.specs.Numbers.{is_digit, all_digits}
use Rattle.answers.specs.Parts.{up_to, past}

module _ (byte : ℕ) where
  -- a text with something behind the first such byte is parted by it
  pub parted : (text : List ℕ) → 1 ≤ length (past byte text) → text ≡ up_to byte text ++ (byte ∷ past byte text)
  unfolding up_to past
  parted [] h = absurd (omega arith)
  parted (first ∷ text) h = pick (eqb first byte) refl (parted text) h
    where
      pick : (same : Bool) → eqb first byte ≡ same
          → (1 ≤ length (past byte text) → text ≡ up_to byte text ++ (byte ∷ past byte text))
          → 1 ≤ length (cond same text (past byte text))
          → first ∷ text ≡ cond same [] (first ∷ up_to byte text) ++ (byte ∷ cond same text (past byte text))
      pick true e rest some = ap (λ b. b ∷ text) (eqb-true first byte e)
      pick false e rest some = ap (λ l. first ∷ l) (rest some)

  pub some_before : (text : List ℕ) → 1 ≤ length (up_to byte text) → 1 ≤ length text
  unfolding up_to
  some_before [] h = absurd (omega arith)
  some_before (first ∷ text) h = omega arith

  -- digits before such a byte are the part before it
  module _ (other : is_digit byte ≡ false) where
    pub digits_before : (digits rest : List ℕ) → all_digits digits ≡ true
        → (up_to byte (digits ++ (byte ∷ rest)) ≡ digits) × (past byte (digits ++ (byte ∷ rest)) ≡ rest)
    unfolding up_to past all_digits
    digits_before [] rest e = (rw (eq-eqb byte byte refl), rw (eq-eqb byte byte refl))
    digits_before (first ∷ digits) rest e =
        let tests = (and-eq-true_iff (is_digit first) (all_digits digits)).0 e in
        let more = digits_before digits rest tests.1 in
        let differ = ne_eqb first byte (λ same. false≢true (sym other ∙ ap is_digit (sym same) ∙ tests.0)) in
        (rw (differ, more.0), rw (differ, more.1))
