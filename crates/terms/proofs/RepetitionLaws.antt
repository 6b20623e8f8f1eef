-- Repetition among term rows: whatever the five words are, it is found exactly if an older row holds them.
-- Assumes nothing.
use mathlib.Core.Path.{◌≡◌, sym, ◌∙◌, ap}
use mathlib.Core.Logic.Iff
use mathlib.Core.Logic.{◌↔◌, ◌⊎◌, inl, inr, ⊎_elim}
use mathlib.Core.Bool.{Bool, true}
use mathlib.Core.List.{List}
use Prim.Native.Nat.{ℕ, zero, suc}
use native.Mathlib.Omega.{arith}
use Rattle.terms.specs.Decides.{Decides}
use Rattle.terms.specs.Table.{SameRow}
use Rattle.terms.specs.Sizes.{repeated_below}
use Rattle.terms.specs.Rows.{row_of, holds_row}
use Rattle.terms.specs.Repetition.{OlderRowHolds}
use Rattle.terms.specs.declared.rows.Row.{Row}
use Rattle.terms.proofs.Tests.{says_no, decides_same, decides_via, decides_either}
use Rattle.terms.proofs.Shape.{below_or_last}
use Rattle.terms.proofs.GoodRows.{row_word, row_word_lem}
use Rattle.terms.proofs.NodeLaws.{Holds, holds_words}

module _ (bytes : List ℕ) where
  -- a row holds five words, each of them, exactly if it is these words
  each_word : (n : ℕ) (r : Row) → Holds bytes n r ↔ (row_of bytes n ≡ r)
  unfolding row_of row_word
  each_word n r = (
    λ h i. record { tag = h 0 (omega arith) i; a = h 1 (omega arith) i; b = h 2 (omega arith) i; c = h 3 (omega arith) i; d = h 4 (omega arith) i },
    λ e j l. sym (row_word_lem bytes n j l) ∙ ap (λ s. row_word s j) e,
  )

  pub holds_row_lem : (n : ℕ) (r : Row) → (holds_row bytes n r ≡ true) ↔ (row_of bytes n ≡ r)
  holds_row_lem n r = Iff.trans (holds_words bytes n r) (each_word n r)

  pub same_words : (m n : ℕ) → (row_of bytes m ≡ row_of bytes n) ↔ SameRow bytes m n
  same_words m n =
      let w = each_word m (row_of bytes n) in
      (λ e j l. w.1 e j l ∙ row_word_lem bytes n j l, λ s. w.0 (λ j l. s j l ∙ sym (row_word_lem bytes n j l)))

  module _ (r : Row) where
    one_more_lem : (n : ℕ) → (OlderRowHolds bytes r n ⊎ (row_of bytes n ≡ r)) ↔ OlderRowHolds bytes r (suc n)
    one_more_lem n = (
      ⊎_elim (λ h. (h.0, omega (arith, h.1), h.2)) (λ h. (n, omega arith, h)),
      λ h. below_or_last (λ m. row_of bytes m ≡ r → OlderRowHolds bytes r n ⊎ (row_of bytes n ≡ r)) n h.0 h.1 (λ l e. inl (h.0, l, e)) inr h.2,
    )

    pub repeated_any : (n : ℕ) → Decides (repeated_below bytes r n) (OlderRowHolds bytes r n)
    unfolding repeated_below
    repeated_any zero = says_no (λ h. absurd (omega (arith, h.1)))
    repeated_any (suc n) =
        decides_via (one_more_lem n) (decides_either (repeated_any n) (holds_row_lem n r))

    -- so a test that decides it answers what the definition does
    pub repeated_told : (n : ℕ) (q : Bool) → Decides q (OlderRowHolds bytes r n) → repeated_below bytes r n ≡ q
    repeated_told n q d = decides_same (repeated_below bytes r n) q (repeated_any n) d
