-- Editions: which rules each admits, and by which rows.
-- Assumes nothing.
use mathlib.Core.Path.{◌≡◌}
use mathlib.Core.Logic.{◌↔◌, ◌⊎◌, inl, inr, ⊎_elim}
use Prim.Native.Nat.{ℕ, ◌+◌, ◌≤◌, ◌<◌}
use native.Mathlib.Decide.{dec_le}
use native.Mathlib.Omega.{arith}
use borrow.Author.Tests.{le-leb, lt-leb}
use Rattle.terms.specs.Decides.{Decides}
use Rattle.terms.proofs.Tests.{either, says_le, refuted, refutes, ◌&◌}
use Rattle.rules.specs.RuleTable.{rule_count, IsRule}
use Rattle.rules.specs.Editions.{last_edition, IsEdition, edition_known, last_rule, AsksMotive, motive_asked, row_in}

-- the test of an edition's number
pub says_edition : (edition : ℕ) → Decides (edition_known edition) (IsEdition edition)
unfolding edition_known
says_edition edition = says_le 1 edition & says_le edition last_edition

-- the test of rules that take the motive
pub says_motive : (edition rule : ℕ) → Decides (motive_asked edition rule) (AsksMotive edition rule)
unfolding motive_asked
says_motive edition rule = says_le 3 edition & (says_le 33 rule & says_le rule 34)

-- edition 1, and those behind it
pub last_first : (edition : ℕ) → edition ≤ 1 → last_rule edition ≡ 43
unfolding last_rule
last_first edition h = rw (le-leb edition 1 h, last_rule)

pub last_later : (edition : ℕ) → 1 < edition → last_rule edition ≡ 67
unfolding last_rule
last_later edition h = rw (lt-leb edition 1 h, last_rule)

-- what an edition admits is a rule
pub last_most : (edition : ℕ) → last_rule edition ≤ rule_count
last_most edition =
    elim (dec_le edition 1) [
      | yes h ↦ omega (arith, last_first edition h)
      | no h ↦ omega (arith, last_later edition (omega arith))
    ]

module _ (edition rule : ℕ) where
  -- rules 33 and 34 with the motive have rows of their own, behind those of all others; any other rule that the edition
  -- admits has the row of its number, and one that it does not admit has none
  pub row_motive : AsksMotive edition rule → row_in edition rule ≡ rule + 35
  unfolding row_in
  row_motive asks =
      let admitted : rule ≤ last_rule edition = omega (arith, asks, last_later edition (omega (arith, asks))) in
      rw (le-leb rule (last_rule edition) admitted, (says_motive edition rule).1 asks, row_in)

  pub row_own : rule ≤ last_rule edition → (AsksMotive edition rule → ⊥) → row_in edition rule ≡ rule
  unfolding row_in
  row_own h plain =
      rw (le-leb rule (last_rule edition) h, refutes (motive_asked edition rule) (says_motive edition rule) plain, row_in)

  pub row_refused : last_rule edition < rule → row_in edition rule ≡ 0
  unfolding row_in
  row_refused h = rw (lt-leb rule (last_rule edition) h, row_in)

  -- whether the rule takes the motive
  pub motive_or_not : AsksMotive edition rule ⊎ (AsksMotive edition rule → ⊥)
  motive_or_not =
      ⊎_elim (λ e. inl ((says_motive edition rule).0 e)) (λ e. inr (refuted (says_motive edition rule) e))
      (either (motive_asked edition rule))

  -- a rule has a row in the editions that admit it, and in no other
  pub row_known : IsRule (row_in edition rule) ↔ ((1 ≤ rule) × (rule ≤ last_rule edition))
  row_known =
      elim (dec_le rule (last_rule edition)) [
        | yes h ↦ ⊎_elim
            (λ asks. (
              λ known. (omega (arith, asks), h),
              λ admitted. (omega (arith, row_motive asks), omega (arith, asks, row_motive asks)),
            ))
            (λ plain. (
              λ known. (omega (arith, known, row_own h plain), h),
              λ admitted. (omega (arith, admitted, row_own h plain), omega (arith, last_most edition, row_own h plain)),
            ))
            motive_or_not
        | no h ↦ let l : last_rule edition < rule = omega arith in
            (λ known. absurd (omega (arith, known, row_refused l)), λ admitted. absurd (omega (arith, admitted)))
      ]
