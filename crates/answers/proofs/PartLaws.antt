-- The place of a byte in a text, found byte by byte.
-- Assumes nothing.
use mathlib.Core.Path.{◌≡◌, refl, sym, ◌∙◌, ap, subst}
use mathlib.Core.Bool.{Bool, true, false, cond, not}
use mathlib.Core.List.{List, [], ◌∷◌}
use Prim.Native.Nat.{ℕ, suc, ◌+◌, ◌-◌, ◌≤◌, min}
use native.Mathlib.Omega.{arith}
use lib.ListN.{length, take, drop, length-drop}
use lib.Seq.{drop-drop, take_all}
use lib.Dec.{eqb, ltb}
use borrow.Author.Tests.{ltb-false}
use Rattle.std.specs.Prelude.{Option, Some, None, MatchOption}
use Rattle.std.specs.List.{position, position_or_len}
use Rattle.answers.specs.Parts.{up_to, past}

-- the part before the first such byte is as long as what std's search passes over
passed_is : (byte : ℕ) (text : List ℕ) → position_or_len (λ b. eqb b byte) text ≡ length (up_to byte text)
unfolding up_to
passed_is byte [] = refl
passed_is byte (first ∷ text) = pick (eqb first byte) (passed_is byte text)
  where
    pick : (same : Bool) → position_or_len (λ b. eqb b byte) text ≡ length (up_to byte text)
        → cond (not same) (1 + position_or_len (λ b. eqb b byte) text) 0 ≡ length (cond same [] (first ∷ up_to byte text))
    pick true rest = refl
    pick false rest = omega (arith, rest)

up_to_short : (byte : ℕ) (text : List ℕ) → length (up_to byte text) ≤ length text
unfolding up_to
up_to_short byte [] = omega arith
up_to_short byte (first ∷ text) = pick (eqb first byte) (up_to_short byte text)
  where
    pick : (same : Bool) → length (up_to byte text) ≤ length text
        → length (cond same [] (first ∷ up_to byte text)) ≤ suc (length text)
    pick true rest = omega arith
    pick false rest = omega (arith, rest)

abbrev IsPosition : ℕ → List ℕ → Option ℕ → Type 0
IsPosition byte text r = MatchOption r (length (up_to byte text) ≡ length text) (λ k. k ≡ length (up_to byte text))

pub position_is : (byte : ℕ) (text : List ℕ) {r : Option ℕ} → r ≡ position (λ b. eqb b byte) text
    → IsPosition byte text r
position_is byte text e = subst (IsPosition byte text) (sym e) (pick _ (passed_is byte text))
  where
    pick : (n : ℕ) → n ≡ length (up_to byte text)
        → IsPosition byte text (cond (ltb n (length text)) (Some n) None)
    pick n is = by (ltb n (length text)) refl
      where
        by : (inside : Bool) → ltb n (length text) ≡ inside → IsPosition byte text (cond inside (Some n) None)
        by true h = is
        by false h = omega (arith, is, up_to_short byte text, ltb-false n (length text) h)

up_to_is : (byte : ℕ) (text : List ℕ) → take (length (up_to byte text)) text ≡ up_to byte text
unfolding up_to
up_to_is byte [] = refl
up_to_is byte (first ∷ text) = pick (eqb first byte) (up_to_is byte text)
  where
    pick : (same : Bool) → take (length (up_to byte text)) text ≡ up_to byte text
        → take (length (cond same [] (first ∷ up_to byte text))) (first ∷ text) ≡ cond same [] (first ∷ up_to byte text)
    pick true rest = refl
    pick false rest = ap (λ l. first ∷ l) rest

pub past_is : (byte : ℕ) (text : List ℕ) → drop (min (length (up_to byte text) + 1) (length text)) text ≡ past byte text
unfolding up_to past
past_is byte [] = refl
past_is byte (first ∷ text) = pick (eqb first byte) (past_is byte text)
  where
    one : min (0 + 1) (suc (length text)) ≡ 1
    one = omega arith

    more : min (suc (length (up_to byte text)) + 1) (suc (length text))
        ≡ suc (min (length (up_to byte text) + 1) (length text))
    more = omega arith

    pick : (same : Bool) → drop (min (length (up_to byte text) + 1) (length text)) text ≡ past byte text
        → drop (min (length (cond same [] (first ∷ up_to byte text)) + 1) (suc (length text))) (first ∷ text)
        ≡ cond same text (past byte text)
    pick true rest = ap (λ n. drop n (first ∷ text)) one
    pick false rest = ap (λ n. drop n (first ∷ text)) more ∙ rest

-- all of a text from a place on
pub rest_whole : (text : List ℕ) (from : ℕ) → take (length text - from) (drop from text) ≡ drop from text
rest_whole text from = take_all (length text - from) (drop from text) (omega (arith, length-drop from text))

-- the part of a text from a place on up to the next such byte, and what stands behind that byte
module _ (byte : ℕ) (text : List ℕ) (from : ℕ) {place : ℕ}
    (is : place ≡ from + length (up_to byte (drop from text))) where
  pub part_is : take (place - from) (drop from text) ≡ up_to byte (drop from text)
  part_is = ap (λ n. take n (drop from text)) long ∙ up_to_is byte (drop from text)
    where
      long : place - from ≡ length (up_to byte (drop from text))
      long = omega arith

  pub rest_is : {next : ℕ} → from ≤ length text → next ≡ min (place + 1) (length text)
      → drop next text ≡ past byte (drop from text)
  rest_is {next} h e =
      ap (λ n. drop n text) on
      ∙ sym (drop-drop (min (length (up_to byte (drop from text)) + 1) (length (drop from text))) from text)
      ∙ past_is byte (drop from text)
    where
      on : next ≡ from + min (length (up_to byte (drop from text)) + 1) (length (drop from text))
      on = omega (arith, is, e, length-drop from text)
