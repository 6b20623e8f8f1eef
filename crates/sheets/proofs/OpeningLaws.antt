-- Searches in an admitted sheet for a batch: they are single searches, and what is put is what the batch leaves.
-- Assumes nothing.
use Rattle.std.specs.Prelude.{Result, Ok, Err}
use mathlib.Core.Path.{◌≡◌, refl, sym, ◌∙◌, ap}
use mathlib.Core.List.{List, map}
use Prim.Native.Nat.{ℕ, ◌≤◌}
use native.Mathlib.Omega.{arith}
use lib.ListN.{length, length-map}
use Rattle.terms.specs.Lists.{listed}
use Rattle.terms.specs.Buffers.{over}
use Rattle.sheets.specs.declared.refusals.Counts.{Counts}
use Rattle.sheets.specs.declared.refusals.Refusal.{Refusal}
use Rattle.sheets.specs.declared.finding.Wanted.{Wanted}
use Rattle.sheets.specs.Admission.{admit_of}
use Rattle.sheets.specs.Finding.{search_lines, find_of}
use Rattle.sheets.specs.Batch.{wanted_at, answer_for, search_answers, batch_of, answers_from, answers_after}
use Rattle.sheets.specs.Opening.{Answerable, answer_in}
use Rattle.sheets.proofs.SheetWithout.{listed_same}
use Rattle.sheets.proofs.FindingLaws.{search_found, searched}
use Rattle.sheets.proofs.ListedLaws.{map-listed}

-- a search in an admitted sheet is a single search
pub answer_in_is : (bytes : List ℕ) (work : ℕ) (n : Counts) → admit_of bytes work ≡ Ok n → (w : Wanted)
    → answer_in bytes n w ≡ answer_for (find_of bytes work w)
unfolding answer_in
answer_in_is bytes work n accepted w = ap answer_for (sym (searched bytes work w n.terms n.contexts n.lines accepted))

-- a line of the first 1,024 fits 16 bits
pub search_answerable : (edition : ℕ) (lines : List ℕ) (count : ℕ) (w : Wanted) → count ≤ 1024
    → Answerable (search_lines edition lines count w)
unfolding Answerable
search_answerable edition lines count w few = at (search_lines edition lines count w) refl
  where
    at : (a : Result ℕ Refusal) → search_lines edition lines count w ≡ a → Answerable a
    at (Ok i) e = omega (arith, ((search_found edition lines w count i).0 e).within)
    at (Err r) e = tt

-- what the code leaves in the buffer of answers, where the judgments are written down as f reads them
module _ {X : Type 0} (bytes : List ℕ) (work : ℕ) (f : X → Wanted) (xs : List X) (before : List ℕ) where
  abbrev ws : List Wanted
  ws = map f xs

  left_by : {a : Result ℕ Refusal} → batch_of bytes work (length xs) (length before) ≡ a
      → answers_from (search_answers bytes work ws) before a ≡ answers_after bytes work ws before
  unfolding answers_after
  left_by e =
      ap (answers_from _ before) (sym e ∙ ap (λ n. batch_of bytes work n (length before)) (sym (length-map xs f)))

  -- a refusal leaves it as it was
  pub untouched : {r : Refusal} → batch_of bytes work (length xs) (length before) ≡ Err r
      → before ≡ answers_after bytes work ws before
  unfolding answers_from
  untouched e = left_by e

  pub answers_put : {count : ℕ} → batch_of bytes work (length xs) (length before) ≡ Ok count → (n : Counts)
      → admit_of bytes work ≡ Ok n
      → over (listed (λ i. answer_in bytes n (wanted_at ws i)) (length xs)) before ≡ answers_after bytes work ws before
  unfolding answers_from
  answers_put e n accepted =
      ap (λ k. over (listed (λ i. answer_in bytes n (wanted_at ws i)) k) before) (sym (length-map xs f))
      ∙ ap (λ l. over l before)
      (listed_same _ _ (length ws) (λ i k. answer_in_is bytes work n accepted (wanted_at ws i))
      ∙ sym (map-listed _ _ ws))
      ∙ left_by e
