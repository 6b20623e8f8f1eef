-- The text of a batch's answer: its lines behind the first one are those of the answers that single searches give.
-- Assumes nothing.
use mathlib.Core.Path.{◌≡◌, refl, sym, ◌∙◌, ap}
use mathlib.Core.List.{List, ◌++◌, append-nil}
use Prim.Native.Nat.{ℕ, ◌≤◌}
use native.Mathlib.Omega.{arith}
use lib.ListN.{length, take, drop, length-map}
use lib.Seq.{take_at, length-take-le}
use Rattle.std.specs.Prelude.{Result, Ok, Err}
use Rattle.std.specs.Result.{result_unwrap_or}
use Rattle.sheets.specs.declared.finding.Wanted.{Wanted}
use Rattle.sheets.specs.declared.refusals.Refusal.{Refusal}
use Rattle.sheets.specs.Finding.{find_of}
use Rattle.sheets.specs.Batch.{answer_for, search_answers, batch_of, answers_from, answers_after, BatchMeans, all}
use Rattle.sheets.proofs.BatchLaws.{batch_is}
use Rattle.answers.specs.Text.{value_text, answer_lines, batch_text}

answered_all : {bytes : List ℕ} {work count room n : ℕ} → BatchMeans bytes work count room (Ok n)
    → (n ≡ count) × (count ≤ room)
answered_all (all g fits h) = (refl, h)

answered_known : (bytes : List ℕ) (work count room n : ℕ) → batch_of bytes work count room ≡ Ok n
    → (n ≡ count) × (count ≤ room)
answered_known bytes work count room n e = answered_all ((batch_is bytes work count room (Ok n)).0 e)

-- there is room for the answers
pub count_within : (bytes : List ℕ) (work count room : ℕ) {answer : Result ℕ Refusal}
    → answer ≡ batch_of bytes work count room → result_unwrap_or answer 0 ≤ room
count_within bytes work count room {answer} is = at answer (sym is)
  where
    at : (a : Result ℕ Refusal) → batch_of bytes work count room ≡ a → result_unwrap_or a 0 ≤ room
    at (Ok n) e =
        let known = answered_known bytes work count room n e in
        omega (arith, known.0, known.1)
    at (Err r) e = omega arith

-- and they are those of single searches
module _ (bytes : List ℕ) (work : ℕ) (ws : List Wanted) (before : List ℕ) where
  text_of : (a : Result ℕ Refusal) → batch_of bytes work (length ws) (length before) ≡ a
      → value_text a ++ answer_lines (take (result_unwrap_or a 0) (answers_from (search_answers bytes work ws) before a))
      ≡ batch_text a (search_answers bytes work ws)
  unfolding batch_text answers_from
  text_of (Ok n) e =
      let known = answered_known bytes work (length ws) (length before) n e in
      let found = search_answers bytes work ws in
      let long = length-map ws (λ w. answer_for (find_of bytes work w)) ∙ sym known.0 in
      ap (λ l. value_text (Ok n) ++ answer_lines l) (take_at found (drop (length found) before) n long)
  text_of (Err r) e = append-nil (value_text (Err r))

  pub batch_text_lem : {answer : Result ℕ Refusal} {after : List ℕ} {count : ℕ}
      → answer ≡ batch_of bytes work (length ws) (length before) → after ≡ answers_after bytes work ws before
      → count ≡ result_unwrap_or answer 0
      → value_text answer ++ answer_lines (take count after)
      ≡ batch_text (batch_of bytes work (length ws) (length before)) (search_answers bytes work ws)
  unfolding answers_after
  batch_text_lem {answer} {after} {count} is put e =
      (λ i. value_text answer ++ answer_lines (take (e i) (put i)))
      ∙ ap (λ a. value_text answer ++ answer_lines (take (result_unwrap_or answer 0) (answers_from (search_answers bytes work ws) before a)))
      (sym is)
      ∙ text_of answer (sym is) ∙ ap (λ a. batch_text a (search_answers bytes work ws)) is

-- that there are so many answers
pub ruleset batch = (count_within, length-take-le)
