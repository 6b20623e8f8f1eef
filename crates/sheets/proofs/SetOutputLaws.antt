-- The output after a withdrawal of a set is what document 02 says, for any sheet, set and buffers; no other bytes are.
-- Assumes nothing.
use Rattle.std.specs.Prelude.{Result, Ok, Err}
use Rattle.sheets.specs.declared.refusals.Refusal.{Refusal}
use mathlib.Core.Path.{◌≡◌, refl, sym, ◌∙◌, ap, subst}
use mathlib.Core.List.{List, [], ◌∷◌}
use Prim.Native.Nat.{ℕ, zero, suc, ◌+◌, ◌-◌, ◌*◌, ◌≤◌}
use native.Mathlib.Omega.{arith}
use lib.ListN.{length, take}
use Rattle.terms.specs.Buffers.{over}
use Rattle.sheets.specs.declared.layout.Trailer.{Trailer}
use Rattle.sheets.specs.Good.{Good}
use Rattle.sheets.specs.GoodLayout.{trailer_for}
use Rattle.sheets.specs.Accepted.{Bytes}
use Rattle.sheets.specs.LineSets.{Rises}
use Rattle.sheets.specs.Withdrawal.{lines_start, out_from}
use Rattle.sheets.specs.WithdrawalSet.{kept_length, withdraw_set_of, without_lines, set_out_after, AllLines}
use Rattle.sheets.specs.WithdrawalSet.{AdmittedSetMeans, withdrawn}
use Rattle.sheets.specs.SetOutput.{LinesAway, SetWrittenLeft, SetOutputLeft}
use Rattle.sheets.specs.Answered.{SetWithdrawalMeans, admitted}
use Rattle.sheets.proofs.BufferLaws.{over_length, over_beyond, over_only}
use Rattle.sheets.proofs.LineSetLaws.{few_listed}
use Rattle.sheets.proofs.LinesWithout.{lines_away}
use Rattle.sheets.proofs.SetLaws.{left_long, sheet_left}
use Rattle.sheets.proofs.AnsweredLaws.{set_withdrawal_is}
use Rattle.sheets.proofs.LinesAwayLaws.{OfWords, of_bytes, same_away, left_of_words}

pub bytes_taken : (k : ℕ) (l : List ℕ) → Bytes l → Bytes (take k l)
bytes_taken zero l b = tt
bytes_taken (suc k) [] b = tt
bytes_taken (suc k) (x ∷ l) b = (b.0, bytes_taken k l b.1)

-- a good sheet with these counts, a rising set of its lines, and the output before
module _ {bytes : List ℕ} {T C L : ℕ} (g : Good bytes T C L) (set : List ℕ) (rising : Rises set) (all : AllLines L set)
    (before : List ℕ) where
  -- the counts are those of the trailer
  abbrev AwayBy : List ℕ → Trailer → Type 0
  AwayBy s t = LinesAway bytes s t.terms t.contexts t.lines set

  away : LinesAway bytes (without_lines bytes set) T C L set
  away = lines_away bytes T C L g.tables.laid set rising all

  size : length (without_lines bytes set) ≡ kept_length T C L set
  size = left_long bytes set T C L g rising all

  pub written_left : kept_length T C L set ≤ length before
      → SetWrittenLeft bytes set before (over (without_lines bytes set) before) (kept_length T C L set)
  unfolding trailer_for kept_length
  written_left room =
      record {
        shorter = omega (arith, g.tables.laid.long, few_listed set L rising all);
        sheet =
            subst (AwayBy (take (kept_length T C L set) (over (without_lines bytes set) before)))
            (sym g.tables.laid.trailer)
            (subst (λ s. LinesAway bytes s T C L set) (sym (sheet_left bytes set T C L g rising all before)) away);
        long = over_length (without_lines bytes set) before (omega (arith, size));
        beyond = λ i h. over_beyond (without_lines bytes set) before i (omega (arith, size));
      }

  pub left_only : OfWords (without_lines bytes set) → (after : List ℕ) → Bytes after
      → SetWrittenLeft bytes set before after (kept_length T C L set) → after ≡ over (without_lines bytes set) before
  unfolding trailer_for
  left_only words after b o =
      over_only (without_lines bytes set) before after new size head o.long o.beyond
    where
      new : ℕ
      new = kept_length T C L set

      taken : LinesAway bytes (take new after) T C L set
      taken = subst (AwayBy (take new after)) g.tables.laid.trailer o.sheet

      head : take new after ≡ without_lines bytes set
      head =
          same_away rising all
          (of_bytes (take new after) (lines_start T C + 10 * (L - length set) + 8) (bytes_taken new after b)
          (omega (arith, taken.laid.long)))
          words taken away

module _ (bytes set : List ℕ) (work : ℕ) (before : List ℕ) where
  abbrev Means : Result ℕ Refusal → Type 0
  Means = SetWithdrawalMeans bytes work set (length before)

  left : (a : Result ℕ Refusal) → Means a → SetOutputLeft bytes set before (out_from (without_lines bytes set) before a) a
  unfolding SetOutputLeft out_from
  left (Err r) m = refl
  left (Ok new) m = at m
    where
      here : {T C L l : ℕ} → Good bytes T C L → AdmittedSetMeans bytes T C L set (length before) (Ok l)
          → SetWrittenLeft bytes set before (over (without_lines bytes set) before) l
      here g (withdrawn rising all none room) = written_left g set rising all before room

      at : {l : ℕ} → Means (Ok l) → SetWrittenLeft bytes set before (over (without_lines bytes set) before) l
      at (admitted g fits answer) = here g answer

  only : Bytes bytes → (a : Result ℕ Refusal) → Means a → (after : List ℕ) → Bytes after
      → SetOutputLeft bytes set before after a → after ≡ out_from (without_lines bytes set) before a
  unfolding SetOutputLeft out_from
  only sheet (Err r) m after b o = o
  only sheet (Ok new) m after b o = at m o
    where
      here : {T C L l : ℕ} → Good bytes T C L → AdmittedSetMeans bytes T C L set (length before) (Ok l)
          → SetWrittenLeft bytes set before after l → after ≡ over (without_lines bytes set) before
      here g (withdrawn rising all none room) k =
          left_only g set rising all before (left_of_words g.tables.laid sheet set) after b k

      at : {l : ℕ} → Means (Ok l) → SetWrittenLeft bytes set before after l
          → after ≡ over (without_lines bytes set) before
      at (admitted g fits answer) k = here g answer k

  module _ (a : Result ℕ Refusal) (answer : withdraw_set_of bytes set work (length before) ≡ a) where
    means : Means a
    means = (set_withdrawal_is bytes work set (length before) a).0 answer

    after_is : set_out_after bytes set work before ≡ out_from (without_lines bytes set) before a
    unfolding set_out_after
    after_is = ap (out_from (without_lines bytes set) before) answer

    -- what is left is what the answer says
    pub set_output_left : SetOutputLeft bytes set before (set_out_after bytes set work before) a
    set_output_left = subst (λ o. SetOutputLeft bytes set before o a) (sym after_is) (left a means)

    -- and nothing else is: the answer fixes every byte, given that the sheet has bytes, since the empty set copies it
    pub set_output_only : Bytes bytes → (after : List ℕ) → Bytes after → SetOutputLeft bytes set before after a
        → after ≡ set_out_after bytes set work before
    set_output_only sheet after b o = only sheet a means after b o ∙ sym after_is
