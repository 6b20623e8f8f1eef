-- The output after a withdrawal is what document 01 says, for any sheet, line number and buffers; no other bytes are:
-- the withdrawal of the set of one line.
-- Assumes nothing.
use Rattle.std.specs.Prelude.{Result, Ok, Err}
use Rattle.sheets.specs.declared.refusals.Refusal.{Refusal}
use mathlib.Core.Path.{◌≡◌, refl, sym, ◌∙◌, ap, subst}
use mathlib.Core.List.{List, [], ◌∷◌}
use Prim.Native.Nat.{ℕ, zero, suc, ◌-◌, ◌≤◌, ◌<◌}
use native.Mathlib.Decide.{dec_lt}
use native.Mathlib.Omega.{arith}
use lib.ListN.{length}
use Rattle.terms.specs.Buffers.{over}
use Rattle.sheets.specs.Layout.{lines_in, trailer_of}
use Rattle.sheets.specs.Good.{Good}
use Rattle.sheets.specs.GoodLayout.{trailer_for}
use Rattle.sheets.specs.Accepted.{Bytes}
use Rattle.sheets.specs.LineSets.{Stays, count_below, new_number}
use Rattle.sheets.specs.Withdrawal.{lower_premise, new_length, sheet_without, without_line}
use Rattle.sheets.specs.Withdrawal.{withdraw_of, out_from, out_after, AdmittedWithdrawalMeans, written}
use Rattle.sheets.specs.WithdrawalSet.{kept_length, without_lines, AllLines}
use Rattle.sheets.specs.Output.{MovedLine, LineAway, WrittenLeft, OutputLeft}
use Rattle.sheets.specs.SetOutput.{Renumbered, LinesAway, SetWrittenLeft}
use Rattle.sheets.specs.Answered.{WithdrawalMeans, admitted}
use Rattle.sheets.proofs.LineNumberLaws.{lower_above, lower_upto}
use Rattle.sheets.proofs.LineSetLaws.{new_lower}
use Rattle.sheets.proofs.AnsweredLaws.{withdrawal_is}
use Rattle.sheets.proofs.OneLineLaws.{one_rises, one_listed, one_other}
use Rattle.sheets.proofs.LinesAwayLaws.{of_written}
use Rattle.sheets.proofs.SetOutputLaws.{written_left, left_only}

-- the set of line n alone
module _ (n : ℕ) where
  abbrev one : List ℕ
  one = n ∷ []

  one_lines : (L : ℕ) → n < L → AllLines L one
  one_lines L h k l = omega (arith, one_listed l)

  one_new : (p : ℕ) → new_number one p ≡ lower_premise n p
  unfolding count_below
  one_new p = let none : p - 0 ≡ p = omega arith in new_lower n [] (one_rises n) p ∙ ap (lower_premise n) none

  new_before : (k : ℕ) → k < n → new_number one k ≡ k
  new_before k h = one_new k ∙ lower_upto n k (omega arith)

  new_behind : (k : ℕ) → n ≤ k → new_number one (suc k) ≡ k
  new_behind k h = one_new (suc k) ∙ lower_above n (suc k) (omega arith) ∙ omega arith

  -- what is left without the line is what is left without the set: line by line, of the sheet, of the output
  module _ {old new : List ℕ} (k : ℕ) {m : ℕ} (e : new_number one k ≡ m) where
    line_moved : Renumbered one old new k (new_number one k) → MovedLine n old new k m
    line_moved r =
        subst (MovedLine n old new k) e
        (record { fields = r.fields; premises = λ j low high. r.premises j low high ∙ one_new _ })

    set-renumbered : MovedLine n old new k m → Renumbered one old new k (new_number one k)
    set-renumbered r =
        subst (Renumbered one old new k) (sym e)
        (record { fields = r.fields; premises = λ j low high. r.premises j low high ∙ sym (one_new _) })

  module _ {old new : List ℕ} {T C L : ℕ} (there : n < L) where
    line_away : LinesAway old new T C L one → LineAway old new T C L n
    line_away a =
        record {
          tables = a.tables;
          before = λ k h. line_moved k (new_before k h) (a.lines k (omega arith) (one_other (λ e. omega arith)));
          behind = λ k h l. line_moved (suc k) (new_behind k h) (a.lines (suc k) l (one_other (λ e. omega arith)));
          edition = a.edition;
          laid = a.laid;
        }

    set_away : LineAway old new T C L n → LinesAway old new T C L one
    set_away a =
        record {
          tables = a.tables;
          lines = λ k h stays. at k h stays (dec_lt k n) (dec_lt n k);
          edition = a.edition;
          laid = a.laid;
        }
      where
        at : (k : ℕ) → k < L → Stays one k → Dec (k < n) → Dec (n < k)
            → Renumbered one (lines_in old T C) (lines_in new T C) k (new_number one k)
        at k h stays (yes l) d = set-renumbered k (new_before k l) (a.before k l)
        at zero h stays (no l) (yes m) = absurd (omega arith)
        at (suc k) h stays (no l) (yes m) =
            set-renumbered (suc k) (new_behind k (omega arith)) (a.behind k (omega arith) h)
        at k h stays (no l) (no m) = absurd (stays (0, omega arith, omega arith))

  module _ (bytes before after : List ℕ) (new : ℕ) (there : n < (trailer_of bytes).lines) where
    line_left : SetWrittenLeft bytes one before after new → WrittenLeft bytes n before after new
    line_left o =
        record { shorter = o.shorter; sheet = line_away there o.sheet; long = o.long; beyond = o.beyond }

    set_left : WrittenLeft bytes n before after new → SetWrittenLeft bytes one before after new
    set_left o = record { shorter = o.shorter; sheet = set_away there o.sheet; long = o.long; beyond = o.beyond }

-- a sheet with these counts, of which line n is withdrawn
module _ {bytes : List ℕ} {T C L n : ℕ} (g : Good bytes T C L) (there : n < L) (before : List ℕ) where
  in_trailer : n < (trailer_of bytes).lines
  unfolding trailer_for
  in_trailer = subst (λ t. n < t.lines) (sym g.tables.laid.trailer) there

  sheet_left : new_length T C L ≤ length before
      → WrittenLeft bytes n before (over (without_line bytes n) before) (new_length T C L)
  unfolding new_length kept_length without_lines
  sheet_left room =
      line_left n bytes before _ _ in_trailer (written_left g (n ∷ []) (one_rises n) (one_lines n L there) before room)

  -- the new sheet is written word by word, so the old one need not consist of bytes
  sheet_only : (after : List ℕ) → Bytes after → WrittenLeft bytes n before after (new_length T C L)
      → after ≡ over (without_line bytes n) before
  unfolding new_length kept_length without_lines without_line sheet_without
  sheet_only after b o =
      left_only g (n ∷ []) (one_rises n) (one_lines n L there) before (of_written _ _) after b
      (set_left n bytes before after _ in_trailer o)

module _ (bytes : List ℕ) (n work : ℕ) (before : List ℕ) where
  abbrev Means : Result ℕ Refusal → Type 0
  Means = WithdrawalMeans bytes work n (length before)

  left : (a : Result ℕ Refusal) → Means a → OutputLeft bytes n before (out_from (without_line bytes n) before a) a
  unfolding OutputLeft out_from
  left (Err r) m = refl
  left (Ok new) m = at m
    where
      here : {T C L l : ℕ} → Good bytes T C L → AdmittedWithdrawalMeans bytes T C L n (length before) (Ok l)
          → WrittenLeft bytes n before (over (without_line bytes n) before) l
      here g (written h u room) = sheet_left g h before room

      at : {l : ℕ} → Means (Ok l) → WrittenLeft bytes n before (over (without_line bytes n) before) l
      at (admitted g fits answer) = here g answer

  only : (a : Result ℕ Refusal) → Means a → (after : List ℕ) → Bytes after → OutputLeft bytes n before after a
      → after ≡ out_from (without_line bytes n) before a
  unfolding OutputLeft out_from
  only (Err r) m after b o = o
  only (Ok new) m after b o = at m o
    where
      here : {T C L l : ℕ} → Good bytes T C L → AdmittedWithdrawalMeans bytes T C L n (length before) (Ok l)
          → WrittenLeft bytes n before after l → after ≡ over (without_line bytes n) before
      here g (written h u room) k = sheet_only g h before after b k

      at : {l : ℕ} → Means (Ok l) → WrittenLeft bytes n before after l → after ≡ over (without_line bytes n) before
      at (admitted g fits answer) k = here g answer k

  module _ (a : Result ℕ Refusal) (answer : withdraw_of bytes n work (length before) ≡ a) where
    means : Means a
    means = (withdrawal_is bytes work n (length before) a).0 answer

    after_is : out_after bytes n work before ≡ out_from (without_line bytes n) before a
    unfolding out_after
    after_is = ap (out_from (without_line bytes n) before) answer

    -- what is left is what the answer says
    pub output_left : OutputLeft bytes n before (out_after bytes n work before) a
    output_left = subst (λ o. OutputLeft bytes n before o a) (sym after_is) (left a means)

    -- and nothing else is: the answer fixes every byte
    pub output_only : (after : List ℕ) → Bytes after → OutputLeft bytes n before after a
        → after ≡ out_after bytes n work before
    output_only after b o = only a means after b o ∙ sym after_is
