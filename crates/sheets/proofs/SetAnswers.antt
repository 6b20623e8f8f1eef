-- What the functions of withdrawal answer, from what their callees answer; what their callees ask.
-- Assumes nothing.
use Rattle.std.specs.Prelude.{Result, Ok, Err}
use Rattle.sheets.specs.declared.refusals.Counts.{Counts}
use Rattle.sheets.specs.declared.refusals.Fault.TheVariants.{LineUsed, Room}
use Rattle.sheets.specs.declared.refusals.Refusal.{Refusal}
use Rattle.sheets.specs.Refusals.{refused}
use mathlib.Core.Path.{◌≡◌, refl, sym, ◌∙◌, ap, subst, subst₂}
use mathlib.Core.List.{List}
use Prim.Native.Nat.{ℕ, ◌+◌, ◌-◌, ◌*◌, ◌≤◌, ◌<◌}
use native.Mathlib.Omega.{arith}
use lib.ListN.{length, get_or}
use Rattle.terms.specs.Buffers.{over}
use Rattle.sheets.specs.declared.layout.Trailer.{Trailer}
use Rattle.sheets.specs.Layout.{edition_of, lines_in}
use Rattle.sheets.specs.Admission.{admit_of}
use Rattle.sheets.specs.Good.{Good}
use Rattle.sheets.specs.LineSets.{Rises}
use Rattle.sheets.specs.Numbering.{Numbering}
use Rattle.sheets.specs.GoodLayout.{trailer_for}
use Rattle.sheets.specs.KeptWords.{start_of, end_of, kept_word, SmallTrailer, KeptLines}
use Rattle.sheets.specs.Withdrawal.{after_use, out_from}
use Rattle.sheets.specs.WithdrawalSet.{kept_use, kept_length, kept_answer, after_set, withdraw_set_after, withdraw_set_of}
use Rattle.sheets.specs.WithdrawalSet.{without_lines, set_out_after, AllLines, KeepsTheUnlisted}
use Rattle.sheets.proofs.WithdrawalLaws.{use_refused, room_refused, room_enough}
use Rattle.sheets.proofs.WrittenLaws.{written}
use Rattle.sheets.proofs.KeptWordLaws.{kept_lines, kept_written}
use Rattle.sheets.proofs.SetLaws.{set_keeps}

-- `withdraw_lines`
module _ (b : List ℕ) (T C L : ℕ) (g : Good b T C L) where
  -- p is what the search answers
  module _ (set : List ℕ) (room : ℕ) {edition : ℕ} (own : edition ≡ edition_of b) {rows : List ℕ}
      (part : rows ≡ lines_in b T C) (p : ℕ) (e : p ≡ kept_use edition rows L set) where
    searched : kept_answer b T C L set room ≡ after_use L (kept_length T C L set) room p
    unfolding kept_answer
    searched = ap (after_use L (kept_length T C L set) room) (sym (e ∙ (λ i. kept_use (own i) (part i) L set)))

    pub answer_12 : p < L → refused LineUsed p ≡ kept_answer b T C L set room
    answer_12 h = sym (searched ∙ use_refused L (kept_length T C L set) room p h)

    pub answer_13 : L ≤ p → room < kept_length T C L set → refused Room 0 ≡ kept_answer b T C L set room
    answer_13 h k = sym (searched ∙ room_refused L (kept_length T C L set) room p h k)

    pub answer_written : L ≤ p → kept_length T C L set ≤ room
        → Ok (kept_length T C L set) ≡ kept_answer b T C L set room
    answer_written h k = sym (searched ∙ room_enough L (kept_length T C L set) room p h k)

  -- the writer is handed this trailer and the numbers of the lines
  module _ {set below kept : List ℕ} (rising : Rises set) (all : AllLines L set) (numbers : Numbering set L below kept)
      {edition : ℕ} (own : edition ≡ edition_of b) {t : Trailer} (e : t ≡ trailer_for edition T C (L - length set)) where
    trailer_left : t ≡ trailer_for (edition_of b) T C (L - length set)
    trailer_left = e ∙ ap (λ x. trailer_for x T C (L - length set)) own

    pub writer_asks : SmallTrailer t × (2 * start_of t ≤ length b) × KeptLines b t below kept
    writer_asks =
        subst (λ x. SmallTrailer x × (2 * start_of x ≤ length b) × KeptLines b x below kept) (sym trailer_left)
        (kept_lines g rising all numbers)

    pub writer_room : (room : ℕ) → kept_length T C L set ≤ room → 2 * end_of t + 16 ≤ room
    unfolding kept_length trailer_for
    writer_room room h = subst (λ x. 2 * end_of x + 16 ≤ room) (sym trailer_left) (omega arith)

    pub writer_leaves : ((i : ℕ) → get_or b i 0 < 256) → (before after : List ℕ)
        → after ≡ over (written (kept_word b t below kept) (end_of t + 8)) before
        → after ≡ over (without_lines b set) before
    writer_leaves known before after f =
        f ∙ ap (λ x. over (written (kept_word b x below kept) (end_of x + 8)) before) trailer_left
        ∙ ap (λ x. over x before) (sym (kept_written g rising all numbers known))

-- `withdraw_set`
module _ (b set : List ℕ) (work : ℕ) (before : List ℕ) where
  pub kept : (after : List ℕ) (r : Result ℕ Refusal) → r ≡ withdraw_set_of b set work (length before)
      → after ≡ set_out_after b set work before → KeepsTheUnlisted b set after r
  kept after r e f = subst₂ (KeepsTheUnlisted b set) (sym f) (sym e) (set_keeps b set work before)

  -- an answer and the output that it leaves
  whole : {a : Result Counts Refusal} → admit_of b work ≡ a → (r : Result ℕ Refusal) (after : List ℕ)
      → r ≡ withdraw_set_after b set (length before) a → after ≡ out_from (without_lines b set) before r
      → (r ≡ withdraw_set_of b set work (length before)) × (after ≡ set_out_after b set work before)
  unfolding withdraw_set_of set_out_after
  whole e r after x y =
      let answer = x ∙ ap (withdraw_set_after b set (length before)) (sym e) in
      (answer, y ∙ ap (out_from (without_lines b set) before) answer)

  pub handed_on : {r : Refusal} → admit_of b work ≡ Err r
      → (Err r ≡ withdraw_set_of b set work (length before)) × (before ≡ set_out_after b set work before)
  unfolding withdraw_set_after out_from
  handed_on {r} e = whole e (Err r) before refl refl

  pub gone_on : (n : Counts) → admit_of b work ≡ Ok n → (r : Result ℕ Refusal) (after : List ℕ)
      → r ≡ after_set b n.terms n.contexts n.lines set (length before) → after ≡ out_from (without_lines b set) before r
      → (r ≡ withdraw_set_of b set work (length before)) × (after ≡ set_out_after b set work before)
  unfolding withdraw_set_after
  gone_on n e r after x y = whole e r after x y
