-- What the converter's code returns, at each place where it does.
-- Assumes nothing.
use Rattle.std.specs.Prelude.{Result}
use Rattle.sheets.specs.declared.refusals.Counts.{Counts}
use Rattle.sheets.specs.declared.refusals.Refusal.{Refusal}
use mathlib.Core.Path.{◌≡◌, sym, ◌∙◌, ap, subst₂}
use mathlib.Core.List.{List}
use Prim.Native.Nat.{ℕ, ◌+◌, ◌*◌}
use lib.ListN.{length, get_or}
use Rattle.terms.specs.Words.{bytes_of}
use Rattle.terms.specs.Buffers.{over}
use Rattle.sheets.specs.Admission.{admit_of}
use Rattle.sheets.specs.Good.{Good}
use Rattle.sheets.specs.Withdrawal.{lines_start}
use Rattle.sheets.specs.Conversion.{converted_word, sheet_converted, converted, convert_after, convert_of, output_from}
use Rattle.sheets.specs.Conversion.{converted_after, KeepsEveryLine}
use Rattle.sheets.specs.MotiveSteps.{NewPremises}
use Rattle.sheets.proofs.WrittenLaws.{written}
use Rattle.sheets.proofs.SheetWithout.{listed_same}
use Rattle.sheets.proofs.ConvertedWordLaws.{same_first}
use Rattle.sheets.proofs.ConversionLaws.{converted_is, convert_keeps}

-- `convert_admitted`: what the writer leaves, where the array holds the lines to cite first
pub writer_leaves : (b : List ℕ) (T C L : ℕ) → Good b T C L → (first : List ℕ) → NewPremises b T C first L
    → (before after : List ℕ)
    → after
    ≡ over (written (converted_word b (lines_start T C) L (λ n. get_or first n 0)) (lines_start T C + 10 * L + 8)) before
    → after ≡ over (converted b) before
unfolding sheet_converted
writer_leaves b T C L g first found before after e =
    e
    ∙ ap (λ words. over (bytes_of words) before)
    (listed_same _ _ (lines_start T C + 10 * L + 8) (λ i h. same_first b (lines_start T C) L _ _ found i))
    ∙ ap (λ s. over s before) (sym (converted_is b T C L g))

-- `convert`, where a is the answer of admission
pub concludes : (b : List ℕ) (work : ℕ) (before : List ℕ) (a : Result Counts Refusal) → admit_of b work ≡ a
    → (r : Result ℕ Refusal) (after : List ℕ) → r ≡ convert_after b (length before) a
    → after ≡ output_from (converted b) before r
    → (r ≡ convert_of b work (length before)) × (after ≡ converted_after b work before) × KeepsEveryLine b after r
unfolding convert_of converted_after
concludes b work before a e r after x y =
    let answer = x ∙ ap (convert_after b (length before)) (sym e) in
    let left = y ∙ ap (output_from (converted b) before) answer in
    (answer, left, subst₂ (KeepsEveryLine b) (sym left) (sym answer) (convert_keeps b work before))
