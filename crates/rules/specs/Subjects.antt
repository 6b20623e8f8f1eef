-- Which subjects a form uses: document 01, "The sheet", a line's form, and document 02, A5. The ranges of a judgment's
-- numbers, the zeros of a line, the terms of a derivation and what is said of their free indices all follow this one
-- table.
use Rattle.std.specs.Prelude.{Bool, true, false, List, [], ◌∷◌, ℕ, get_or}
use Rattle.terms.specs.Term.{Term}
use Rattle.terms.specs.Lists.{selected}
use Rattle.rules.specs.Judgment.{Judgment, form, s1, s2, s3}
use Rattle.rules.specs.declared.judgments.LineJudgment.{LineJudgment}
use Rattle.rules.specs.declared.judgments.SubjectUse.{SubjectUse}

-- forms count from 0
abbrev pub last_form : ℕ
last_form = 6

-- by form, whether s1, s2 and s3 are used: form 0 uses none, 1 uses s1 and s3, 2 uses all, 3 and 6 use s1 and s2, 4 and
-- 5 use s1
unfoldable pub subject_use : ℕ → List Bool
subject_use form =
    get_or
    ((false ∷ false ∷ false ∷ [])
    ∷ (true ∷ false ∷ true ∷ [])
    ∷ (true ∷ true ∷ true ∷ [])
    ∷ (true ∷ true ∷ false ∷ [])
    ∷ (true ∷ false ∷ false ∷ [])
    ∷ (true ∷ false ∷ false ∷ [])
    ∷ (true ∷ true ∷ false ∷ [])
    ∷ [])
    form []

-- the form uses the subject at place k, counted from 0
unfoldable pub uses_subject : ℕ → ℕ → Bool
unfolding subject_use
uses_subject form k = get_or (subject_use form) k false

-- the three together, as the code has them
abbrev pub use_of : ℕ → SubjectUse
use_of form = record { s1 = uses_subject form 0; s2 = uses_subject form 1; s3 = uses_subject form 2 }

-- a judgment's subjects in order
unfoldable pub subjects_of : LineJudgment → List ℕ
subjects_of j = j.s1 ∷ j.s2 ∷ j.s3 ∷ []

-- those that a form uses
unfoldable pub used_subjects : ℕ → LineJudgment → List ℕ
unfolding subject_use selected subjects_of
used_subjects form j = selected (subject_use form) (subjects_of j)

-- the subjects of a plain judgment that its form uses
unfoldable pub subjects : Judgment → List Term
unfolding form s1 s2 s3 subject_use selected
subjects j = selected (subject_use (form j)) (s1 j ∷ s2 j ∷ s3 j ∷ [])
