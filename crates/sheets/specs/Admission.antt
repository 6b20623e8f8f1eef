-- What admission answers, and what it leaves in the work buffer: document 01, "What the desk says".
use Rattle.std.specs.Prelude.{List, ℕ, length, Result, Ok, Err}
use Rattle.terms.specs.Sizes.{TermsAnswer, check_terms}
use Rattle.terms.specs.Buffers.{over}
use Rattle.rules.specs.Contexts.{check_contexts}
use Rattle.rules.specs.declared.contexts.ContextsError.{ContextsError}
use Rattle.sheets.specs.declared.refusals.Counts.{Counts}
use Rattle.sheets.specs.declared.refusals.Fault.{Fault}
use Rattle.sheets.specs.declared.refusals.Fault.TheVariants.{Term, Context}
use Rattle.sheets.specs.declared.refusals.Refusal.{Refusal}
use Rattle.sheets.specs.Refusals.{refused}
use Rattle.sheets.specs.Layout.{contexts_in, layout_of}
use Rattle.sheets.specs.Lines.{check_lines}

-- "Checks run in order of number from 1 to 4, then over terms ascending, contexts ascending, and lines ascending. The
-- first fault is returned." Each stage goes on from the answer of the one before.
module _ (n : Counts) where
  unfoldable pub after_lines : Result (Unit {0}) Refusal → Result Counts Refusal
  after_lines (Ok _) = Ok n
  after_lines (Err r) = Err r

  unfoldable pub after_contexts : List ℕ → Result (Unit {0}) ContextsError → Result Counts Refusal
  after_contexts bytes (Ok _) = after_lines (check_lines bytes n.terms n.contexts n.lines)
  after_contexts bytes (Err e) = refused Context e.place

  unfoldable pub after_terms : List ℕ → TermsAnswer → Result Counts Refusal
  after_terms bytes (Ok _) = after_contexts bytes (check_contexts (contexts_in bytes n.terms) n.terms n.contexts)
  after_terms bytes (Err e) = refused (Term e.fault) e.place

unfoldable pub after_layout : List ℕ → Result Counts Fault → Result Counts Refusal
after_layout bytes (Err fault) = refused fault 0
after_layout bytes (Ok n) = after_terms n bytes (check_terms bytes n.terms).answer

-- the answer for a sheet and a work buffer of the given number of words
unfoldable pub admit_of : List ℕ → ℕ → Result Counts Refusal
admit_of bytes work = after_layout bytes (layout_of bytes work)

-- "The work buffer: after 1 to 4 it is untouched. After 5 to 7 at term k its first k words hold the sizes of terms 0 to
-- k-1. Otherwise its first T words hold all sizes. Words beyond are untouched."
unfoldable pub work_from : List ℕ → List ℕ → Result Counts Fault → List ℕ
work_from bytes before (Err fault) = before
work_from bytes before (Ok n) = over (check_terms bytes n.terms).sizes before

-- the work buffer afterwards, for a sheet and the buffer before
unfoldable pub work_after : List ℕ → List ℕ → List ℕ
work_after bytes before = work_from bytes before (layout_of bytes (length before))
