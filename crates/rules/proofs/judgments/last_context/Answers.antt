use mathlib.Core.Path.{sym}
use native.Mathlib.Omega.{arith}
use Rattle.rules.proofs.SubjectLaws.{any_context, empty_alone}
use Rattle.rules.proofs.judgments.last_context.Goals as goal

pub returns-then-form-le-LAST_FORM_IN_CONTEXT : goal.returns-then-form-le-LAST_FORM_IN_CONTEXT
returns-then-form-le-LAST_FORM_IN_CONTEXT c = sym (any_context _ _ (omega arith))

pub returns-else-form-le-LAST_FORM_IN_CONTEXT : goal.returns-else-form-le-LAST_FORM_IN_CONTEXT
returns-else-form-le-LAST_FORM_IN_CONTEXT c = sym (empty_alone _ _ (omega arith))
