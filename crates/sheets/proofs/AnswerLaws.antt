-- What the functions of admission and finding answer, from what their callees answer; what their callees ask.
-- Assumes nothing.
use Rattle.std.specs.Prelude.{Result, Ok, Err}
use Rattle.sheets.specs.declared.refusals.Counts.{Counts}
use Rattle.sheets.specs.declared.refusals.Fault.{Fault}
use Rattle.sheets.specs.declared.refusals.Refusal.{Refusal}
use Rattle.sheets.specs.Refusals.{refused}
use mathlib.Core.Path.{◌≡◌, sym, ◌∙◌, ap}
use mathlib.Core.List.{List}
use Prim.Native.Nat.{ℕ, ◌-◌, ◌*◌, ◌≤◌}
use native.Mathlib.Omega.{arith}
use lib.ListN.{length, take, drop, length-drop}
use Rattle.terms.specs.Table.{TermTable}
use Rattle.terms.specs.Sizes.{TermsAnswer, check_terms}
use Rattle.terms.specs.Buffers.{over}
use Rattle.terms.proofs.TableLaws.{check_faultless}
use Rattle.rules.specs.Contexts.{check_contexts}
use Rattle.rules.specs.declared.contexts.ContextsError.{ContextsError}
use Rattle.rules.proofs.ContextTableCheckLaws.{check_faultless as contexts_faultless}
use Rattle.sheets.specs.Layout.{contexts_in, layout_of}
use Rattle.sheets.specs.Lines.{check_lines}
use Rattle.sheets.specs.Admission.{after_lines, after_contexts, after_terms, after_layout, admit_of, work_from, work_after}
use Rattle.sheets.specs.Good.{WellFormedTables}
use Rattle.sheets.specs.GoodLayout.{LaidOut}
use Rattle.sheets.proofs.BufferLaws.{part_to_end}
use Rattle.sheets.proofs.LayoutLaws.{counted_is}
use Rattle.sheets.proofs.AdmissionLaws.{whole_terms, whole_contexts}

-- `admit`: n is what the layout shows
module _ (bytes before : List ℕ) (n : Counts) (a : Result Counts Fault) (e : a ≡ layout_of bytes (length before))
    (h : a ≡ Ok n) where
  layout_right : LaidOut bytes n.terms n.contexts n.lines × (n.terms ≤ length before)
  layout_right = (counted_is bytes (length before) n.terms n.contexts n.lines).0 (sym e ∙ h)

  pub laid_out : LaidOut bytes n.terms n.contexts n.lines
  laid_out = layout_right.0

  pub sizes_room : n.terms ≤ length before
  sizes_room = layout_right.1

  pub work_left : over (check_terms bytes n.terms).sizes before ≡ work_after bytes before
  unfolding work_after work_from
  work_left = ap (work_from bytes before) (sym h ∙ e)

  -- t is what the check of the terms answers
  module _ (t : TermsAnswer) (f : t ≡ (check_terms bytes n.terms).answer) where
    pub on_terms : after_terms n bytes t ≡ admit_of bytes (length before)
    unfolding admit_of after_layout
    on_terms = ap (after_terms n bytes) f ∙ ap (after_layout bytes) (sym h ∙ e)

    module _ (g : t ≡ Ok tt) where
      pub terms_right : TermTable bytes n.terms
      terms_right = (check_faultless bytes n.terms (whole_terms laid_out)).0 (sym f ∙ g)

      pub contexts_whole : 4 * n.contexts ≤ length (take (length bytes - 10 * n.terms) (drop (10 * n.terms) bytes))
      contexts_whole =
          omega (arith, laid_out.long, length-drop (10 * n.terms) bytes, ap length (part_to_end bytes (10 * n.terms)))

      -- x is what the check of the contexts answers, of the part of the sheet that begins with them
      module _ (x : Result (Unit {0}) ContextsError)
          (k : x ≡ check_contexts (take (length bytes - 10 * n.terms) (drop (10 * n.terms) bytes)) n.terms n.contexts) where
        answered : x ≡ check_contexts (contexts_in bytes n.terms) n.terms n.contexts
        unfolding contexts_in
        answered = k ∙ ap (λ l. check_contexts l n.terms n.contexts) (part_to_end bytes (10 * n.terms))

        pub on_contexts : after_contexts n bytes x ≡ admit_of bytes (length before)
        unfolding after_terms
        on_contexts = ap (after_contexts n bytes) answered ∙ ap (after_terms n bytes) (sym g) ∙ on_terms

        module _ (l : x ≡ Ok tt) where
          pub well_formed : WellFormedTables bytes n.terms n.contexts n.lines
          well_formed =
              record {
                laid = laid_out;
                terms = terms_right;
                contexts =
                    (contexts_faultless (contexts_in bytes n.terms) n.terms n.contexts (whole_contexts laid_out)).0
                    (sym answered ∙ l);
              }

          pub on_lines : (y : Result (Unit {0}) Refusal) → y ≡ check_lines bytes n.terms n.contexts n.lines
              → after_lines n y ≡ admit_of bytes (length before)
          unfolding after_contexts
          on_lines y m = ap (after_lines n) m ∙ ap (after_contexts n bytes) (sym l) ∙ on_contexts

-- the layout is refused
pub layout_wrong : (bytes before : List ℕ) (fault : Fault) (a : Result Counts Fault) → a ≡ layout_of bytes (length before)
    → a ≡ Err fault → (refused fault 0 ≡ admit_of bytes (length before)) × (before ≡ work_after bytes before)
unfolding admit_of after_layout work_after work_from
layout_wrong bytes before fault a e h = (ap (after_layout bytes) (sym h ∙ e), ap (work_from bytes before) (sym h ∙ e))
