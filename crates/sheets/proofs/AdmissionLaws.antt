-- Demand 1: admission answers T, C, L exactly if the sheet is good with these counts and the work buffer has at least T
-- words, and a refusal exactly if its check is the first to fail, at its place; and the work buffer afterwards.
-- Assumes nothing.
use Rattle.std.specs.Prelude.{Result, Ok, Err}
use Rattle.sheets.specs.declared.refusals.Counts.{Counts}
use Rattle.sheets.specs.declared.refusals.Fault.{Fault}
use Rattle.sheets.specs.declared.refusals.Fault.TheVariants.{Context}
use Rattle.sheets.specs.declared.refusals.Refusal.{Refusal}
use Rattle.sheets.specs.Refusals.{number_of, refused, counts}
use mathlib.Core.Path.{◌≡◌, refl, sym, ◌∙◌, ap, subst}
use mathlib.Core.Logic.{◌↔◌}
use mathlib.Core.List.{List}
use Prim.Native.Nat.{ℕ, ◌*◌, ◌≤◌}
use native.Mathlib.Omega.{arith}
use lib.ListN.{length, drop, length-drop, get_or-append}
use Rattle.terms.specs.Table.{TermTable, RowFault, broken, repeated, large, TreeSizes}
use Rattle.terms.specs.Faults.{number_of as row_number}
use Rattle.terms.specs.Sizes.{TermsAnswer, check_terms}
use Rattle.terms.specs.Buffers.{over}
use Rattle.terms.proofs.TableLaws.{check_faultless, check_fault, faultless_sizes, faulty_sizes}
use Rattle.rules.specs.Contexts.{ContextTable, check_contexts}
use Rattle.rules.specs.declared.contexts.ContextsError.{ContextsError}
use Rattle.rules.proofs.ContextTableCheckLaws.{check_faultless as contexts_faultless, check_faulty as contexts_faulty}
use Rattle.sheets.specs.Layout.{contexts_in, trailer_of}
use Rattle.sheets.specs.Lines.{check_lines}
use Rattle.sheets.specs.Admission.{after_lines, after_contexts, after_terms, after_layout, admit_of, work_from, work_after}
use Rattle.sheets.specs.Good.{WellFormedTables, Good, FirstFault, in_layout, in_terms, in_contexts, in_lines}
use Rattle.sheets.specs.WorkBuffer.{SizesLeft, WorkLeft}
use Rattle.sheets.specs.GoodLines.{LineFault, misfit, no_instance}
use Rattle.sheets.specs.GoodLayout.{LaidOut, LayoutFault, wrong_length, not_marked, disagreeing, short_work, trailer_for}
use Rattle.sheets.proofs.BufferLaws.{over_length, over_beyond}
use Rattle.sheets.proofs.LayoutLaws.{LayoutMeans, counted, wrong, layout_means, counted_is, wrong_is}
use Rattle.sheets.proofs.LineCheckLaws.{lines_faultless, lines_faulty}

-- sizes written over the head of a buffer
sizes_left : (bytes : List ℕ) (k : ℕ) (sizes before : List ℕ) → TreeSizes bytes k sizes → k ≤ length before → SizesLeft bytes k before (over sizes before)
sizes_left bytes k sizes before s h =
    record {
      long = over_length sizes before (omega (arith, s.long));
      sizes = λ i l. get_or-append sizes (drop (length sizes) before) 0 i (omega (arith, s.long)) ∙ s.each i l;
      beyond = λ i l. over_beyond sizes before i (omega (arith, s.long));
    }

-- the tables of a sheet that is laid out are whole
module _ {bytes : List ℕ} {T C L : ℕ} (laid : LaidOut bytes T C L) where
  pub whole_terms : 10 * T ≤ length bytes
  whole_terms = omega (arith, laid.long)

  pub whole_contexts : 4 * C ≤ length (contexts_in bytes T)
  unfolding contexts_in
  whole_contexts = omega (arith, laid.long, length-drop (10 * T) bytes)

module _ (bytes : List ℕ) (work : ℕ) where
  -- what an answer means
  data Means : Result Counts Refusal → Type 0 where
    accepted : {T C L : ℕ} → Good bytes T C L → T ≤ work → Means (Ok (counts T C L))
    faulty : {fault : Fault} {place : ℕ} → FirstFault bytes work fault place → Means (refused fault place)

  module _ (T C L : ℕ) (laid : LaidOut bytes T C L) (room : T ≤ work) where
    on_lines : WellFormedTables bytes T C L → (a : Result (Unit {0}) Refusal) → check_lines bytes T C L ≡ a
        → Means (after_lines (counts T C L) a)
    unfolding after_lines
    on_lines tables (Ok tt) e = accepted (record { tables = tables; lines = (lines_faultless bytes T C L).0 e }) room
    on_lines tables (Err r) e = faulty (in_lines T C L tables room ((lines_faulty bytes T C L r.fault r.place).0 e))

    on_contexts : TermTable bytes T → (a : Result (Unit {0}) ContextsError) → check_contexts (contexts_in bytes T) T C ≡ a
        → Means (after_contexts (counts T C L) bytes a)
    unfolding after_contexts
    on_contexts terms (Ok tt) e =
        on_lines (record { laid = laid; terms = terms; contexts = (contexts_faultless (contexts_in bytes T) T C (whole_contexts laid)).0 e }) (check_lines bytes T C L) refl
    on_contexts terms (Err f) e =
        faulty (in_contexts T C L laid room terms
        ((contexts_faulty (contexts_in bytes T) T C f.place (whole_contexts laid)).0 e))

    on_terms : (a : TermsAnswer) → (check_terms bytes T).answer ≡ a → Means (after_terms (counts T C L) bytes a)
    unfolding after_terms
    on_terms (Ok tt) e = on_contexts ((check_faultless bytes T (whole_terms laid)).0 e) (check_contexts (contexts_in bytes T) T C) refl
    on_terms (Err f) e = faulty (in_terms T C L laid room ((check_fault bytes T (whole_terms laid) f.fault f.place).0 e))

  on_layout : {a : Result Counts Fault} → LayoutMeans bytes work a → Means (after_layout bytes a)
  unfolding after_layout
  on_layout (counted {T} {C} {L} laid room) = on_terms T C L laid room (check_terms bytes T).answer refl
  on_layout (wrong fault) = faulty (in_layout fault)

  means : Means (admit_of bytes work)
  unfolding admit_of
  means = on_layout (layout_means bytes work)

  -- and the way back
  module _ {T C L : ℕ} (laid : LaidOut bytes T C L) (room : T ≤ work) where
    to_terms_lem : admit_of bytes work ≡ after_terms (counts T C L) bytes (check_terms bytes T).answer
    unfolding admit_of after_layout
    to_terms_lem = ap (after_layout bytes) ((counted_is bytes work T C L).1 (laid, room))

    module _ (terms : TermTable bytes T) where
      to_contexts_lem : admit_of bytes work ≡ after_contexts (counts T C L) bytes (check_contexts (contexts_in bytes T) T C)
      unfolding after_terms
      to_contexts_lem = to_terms_lem ∙ ap (after_terms (counts T C L) bytes) ((check_faultless bytes T (whole_terms laid)).1 terms)

      to_lines_lem : ContextTable (contexts_in bytes T) T C → admit_of bytes work ≡ after_lines (counts T C L) (check_lines bytes T C L)
      unfolding after_contexts
      to_lines_lem contexts = to_contexts_lem ∙ ap (after_contexts (counts T C L) bytes) ((contexts_faultless (contexts_in bytes T) T C (whole_contexts laid)).1 contexts)

  good_accepted : {T C L : ℕ} → Good bytes T C L → T ≤ work → admit_of bytes work ≡ Ok (counts T C L)
  unfolding after_lines
  good_accepted {T} {C} {L} g room =
      to_lines_lem g.tables.laid room g.tables.terms g.tables.contexts ∙ ap (after_lines (counts T C L)) ((lines_faultless bytes T C L).1 g.lines)

  fault_refused : {fault : Fault} {place : ℕ} → FirstFault bytes work fault place → admit_of bytes work ≡ refused fault place
  unfolding admit_of after_layout after_terms after_contexts after_lines
  fault_refused (in_layout {fault} f) = ap (after_layout bytes) ((wrong_is bytes work fault).1 f)
  fault_refused (in_terms {row} {place} T C L laid room f) =
      to_terms_lem laid room ∙ ap (after_terms (counts T C L) bytes) ((check_fault bytes T (whole_terms laid) row place).1 f)
  fault_refused (in_contexts {place} T C L laid room terms f) =
      to_contexts_lem laid room terms ∙ ap (after_contexts (counts T C L) bytes) ((contexts_faulty (contexts_in bytes T) T C place (whole_contexts laid)).1 f)
  fault_refused (in_lines {fault} {place} T C L t room f) =
      to_lines_lem t.laid room t.terms t.contexts ∙ ap (after_lines (counts T C L)) ((lines_faulty bytes T C L fault place).1 f)

  pub accepted_is : (T C L : ℕ) → (admit_of bytes work ≡ Ok (counts T C L)) ↔ (Good bytes T C L × (T ≤ work))
  accepted_is T C L = (λ e. from (subst Means e means), λ h. good_accepted h.0 h.1)
    where
      from : Means (Ok (counts T C L)) → Good bytes T C L × (T ≤ work)
      from (accepted g room) = (g, room)

  pub refused_is : (fault : Fault) (place : ℕ) → (admit_of bytes work ≡ refused fault place) ↔ FirstFault bytes work fault place
  refused_is fault place = (λ e. from (subst Means e means), fault_refused)
    where
      from : Means (refused fault place) → FirstFault bytes work fault place
      from (faulty f) = f

-- the numbers of a stage
layout_number : {bytes : List ℕ} {work : ℕ} {fault : Fault} → LayoutFault bytes work fault
    → (1 ≤ number_of fault) × (number_of fault ≤ 4)
unfolding number_of
layout_number (wrong_length f) = (omega arith, omega arith)
layout_number (not_marked r f) = (omega arith, omega arith)
layout_number (disagreeing r m f) = (omega arith, omega arith)
layout_number (short_work T C L h k) = (omega arith, omega arith)

row_range : {bytes : List ℕ} {n number : ℕ} → RowFault bytes n number → (5 ≤ number) × (number ≤ 7)
row_range (broken f) = (omega arith, omega arith)
row_range (repeated g r) = (omega arith, omega arith)
row_range (large g f s) = (omega arith, omega arith)

line_number : {bytes : List ℕ} {T C n : ℕ} {fault : Fault} → LineFault bytes T C n fault
    → (9 ≤ number_of fault) × (number_of fault ≤ 10)
unfolding number_of
line_number (misfit f) = (omega arith, omega arith)
line_number (no_instance ok f) = (omega arith, omega arith)

-- the numbers of admission
pub fault_number : {bytes : List ℕ} {work : ℕ} {fault : Fault} {place : ℕ} → FirstFault bytes work fault place
    → (1 ≤ number_of fault) × (number_of fault ≤ 10)
unfolding number_of
fault_number (in_layout f) = ((layout_number f).0, omega (arith, (layout_number f).1))
fault_number (in_terms T C L laid room f) = (omega (arith, (row_range f.fault).0), omega (arith, (row_range f.fault).1))
fault_number (in_contexts T C L laid room terms f) = (omega arith, omega arith)
fault_number (in_lines T C L t room f) = (omega (arith, (line_number f.wrong).0), (line_number f.wrong).1)

module _ (bytes : List ℕ) (before : List ℕ) where
  module _ {T C L : ℕ} (laid : LaidOut bytes T C L) (room : T ≤ length before) where
    left_by_terms : work_after bytes before ≡ over (check_terms bytes T).sizes before
    unfolding work_after work_from
    left_by_terms = ap (work_from bytes before) ((counted_is bytes (length before) T C L).1 (laid, room))

    left_sizes : (k : ℕ) → k ≤ T → TreeSizes bytes k (check_terms bytes T).sizes → SizesLeft bytes k before (work_after bytes before)
    left_sizes k h s = subst (SizesLeft bytes k before) (sym left_by_terms) (sizes_left bytes k (check_terms bytes T).sizes before s (omega arith))

    left_all : TermTable bytes T → SizesLeft bytes T before (work_after bytes before)
    left_all terms = left_sizes T (omega arith) (faultless_sizes bytes T (whole_terms laid) terms)

    pub left_counted : TermTable bytes T → SizesLeft bytes (trailer_of bytes).terms before (work_after bytes before)
    unfolding trailer_for
    left_counted terms = subst (λ t. SizesLeft bytes t.terms before (work_after bytes before)) (sym laid.trailer) (left_all terms)

    -- from number 8 on the terms are right
    pub left_wholly : TermTable bytes T → (fault : Fault) (place : ℕ) → 8 ≤ number_of fault
        → WorkLeft bytes before (work_after bytes before) (number_of fault) place
    left_wholly terms fault place h =
        record {
          untouched = λ k. absurd (omega arith);
          partly = λ k l. absurd (omega arith);
          wholly = λ k. left_counted terms;
        }

  -- the work buffer after a sheet is admitted
  pub accepted_left : (T C L : ℕ) → admit_of bytes (length before) ≡ Ok (counts T C L) → SizesLeft bytes T before (work_after bytes before)
  accepted_left T C L e =
      let g = (accepted_is bytes (length before) T C L).0 e in
      left_all g.0.tables.laid g.1 g.0.tables.terms

  pub fault_left : {fault : Fault} {place : ℕ} → FirstFault bytes (length before) fault place
      → WorkLeft bytes before (work_after bytes before) (number_of fault) place
  unfolding work_after work_from number_of
  fault_left (in_layout {fault} f) =
      let n = layout_number f in
      record {
        untouched = λ h. ap (work_from bytes before) ((wrong_is bytes (length before) fault).1 f);
        partly = λ h k. absurd (omega arith);
        wholly = λ h. absurd (omega arith);
      }
  fault_left (in_terms {row} {place} T C L laid room f) =
      let n = row_range f.fault in
      record {
        untouched = λ h. absurd (omega arith);
        partly = λ h k. left_sizes laid room place (omega (arith, f.within)) (faulty_sizes bytes T (whole_terms laid) (row_number row) place (row, refl, (check_fault bytes T (whole_terms laid) row place).1 f));
        wholly = λ h. absurd (omega arith);
      }
  fault_left (in_contexts {place} T C L laid room terms f) = left_wholly laid room terms Context place (omega arith)
  fault_left (in_lines {fault} {place} T C L t room f) =
      left_wholly t.laid room t.terms fault place (omega (arith, line_number f.wrong))

  -- and after a refusal
  pub refused_left : (fault : Fault) (place : ℕ) → admit_of bytes (length before) ≡ refused fault place → WorkLeft bytes before (work_after bytes before) (number_of fault) place
  refused_left fault place e = fault_left ((refused_is bytes (length before) fault place).0 e)
