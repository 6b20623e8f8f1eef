-- What it means that a sheet is good, and what it means that a check is the first to fail: document 01, "The sheet" and
-- "What the desk says", stated by index and without computing. Admission answers exactly for these (demand 1).
use Rattle.std.specs.Prelude.{List, ℕ, ◌≤◌, ◌<◌}
use Rattle.terms.specs.Faults.{number_of as row_number}
use Rattle.terms.specs.Table.{TermTable, FirstFaultyRow}
use Rattle.terms.specs.declared.sizes.RowFault.{RowFault}
use Rattle.rules.specs.Contexts.{ContextTable, FirstFaultyContext}
use Rattle.sheets.specs.declared.refusals.Fault.{Fault}
use Rattle.sheets.specs.declared.refusals.Fault.TheVariants.{Term, Context}
use Rattle.sheets.specs.Layout.{contexts_in}
use Rattle.sheets.specs.GoodLayout.{LaidOut, LayoutFault}
use Rattle.sheets.specs.GoodLines.{GoodLine, FirstFaultyLine}

-- a sheet with these counts whose tables of terms and of contexts are well formed
pub record WellFormedTables (bytes : List ℕ) (T C L : ℕ) : Type 0 where
  pub laid : LaidOut bytes T C L
  pub terms : TermTable bytes T
  pub contexts : ContextTable (contexts_in bytes T) T C

-- the tables are well formed and there are lines up to n, of which those before n are good
pub record GoodBefore (bytes : List ℕ) (T C n : ℕ) : Type 0 where
  pub count : ℕ
  pub within : n < count
  pub tables : WellFormedTables bytes T C count
  pub before : (k : ℕ) → k < n → GoodLine bytes T C k

-- a sheet with T terms, C contexts and L lines that is right in everything
pub record Good (bytes : List ℕ) (T C L : ℕ) : Type 0 where
  pub tables : WellFormedTables bytes T C L
  pub lines : (n : ℕ) → n < L → GoodLine bytes T C n

-- The refusal (fault, place): everything that comes before in the order holds, and that check fails at that place.
pub data FirstFault (bytes : List ℕ) (work : ℕ) : Fault → ℕ → Type 0 where
  in_layout : {fault : Fault} → LayoutFault bytes work fault → FirstFault bytes work fault 0
  in_terms : {row : RowFault} {place : ℕ} (T C L : ℕ) → LaidOut bytes T C L → T ≤ work
      → FirstFaultyRow bytes T (row_number row) place → FirstFault bytes work (Term row) place
  in_contexts : {place : ℕ} (T C L : ℕ) → LaidOut bytes T C L → T ≤ work → TermTable bytes T
      → FirstFaultyContext (contexts_in bytes T) T C place → FirstFault bytes work Context place
  in_lines : {fault : Fault} {place : ℕ} (T C L : ℕ) → WellFormedTables bytes T C L → T ≤ work
      → FirstFaultyLine bytes T C L fault place → FirstFault bytes work fault place
