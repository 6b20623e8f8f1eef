-- Searches in a sheet that is opened for a batch: only for the steps of the code. Each is a single search
-- (`answer_in_is` in proofs/OpeningLaws).
use Rattle.std.specs.Prelude.{List, ℕ, ◌<◌, Result, Ok, Err}
use Rattle.sheets.specs.declared.refusals.Counts.{Counts}
use Rattle.sheets.specs.declared.refusals.Refusal.{Refusal}
use Rattle.sheets.specs.declared.finding.Wanted.{Wanted}
use Rattle.sheets.specs.Layout.{edition_of, lines_in}
use Rattle.sheets.specs.Finding.{search_lines}
use Rattle.sheets.specs.Batch.{answer_for}

-- the answer fits 16 bits
unfoldable pub Answerable : Result ℕ Refusal → Type 0
Answerable (Ok line) = line < 65536
Answerable (Err _) = Unit {0}

-- the answer for one judgment, sought in a sheet with these counts
unfoldable pub answer_in : List ℕ → Counts → Wanted → ℕ
answer_in bytes n w = answer_for (search_lines (edition_of bytes) (lines_in bytes n.terms n.contexts) n.lines w)
