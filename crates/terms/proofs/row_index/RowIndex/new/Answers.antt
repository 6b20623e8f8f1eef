use Rattle.terms.proofs.IndexLaws.{index_start}
use Rattle.terms.proofs.row_index.RowIndex.new.Goals as goal

pub returns : goal.returns
returns c = index_start
