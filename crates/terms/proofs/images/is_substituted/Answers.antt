-- A walk with a memory that holds nothing yet.
use Rattle.terms.proofs.MemoLaws.{memo_none}
use Rattle.terms.proofs.images.is_substituted.Goals as goal

pub walk-requires : goal.walk-requires
walk-requires c = (c.requires.0, c.requires.1, memo_none c.new-memo.ensures)
