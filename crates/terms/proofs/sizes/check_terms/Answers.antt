-- Each row is one step of the check, and one row more in the index.
use mathlib.Core.Path.{◌∙◌, sym}
use native.Mathlib.Omega.{arith}
use Rattle.terms.proofs.IndexLaws.{index_added}
use Rattle.terms.proofs.CheckLaws.{checking_start, checking_fault, checking_next, checking_end}
use Rattle.terms.proofs.sizes.check_terms.Goals as goal

pub loop-k-init : goal.loop-k-init
loop-k-init c = record { checking = checking_start _ _ _; indexed = c.new-index.ensures _ }

pub returns-in-Err : goal.returns-in-Err
returns-in-Err c =
    let whole = checking_fault _ _ _ c.requires.2 c.loop-k.work _ c.loop-k.invariant.checking c.loop-k-test.true _ (sym c.in-Err.is ∙ c.row_answer.ensures) in
    record { answer = whole.0; sizes = whole.1 }

pub loop-k-preserved : goal.loop-k-preserved
loop-k-preserved c =
    let before = c.loop-k.invariant in
    record {
      checking = checking_next _ _ _ c.requires.2 c.loop-k.work _ before.checking c.loop-k-test.true _ (sym c.in-Ok.is ∙ c.row_answer.ensures);
      indexed = index_added _ _ _ _ _ _ before.indexed (omega arith) c.read_row-row.ensures c.bucket_of-bucket.ensures c.add.ensures.heads c.add.ensures.links;
    }

pub returns : goal.returns
returns c =
    let whole = checking_end _ _ _ c.requires.2 c.loop-k.work _ c.loop-k.invariant.checking c.loop-k-test.false in
    record { answer = whole.0; sizes = whole.1 }
