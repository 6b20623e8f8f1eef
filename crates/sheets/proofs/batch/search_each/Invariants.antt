-- The invariant is that the answers before are put and the elements behind them are untouched.
use mathlib.Core.List.{map}
use lib.ListN.{length}
use Rattle.terms.specs.Lists.{listed}
use Rattle.sheets.specs.Batch.{wanted_at}
use Rattle.sheets.specs.Opening.{answer_in}
use Rattle.sheets.proofs.FillingLaws.{Filling}
use Rattle.sheets.proofs.batch.search_each.Given as goal

abbrev pub invariant-loop-i : goal.invariant-loop-i
invariant-loop-i g l =
    Filling (listed (λ k. answer_in l.opened.sheet.bytes.now l.opened.sheet.counts (wanted_at (map g.J.Judgment.wanted l.list) k))) (length l.list)
    l.initial.answers l.answers l.i
