use mathlib.Core.Path.{refl, ◌∙◌}
use native.Mathlib.Omega.{arith}
use Rattle.sheets.proofs.ConvertedWordLaws.{lines_start_lem, line_stays, line_changes, lines_end_lem}
use Rattle.sheets.proofs.conversion.write_converted.Goals as goal
use Rattle.sheets.proofs.conversion.write_converted.Goals.{then-premise-n, else-premise-n}

pub loop-n-init : goal.loop-n-init
loop-n-init c =
    lines_start_lem _ _ _ _ _ _ _ (λ i. omega (arith, c.type_inv.sheet i))
    c.requires.start_bound.2 c.copy_bytes.ensures c.put_word.ensures

pub loop-n-preserved : goal.loop-n-preserved
loop-n-preserved c =
    let inv = c.loop-n.invariant in
    let within = c.loop-n-test.true in
    elim c.if-premise-n.branch [
      | then-premise-n w ↦
          line_changes _ _ _ _ _ inv within w.if-premise-n.true _ refl (w.out-is ∙ w.add_premise.ensures)
      | else-premise-n w ↦ line_stays _ _ _ _ _ inv within w.if-premise-n.false w.out-is
    ]

pub returns : goal.returns
returns c =
    lines_end_lem _ _ _ _ _ _ _ (λ i. omega (arith, c.type_inv.sheet i))
    c.requires.start_bound.2 c.copy_bytes.ensures c.put_word.ensures c.loop-n.invariant
    c.loop-n-test.false
