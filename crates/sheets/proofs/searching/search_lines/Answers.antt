use mathlib.Core.Path.{sym, ◌∙◌, ap, subst}
use Prim.Native.Nat.{◌+◌}
use native.Mathlib.Omega.{arith}
use Rattle.std.specs.Prelude.{Err}
use Rattle.sheets.specs.Finding.{found_line}
use Rattle.sheets.proofs.FindingLaws.{BestBefore, best_start, compared, best_there, best_next, best_passed, best_of_all}
use Rattle.sheets.proofs.searching.search_lines.Goals as goal
use Rattle.sheets.proofs.searching.search_lines.Goals.{then-eq, else-eq}

pub loop-n-init : goal.loop-n-init
loop-n-init c = best_start _ _ _ _

pub loop-n-preserved : goal.loop-n-preserved
loop-n-preserved c =
    let loop = c.loop-n in
    let within = c.loop-n-test.true in
    let line = c.line.ensures in
    let judgment = c.from.ensures in
    let has = compared c.from.result c.args.wanted c.from-sought.ensures c.eq.ensures in
    let best = BestBefore c.args.lines.edition c.args.lines.rows.now c.args.wanted c.args.lines.count in
    elim c.if-eq.branch [
      | then-eq w ↦
          subst (λ b. best b (loop.n + 1)) (sym w.best-is)
          (best_next _ _ _ _ _ _ loop.invariant c.args.heights.now _ c.requires within
          (cc (line, judgment, has, w.if-eq.true)) w.better.ensures)
      | else-eq w ↦
          subst (λ b. best b (loop.n + 1)) (sym w.best-is)
          (best_passed _ _ _ _ _ _ loop.invariant within (cc (line, judgment, has, w.if-eq.false)))
    ]

pub better-requires : goal.better-requires
better-requires c = (
  omega (arith, c.args.lines.citing.1),
  best_there _ _ _ _ _ _ c.loop-n.invariant 1024 c.args.lines.citing.1,
)

pub returns-in-Some : goal.returns-in-Some
unfolding found_line
returns-in-Some c = ap found_line (sym c.in-Some.is) ∙ best_of_all _ _ _ _ _ _ c.loop-n.invariant c.loop-n-test.false

pub returns-in-None : goal.returns-in-None
unfolding found_line
returns-in-None c =
    ap Err c.into.ensures ∙ ap found_line (sym c.in-None.is) ∙ best_of_all _ _ _ _ _ _ c.loop-n.invariant c.loop-n-test.false
