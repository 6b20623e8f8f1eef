use mathlib.Core.Path.{◌∙◌, ap}
use Rattle.std.specs.Prelude.{Err}
use Rattle.sheets.proofs.LineAnswers.{no_lines, walked_start, walked_end, walked_9, asked, walked_10, walked_next}
use Rattle.sheets.proofs.lines.check_lines.Goals as goal

pub returns-then-count-eq0 : goal.returns-then-count-eq0
returns-then-count-eq0 c = no_lines _ _ _ _ c.if-count-eq0.true

pub loop-n-init : goal.loop-n-init
loop-n-init c = λ tables. walked_start _ _ _ _ tables c.edition_of-edition.ensures

pub line_follows-requires : goal.line_follows-requires
line_follows-requires c =
    let whole = asked _ _ _ _ c.requires (c.loop-n.invariant c.requires) c.loop-n-test.true _
    c.read_line-line.ensures _ c.line_fits.ensures c.if-not-line_fits.false in
    record { edition_value = whole.0; good_before = whole.1 }

pub loop-n-preserved : goal.loop-n-preserved
loop-n-preserved c =
    λ tables. walked_next _ _ _ _ tables (c.loop-n.invariant tables) c.loop-n-test.true _
    c.read_line-line.ensures _ c.line_fits.ensures c.if-not-line_fits.false _
    c.line_follows.ensures c.if-not-line_follows.false

pub returns-then-not-line_follows : goal.returns-then-not-line_follows
returns-then-not-line_follows c =
    let rows = c.requires in
    ap Err c.at-then-not-line_follows.ensures
    ∙ walked_10 _ _ _ _ rows (c.loop-n.invariant rows) c.loop-n-test.true _
    c.read_line-line.ensures _ c.line_fits.ensures c.if-not-line_fits.false _
    c.line_follows.ensures c.if-not-line_follows.true

pub returns-then-not-line_fits : goal.returns-then-not-line_fits
returns-then-not-line_fits c =
    let rows = c.requires in
    ap Err c.at.ensures
    ∙ walked_9 _ _ _ _ rows (c.loop-n.invariant rows) c.loop-n-test.true _
    c.read_line-line.ensures _ c.line_fits.ensures c.if-not-line_fits.true

pub returns : goal.returns
returns c =
    walked_end _ _ _ _ c.requires (c.loop-n.invariant c.requires) c.loop-n-test.false
