-- The lines that the premise words name are there and in range, so crate rules decides.
-- Assumes nothing.
use mathlib.Core.Path.{refl, ◌∙◌, ap}
use mathlib.Core.Bool.{Bool}
use mathlib.Core.List.{List, [], ◌∷◌}
use Prim.Native.Nat.{ℕ, ◌+◌, ◌-◌, ◌*◌}
use lib.ListN.{length, take, drop}
use Rattle.terms.specs.Decides.{Decides}
use Rattle.terms.proofs.Tests.{refuted}
use Rattle.rules.specs.Stated.{Follows}
use Rattle.rules.specs.RuleChecks.{LineInTables}
use Rattle.rules.specs.declared.judgments.LineJudgment.{LineJudgment}
use Rattle.sheets.specs.Layout.{contexts_in, lines_in}
use Rattle.sheets.specs.Lines.{judgment_of, premises_of, LineFollows}
use Rattle.sheets.proofs.BufferLaws.{part_to_end}
use Rattle.sheets.proofs.LineAnswers.{named_whole, line_in_tables, line_decided}
use native.Mathlib.Omega.{arith}
use Rattle.sheets.proofs.lines.line_follows.Goals.{After-from-c}
use Rattle.sheets.proofs.lines.line_follows.Goals as goal

pub read_line-requires : goal.read_line-requires
unfolding premises_of
read_line-requires c =
    let rows = c.requires.good_before in
    named_whole _ _ _ _ c.args.line rows.0 rows.1 rows.2 0 _ (omega arith) refl

pub read_line-requires-2 : goal.read_line-requires-2
unfolding premises_of
read_line-requires-2 c =
    let rows = c.requires.good_before in
    named_whole _ _ _ _ c.args.line rows.0 rows.1 rows.2 1 _ (omega arith) refl

pub read_line-requires-3 : goal.read_line-requires-3
unfolding premises_of
read_line-requires-3 c =
    let rows = c.requires.good_before in
    named_whole _ _ _ _ c.args.line rows.0 rows.1 rows.2 2 _ (omega arith) refl

pub read_line-requires-4 : goal.read_line-requires-4
unfolding premises_of
read_line-requires-4 c =
    let rows = c.requires.good_before in
    named_whole _ _ _ _ c.args.line rows.0 rows.1 rows.2 3 _ (omega arith) refl

-- the line with the judgments that were read keeps the layout of the tables, and what decides it there decides the line
abbrev Told : List ℕ → List ℕ → ℕ → ℕ → ℕ → ℕ → List LineJudgment → LineJudgment → Type 0
Told sheet contexts T C n rule premises c =
    LineInTables sheet contexts rule premises c
    × ((b : Bool) → Decides b (Follows sheet contexts rule premises c) → Decides b (LineFollows sheet T C n))

told : (c : After-from-c)
    → let start = c.args in
    let bytes = c.args.sheet.now in
    let after = 10 * start.counts.terms in
    Told bytes (take (length bytes - after) (drop after bytes)) start.counts.terms start.counts.contexts start.n
    start.line.rule
    (
    c.into.result
    ∷ c.into-2.result
    ∷ c.into-3.result
    ∷ c.into-4.result
    ∷ []
    )
    c.from-c.result
unfolding contexts_in lines_in
told c =
    let rows = c.requires.good_before in
    let bytes = c.args.sheet.now in
    let terms = c.args.counts.terms in
    let own = c.requires.edition_value in
    let context-rows = part_to_end bytes (10 * terms) in
    let lines = part_to_end bytes (10 * terms + 4 * c.args.counts.contexts) in
    let p = c.into.ensures ∙ ap judgment_of c.read_line.ensures in
    let q = c.into-2.ensures ∙ ap judgment_of c.read_line-2.ensures in
    let r = c.into-3.ensures ∙ ap judgment_of c.read_line-3.ensures in
    let s = c.into-4.ensures ∙ ap judgment_of c.read_line-4.ensures in (
      line_in_tables _ _ _ _ c.args.line rows.0 rows.1 rows.2 own _ _ context-rows lines _ _ _ _ _
          p q r s c.from-c.ensures,
      line_decided _ _ _ _ c.args.line rows.0 rows.1 rows.2 own _ _ context-rows lines _ _ _ _ _
          p q r s c.from-c.ensures,
    )

pub is_cited_instance-requires : goal.is_cited_instance-requires
is_cited_instance-requires c =
    let behind = c.cites_motive.ensures.0 c.if-cites_motive.true in
    record {
      line_in_tables = (told (goal.at.is_cited_instance-requires c).After-from-c).0;
      lt_rule = behind;
    }

pub is_instance-requires : goal.is_instance-requires
is_instance-requires c =
    let low = refuted c.cites_motive.ensures c.if-cites_motive.false in
    record {
      line_in_tables = (told (goal.at.is_instance-requires c).After-from-c).0;
      rule_bound = omega (arith, low);
    }

pub returns-then-cites_motive : goal.returns-then-cites_motive
returns-then-cites_motive c = (told (goal.at.returns-then-cites_motive c).After-from-c).1 _ c.is_cited_instance.ensures

pub returns-else-cites_motive : goal.returns-else-cites_motive
returns-else-cites_motive c = (told (goal.at.returns-else-cites_motive c).After-from-c).1 _ c.is_instance.ensures
