use mathlib.Core.Path.{sym, ◌∙◌, ap}
use mathlib.Core.Logic.{◌≢◌}
use Prim.Native.Nat.{ℕ}
use native.Mathlib.Omega.{arith}
use Rattle.terms.specs.Tag.{Var, tag_meant, tag_in, arity, binders}
use Rattle.terms.specs.Rows.{term}
use Rattle.terms.proofs.TagTables.{meant_inj}
use Rattle.terms.proofs.MemoLaws.{memo_more}
use Rattle.terms.proofs.NodeLaws.{variable_row}
use Rattle.terms.proofs.WalkLaws.{Compared, heads_differ, walk_start, walk_end, compared}
use Rattle.terms.proofs.Tests.{says_no, refuted}
use Rattle.terms.proofs.walks.+walk.Goals.{walk_here-In_default, walk_here-After-word-in-loop-j-2}
use Rattle.terms.proofs.walks.+walk.Goals as goal

pub walk-returns-then-walk_here-clause-memory : goal.walk-returns-then-walk_here-clause-memory
walk-returns-then-walk_here-clause-memory g t c =
    memo_more c.requires.0 c.requires.1 c.walk_here.ensures.memory
    (c.walk_here.ensures.answer.0 c.if-walk_here.true) c.remember.ensures

pub walk_here-returns-in-Var-clause-answer : goal.walk_here-returns-in-Var-clause-answer
walk_here-returns-in-Var-clause-answer g t c =
    let tag = sym c.tag_at-tag.ensures ∙ ap tag_meant c.in-Var.is in
    rw (variable_row _ _ c.requires.0.table _ c.requires.0.below.0 tag c.word.ensures.value) c.is_image.ensures

-- the tag is no variable's
no_variable : (g : _) (t : ℕ) (c : walk_here-In_default g t) → tag_in (term c.args.rows.now c.args.t) ≢ Var
no_variable g t c e = c.in_default.not-Var (meant_inj (c.tag_at-tag.ensures ∙ e))

pub walk_here-returns-then-not-same_head-clause-answer :
    goal.walk_here-returns-then-not-same_head-clause-answer
walk_here-returns-then-not-same_head-clause-answer g t c =
    heads_differ (g.met.O.Operation.goes c.args.op c.args.rows.now) _ _ _
    (no_variable g t (goal.at.walk_here-returns-then-not-same_head-clause-answer g t c).In_default)
    c.same_head.ensures c.if-not-same_head.true

pub walk_here-loop-j-init : goal.walk_here-loop-j-init
walk_here-loop-j-init g t c =
    let not_var = no_variable g t (goal.at.walk_here-loop-j-init g t c).In_default in
    let heads = c.same_head.ensures.0 c.if-not-same_head.false in
    (walk_start c.requires.0 (g.met.O.Operation.goes c.args.op c.args.rows.now) not_var heads, c.requires.2)

-- the children that are compared
children : (g : _) (t : ℕ) (c : walk_here-After-word-in-loop-j-2 g t)
    → Compared c.loop-j.invariant.0 c.binders.result c.word-in-loop-j.result c.word-in-loop-j-2.result
children g t c =
    let count = c.arity-j-end.ensures.value ∙ ap arity c.tag_at-tag.ensures in
    let bound = c.binders.ensures.value ∙ ap (λ τ. binders τ c.loop-j.j) c.tag_at-tag.ensures in
    compared c.loop-j.invariant.0 (omega arith) bound c.word-in-loop-j.ensures.value c.word-in-loop-j-2.ensures.value

pub walk_here-walk-requires : goal.walk_here-walk-requires
walk_here-walk-requires g t c κs within =
    let pair = children g t (goal.at.walk_here-walk-requires g t c).After-word-in-loop-j-2 in
    (omega arith, (within, (pair.given, omega arith, c.loop-j.invariant.1)))

pub walk_here-loop-j-preserved : goal.walk_here-loop-j-preserved
walk_here-loop-j-preserved g t c =
    let pair = children g t (goal.at.walk_here-loop-j-preserved g t c).After-word-in-loop-j-2 in
    (pair.next (c.walk.ensures.answer.0 c.if-not-walk.false), c.walk.ensures.memory)

pub walk_here-returns-then-not-walk-clause-answer :
    goal.walk_here-returns-then-not-walk-clause-answer
walk_here-returns-then-not-walk-clause-answer g t c =
    let pair = children g t (goal.at.walk_here-returns-then-not-walk-clause-answer g t c).After-word-in-loop-j-2 in
    says_no (λ h. refuted c.walk.ensures.answer c.if-not-walk.true (pair.asked h))

pub walk_here-returns-clause-answer : goal.walk_here-returns-clause-answer
walk_here-returns-clause-answer g t c =
    let count = c.arity-j-end.ensures.value ∙ ap arity c.tag_at-tag.ensures in
    walk_end c.loop-j.invariant.0 (omega arith)
