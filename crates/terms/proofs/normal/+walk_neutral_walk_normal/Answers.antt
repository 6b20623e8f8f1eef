use mathlib.Core.Path.{◌≡◌, sym, ◌∙◌, ap}
use mathlib.Core.Bool.{true}
use Prim.Native.Nat.{ℕ}
use native.Mathlib.Omega.{arith}
use Rattle.terms.specs.Tag.{tag_in, arity}
use Rattle.terms.specs.Rows.{term}
use Rattle.terms.specs.NormalForms.{Normal, Neutral, n_sne}
use Rattle.terms.specs.Recognition.{heads_neutral, scrutinised}
use Rattle.terms.proofs.Tests.{says_yes, says_no, refuted}
use Rattle.terms.proofs.NormalLaws.{not_neutral, normal_neutral, by_neutral, normal_parts, neutral_parts, normal_made, neutral_made}
use Rattle.terms.proofs.VisitLaws.{Visited, visit_child, visit_end}
use Rattle.terms.proofs.RecognitionLaws.{known_more, part_scrutinised, part_other}
use Rattle.terms.proofs.normal.+walk_neutral_walk_normal.Goals.{walk_neutral-After-scrutinised-place, walk_neutral-After-word-child, walk_neutral-After-loop-j, walk_neutral-Else-not-heads_neutral, walk_normal-After-word, walk_normal-After-loop-j}
use Rattle.terms.proofs.normal.+walk_neutral_walk_normal.Goals as goal

pub walk_normal-returns-then-heads_neutral-clause-answer : goal.walk_normal-returns-then-heads_neutral-clause-answer
walk_normal-returns-then-heads_neutral-clause-answer t c =
    let head = sym (rw c.tag_at-tag.ensures at c.heads_neutral.ensures) ∙ c.if-heads_neutral.true in
    by_neutral head _ c.walk_neutral.ensures.answer

-- the child that is visited
normal_child : {t : ℕ} (c : walk_normal-After-word t) → Visited c.loop-j.invariant.0 c.word.result
normal_child c =
    let count = c.arity-j-end.ensures.value ∙ ap arity c.tag_at-tag.ensures in
    visit_child c.loop-j.invariant.0 (omega arith) c.word.ensures.value

pub walk_normal-walk_normal-requires : goal.walk_normal-walk_normal-requires
walk_normal-walk_normal-requires t c =
    let child = normal_child (goal.at.walk_normal-walk_normal-requires t c).After-word in
    (omega arith, (child.given, c.loop-j.invariant.1))

pub walk_normal-returns-then-not-walk_normal-clause-answer : goal.walk_normal-returns-then-not-walk_normal-clause-answer
walk_normal-returns-then-not-walk_normal-clause-answer t c =
    let child = normal_child (goal.at.walk_normal-returns-then-not-walk_normal-clause-answer t c).After-word in
    says_no (λ h. refuted c.walk_normal.ensures.answer c.if-not-walk_normal.true (child.part (normal_parts h)))

-- a term all of whose children were visited is normal
normal_whole : {t : ℕ} (c : walk_normal-After-loop-j t) → Normal (term c.args.rows.now c.args.t)
normal_whole c =
    let head = sym (rw c.tag_at-tag.ensures at c.heads_neutral.ensures) ∙ c.if-heads_neutral.false in
    let count = c.arity-j-end.ensures.value ∙ ap arity c.tag_at-tag.ensures in
    normal_made _ head (visit_end c.loop-j.invariant.0 (omega arith))

pub walk_normal-returns : goal.walk_normal-returns
walk_normal-returns t c =
    let whole = normal_whole (goal.at.walk_normal-returns t c).After-loop-j in
    record { answer = says_yes whole; memory = known_more c.loop-j.invariant.1 _ whole }

-- the tag is that of a neutral term
neutral_head : {t : ℕ} (c : walk_neutral-Else-not-heads_neutral t)
    → heads_neutral (tag_in (term c.args.rows.now c.args.t)) ≡ true
neutral_head c = sym (rw c.tag_at-tag.ensures at c.heads_neutral.ensures) ∙ c.if-not-heads_neutral.false

-- the place is that of the part that is scrutinised
neutral_place : {t : ℕ} (c : walk_neutral-After-scrutinised-place t)
    → c.scrutinised-place.result ≡ scrutinised (tag_in (term c.args.rows.now c.args.t))
neutral_place c = c.scrutinised-place.ensures ∙ ap scrutinised c.tag_at-tag.ensures

pub walk_neutral-returns-then-not-heads_neutral-clause-answer : goal.walk_neutral-returns-then-not-heads_neutral-clause-answer
walk_neutral-returns-then-not-heads_neutral-clause-answer t c =
    let head = sym (rw c.tag_at-tag.ensures at c.heads_neutral.ensures) ∙ c.if-not-heads_neutral.true in
    says_no (not_neutral head)

pub walk_neutral-returns-then-known-t-clause-answer : goal.walk_neutral-returns-then-known-t-clause-answer
walk_neutral-returns-then-known-t-clause-answer t c =
    let head = neutral_head (goal.at.walk_neutral-returns-then-known-t-clause-answer t c).Else-not-heads_neutral in
    says_yes (normal_neutral head (c.requires.1.fact _ c.if-known-t.true))

-- the child that is visited
neutral_child : {t : ℕ} (c : walk_neutral-After-word-child t) → Visited c.loop-j.invariant.0 c.word-child.result
neutral_child c =
    let count = c.arity-j-end.ensures.value ∙ ap arity c.tag_at-tag.ensures in
    visit_child c.loop-j.invariant.0 (omega arith) c.word-child.ensures.value

pub walk_neutral-walk_neutral-requires : goal.walk_neutral-walk_neutral-requires
walk_neutral-walk_neutral-requires t c =
    let child = neutral_child (goal.at.walk_neutral-walk_neutral-requires t c).After-word-child in
    (omega arith, (child.given, c.loop-j.invariant.1))

pub walk_neutral-returns-then-not-walk_neutral-clause-answer : goal.walk_neutral-returns-then-not-walk_neutral-clause-answer
walk_neutral-returns-then-not-walk_neutral-clause-answer t c =
    let at = goal.at.walk_neutral-returns-then-not-walk_neutral-clause-answer t c in
    let asked = part_scrutinised _ _ _ (c.if-j-place.true ∙ neutral_place at.After-scrutinised-place) in
    let child = neutral_child at.After-word-child in
    says_no
    (λ h. refuted c.walk_neutral.ensures.answer c.if-not-walk_neutral.true (asked.0 (child.part (neutral_parts h))))

pub walk_neutral-walk_normal-requires : goal.walk_neutral-walk_normal-requires
walk_neutral-walk_normal-requires t c =
    let child = neutral_child (goal.at.walk_neutral-walk_normal-requires t c).After-word-child in
    (omega arith, (child.given, c.loop-j.invariant.1))

pub walk_neutral-returns-then-not-walk_normal-clause-answer : goal.walk_neutral-returns-then-not-walk_normal-clause-answer
walk_neutral-returns-then-not-walk_normal-clause-answer t c =
    let at = goal.at.walk_neutral-returns-then-not-walk_normal-clause-answer t c in
    let asked = part_other _ _ _ (λ e. c.if-j-place.false (e ∙ sym (neutral_place at.After-scrutinised-place))) in
    let child = neutral_child at.After-word-child in
    says_no (λ h. refuted c.walk_normal.ensures.answer c.if-not-walk_normal.true (asked.0 (child.part (neutral_parts h))))

-- a term all of whose children were visited is neutral
neutral_whole : {t : ℕ} (c : walk_neutral-After-loop-j t) → Neutral (term c.args.rows.now c.args.t)
neutral_whole c =
    let head = sym (rw c.tag_at-tag.ensures at c.heads_neutral.ensures) ∙ c.if-not-heads_neutral.false in
    let count = c.arity-j-end.ensures.value ∙ ap arity c.tag_at-tag.ensures in
    neutral_made _ head (visit_end c.loop-j.invariant.0 (omega arith))

pub walk_neutral-returns : goal.walk_neutral-returns
walk_neutral-returns t c =
    let whole = neutral_whole (goal.at.walk_neutral-returns t c).After-loop-j in
    record { answer = says_yes whole; memory = known_more c.loop-j.invariant.1 _ (n_sne whole) }
