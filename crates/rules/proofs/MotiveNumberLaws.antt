-- Motives by their numbers: what `motive_given_by` answers, each way out, and what its callees ask.
-- Assumes nothing.
use mathlib.Core.Path.{◌≡◌, refl, sym, ◌∙◌, ap, ap₂}
use mathlib.Core.Logic.{◌↔◌}
use mathlib.Core.List.{List, [], ◌∷◌}
use Prim.Native.Nat.{ℕ, ◌*◌, ◌≤◌, ◌<◌}
use native.Mathlib.Omega.{arith}
use lib.ListN.{length}
use Rattle.terms.specs.Term.{nat}
use Rattle.terms.specs.Rows.{term}
use Rattle.terms.proofs.Tests.{refuted}
use Rattle.terms.proofs.TermLaws.{same_row}
use Rattle.rules.specs.Subjects.{used_subjects}
use Rattle.rules.specs.Conditions.{IsUniverse}
use Rattle.rules.specs.Contexts.{parent_of, type_of, context}
use Rattle.rules.specs.Motives.{GivesMotive}
use Rattle.rules.specs.MotiveNumbers.{motive_number, MotiveAskedBy, MotiveGivenBy}
use Rattle.rules.specs.RuleChecks.{JudgmentsInTables}
use Rattle.rules.specs.Stated.{stated}
use Rattle.rules.specs.declared.judgments.LineJudgment.{LineJudgment}
use Rattle.rules.proofs.ArmLaws.{subjects_below}
use Rattle.rules.proofs.ContextTableLaws.{Earlier, context_step, same_number}
use Rattle.rules.proofs.ContextTableAnswers.{empty_says}
use Rattle.rules.proofs.MotiveLaws.{gives_parts, gives_form}

-- a number tells the context and the row
same_motive : (G H r s : ℕ) → r < 4096 → s < 4096 → (motive_number G r ≡ motive_number H s) ↔ ((G ≡ H) × (r ≡ s))
same_motive G H r s low high = (λ e. (omega arith, omega arith), λ e. omega (arith, e.0, e.1))

-- of form 1, in a context that has an entry: no other line gives a motive a universe
abbrev pub HasEntry : LineJudgment → Type 0
HasEntry p = (p.form ≡ 1) × (0 < p.context)

-- what the callees ask of a line
module _ {terms contexts : List ℕ} {p : LineJudgment} (given : JudgmentsInTables terms contexts (p ∷ [])) where
  module _ (line : HasEntry p) where
    pub context_row : (1 ≤ p.context) × (4 * p.context ≤ length contexts)
    context_row = (omega (arith, line.1), omega (arith, given.numbered.0.within, given.given.table.whole))

    pub numbers_small : (p.context ≤ 256) × (parent_of contexts p.context < p.context) × (p.s1 < 4096)
    unfolding used_subjects
    numbers_small = (
      omega (arith, given.numbered.0.within, given.given.few),
      (given.given.table.rows p.context context_row.0 given.numbered.0.within).earlier,
      omega (arith, (subjects_below _ _ 1 _ given.numbered.0 line.0).0, given.given.few_terms),
    )

module _ (terms contexts : List ℕ) (p : LineJudgment) where
  -- 0 is no motive's number
  none : ((c : LineJudgment) (asked : ℕ) → JudgmentsInTables terms contexts (c ∷ p ∷ []) → c.form ≡ 2
      → MotiveAskedBy terms c asked → GivesMotive (stated terms contexts p) (stated terms contexts c) → ⊥)
      → MotiveGivenBy terms contexts p 0
  none h c asked given form a = (λ e. absurd (omega (arith, e, a.is)), λ g. absurd (h c asked given form a g))

  pub no_entry : (HasEntry p → ⊥) → MotiveGivenBy terms contexts p 0
  no_entry h =
      none
      (λ c asked given form a g.
      let typed = gives_form terms contexts p (stated terms contexts c) given.numbered.1.0.form g in
      let parts = (gives_parts terms contexts p c typed form a.motive).1 g in
      let some : 0 < p.context → ⊥ = λ l. h (typed, l) in
      let empty : p.context ≡ 0 = omega (arith, some) in
      refuted (empty_says terms contexts p.context nat (context terms contexts c.context) empty) refl
      parts.0.0)

  -- a line with an entry, and the row of its last entry's type
  module _ (line : HasEntry p) (entry : ℕ) (read : entry ≡ type_of contexts p.context) where
    -- it is the premise if that type is Nat, its own a universe, and its subject's number the one that is asked for
    numbered : (c : LineJudgment) (asked : ℕ) → JudgmentsInTables terms contexts (c ∷ p ∷ []) → c.form ≡ 2
        → MotiveAskedBy terms c asked
        → (((term terms entry ≡ nat) × IsUniverse (term terms p.s3))
        × (motive_number (parent_of contexts p.context) p.s1 ≡ asked))
        ↔ GivesMotive (stated terms contexts p) (stated terms contexts c)
    unfolding used_subjects
    numbered c asked given form a =
        let tables = given.given in
        let n = p.context in
        let low : 1 ≤ n = omega (arith, line.1) in
        let high = given.numbered.1.0.within in
        let earlier : Earlier contexts tables.count = λ n l h. (tables.table.rows n l h).earlier in
        let step = context_step terms contexts tables.count earlier n low high in
        let subject = (subjects_below _ _ 1 _ given.numbered.1.0 line.0).0 in
        let asks = (subjects_below _ _ 2 _ given.numbered.0 form).0 in
        let row : a.row < tables.term_count = omega (arith, a.within) in
        let few = tables.few_terms in
        let same = same_motive (parent_of contexts n) c.context p.s1 a.row (omega arith) (omega arith) in
        let parts = gives_parts terms contexts p c line.0 form a.motive in (
          λ h.
              let is = same.0 (h.1 ∙ a.is) in
              parts.0 (
                (
                  step ∙ ap₂ ◌∷◌ (ap (term terms) (sym read) ∙ h.0.0) (ap (context terms contexts) is.0),
                  ap (term terms) is.1,
                ),
                h.0.1,
              ),
          λ g.
              let is = parts.1 g in
              let extends = is.0.0 in (
                (cc, is.1),
                same.1 (
                  same_number terms contexts tables.term_count tables.count tables.term_table tables.table
                      (parent_of contexts n) c.context (omega (arith, earlier n low high))
                      given.numbered.0.within (cc),
                  same_row terms tables.term_count tables.term_table p.s1 a.row subject row is.0.1,
                )
                    ∙ sym a.is,
              ),
        )

    pub no_motive_lem : ((term terms entry ≡ nat) × IsUniverse (term terms p.s3) → ⊥)
        → MotiveGivenBy terms contexts p 0
    no_motive_lem h = none (λ c asked given form a g. h ((numbered c asked given form a).1 g).0)

    pub motive_given : (above number : ℕ) → above ≡ parent_of contexts p.context
        → number ≡ motive_number above p.s1 → (term terms entry ≡ nat) × IsUniverse (term terms p.s3)
        → MotiveGivenBy terms contexts p number
    motive_given above number e f h c asked given form a =
        let is : number ≡ motive_number (parent_of contexts p.context) p.s1 = omega arith in
        let motive = numbered c asked given form a in
        (λ g. motive.0 (h, sym is ∙ g), λ g. is ∙ (motive.1 g).1)
