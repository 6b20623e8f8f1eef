-- Each arm is decided by its rule's law or own check; the last is never taken.
-- Assumes nothing.
use mathlib.Core.Path.{◌≡◌, subst}
use mathlib.Core.Logic.{◌↔◌}
use mathlib.Core.List.{List, [], ◌∷◌, ◌++◌}
use Prim.Native.Nat.{ℕ}
use Rattle.terms.specs.Term.{Term, pair, first, second}
use Rattle.terms.specs.Tag.{child}
use Rattle.terms.specs.Table.{RowsInTable}
use Rattle.terms.proofs.Tests.{other_rows}
use Rattle.rules.specs.Judgment.{normal, steps}
use Rattle.rules.specs.RuleTable.{premise_count, form_of}
use Rattle.rules.specs.Subjects.{used_subjects}
use Rattle.rules.specs.Instance.{Instance}
use Rattle.rules.specs.Stated.{used_premises}
use Rattle.rules.specs.RuleChecks.{subjects_from, rule_subjects, FollowsIn, SubjectsInTable}
use Rattle.rules.specs.declared.judgments.LineJudgment.{LineJudgment}
use Rattle.rules.proofs.ArmLaws.{by_check, by_law}
use Rattle.rules.proofs.NormalisationLaws.{rule_60, rule_61, rule_62, rule_63, rule_64, rule_67}
use Rattle.rules.proofs.normalisation.step_instance.Goals as goal

-- a projection of a pair, where d is what is projected
first_agrees : {c₁ c₂ p₁ d : Term} → d ≡ child c₁ 1
    → Instance 61 (normal [] p₁ ∷ []) (steps [] c₁ c₂) ↔ ((c₁ ≡ first d) × (d ≡ pair c₂ p₁))
unfolding child
first_agrees k = (λ i. let t = rule_61.0 i in (cc, cc), λ h. rule_61.1 (cc))

second_agrees : {c₁ c₂ p₁ d : Term} → d ≡ child c₁ 1
    → Instance 62 (normal [] p₁ ∷ []) (steps [] c₁ c₂) ↔ ((c₁ ≡ second d) × (d ≡ pair p₁ c₂))
unfolding child
second_agrees k = (λ i. let t = rule_62.0 i in (cc, cc), λ h. rule_62.1 (cc))

-- a head step has a first subject
first_subject : {terms : List ℕ} {rule : ℕ} {premises : List LineJudgment} {c : LineJudgment} → form_of rule ≡ 6
    → SubjectsInTable terms rule premises c → RowsInTable terms (c.s1 ∷ [])
unfolding rule_subjects
first_subject {terms} {rule} {premises} {c} e given =
    let rest = subjects_from rule 0 (used_premises rule premises) in
    other_rows (λ n h. (h.0, tt)) (subst (λ f. RowsInTable terms (used_subjects f c ++ rest)) e given.rows)

pub returns-in-59 : goal.returns-in-59
unfolding used_premises premise_count FollowsIn
returns-in-59 c = by_check c.requires.subjects_in_table c.in-59.is c.n_appabs.ensures

pub returns-in-60 : goal.returns-in-60
unfolding used_premises premise_count FollowsIn
returns-in-60 c =
    by_law c.requires.subjects_in_table c.in-60.is
    (λ contexts. rule_60) c.are_nodes.ensures

pub returns-in-61 : goal.returns-in-61
unfolding used_premises premise_count FollowsIn
returns-in-61 c =
    by_law c.requires.subjects_in_table c.in-61.is
    (λ contexts. first_agrees c.child-d.ensures.value) c.are_nodes-in-61.ensures

pub returns-in-62 : goal.returns-in-62
unfolding used_premises premise_count FollowsIn
returns-in-62 c =
    by_law c.requires.subjects_in_table c.in-62.is
    (λ contexts. second_agrees c.child-d.ensures.value) c.are_nodes-in-62.ensures

pub returns-in-63 : goal.returns-in-63
unfolding used_premises premise_count FollowsIn
returns-in-63 c =
    by_law c.requires.subjects_in_table c.in-63.is
    (λ contexts. rule_63) c.are_nodes-in-63.ensures

pub returns-in-64 : goal.returns-in-64
unfolding used_premises premise_count FollowsIn
returns-in-64 c =
    by_law c.requires.subjects_in_table c.in-64.is
    (λ contexts. rule_64) c.are_nodes-in-64.ensures

pub returns-in-65 : goal.returns-in-65
unfolding used_premises premise_count FollowsIn
returns-in-65 c = by_check c.requires.subjects_in_table c.in-65.is c.n_indzero.ensures

pub returns-in-66 : goal.returns-in-66
unfolding used_premises premise_count FollowsIn
returns-in-66 c = by_check c.requires.subjects_in_table c.in-66.is c.n_indsuc.ensures

pub returns-in-67 : goal.returns-in-67
unfolding used_premises premise_count FollowsIn
returns-in-67 c =
    by_law c.requires.subjects_in_table c.in-67.is
    (λ contexts. rule_67) c.are_nodes-in-67.ensures
