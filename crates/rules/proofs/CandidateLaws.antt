-- The laws of the rules, `rule_n` in ContextLaws, TypingLaws, EqualityLaws, SubtypingLaws and NormalisationLaws. Each
-- says, of any judgments of the forms that the rule's row names (in NormalisationLaws, of any in the empty context),
-- that they are an instance of rule n exactly if their parts meet a product of equations (in rule 38 one of them is a
-- choice of two), which is what a check of the rule tests. G and c₁ c₂ c₃ are the conclusion's context and its subjects
-- s1, s2, s3; those of the premises are G₀ and p₁ p₂ p₃, G₁ and q₁ q₂ q₃, G₂ and r₁ r₂ r₃, G₃ and s₁ s₂ s₃. A letter of
-- the rule that is none of these is read off as a child of one.
use mathlib.Core.Path.{subst₃}
use mathlib.Core.Logic.{◌↔◌}
use mathlib.Core.List.{List}
use Prim.Native.Nat.{ℕ}
use Rattle.rules.specs.Judgment.{Judgment}
use Rattle.rules.specs.Instance.{Instance}
use Rattle.rules.specs.Decision.{Matches, nearest, same}

-- The candidate of a rule whose condition is none but equations is an instance whatever the judgments are, so to be an
-- instance is to be equal to it.
pub by_candidate : {n : ℕ} {ps : List Judgment} {c : Judgment} {T : Type 0}
    → (Matches n ps c (nearest n ps c) → T) → (T → Matches n ps c (nearest n ps c)) → Instance n ps c ↔ T
by_candidate {n} {ps} {c} f g =
    (λ i. f (same i), λ t. let m = g t in subst₃ Instance m.0 m.1 m.2 (nearest n ps c).holds)
