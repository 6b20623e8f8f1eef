-- The plain judgment that five numbers state: document 01, "The sheet" (a line's form) and "Derivations that fit"
-- (a line's judgment is its form, its context and the subjects that its form uses, read as plain terms), and document
-- 02, A5.
use Rattle.std.specs.Prelude.{◌≡◌, true, false, List, [], ◌∷◌, map, ℕ, ◌≤◌, ◌<◌, leb, get_or, take}
use Rattle.terms.specs.Term.{Term}
use Rattle.terms.specs.Rows.{term}
use Rattle.terms.specs.Lists.{All}
use Rattle.rules.specs.Judgment.{Context, Judgment, wf, typed, equal, sub, normal, neutral, steps}
use Rattle.rules.specs.Contexts.{context}
use Rattle.rules.specs.Subjects.{last_form, uses_subject, subjects_of}
use Rattle.rules.specs.RuleTable.{premise_count}
use Rattle.rules.specs.Instance.{Instance}
use Rattle.rules.specs.declared.judgments.LineJudgment.{LineJudgment}

-- form 0: the context is well formed; 1: s1 has type s3; 2: s1 equals s2 at s3; 3: s1 is a subtype of s2; 4: s1 is
-- normal; 5: s1 is neutral; 6: s1 steps to s2
unfoldable pub plain_judgment : ℕ → Context → Term → Term → Term → Judgment
plain_judgment form G a b A =
    get_or (wf G ∷ typed G a A ∷ equal G a b A ∷ sub G a b ∷ normal G a ∷ neutral G a ∷ steps G a b ∷ []) form (wf G)

-- the subjects read off the term table, in the given form and context
abbrev pub stated_in : List ℕ → ℕ → Context → LineJudgment → Judgment
stated_in terms form G j = plain_judgment form G (term terms j.s1) (term terms j.s2) (term terms j.s3)

unfoldable pub stated : List ℕ → List ℕ → LineJudgment → Judgment
unfolding plain_judgment
stated terms contexts j = stated_in terms j.form (context terms contexts j.context) j

-- Judgments of the forms up to this one stand in any context, those of forms 4 to 6 "in context 0; another gives 9"
-- (document 02, A5).
abbrev pub last_form_in_context : ℕ
last_form_in_context = 3

-- the last of count contexts that a judgment of the form may stand in
unfoldable pub last_context : ℕ → ℕ → ℕ
last_context form count = elim (leb form last_form_in_context) [ true ↦ count | false ↦ 0 ]

-- the numbers that the form uses are in range, for termCount terms and count contexts
pub record Numbered (term_count count : ℕ) (j : LineJudgment) : Type 0 where
  pub form : j.form ≤ last_form
  pub within : j.context ≤ count
  pub empty : last_form_in_context < j.form → j.context ≡ 0
  pub subjects : (k : ℕ) → uses_subject j.form k ≡ true → get_or (subjects_of j) k 0 < term_count

abbrev pub AllNumbered : ℕ → ℕ → List LineJudgment → Type 0
AllNumbered term_count count = All (Numbered term_count count)

-- the premises that a rule uses are the first of four
unfoldable pub used_premises : ℕ → List LineJudgment → List LineJudgment
used_premises rule premises = take (premise_count rule) premises

-- the conclusion follows by the rule from the premises that it uses
unfoldable pub Follows : List ℕ → List ℕ → ℕ → List LineJudgment → LineJudgment → Type 0
Follows terms contexts rule premises conclusion =
    Instance rule (map (stated terms contexts) (used_premises rule premises)) (stated terms contexts conclusion)
