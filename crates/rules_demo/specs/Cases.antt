-- What the cases are and are run on, and what each answer says.
use Rattle.std.specs.Prelude.{◌≡◌, List, ℕ, ◌+◌, ◌*◌, ◌≤◌}
use Rattle.terms.specs.Table.{TermTable}
use Rattle.terms.specs.Words.{word_at}
use Rattle.rules.specs.Contexts.{ContextTable}
use Rattle.rules.specs.RuleTable.{IsRule, form_of}
use Rattle.rules.specs.Stated.{Numbered, AllNumbered}
use Rattle.rules.specs.declared.judgments.LineJudgment.{LineJudgment}
use Rattle.rules_demo.specs.declared.cases.Answer.{Answer}
use Rattle.rules_demo.specs.declared.cases.Answer.TheVariants.{Instance, Refused, NoCase}

-- five words from a place on, as a judgment
unfoldable pub judgment_from : List ℕ → ℕ → LineJudgment
judgment_from words at =
    record {
      form = word_at words at;
      context = word_at words (at + 1);
      s1 = word_at words (at + 2);
      s2 = word_at words (at + 3);
      s3 = word_at words (at + 4);
    }

-- judgment j of a case: a case is a rule's number and five judgments, the conclusion first
unfoldable pub case_judgment : List ℕ → ℕ → ℕ → LineJudgment
case_judgment cases number j = judgment_from cases (26 * number + 5 * j + 1)

-- well-formed tables of so many terms and contexts, no larger than a sheet's
pub record SoundTables (terms : List ℕ) (term_count : ℕ) (contexts : List ℕ) (count : ℕ) : Type 0 where
  pub few_terms : term_count ≤ 3072
  pub few : count ≤ 256
  pub term_table : TermTable terms term_count
  pub table : ContextTable contexts term_count count

-- a rule, its form, and numbers in range: what is asked of a line and of the lines that it cites
pub record Case (term_count count rule : ℕ) (premises : List LineJudgment) (c : LineJudgment) : Type 0 where
  pub known : IsRule rule
  pub concludes : c.form ≡ form_of rule
  pub conclusion : Numbered term_count count c
  pub all : AllNumbered term_count count premises

-- what an answer says of whether there is a case and whether it is an instance
abbrev pub Answered : Answer → Type 0 → Type 0 → Type 0
Answered Instance is_case follows = is_case × follows
Answered Refused is_case follows = is_case × (follows → ⊥)
Answered NoCase is_case follows = is_case → ⊥
