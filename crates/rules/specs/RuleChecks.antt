-- What the checks of a line are given and what they decide: document 01, "The 43 rules", and document 02, A5.
-- `is_instance` is given a line of well-formed tables and first asks what the rule's row of the table does (`Shaped`);
-- the rest is decided by the rule's number: by its own check, or for rules 44 to 67 by their group. A premise that its
-- context is well formed is not looked at: a check is asked without it, and promises its answer for any.
use Rattle.std.specs.Prelude.{◌≡◌, Bool, true, false, List, [], ◌∷◌, ◌++◌, map, ℕ, suc, eqb}
use Rattle.terms.specs.Decides.{Decides}
use Rattle.terms.specs.Rows.{term}
use Rattle.terms.specs.Table.{RowsInTable}
use Rattle.rules.specs.Conditions.{IsUniverse}
use Rattle.rules.specs.Judgment.{Context, Judgment}
use Rattle.rules.specs.Subjects.{used_subjects}
use Rattle.rules.specs.RuleTable.{IsRule, premise_form, added_entries, form_of, counted_from, Adds}
use Rattle.rules.specs.Instance.{Instance}
use Rattle.rules.specs.Contexts.{context, ContextsInTable, InTables}
use Rattle.rules.specs.Stated.{plain_judgment, stated_in, Numbered, AllNumbered, used_premises}
use Rattle.rules.specs.declared.judgments.LineJudgment.{LineJudgment}
use Rattle.rules.specs.declared.judgments.Premises.{Premises}

-- the four premises that a check is given, as a list
abbrev pub in_order : Premises → List LineJudgment
in_order ps = ps.p ∷ ps.q ∷ ps.r ∷ ps.s ∷ []

-- what a line that keeps the layout gives over well-formed tables: its rule is there, its form is the rule's, and its
-- numbers and those of the lines that it cites are in range
pub record LineInTables (terms contexts : List ℕ) (rule : ℕ) (premises : List LineJudgment) (c : LineJudgment)
    : Type 0 where
  pub given : ContextsInTable terms contexts []
  pub known : IsRule rule
  pub concludes : c.form ≡ form_of rule
  pub conclusion : Numbered given.term_count given.count c
  pub used : AllNumbered given.term_count given.count (used_premises rule premises)

-- judgments whose numbers are in range of well-formed tables
pub record JudgmentsInTables (terms contexts : List ℕ) (js : List LineJudgment) : Type 0 where
  pub given : ContextsInTable terms contexts []
  pub numbered : AllNumbered given.term_count given.count js

-- what the rule table asks of the premises from place j on: their forms, and how many entries their contexts add to
-- the context G, from which they are counted
unfoldable pub ShapedFrom : List ℕ → List ℕ → ℕ → Context → ℕ → List LineJudgment → Type 0
ShapedFrom terms contexts rule G j [] = Unit {0}
ShapedFrom terms contexts rule G j (p ∷ ps) =
    ((p.form ≡ premise_form rule j) × Adds (context terms contexts p.context) G (added_entries rule j))
    × ShapedFrom terms contexts rule G (suc j) ps

abbrev pub Shaped : List ℕ → List ℕ → ℕ → List LineJudgment → LineJudgment → Type 0
Shaped terms contexts rule premises c =
    ShapedFrom terms contexts rule (counted_from rule (context terms contexts c.context)) 0 (used_premises rule premises)

-- context n is the context `base` with so many entries added
abbrev pub AddsTo : List ℕ → List ℕ → ℕ → ℕ → ℕ → Type 0
AddsTo terms contexts n base added = Adds (context terms contexts n) (context terms contexts base) added

-- what WT-PI and WT-SIG ask of their premises: the type of p and, under it, that of q are in c's universe
abbrev pub TypesFamily : List ℕ → List ℕ → LineJudgment → LineJudgment → LineJudgment → Type 0
TypesFamily terms contexts c p q =
    (context terms contexts q.context ≡ term terms p.s1 ∷ context terms contexts c.context)
    × (term terms p.s3 ≡ term terms c.s3) × (term terms q.s3 ≡ term terms c.s3) × IsUniverse (term terms c.s3)

-- the subjects that the premises from place j on use
unfoldable pub subjects_from : ℕ → ℕ → List LineJudgment → List ℕ
unfolding used_subjects premise_form
subjects_from rule j [] = []
subjects_from rule j (p ∷ ps) = used_subjects (premise_form rule j) p ++ subjects_from rule (suc j) ps

-- the subjects that the conclusion and the premises use, in order
unfoldable pub rule_subjects : ℕ → List LineJudgment → LineJudgment → List ℕ
unfolding used_subjects subjects_from form_of
rule_subjects rule premises c = used_subjects (form_of rule) c ++ subjects_from rule 0 premises

-- their contexts
abbrev pub rule_contexts : List LineJudgment → LineJudgment → List ℕ
rule_contexts premises c = c.context ∷ map (λ p. p.context) premises

-- these contexts and these term rows stand in well-formed tables
abbrev pub RuleInTables : List ℕ → List ℕ → ℕ → List LineJudgment → LineJudgment → Type 0
RuleInTables terms contexts rule premises c =
    InTables terms contexts (rule_contexts premises c) (rule_subjects rule premises c)

-- the premises from place j on as judgments of the table's forms: one that adds no entry stands in the context G, from
-- which entries are counted, any other in its own
unfoldable pub placed_from : List ℕ → List ℕ → ℕ → Context → ℕ → List LineJudgment → List Judgment
placed_from terms contexts rule G j [] = []
placed_from terms contexts rule G j (p ∷ ps) =
    stated_in terms (premise_form rule j)
    (elim (eqb (added_entries rule j) 0) [ true ↦ G | false ↦ context terms contexts p.context ]) p
    ∷ placed_from terms contexts rule G (suc j) ps

-- c, in the context G, follows by the rule from premises so placed
unfoldable pub FollowsIn : List ℕ → List ℕ → ℕ → Context → List LineJudgment → LineJudgment → Type 0
unfolding placed_from plain_judgment premise_form added_entries counted_from form_of
FollowsIn terms contexts rule G premises c =
    Instance rule (placed_from terms contexts rule (counted_from rule G) 0 premises) (stated_in terms (form_of rule) G c)

-- the same in its own context
abbrev pub FollowsPlaced : List ℕ → List ℕ → ℕ → List LineJudgment → LineJudgment → Type 0
FollowsPlaced terms contexts rule premises c =
    FollowsIn terms contexts rule (context terms contexts c.context) premises c

-- the test decides whether c does, whatever the context: that of a rule which looks at no context
abbrev pub DecidesInEvery : Bool → List ℕ → ℕ → List LineJudgment → LineJudgment → Type 0
DecidesInEvery ok terms rule premises c =
    (contexts : List ℕ) (G : Context) → Decides ok (FollowsIn terms contexts rule G premises c)

-- what a check in the empty context is given: the subjects of the conclusion and of those premises that the rule uses
-- stand in a well-formed table. A record, so that laws can infer what it speaks of.
pub record SubjectsInTable (terms : List ℕ) (rule : ℕ) (premises : List LineJudgment) (c : LineJudgment) : Type 0 where
  pub rows : RowsInTable terms (rule_subjects rule (used_premises rule premises) c)

-- the test decides whether c follows from those premises that the rule uses in the empty context, where alone rules 44
-- to 67 hold
abbrev pub DecidesInEmpty : Bool → List ℕ → ℕ → List LineJudgment → LineJudgment → Type 0
DecidesInEmpty ok terms rule premises c =
    (contexts : List ℕ) → Decides ok (FollowsIn terms contexts rule [] (used_premises rule premises) c)
