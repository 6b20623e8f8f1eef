-- The lines and their check, numbers 9 and 10: document 01, "The sheet" and "What the desk says". A line is ten words:
-- form, rule, context, three subjects, four premises. Lines count from 0.
use Rattle.std.specs.Prelude.{Bool, true, false, ◌&&◌, List, [], ◌∷◌, map, ℕ, ◌+◌, ◌*◌, leb, ltb, eqb, take, Result, Ok}
use Rattle.terms.specs.Words.{word_at}
use Rattle.terms.specs.Search.{Step, ends, goes, search_places}
use Rattle.rules.specs.Judgment.{Judgment}
use Rattle.rules.specs.Editions.{row_in}
use Rattle.rules.specs.RuleTable.{rule_known, form_of, premise_count}
use Rattle.rules.specs.Subjects.{uses_subject}
use Rattle.rules.specs.Instance.{Instance}
use Rattle.rules.specs.Decision.{instance?}
use Rattle.rules.specs.Stated.{last_context, stated}
use Rattle.rules.specs.declared.judgments.LineJudgment.{LineJudgment}
use Rattle.sheets.specs.declared.lines.Line.{Line}
use Rattle.sheets.specs.declared.refusals.Fault.TheVariants.{Numbers, NoInstance}
use Rattle.sheets.specs.declared.refusals.Refusal.{Refusal}
use Rattle.sheets.specs.Refusals.{refused}
use Rattle.sheets.specs.Layout.{edition_of, contexts_in, lines_in}

-- word j of line n, where the bytes begin with line 0
unfoldable pub line_word : List ℕ → ℕ → ℕ → ℕ
line_word lines n j = word_at lines (10 * n + j)

-- Line n of a sheet of this edition. Its rule is the row of the rule table by which the edition judges the rule word, 0
-- where it admits no such rule: "An edition 1 sheet with a rule above 43 still gets 9" (document 02, A5).
unfoldable pub line_of : ℕ → List ℕ → ℕ → Line
line_of edition lines n =
    record {
      form = line_word lines n 0;
      rule = row_in edition (line_word lines n 1);
      context = line_word lines n 2;
      s1 = line_word lines n 3;
      s2 = line_word lines n 4;
      s3 = line_word lines n 5;
      p0 = line_word lines n 6;
      p1 = line_word lines n 7;
      p2 = line_word lines n 8;
      p3 = line_word lines n 9;
    }

-- what a line states, as numbers; the one place where its form word is read
unfoldable pub judgment_of : Line → LineJudgment
judgment_of l = record { form = l.form; context = l.context; s1 = l.s1; s2 = l.s2; s3 = l.s3 }

-- the four premise words, in the rule's order
unfoldable pub premises_of : Line → List ℕ
premises_of l = l.p0 ∷ l.p1 ∷ l.p2 ∷ l.p3 ∷ []

-- the lines that a line cites: as many premises as its rule has
unfoldable pub cited_by : Line → List ℕ
cited_by l = take (premise_count l.rule) (premises_of l)

-- what a number is below that is used, and below the given bound; an unused one is 0
unfoldable pub below : Bool → ℕ → ℕ
below true bound = bound
below false bound = 1

-- number 9, subjects: those that the form uses are terms, the others are 0
unfoldable pub subjects_fit : LineJudgment → ℕ → Bool
unfolding below
subjects_fit j terms =
    ltb j.s1 (below (uses_subject j.form 0) terms) && ltb j.s2 (below (uses_subject j.form 1) terms)
    && ltb j.s3 (below (uses_subject j.form 2) terms)

-- number 9, premises: the first count are used and are earlier lines than line n
unfoldable pub premises_fit : Line → ℕ → ℕ → Bool
unfolding below
premises_fit l count n =
    ltb l.p0 (below (ltb 0 count) n) && ltb l.p1 (below (ltb 1 count) n) && ltb l.p2 (below (ltb 2 count) n)
    && ltb l.p3 (below (ltb 3 count) n)

-- number 9, rule and form: a rule that the edition admits, and its form
unfoldable pub rule_fits : Line → Bool
rule_fits l = rule_known l.rule && eqb (judgment_of l).form (form_of l.rule)

-- Number 9, the numbers of line n, over the given numbers of terms and of contexts. Lines of forms 4 to 6 "stand in
-- context 0; another gives 9" (document 02, A5).
unfoldable pub numbers_fit : Line → ℕ → ℕ → ℕ → Bool
numbers_fit l n terms contexts =
    leb l.context (last_context (judgment_of l).form contexts) && subjects_fit (judgment_of l) terms
    && premises_fit l (premise_count l.rule) n

unfoldable pub line_fits : Line → ℕ → ℕ → ℕ → Bool
line_fits l n terms contexts = rule_fits l && numbers_fit l n terms contexts

module _ (bytes : List ℕ) (terms contexts : ℕ) where
  unfoldable pub line_at : ℕ → Line
  line_at n = line_of (edition_of bytes) (lines_in bytes terms contexts) n

  -- a line's judgment, read as plain terms ("Derivations that fit")
  unfoldable pub stated_at : ℕ → Judgment
  stated_at n = stated bytes (contexts_in bytes terms) (judgment_of (line_at n))

  -- number 10: the judgment of line n is an instance of its rule over the judgments of the lines that it cites
  unfoldable pub LineFollows : ℕ → Type 0
  LineFollows n = Instance (line_at n).rule (map stated_at (cited_by (line_at n))) (stated_at n)

  unfoldable pub line_follows? : (n : ℕ) → Dec (LineFollows n)
  unfolding LineFollows instance?
  line_follows? n = instance? (line_at n).rule (map stated_at (cited_by (line_at n))) (stated_at n)

  -- the check at line n: 9, then 10
  unfoldable pub line_step : ℕ → Step (Unit {0}) (Result (Unit {0}) Refusal)
  line_step n =
      elim (line_fits (line_at n) n terms contexts) [
        | false ↦ ends (refused Numbers n)
        | true ↦ elim (line_follows? n) [ no _ ↦ ends (refused NoInstance n) | yes _ ↦ goes tt ]
      ]

  unfoldable pub check_lines : ℕ → Result (Unit {0}) Refusal
  check_lines count = search_places line_step (Ok tt) count 0
