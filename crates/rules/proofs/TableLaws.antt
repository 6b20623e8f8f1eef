-- The rule table agrees with the rule ranges, the premise counts and the 255 marks: one test over all rows, that antt
-- computes, and a law that reads it at each rule; and the ranges themselves and the forms of premises, each by such a
-- test.
use mathlib.Core.Path.{◌≡◌, refl, subst, sym}
use mathlib.Core.Logic.Dec
use mathlib.Core.Logic.{◌↔◌, ◌⊎◌, inl, inr, ⊎_elim}
use Prim.Native.Nat.{ℕ, zero, suc, ◌*◌, ◌≤◌, ◌<◌}
use native.Mathlib.Nat.{not-suc-le-zero, le_of_suc-le-suc, eq-or-lt_of_le}
use native.Mathlib.Decide.{ℕ_discrete, dec_le}
use native.Mathlib.Omega.{arith}
use borrow.Author.Tests.{ne_eqb}
use lib.ListN.{length}
use Rattle.rules.specs.Judgment.{Context}
use Rattle.rules.specs.Subjects.{last_form}
use Rattle.rules.specs.RuleTable.{rule_count, IsRule, rule_table, RowAgrees, conclusion_form, premise_count, premise_form}
use Rattle.rules.specs.RuleTable.{added_entries, form_of, counted_from}
use Rattle.rules.specs.Stated.{last_form_in_context}

-- ten numbers for each rule
pub table_length : length rule_table ≡ 10 * rule_count
unfolding rule_table
table_length = refl

abbrev IsYes : {P : Type 0} → Dec P → Type 0
IsYes (yes p) = Unit {0}
IsYes (no q) = ⊥

holds : {P : Type 0} (d : Dec P) → IsYes d → P
holds (yes p) t = p
holds (no q) t = absurd t

iff? : {P Q : Type 0} → Dec P → Dec Q → Dec (P ↔ Q)
iff? (yes p) (yes q) = yes (λ x. q, λ y. p)
iff? (yes p) (no q) = no (λ e. q (e.0 p))
iff? (no p) (yes q) = no (λ e. p (e.1 q))
iff? (no p) (no q) = yes (λ x. absurd (p x), λ y. absurd (q y))

if? : {P Q : Type 0} → Dec P → Dec Q → Dec (P → Q)
if? (yes p) (yes q) = yes (λ x. q)
if? (yes p) (no q) = no (λ f. q (f p))
if? (no p) d = yes (λ x. absurd (p x))

or? : {P Q : Type 0} → Dec P → Dec Q → Dec (P ⊎ Q)
or? (yes p) d = yes (inl p)
or? (no p) (yes q) = yes (inr q)
or? (no p) (no q) = no (⊎_elim p q)

-- a statement at every number up to n, from it at n and at those below
up_to : (P : ℕ → Type 0) {n : ℕ} → P n → ((j : ℕ) → j < n → P j) → (j : ℕ) → j < suc n → P j
up_to P {n} p below j h = pick (eq-or-lt_of_le (le_of_suc-le-suc h))
  where
    pick : (j ≡ n) ⊎ (j < n) → P j
    pick (inl e) = subst P (sym e) p
    pick (inr l) = below j l

next? : (P : ℕ → Type 0) {n : ℕ} → Dec (P n) → Dec ((j : ℕ) → j < n → P j) → Dec ((j : ℕ) → j < suc n → P j)
next? P (yes p) (yes below) = yes (up_to P p below)
next? P (yes p) (no q) = no (λ f. q (λ j h. f j (omega arith)))
next? P {n} (no q) d = no (λ f. q (f n (omega arith)))

below? : (P : ℕ → Type 0) → ((j : ℕ) → Dec (P j)) → (n : ℕ) → Dec ((j : ℕ) → j < n → P j)
unfolding next?
below? P p zero = yes (λ j h. absurd (not-suc-le-zero h))
below? P p (suc n) = next? P (p n) (below? P p n)

-- 255 stands exactly from the premise count on
abbrev Marks : ℕ → (ℕ → ℕ) → Type 0
Marks count column = (j : ℕ) → j < 4 → (column j ≡ 255) ↔ (count ≤ j)

marks? : (count : ℕ) (column : ℕ → ℕ) → Dec (Marks count column)
unfolding below? iff? ℕ_discrete dec_le
marks? count column = below? (λ j. (column j ≡ 255) ↔ (count ≤ j)) (λ j. iff? (ℕ_discrete (column j) 255) (dec_le count j)) 4

abbrev Row : ℕ → Type 0
Row rule =
    ((conclusion_form rule ≡ form_of rule) × (premise_count rule ≤ 4))
    × (Marks (premise_count rule) (premise_form rule) × Marks (premise_count rule) (added_entries rule))

row? : (rule : ℕ) → Dec (Row rule)
unfolding Dec.and marks? ℕ_discrete dec_le
row? rule =
    Dec.and
    (Dec.and (ℕ_discrete (conclusion_form rule) (form_of rule)) (dec_le (premise_count rule) 4))
    (Dec.and (marks? (premise_count rule) (premise_form rule)) (marks? (premise_count rule) (added_entries rule)))

-- what is decided at each rule, and by computation holds, holds at any
at_rule : (P : ℕ → Type 0) (decided : (rule : ℕ) → Dec (P rule))
    → IsYes (below? (λ k. P (suc k)) (λ k. decided (suc k)) rule_count) → (rule : ℕ) → IsRule rule → P rule
at_rule P decided t zero h = absurd (not-suc-le-zero h.0)
at_rule P decided t (suc k) h = holds (below? (λ k. P (suc k)) (λ k. decided (suc k)) rule_count) t k h.1

-- the one theorem over all rows
pub row_agrees : (rule : ℕ) → IsRule rule → RowAgrees rule
unfolding below? row? conclusion_form premise_count premise_form added_entries form_of
row_agrees rule h =
    let r = at_rule Row row? tt rule h in
    record { concludes = r.0.0; count = r.0.1; forms = r.1.0; added = r.1.1 }

-- a rule concludes one of the forms
pub form_small : (rule : ℕ) → IsRule rule → form_of rule ≤ last_form
unfolding below? dec_le form_of
form_small = at_rule (λ rule. form_of rule ≤ last_form) (λ rule. dec_le (form_of rule) last_form) tt

-- the rules that conclude a form are those of its range
abbrev Between : ℕ → ℕ → ℕ → Type 0
Between first last rule = (first ≤ rule) × (rule ≤ last)

between? : (first last rule : ℕ) → Dec (Between first last rule)
unfolding Dec.and dec_le
between? first last rule = Dec.and (dec_le first rule) (dec_le rule last)

abbrev pub Concludes : ℕ → ℕ → ℕ → ℕ → Type 0
Concludes f first last rule = (form_of rule ≡ f) ↔ Between first last rule

range? : (f first last rule : ℕ) → Dec (Concludes f first last rule)
unfolding iff? between? ℕ_discrete
range? f first last rule = iff? (ℕ_discrete (form_of rule) f) (between? first last rule)

pub range_0 : (rule : ℕ) → IsRule rule → Concludes 0 1 2 rule
unfolding below? range? form_of
range_0 = at_rule (Concludes 0 1 2) (range? 0 1 2) tt

pub range_1 : (rule : ℕ) → IsRule rule → Concludes 1 3 16 rule
unfolding below? range? form_of
range_1 = at_rule (Concludes 1 3 16) (range? 1 3 16) tt

-- form 2 has two: the last is that of rules 33 and 34 with the motive
abbrev ConcludesEquality : ℕ → Type 0
ConcludesEquality rule = (form_of rule ≡ 2) ↔ (Between 17 34 rule ⊎ Between 68 69 rule)

pub range_2 : (rule : ℕ) → IsRule rule → ConcludesEquality rule
unfolding below? iff? or? between? ℕ_discrete form_of
range_2 =
    at_rule ConcludesEquality
    (λ rule. iff? (ℕ_discrete (form_of rule) 2) (or? (between? 17 34 rule) (between? 68 69 rule))) tt

pub range_3 : (rule : ℕ) → IsRule rule → Concludes 3 35 43 rule
unfolding below? range? form_of
range_3 = at_rule (Concludes 3 35 43) (range? 3 35 43) tt

pub range_4 : (rule : ℕ) → IsRule rule → Concludes 4 44 53 rule
unfolding below? range? form_of
range_4 = at_rule (Concludes 4 44 53) (range? 4 44 53) tt

pub range_5 : (rule : ℕ) → IsRule rule → Concludes 5 54 58 rule
unfolding below? range? form_of
range_5 = at_rule (Concludes 5 54 58) (range? 5 54 58) tt

pub range_6 : (rule : ℕ) → IsRule rule → Concludes 6 59 67 rule
unfolding below? range? form_of
range_6 = at_rule (Concludes 6 59 67) (range? 6 59 67) tt

-- a rule that concludes one of forms 0 to 3 has premises of these forms alone
abbrev PremisesInContext : ℕ → Type 0
PremisesInContext rule =
    conclusion_form rule ≤ last_form_in_context → (j : ℕ) → j < premise_count rule → premise_form rule j ≤ last_form_in_context

premises? : (rule : ℕ) → Dec (PremisesInContext rule)
unfolding if? below? dec_le
premises? rule =
    if? (dec_le (conclusion_form rule) last_form_in_context)
    (below? (λ j. premise_form rule j ≤ last_form_in_context) (λ j. dec_le (premise_form rule j) last_form_in_context) _)

pub premises_in_context : (rule : ℕ) → IsRule rule → PremisesInContext rule
unfolding below? premises? conclusion_form premise_count premise_form
premises_in_context = at_rule PremisesInContext premises? tt

-- rule 2 alone counts added entries from another context than the conclusion's
pub counted_same : (rule : ℕ) (G : Context) → (rule ≡ 2 → ⊥) → counted_from rule G ≡ G
unfolding counted_from
counted_same rule G h = rw (ne_eqb rule 2 h, counted_from)
