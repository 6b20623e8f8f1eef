-- The rule table: document 01, "The 43 rules", and document 02, A5. Ten numbers for each rule, in the rules' order:
-- conclusion form, premise count, four premise forms, and four counts of entries that each premise's context adds to
-- the conclusion's, 255 where there is no premise. For rule 2 the added entries are counted from the context without
-- its last entry. Document 02, A10: "edition 3 has its own table rows for these two", rules 33 and 34; they are rows 68
-- and 69. In all that goes by the table a rule's number is that of its row; `row_in` of Editions gives it.
use Rattle.std.specs.Prelude.{◌≡◌, ◌↔◌, List, [], ◌∷◌, ◌++◌, Bool, true, false, ◌&&◌, ℕ, ◌+◌, ◌-◌, ◌*◌, ◌≤◌, ◌<◌, leb, eqb, get_or, length, drop}
use Rattle.rules.specs.Judgment.{Context, Judgment, form, context_of}
use Rattle.rules.specs.declared.table.Demand.{Demand}
use Rattle.rules.specs.declared.table.RuleRow.{RuleRow}

-- rows count from 1
abbrev pub rule_count : ℕ
rule_count = 69

-- a rule's number
abbrev pub IsRule : ℕ → Type 0
IsRule rule = (1 ≤ rule) × (rule ≤ rule_count)

-- the same by computation
unfoldable pub rule_known : ℕ → Bool
rule_known rule = leb 1 rule && leb rule rule_count

unfoldable pub rule_table : List ℕ
rule_table =
    0 ∷ 0 ∷ 255 ∷ 255 ∷ 255 ∷ 255 ∷ 255 ∷ 255 ∷ 255 ∷ 255 ∷  -- 1 WF-NIL
    0 ∷ 2 ∷ 0 ∷ 1 ∷ 255 ∷ 255 ∷ 0 ∷ 0 ∷ 255 ∷ 255 ∷  -- 2 WF-CONS
    1 ∷ 1 ∷ 0 ∷ 255 ∷ 255 ∷ 255 ∷ 0 ∷ 255 ∷ 255 ∷ 255 ∷  -- 3 WT-VAR
    1 ∷ 2 ∷ 1 ∷ 1 ∷ 255 ∷ 255 ∷ 0 ∷ 1 ∷ 255 ∷ 255 ∷  -- 4 WT-PI
    1 ∷ 1 ∷ 1 ∷ 255 ∷ 255 ∷ 255 ∷ 1 ∷ 255 ∷ 255 ∷ 255 ∷  -- 5 WT-ABS
    1 ∷ 2 ∷ 1 ∷ 1 ∷ 255 ∷ 255 ∷ 0 ∷ 0 ∷ 255 ∷ 255 ∷  -- 6 WT-APP
    1 ∷ 1 ∷ 0 ∷ 255 ∷ 255 ∷ 255 ∷ 0 ∷ 255 ∷ 255 ∷ 255 ∷  -- 7 WT-UNIV
    1 ∷ 2 ∷ 1 ∷ 1 ∷ 255 ∷ 255 ∷ 0 ∷ 1 ∷ 255 ∷ 255 ∷  -- 8 WT-SIG
    1 ∷ 3 ∷ 1 ∷ 1 ∷ 1 ∷ 255 ∷ 0 ∷ 0 ∷ 0 ∷ 255 ∷  -- 9 WT-PAIR
    1 ∷ 1 ∷ 1 ∷ 255 ∷ 255 ∷ 255 ∷ 0 ∷ 255 ∷ 255 ∷ 255 ∷  -- 10 WT-PROJ1
    1 ∷ 1 ∷ 1 ∷ 255 ∷ 255 ∷ 255 ∷ 0 ∷ 255 ∷ 255 ∷ 255 ∷  -- 11 WT-PROJ2
    1 ∷ 1 ∷ 0 ∷ 255 ∷ 255 ∷ 255 ∷ 0 ∷ 255 ∷ 255 ∷ 255 ∷  -- 12 WT-NAT
    1 ∷ 1 ∷ 0 ∷ 255 ∷ 255 ∷ 255 ∷ 0 ∷ 255 ∷ 255 ∷ 255 ∷  -- 13 WT-ZERO
    1 ∷ 1 ∷ 1 ∷ 255 ∷ 255 ∷ 255 ∷ 0 ∷ 255 ∷ 255 ∷ 255 ∷  -- 14 WT-SUCC
    1 ∷ 4 ∷ 1 ∷ 1 ∷ 1 ∷ 1 ∷ 1 ∷ 0 ∷ 0 ∷ 2 ∷  -- 15 WT-IND
    1 ∷ 2 ∷ 1 ∷ 3 ∷ 255 ∷ 255 ∷ 0 ∷ 0 ∷ 255 ∷ 255 ∷  -- 16 WT-CONV
    2 ∷ 1 ∷ 1 ∷ 255 ∷ 255 ∷ 255 ∷ 0 ∷ 255 ∷ 255 ∷ 255 ∷  -- 17 E-REFL
    2 ∷ 1 ∷ 2 ∷ 255 ∷ 255 ∷ 255 ∷ 0 ∷ 255 ∷ 255 ∷ 255 ∷  -- 18 E-SYM
    2 ∷ 2 ∷ 2 ∷ 2 ∷ 255 ∷ 255 ∷ 0 ∷ 0 ∷ 255 ∷ 255 ∷  -- 19 E-TRANS
    2 ∷ 2 ∷ 2 ∷ 2 ∷ 255 ∷ 255 ∷ 0 ∷ 1 ∷ 255 ∷ 255 ∷  -- 20 E-PI
    2 ∷ 1 ∷ 2 ∷ 255 ∷ 255 ∷ 255 ∷ 1 ∷ 255 ∷ 255 ∷ 255 ∷  -- 21 E-ABSEXT
    2 ∷ 2 ∷ 2 ∷ 2 ∷ 255 ∷ 255 ∷ 0 ∷ 0 ∷ 255 ∷ 255 ∷  -- 22 E-APP
    2 ∷ 2 ∷ 2 ∷ 2 ∷ 255 ∷ 255 ∷ 0 ∷ 1 ∷ 255 ∷ 255 ∷  -- 23 E-SIG
    2 ∷ 2 ∷ 2 ∷ 2 ∷ 255 ∷ 255 ∷ 0 ∷ 0 ∷ 255 ∷ 255 ∷  -- 24 E-PAIREXT
    2 ∷ 1 ∷ 2 ∷ 255 ∷ 255 ∷ 255 ∷ 0 ∷ 255 ∷ 255 ∷ 255 ∷  -- 25 E-PROJ1
    2 ∷ 1 ∷ 2 ∷ 255 ∷ 255 ∷ 255 ∷ 0 ∷ 255 ∷ 255 ∷ 255 ∷  -- 26 E-PROJ2
    2 ∷ 1 ∷ 2 ∷ 255 ∷ 255 ∷ 255 ∷ 0 ∷ 255 ∷ 255 ∷ 255 ∷  -- 27 E-SUC
    2 ∷ 4 ∷ 2 ∷ 2 ∷ 2 ∷ 2 ∷ 1 ∷ 0 ∷ 0 ∷ 2 ∷  -- 28 E-IND
    2 ∷ 2 ∷ 2 ∷ 3 ∷ 255 ∷ 255 ∷ 0 ∷ 0 ∷ 255 ∷ 255 ∷  -- 29 E-CONV
    2 ∷ 2 ∷ 1 ∷ 1 ∷ 255 ∷ 255 ∷ 0 ∷ 1 ∷ 255 ∷ 255 ∷  -- 30 E-APPABS
    2 ∷ 3 ∷ 1 ∷ 1 ∷ 1 ∷ 255 ∷ 0 ∷ 0 ∷ 0 ∷ 255 ∷  -- 31 E-PROJPAIR1
    2 ∷ 3 ∷ 1 ∷ 1 ∷ 1 ∷ 255 ∷ 0 ∷ 0 ∷ 0 ∷ 255 ∷  -- 32 E-PROJPAIR2
    2 ∷ 2 ∷ 1 ∷ 1 ∷ 255 ∷ 255 ∷ 0 ∷ 2 ∷ 255 ∷ 255 ∷  -- 33 E-INDZERO
    2 ∷ 3 ∷ 1 ∷ 1 ∷ 1 ∷ 255 ∷ 0 ∷ 0 ∷ 2 ∷ 255 ∷  -- 34 E-INDSUC
    3 ∷ 2 ∷ 3 ∷ 3 ∷ 255 ∷ 255 ∷ 0 ∷ 0 ∷ 255 ∷ 255 ∷  -- 35 L-TRANS
    3 ∷ 1 ∷ 2 ∷ 255 ∷ 255 ∷ 255 ∷ 0 ∷ 255 ∷ 255 ∷ 255 ∷  -- 36 L-EQ
    3 ∷ 1 ∷ 0 ∷ 255 ∷ 255 ∷ 255 ∷ 0 ∷ 255 ∷ 255 ∷ 255 ∷  -- 37 L-UNIV
    3 ∷ 2 ∷ 3 ∷ 3 ∷ 255 ∷ 255 ∷ 0 ∷ 1 ∷ 255 ∷ 255 ∷  -- 38 L-PI
    3 ∷ 2 ∷ 3 ∷ 3 ∷ 255 ∷ 255 ∷ 0 ∷ 1 ∷ 255 ∷ 255 ∷  -- 39 L-SIG
    3 ∷ 1 ∷ 3 ∷ 255 ∷ 255 ∷ 255 ∷ 0 ∷ 255 ∷ 255 ∷ 255 ∷  -- 40 L-PIPROJ1
    3 ∷ 2 ∷ 3 ∷ 2 ∷ 255 ∷ 255 ∷ 0 ∷ 0 ∷ 255 ∷ 255 ∷  -- 41 L-PIPROJ2
    3 ∷ 1 ∷ 3 ∷ 255 ∷ 255 ∷ 255 ∷ 0 ∷ 255 ∷ 255 ∷ 255 ∷  -- 42 L-SIGPROJ1
    3 ∷ 2 ∷ 3 ∷ 2 ∷ 255 ∷ 255 ∷ 0 ∷ 0 ∷ 255 ∷ 255 ∷  -- 43 L-SIGPROJ2
    4 ∷ 1 ∷ 4 ∷ 255 ∷ 255 ∷ 255 ∷ 0 ∷ 255 ∷ 255 ∷ 255 ∷  -- 44 N-ABS
    4 ∷ 2 ∷ 4 ∷ 4 ∷ 255 ∷ 255 ∷ 0 ∷ 0 ∷ 255 ∷ 255 ∷  -- 45 N-PAIR
    4 ∷ 2 ∷ 4 ∷ 4 ∷ 255 ∷ 255 ∷ 0 ∷ 0 ∷ 255 ∷ 255 ∷  -- 46 N-PI
    4 ∷ 2 ∷ 4 ∷ 4 ∷ 255 ∷ 255 ∷ 0 ∷ 0 ∷ 255 ∷ 255 ∷  -- 47 N-SIG
    4 ∷ 1 ∷ 4 ∷ 255 ∷ 255 ∷ 255 ∷ 0 ∷ 255 ∷ 255 ∷ 255 ∷  -- 48 N-SUCC
    4 ∷ 0 ∷ 255 ∷ 255 ∷ 255 ∷ 255 ∷ 255 ∷ 255 ∷ 255 ∷ 255 ∷  -- 49 N-UNIV
    4 ∷ 1 ∷ 5 ∷ 255 ∷ 255 ∷ 255 ∷ 0 ∷ 255 ∷ 255 ∷ 255 ∷  -- 50 N-SNE
    4 ∷ 0 ∷ 255 ∷ 255 ∷ 255 ∷ 255 ∷ 255 ∷ 255 ∷ 255 ∷ 255 ∷  -- 51 N-ZERO
    4 ∷ 0 ∷ 255 ∷ 255 ∷ 255 ∷ 255 ∷ 255 ∷ 255 ∷ 255 ∷ 255 ∷  -- 52 N-NAT
    4 ∷ 2 ∷ 6 ∷ 4 ∷ 255 ∷ 255 ∷ 0 ∷ 0 ∷ 255 ∷ 255 ∷  -- 53 N-EXP
    5 ∷ 0 ∷ 255 ∷ 255 ∷ 255 ∷ 255 ∷ 255 ∷ 255 ∷ 255 ∷ 255 ∷  -- 54 N-VAR
    5 ∷ 2 ∷ 5 ∷ 4 ∷ 255 ∷ 255 ∷ 0 ∷ 0 ∷ 255 ∷ 255 ∷  -- 55 N-APP
    5 ∷ 1 ∷ 5 ∷ 255 ∷ 255 ∷ 255 ∷ 0 ∷ 255 ∷ 255 ∷ 255 ∷  -- 56 N-PROJ1
    5 ∷ 1 ∷ 5 ∷ 255 ∷ 255 ∷ 255 ∷ 0 ∷ 255 ∷ 255 ∷ 255 ∷  -- 57 N-PROJ2
    5 ∷ 4 ∷ 4 ∷ 5 ∷ 4 ∷ 4 ∷ 0 ∷ 0 ∷ 0 ∷ 0 ∷  -- 58 N-IND
    6 ∷ 1 ∷ 4 ∷ 255 ∷ 255 ∷ 255 ∷ 0 ∷ 255 ∷ 255 ∷ 255 ∷  -- 59 N-APPABS
    6 ∷ 2 ∷ 4 ∷ 6 ∷ 255 ∷ 255 ∷ 0 ∷ 0 ∷ 255 ∷ 255 ∷  -- 60 N-APPCONG
    6 ∷ 1 ∷ 4 ∷ 255 ∷ 255 ∷ 255 ∷ 0 ∷ 255 ∷ 255 ∷ 255 ∷  -- 61 N-PROJPAIR1
    6 ∷ 1 ∷ 4 ∷ 255 ∷ 255 ∷ 255 ∷ 0 ∷ 255 ∷ 255 ∷ 255 ∷  -- 62 N-PROJPAIR2
    6 ∷ 1 ∷ 6 ∷ 255 ∷ 255 ∷ 255 ∷ 0 ∷ 255 ∷ 255 ∷ 255 ∷  -- 63 N-PROJCONG1
    6 ∷ 1 ∷ 6 ∷ 255 ∷ 255 ∷ 255 ∷ 0 ∷ 255 ∷ 255 ∷ 255 ∷  -- 64 N-PROJCONG2
    6 ∷ 3 ∷ 4 ∷ 4 ∷ 4 ∷ 255 ∷ 0 ∷ 0 ∷ 0 ∷ 255 ∷  -- 65 N-INDZERO
    6 ∷ 4 ∷ 4 ∷ 4 ∷ 4 ∷ 4 ∷ 0 ∷ 0 ∷ 0 ∷ 0 ∷  -- 66 N-INDSUC
    6 ∷ 4 ∷ 4 ∷ 4 ∷ 4 ∷ 6 ∷ 0 ∷ 0 ∷ 0 ∷ 0 ∷  -- 67 N-INDCONG
    2 ∷ 3 ∷ 1 ∷ 1 ∷ 1 ∷ 255 ∷ 1 ∷ 0 ∷ 2 ∷ 255 ∷  -- 68 E-INDZERO of edition 3
    2 ∷ 4 ∷ 1 ∷ 1 ∷ 1 ∷ 1 ∷ 1 ∷ 0 ∷ 0 ∷ 2 ∷  -- 69 E-INDSUC of edition 3
    []

-- the number in a rule's row, columns counted from 0; rules count from 1, and 255 stands past the end. Row 0, which is
-- none, reads as row 1: number 9 has refused it before.
unfoldable pub table_at : ℕ → ℕ → ℕ
unfolding rule_table
table_at rule column = get_or rule_table (10 * (rule - 1) + column) 255

unfoldable pub conclusion_form : ℕ → ℕ
unfolding table_at
conclusion_form rule = table_at rule 0

unfoldable pub premise_count : ℕ → ℕ
unfolding table_at
premise_count rule = table_at rule 1

-- premises count from 0
unfoldable pub premise_form : ℕ → ℕ → ℕ
unfolding table_at
premise_form rule j = table_at rule (2 + j)

unfoldable pub added_entries : ℕ → ℕ → ℕ
unfolding table_at
added_entries rule j = table_at rule (6 + j)

-- what the rule asks of the premise at place j
unfoldable pub demand : ℕ → ℕ → Demand
demand rule j = record { form = premise_form rule j; added = added_entries rule j }

-- what the rule asks of its premises
unfoldable pub rule_row : ℕ → RuleRow
rule_row rule =
    record { count = premise_count rule; p = demand rule 0; q = demand rule 1; r = demand rule 2; s = demand rule 3 }

-- "The ranges 1-2, 3-16, 17-34 and 35-43 conclude forms 0, 1, 2 and 3", and by document 02, A5, the ranges 44-53, 54-58
-- and 59-67 forms 4, 5 and 6; rows 68 and 69 what rules 33 and 34 do: the last rule of each range, with its form
abbrev pub ranges : List (ℕ × ℕ)
ranges = (2, 0) ∷ (16, 1) ∷ (34, 2) ∷ (43, 3) ∷ (53, 4) ∷ (58, 5) ∷ (67, 6) ∷ (69, 2) ∷ []

-- the form of the first range that a rule is not behind
unfoldable pub form_among : List (ℕ × ℕ) → ℕ → ℕ
form_among [] rule = 255
form_among (range ∷ rest) rule = elim (leb rule range.0) [ true ↦ range.1 | false ↦ form_among rest rule ]

-- the form that a rule concludes; 255, which is no form, where there is no such rule
unfoldable pub form_of : ℕ → ℕ
unfolding rule_known form_among
form_of rule = elim (rule_known rule) [ true ↦ form_among ranges rule | false ↦ 255 ]

-- A row agrees with the ranges and with itself: 255 marks exactly the places from the premise count on.
pub record RowAgrees (rule : ℕ) : Type 0 where
  pub concludes : conclusion_form rule ≡ form_of rule
  pub count : premise_count rule ≤ 4
  pub forms : (j : ℕ) → j < 4 → (premise_form rule j ≡ 255) ↔ (premise_count rule ≤ j)
  pub added : (j : ℕ) → j < 4 → (added_entries rule j ≡ 255) ↔ (premise_count rule ≤ j)

-- H is G with n entries added
pub record Adds (H G : Context) (n : ℕ) : Type 0 where
  pub new : Context
  pub many : length new ≡ n
  pub joined : H ≡ new ++ G

-- the context that a rule's added entries are counted from: the conclusion's, but for rule 2 that without its last
-- entry
unfoldable pub counted_from : ℕ → Context → Context
counted_from rule G = elim (eqb rule 2) [ true ↦ drop 1 G | false ↦ G ]

-- What a row says of an instance of its rule.
pub record FitsRow (rule : ℕ) (premises : List Judgment) (conclusion : Judgment) : Type 0 where
  pub known : IsRule rule
  pub concludes : form conclusion ≡ conclusion_form rule
  pub count : length premises ≡ premise_count rule
  pub forms : (j : ℕ) → j < length premises → form (get_or premises j conclusion) ≡ premise_form rule j
  pub added : (j : ℕ) → j < length premises
      → Adds (context_of (get_or premises j conclusion)) (counted_from rule (context_of conclusion)) (added_entries rule j)
