-- The rule table read at each rule and column: its numbers are bytes and make the rule's row; the test of a rule's
-- number, and that where there is no rule there is no form. That the constant is the table is what the type
-- `RuleTable` says.
-- Assumes nothing.
use mathlib.Core.Path.{◌≡◌, refl, sym}
use mathlib.Core.List.{List, [], ◌∷◌}
use Prim.Native.Nat.{ℕ, zero, suc, ◌+◌, ◌-◌, ◌*◌, ◌<◌}
use native.Mathlib.Omega.{arith}
use lib.ListN.{get_or, length}
use Rattle.terms.specs.Decides.{Decides}
use Rattle.terms.proofs.Tests.{says_le, refutes, ◌&◌}
use Rattle.rules.specs.RuleTable.{rule_count, IsRule, rule_known, rule_table, table_at, premise_form, added_entries, demand, rule_row, form_of, premise_count}
use Rattle.rules.specs.declared.table.Demand.{Demand}
use Rattle.rules.specs.declared.table.RuleRow.{RuleRow}
use Rattle.rules.proofs.TableLaws.{table_length}

-- within a list it does not matter what stands past its end
within : (xs : List ℕ) (k d e : ℕ) → k < length xs → get_or xs k d ≡ get_or xs k e
within [] k d e h = absurd (omega arith)
within (x ∷ xs) zero d e h = refl
within (x ∷ xs) (suc k) d e h = within xs k d e (omega arith)

pub table_entry : (rule column : ℕ) → IsRule rule → column < 10 → get_or rule_table (10 * (rule - 1) + column) 0 ≡ table_at rule column
unfolding table_at
table_entry rule column known small = within rule_table (10 * (rule - 1) + column) 0 255 (omega (arith, known, table_length))

-- the numbers of columns 2 + j and 6 + j make the demand, and demands the row
pub demand_is : (rule j : ℕ) {f a : ℕ} → f ≡ table_at rule (2 + j) → a ≡ table_at rule (6 + j)
    → ◌≡◌ {A = Demand} (record { form = f; added = a }) (demand rule j)
unfolding demand premise_form added_entries
demand_is rule j e h = cc

row_of : (f : ℕ → Demand) {m n : ℕ} {a b c d : Demand} → n ≡ m → a ≡ f 0 → b ≡ f 1 → c ≡ f 2 → d ≡ f 3
    → ◌≡◌ {A = RuleRow}
    (record { count = n; p = a; q = b; r = c; s = d })
    (record { count = m; p = f 0; q = f 1; r = f 2; s = f 3 })
row_of f en ea eb ec ed = cc

pub row_is : (rule : ℕ) {n : ℕ} {a b c d : Demand} → n ≡ premise_count rule
    → a ≡ demand rule 0 → b ≡ demand rule 1 → c ≡ demand rule 2 → d ≡ demand rule 3
    → ◌≡◌ {A = RuleRow} (record { count = n; p = a; q = b; r = c; s = d }) (rule_row rule)
unfolding rule_row
row_is rule = row_of (demand rule)

-- the test of a rule's number
pub says_rule : (rule : ℕ) → Decides (rule_known rule) (IsRule rule)
unfolding rule_known
says_rule rule = says_le 1 rule & says_le rule rule_count

-- where there is no such rule there is no form
pub form_none : (rule : ℕ) → (IsRule rule → ⊥) → 255 ≡ form_of rule
unfolding form_of
form_none rule h = sym (rw (refutes (rule_known rule) (says_rule rule) h, form_of))
