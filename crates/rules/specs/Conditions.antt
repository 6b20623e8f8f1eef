-- What a rule asks of a judgment's parts beyond equations between them, as a check of it tests it: document 01,
-- "Amended readings".
use Rattle.std.specs.Prelude.{◌≡◌, ℕ, suc, ◌≤◌}
use Rattle.terms.specs.Term.{Term, var, univ}
use Rattle.terms.specs.Substitution.{shift}
use Rattle.rules.specs.Judgment.{Context}
use Rattle.rules.specs.Instance.{Entry}

-- "U_i": a universe at any level, and not something that is convertible to one
abbrev pub IsUniverse : Term → Type 0
IsUniverse A = (i : ℕ) × (A ≡ univ i)

-- WT-UNIV: U_i : U_{i+1}
abbrev pub NextUniverse : Term → Term → Type 0
NextUniverse a A = (i : ℕ) × (a ≡ univ i) × (A ≡ univ (suc i))

-- L-UNIV: U_i and U_j with i ≤ j
abbrev pub UniversesRise : Term → Term → Type 0
UniversesRise A B = (i : ℕ) × (j : ℕ) × (i ≤ j) × (A ≡ univ i) × (B ≡ univ j)

-- WT-VAR: x : A in G, where the type is the entry's type with every free index raised by the variable's index plus 1
abbrev pub Declares : Context → Term → Term → Type 0
Declares G a A = (x : ℕ) × (B : Term) × Entry G x B × (a ≡ var x) × (A ≡ shift 0 (suc x) B)
