-- The listed lines among a line's premises, where an array holds how many listed numbers are below each number: a
-- number is listed if more are below the next. Only the search for number 12 goes by these; law found_use: what it
-- finds is what `kept_use` says.
use Rattle.std.specs.Prelude.{Bool, true, false, ◌&&◌, Option, Some, None, List, ℕ, ◌+◌, ltb, get_or}
use Rattle.rules.specs.RuleTable.{premise_count}
use Rattle.sheets.specs.declared.lines.Line.{Line}
use Rattle.sheets.specs.declared.uses.Use.{Use}

-- one more than a premise that is used and listed, else 0
unfoldable pub listed_premise : List ℕ → Bool → ℕ → ℕ
listed_premise below used p = elim (used && ltb (get_or below p 0) (get_or below (p + 1) 0)) [ true ↦ p + 1 | false ↦ 0 ]

-- the greater of two numbers
unfoldable pub greater : ℕ → ℕ → ℕ
greater m n = elim (ltb m n) [ true ↦ n | false ↦ m ]

-- one more than the highest listed line among the premises that the line's rule uses, 0 if none is listed
unfoldable pub highest_listed : List ℕ → Line → ℕ
highest_listed below l =
    greater
    (greater (listed_premise below (ltb 0 (premise_count l.rule)) l.p0)
    (listed_premise below (ltb 1 (premise_count l.rule)) l.p1))
    (greater (listed_premise below (ltb 2 (premise_count l.rule)) l.p2)
    (listed_premise below (ltb 3 (premise_count l.rule)) l.p3))

-- one more than a number, 0 for none
abbrev pub above : Option ℕ → ℕ
above None = 0
above (Some n) = n + 1

-- of a line that was found used, if one was, and another that is, the higher; the first if they are one
unfoldable pub higher_use : Option Use → Use → Use
higher_use None v = v
higher_use (Some u) v = elim (ltb u.listed v.listed) [ true ↦ v | false ↦ u ]
