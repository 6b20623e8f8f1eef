-- A well-formed term table: document 01, "The sheet", the clauses on term rows. That there are at most 3,072 rows is
-- the sheet's clause.
use Rattle.std.specs.Prelude.{◌≡◌, true, false, List, ℕ, ◌*◌, ◌≤◌, ◌<◌, leb, length, get_or}
use Rattle.terms.specs.Lists.{AllBelow}
use Rattle.terms.specs.Term.{size}
use Rattle.terms.specs.Tag.{Tag, none, Var, Univ, Pi, Lam, App, Sigma, Pair, First, Second, Nat, Zero, Succ, Ind, used}
use Rattle.terms.specs.Rows.{word, tag, term}

-- an index is at most 4,095, a level at most 1,023, and a child's number is below its own row's
unfoldable pub used_limit : Tag → ℕ → ℕ
used_limit none n = n
used_limit Var n = 4096
used_limit Univ n = 1024
used_limit Pi n = n
used_limit Lam n = n
used_limit App n = n
used_limit Sigma n = n
used_limit Pair n = n
used_limit First n = n
used_limit Second n = n
used_limit Nat n = n
used_limit Zero n = n
used_limit Succ n = n
used_limit Ind n = n

-- what the operand at place j of row n is below; an unused operand is 0
unfoldable pub limit : Tag → ℕ → ℕ → ℕ
unfolding used_limit used
limit τ n j = elim (leb j (used τ)) [ true ↦ used_limit τ n | false ↦ 1 ]

-- row n keeps tag, operands and ranges (number 5)
pub record GoodRow (bytes : List ℕ) (n : ℕ) : Type 0 where
  pub low : 1 ≤ word bytes n 0
  pub high : word bytes n 0 ≤ 13
  pub operands : (j : ℕ) → 1 ≤ j → j ≤ 4 → word bytes n j < limit (tag bytes n) n j

-- rows m and n hold the same five words
abbrev pub SameRow : List ℕ → ℕ → ℕ → Type 0
SameRow bytes m n = (j : ℕ) → j < 5 → word bytes m j ≡ word bytes n j

-- the first count rows make a well-formed table: each row keeps its ranges (5), no two are equal (6), and no size is
-- over 65,535 (7)
pub record TermTable (bytes : List ℕ) (count : ℕ) : Type 0 where
  pub whole : 10 * count ≤ length bytes
  pub rows : (n : ℕ) → n < count → GoodRow bytes n
  pub distinct : (m n : ℕ) → m < count → n < count → SameRow bytes m n → m ≡ n
  pub sizes : (n : ℕ) → n < count → size (term bytes n) ≤ 65535

-- row n equals an earlier one
abbrev pub RepeatsRow : List ℕ → ℕ → Type 0
RepeatsRow bytes n = (m : ℕ) × (m < n) × SameRow bytes m n

-- the first of 5, 6 and 7 that row n breaks; there is no other number
pub data RowFault (bytes : List ℕ) (n : ℕ) : ℕ → Type 0 where
  broken : (GoodRow bytes n → ⊥) → RowFault bytes n 5
  repeated : GoodRow bytes n → RepeatsRow bytes n → RowFault bytes n 6
  large : GoodRow bytes n → (RepeatsRow bytes n → ⊥) → 65535 < size (term bytes n) → RowFault bytes n 7

-- row `place` is the first of the first count rows that has a fault, of the given number: the rows before it make a
-- well-formed table
pub record FirstFaultyRow (bytes : List ℕ) (count number place : ℕ) : Type 0 where
  pub within : place < count
  pub before : TermTable bytes place
  pub fault : RowFault bytes place number

-- the list holds the sizes of the first n rows' trees
pub record TreeSizes (bytes : List ℕ) (n : ℕ) (sizes : List ℕ) : Type 0 where
  pub long : length sizes ≡ n
  pub each : (k : ℕ) → k < n → get_or sizes k 0 ≡ size (term bytes k)

-- the rows of the list stand in one well-formed table at the head of the bytes, no larger than a sheet's
pub record RowsInTable (bytes : List ℕ) (ns : List ℕ) : Type 0 where
  pub count : ℕ
  pub few : count ≤ 3072
  pub table : TermTable bytes count
  pub below : AllBelow count ns
