-- The context table in bytes and its check, number 8: document 01, "The sheet". A row is two words, the parent and the
-- type. Context 0 is the empty one and has no row; rows are numbered from 1, so row n stands at place n - 1. The bytes
-- begin with the table and may go on behind it.
use Rattle.std.specs.Prelude.{◌≡◌, ◌⊎◌, Bool, false, ◌&&◌, ◌||◌, not, List, [], ◌∷◌, ℕ, zero, suc, ◌+◌, ◌-◌, ◌*◌, ◌≤◌, ◌<◌, ltb, eqb, length, Option, Some, None, Result, Ok, Err}
use Rattle.terms.specs.Words.{word_at}
use Rattle.terms.specs.Rows.{term}
use Rattle.terms.specs.Table.{TermTable}
use Rattle.terms.specs.Lists.{AllBelow}
use Rattle.terms.specs.Search.{first_at}
use Rattle.rules.specs.Judgment.{Context}
use Rattle.rules.specs.declared.contexts.ContextsError.{ContextsError}

-- the first word of row n, a context's number
unfoldable pub parent_of : List ℕ → ℕ → ℕ
parent_of contexts n = word_at contexts (2 * (n - 1))

-- the second word of row n, a term's row
unfoldable pub type_of : List ℕ → ℕ → ℕ
type_of contexts n = word_at contexts (2 * (n - 1) + 1)

-- the entries' types, the nearest first, of at most the given number of entries
unfoldable pub context_to : ℕ → List ℕ → List ℕ → ℕ → Context
context_to zero terms contexts n = []
context_to (suc depth) terms contexts zero = []
context_to (suc depth) terms contexts (suc m) = term terms (type_of contexts (suc m)) ∷ context_to depth terms contexts (parent_of contexts (suc m))

-- context n read as plain terms ("Derivations that fit"); a parent's number is below its child's, so n entries are all
-- of it
unfoldable pub context : List ℕ → List ℕ → ℕ → Context
context terms contexts n = context_to n terms contexts n

-- row n names an earlier context and one of the terms (number 8: parent, type number)
pub record GoodContext (contexts : List ℕ) (term_count n : ℕ) : Type 0 where
  pub earlier : parent_of contexts n < n
  pub known : type_of contexts n < term_count

-- rows m and n hold the same two words
abbrev pub SameContextRow : List ℕ → ℕ → ℕ → Type 0
SameContextRow contexts m n = (parent_of contexts m ≡ parent_of contexts n) × (type_of contexts m ≡ type_of contexts n)

-- the first count rows make a well-formed table over the given number of terms: each row is good and no two are equal
-- (number 8). That there are at most 256 rows is the sheet's clause.
pub record ContextTable (contexts : List ℕ) (term_count count : ℕ) : Type 0 where
  pub whole : 4 * count ≤ length contexts
  pub rows : (n : ℕ) → 1 ≤ n → n ≤ count → GoodContext contexts term_count n
  pub distinct : (m n : ℕ) → 1 ≤ m → m ≤ count → 1 ≤ n → n ≤ count → SameContextRow contexts m n → m ≡ n

-- row n equals an earlier one
abbrev pub RepeatsContext : List ℕ → ℕ → Type 0
RepeatsContext contexts n = (m : ℕ) × (1 ≤ m) × (m < n) × SameContextRow contexts m n

-- row `place` is the first of the first count rows that breaks number 8: the rows before it make a well-formed table
pub record FirstFaultyContext (contexts : List ℕ) (term_count count place : ℕ) : Type 0 where
  pub low : 1 ≤ place
  pub high : place ≤ count
  pub before : ContextTable contexts term_count (place - 1)
  pub wrong : (GoodContext contexts term_count place → ⊥) ⊎ RepeatsContext contexts place

-- the contexts of the list, 0 or a row's number, are of one well-formed table at the head of the bytes
pub record NumberedContexts (contexts : List ℕ) (ns : List ℕ) : Type 0 where
  pub term_count : ℕ
  pub count : ℕ
  pub table : ContextTable contexts term_count count
  pub within : AllBelow (suc count) ns

-- the contexts of the list are of one well-formed table over a well-formed table of terms, neither larger than a
-- sheet's
pub record ContextsInTable (terms contexts : List ℕ) (ns : List ℕ) : Type 0 where
  pub term_count : ℕ
  pub few_terms : term_count ≤ 3072
  pub term_table : TermTable terms term_count
  pub count : ℕ
  pub few : count ≤ 256
  pub table : ContextTable contexts term_count count
  pub within : AllBelow (suc count) ns

-- the same of contexts ns and term rows ts
pub record InTables (terms contexts : List ℕ) (ns ts : List ℕ) : Type 0 where
  pub given : ContextsInTable terms contexts ns
  pub below : AllBelow given.term_count ts

-- number 8, parent and type number, by computation
unfoldable pub context_fits : List ℕ → ℕ → ℕ → Bool
context_fits contexts term_count n = ltb (parent_of contexts n) n && ltb (type_of contexts n) term_count

-- row n holds these two words
unfoldable pub holds_context : List ℕ → ℕ → ℕ → ℕ → Bool
holds_context contexts n parent entry = eqb (parent_of contexts n) parent && eqb (type_of contexts n) entry

-- one of the rows 1 to n holds these two words
unfoldable pub repeated_within : List ℕ → ℕ → ℕ → ℕ → Bool
repeated_within contexts parent entry zero = false
repeated_within contexts parent entry (suc n) = repeated_within contexts parent entry n || holds_context contexts (suc n) parent entry

-- number 8, repetition: a row before n equals it
unfoldable pub repeated_context : List ℕ → ℕ → Bool
repeated_context contexts n = repeated_within contexts (parent_of contexts n) (type_of contexts n) (n - 1)

-- row n breaks nothing that number 8 asks
unfoldable pub right_context : List ℕ → ℕ → ℕ → Bool
right_context contexts term_count n = context_fits contexts term_count n && not (repeated_context contexts n)

-- the refusal of row n
abbrev pub faulty_context : ℕ → Result (Unit {0}) ContextsError
faulty_context n = Err (record { place = n })

-- number 8 over the given numbers of terms and of contexts: the first faulty row's number is the place
unfoldable pub check_contexts : List ℕ → ℕ → ℕ → Result (Unit {0}) ContextsError
check_contexts contexts term_count count = first_at (λ n. not (right_context contexts term_count n)) faulty_context (Ok tt) count 1

-- the context k steps up from context n by parents, if there are so many
unfoldable pub ancestor_of : List ℕ → ℕ → ℕ → Option ℕ
ancestor_of contexts n zero = Some n
ancestor_of contexts n (suc k) = elim n [ zero ↦ None | suc m ↦ ancestor_of contexts (parent_of contexts (suc m)) k ]

-- the row of A for the condition x : A in G of WT-VAR, where x is a variable's index and G is context n, if G has so
-- many entries
unfoldable pub entry_of : List ℕ → ℕ → ℕ → Option ℕ
entry_of contexts n zero = elim n [ zero ↦ None | suc m ↦ Some (type_of contexts (suc m)) ]
entry_of contexts n (suc x) = elim n [ zero ↦ None | suc m ↦ entry_of contexts (parent_of contexts (suc m)) x ]
