-- A memory of comparisons that held. Each word is 0 or one comparison: row u spells the image of row t under k binders.
use Rattle.std.specs.Prelude.{◌≡◌, List, ℕ, ◌+◌, ◌*◌, ◌<◌, get_or, set}
use Rattle.terms.specs.Term.{Term}
use Rattle.terms.specs.Rows.{term}
use Rattle.terms.specs.declared.memo.Memo.{Memo}

-- a comparison as one number; a row is below 4,096, so no two comparisons share a number, and none has 0
abbrev pub code : ℕ → ℕ → ℕ → ℕ
code k t u = (k * 4096 + t) * 4096 + u + 1

-- some word of the memory is the comparison
abbrev pub InMemo : Memo → ℕ → ℕ → ℕ → Type 0
InMemo memo k t u = (i : ℕ) × (get_or memo.words i 0 ≡ code k t u)

-- the comparison is written into one word, and the others stay
abbrev pub Remembers : Memo → Memo → ℕ → ℕ → ℕ → Type 0
Remembers old new k t u = (i : ℕ) × (new.words ≡ set old.words i (code k t u))

-- every comparison in the memory holds for the images under F
pub record MemoHolds (bytes : List ℕ) (F : ℕ → Term → Term) (memo : Memo) : Type 0 where
  pub fact : (k t u : ℕ) → t < 4096 → u < 4096 → InMemo memo k t u → term bytes u ≡ F k (term bytes t)
