-- The term table in bytes: document 01, "The sheet". A row is five words, the tag and four operands.
use Rattle.std.specs.Prelude.{Bool, ◌&&◌, List, ℕ, zero, suc, ◌+◌, ◌*◌, eqb}
use Rattle.terms.specs.Term.{Term, zer}
use Rattle.terms.specs.Tag.{Tag, tag_of, shape}
use Rattle.terms.specs.Words.{word_at}
use Rattle.terms.specs.declared.rows.Row.{Row}

-- word j of row n: 0 is the tag, 1 to 4 are the operands
unfoldable pub word : List ℕ → ℕ → ℕ → ℕ
word bytes n j = word_at bytes (5 * n + j)

unfoldable pub tag : List ℕ → ℕ → Tag
tag bytes n = tag_of (word bytes n 0)

-- the tree that row n spells, children included, down to the given depth
unfoldable pub term_to : ℕ → List ℕ → ℕ → Term
term_to zero bytes n = zer
term_to (suc depth) bytes n = shape (tag bytes n) (word bytes n 1) (λ j. term_to depth bytes (word bytes n j))

-- the tree that row n spells; a child's number is below its row's, so n + 1 levels are all of it
unfoldable pub term : List ℕ → ℕ → Term
term bytes n = term_to (suc n) bytes n

-- the five words of row n
unfoldable pub row_of : List ℕ → ℕ → Row
row_of bytes n = record { tag = word bytes n 0; a = word bytes n 1; b = word bytes n 2; c = word bytes n 3; d = word bytes n 4 }

-- row n holds these words
unfoldable pub holds_row : List ℕ → ℕ → Row → Bool
holds_row bytes n r =
    eqb (word bytes n 1) r.a && (eqb (word bytes n 0) r.tag && eqb (word bytes n 2) r.b && eqb (word bytes n 3) r.c && eqb (word bytes n 4) r.d)
