-- Editions: document 02, A5 and A10. "Edition 2 admits rules 1 to 43 and 24 more"; edition 3 "has its own table rows"
-- for rules 33 and 34 "and is otherwise edition 2". An edition is a map from the number that a line gives its rule to
-- the row of the rule table by which the line is judged.
use Rattle.std.specs.Prelude.{Bool, true, false, ◌&&◌, ℕ, ◌+◌, ◌≤◌, leb}

-- editions count from 1
abbrev pub last_edition : ℕ
last_edition = 3

-- an edition that is defined
abbrev pub IsEdition : ℕ → Type 0
IsEdition edition = (1 ≤ edition) × (edition ≤ last_edition)

-- the same by computation
unfoldable pub edition_known : ℕ → Bool
edition_known edition = leb 1 edition && leb edition last_edition

-- the last rule that an edition admits
unfoldable pub last_rule : ℕ → ℕ
last_rule edition = elim (leb edition 1) [ true ↦ 43 | false ↦ 67 ]

-- "In edition 3, rules 33 and 34 take G,Nat |- P : U_i as an extra first premise"
abbrev pub AsksMotive : ℕ → ℕ → Type 0
AsksMotive edition rule = (3 ≤ edition) × ((33 ≤ rule) × (rule ≤ 34))

-- the same by computation
unfoldable pub motive_asked : ℕ → ℕ → Bool
motive_asked edition rule = leb 3 edition && (leb 33 rule && leb rule 34)

-- the row for a rule in an edition: 68 and 69 for rules 33 and 34 with the motive, the rule's own number for any other;
-- 0, which is no row, where the edition does not admit the rule
unfoldable pub row_in : ℕ → ℕ → ℕ
unfolding last_rule motive_asked
row_in edition rule =
    elim (leb rule (last_rule edition)) [
      | true ↦ elim (motive_asked edition rule) [ true ↦ rule + 35 | false ↦ rule ]
      | false ↦ 0
    ]
