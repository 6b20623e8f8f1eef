-- Heights of lines: document 02, A8, "A line's height is 0 if its rule has no premise, else one more than the greatest
-- height it cites".
use Rattle.std.specs.Prelude.{◌≡◌, List, [], ◌∷◌, map, ℕ, zero, suc, max, ◌≤◌, ◌<◌, length, get_or}
use Rattle.sheets.specs.Lines.{line_of, cited_by}

-- the greatest of some numbers; 0 of none
unfoldable pub greatest : List ℕ → ℕ
greatest [] = 0
greatest (n ∷ ns) = max n (greatest ns)

-- the height of a line over lines of these heights
unfoldable pub above : List ℕ → ℕ
above [] = 0
above (n ∷ ns) = suc (greatest (n ∷ ns))

-- where `cites n` are the lines that line n cites
module _ (cites : ℕ → List ℕ) where
  -- of line n, citations followed so many times
  unfoldable pub height_to : ℕ → ℕ → ℕ
  height_to zero n = 0
  height_to (suc d) n = above (map (height_to d) (cites n))

  -- a line cites earlier lines, so it is enough to follow them n + 1 times
  unfoldable pub height : ℕ → ℕ
  height n = height_to (suc n) n

-- of line n of the lines of a sheet of this edition
unfoldable pub line_height : ℕ → List ℕ → ℕ → ℕ
line_height edition lines n = height (λ k. cited_by (line_of edition lines k)) n

-- what it means to be the height of a line that cites these, where the lines before it have the heights h
pub data HeightMeans (h : ℕ → ℕ) (cited : List ℕ) : ℕ → Type 0 where
  no_premise : cited ≡ [] → HeightMeans h cited 0
  one_more : (j : ℕ) → j < length cited
      → ((k : ℕ) → k < length cited → h (get_or cited k 0) ≤ h (get_or cited j 0))
      → HeightMeans h cited (suc (h (get_or cited j 0)))
