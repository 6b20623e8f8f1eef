-- The words of a sheet without some of its lines, each by its place, from two arrays: how many of these lines are below
-- each line, and the numbers of the others. Only the writer goes by these; law kept_written: for the arrays of a set
-- they are the words of the sheet that is left when the lines are withdrawn one by one.
use Rattle.std.specs.Prelude.{true, false, List, [], ◌∷◌, ℕ, ◌+◌, ◌-◌, ◌*◌, ◌/◌, ◌%◌, ◌≤◌, ◌<◌, ltb, length, get_or}
use Rattle.terms.specs.Words.{word_at}
use Rattle.sheets.specs.declared.layout.Trailer.{Trailer}
use Rattle.sheets.specs.Withdrawal.{lines_start}

-- word i of a trailer
unfoldable pub word_of_trailer : Trailer → ℕ → ℕ
word_of_trailer t i =
    get_or
    (t.terms ∷ t.contexts ∷ t.lines ∷ t.edition ∷ t.to_terms ∷ t.to_contexts ∷ t.to_lines ∷ t.mark ∷ [])
    i
    0

-- where the lines begin and end in a sheet with this trailer, counted in words
abbrev pub start_of : Trailer → ℕ
start_of t = lines_start t.terms t.contexts

abbrev pub end_of : Trailer → ℕ
end_of t = lines_start t.terms t.contexts + 10 * t.lines

-- word j of a line, renumbered; words 6 to 9 are the premises
unfoldable pub renumbered : List ℕ → ℕ → ℕ → ℕ
renumbered below j w = elim (ltb j 6) [ true ↦ w | false ↦ w - get_or below w 0 ]

-- word j of line k, renumbered, where the lines begin at word `start`
unfoldable pub renumbered_word : List ℕ → ℕ → List ℕ → ℕ → ℕ → ℕ
renumbered_word bytes start below k j = renumbered below j (word_at bytes (start + (10 * k + j)))

-- word i of the lines that stay
unfoldable pub kept_line_word : List ℕ → ℕ → List ℕ → List ℕ → ℕ → ℕ
kept_line_word bytes start below kept i = renumbered_word bytes start below (get_or kept (i / 10) 0) (i % 10)

-- word i of the new sheet, which has this trailer
unfoldable pub kept_word : List ℕ → Trailer → List ℕ → List ℕ → ℕ → ℕ
kept_word bytes t below kept i =
    elim (ltb i (start_of t)) [
      | true ↦ word_at bytes i
      | false ↦
          elim (ltb i (end_of t)) [
            | true ↦ kept_line_word bytes (start_of t) below kept (i - start_of t)
            | false ↦ word_of_trailer t (i - end_of t)
          ]
    ]

-- the trailer of a sheet within the limits
pub record SmallTrailer (t : Trailer) : Type 0 where
  pub terms : t.terms ≤ 3072
  pub contexts : t.contexts ≤ 256
  pub lines : t.lines ≤ 1024
  pub words : (i : ℕ) → i < 8 → word_of_trailer t i < 65536

-- line k lies within the sheet, and its premises can be numbered anew
pub record LineKept (bytes : List ℕ) (start : ℕ) (below : List ℕ) (k : ℕ) : Type 0 where
  pub line : k < 1024
  pub within : 2 * start + 20 * k + 20 ≤ length bytes
  pub premises : (j : ℕ) → 6 ≤ j → j < 10 → word_at bytes (start + (10 * k + j)) ≤ 1024
  pub lowered : (j : ℕ) → 6 ≤ j → j < 10
      → get_or below (word_at bytes (start + (10 * k + j))) 0 ≤ word_at bytes (start + (10 * k + j))

-- so do all lines that stay, which the array numbers; the new sheet has this trailer
abbrev pub KeptLines : List ℕ → Trailer → List ℕ → List ℕ → Type 0
KeptLines bytes t below kept = (m : ℕ) → m < t.lines → LineKept bytes (start_of t) below (get_or kept m 0)
