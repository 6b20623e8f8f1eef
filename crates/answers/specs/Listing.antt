-- A list of judgments in text, one a line: five numbers parted by single spaces.
use Rattle.std.specs.Prelude.{◌≡◌, cond, List, [], ◌∷◌, ◌++◌, ℕ, ◌*◌, ◌≤◌, ◌<◌, eqb, length, get_or, take, drop}
use Rattle.std.specs.Prelude.{Option, Some, None, Result, Ok, Err, IfOk}
use Rattle.sheets.specs.declared.finding.Wanted.{Wanted}
use Rattle.answers.specs.declared.listing.ListError.{ListError}
use Rattle.answers.specs.declared.listing.ListError.TheVariants.{Unreadable, TooMany}
use Rattle.answers.specs.Numbers.{spelled, read_number, field_of, request_of}
use Rattle.answers.specs.Parts.{up_to, past}
use Rattle.answers.specs.Dates.{Numeral}

-- a byte before the first line
unfoldable pub start_with : ℕ → List (List ℕ) → List (List ℕ)
start_with byte [] = (byte ∷ []) ∷ []
start_with byte (line ∷ lines) = (byte ∷ line) ∷ lines

-- the lines of a text, each ended by byte 10, which may be missing behind the last one
unfoldable pub lines_of : List ℕ → List (List ℕ)
lines_of [] = []
lines_of (byte ∷ text) = cond (eqb byte 10) ([] ∷ lines_of text) (start_with byte (lines_of text))

-- the number below 2^32 that a text spells
abbrev pub field_in : List ℕ → Option ℕ
field_in text = field_of (read_number text)

-- the judgment with a line's five numbers, parted by single spaces, 32. The fifth is all that is left: with a sixth it
-- would be none
unfoldable pub request_in : List ℕ → Option Wanted
request_in line =
    request_of (field_in (up_to 32 line)) (field_in (up_to 32 context)) (field_in (up_to 32 s1)) (field_in (up_to 32 s2))
    (field_in (past 32 s2))
  where
    context : List ℕ
    context = past 32 line

    s1 : List ℕ
    s1 = past 32 context

    s2 : List ℕ
    s2 = past 32 s1

-- a line's judgment before others; a line without one ends them
unfoldable pub before : Option Wanted → List Wanted → List Wanted
before (Some wanted) others = wanted ∷ others
before None others = []

-- the judgments of lines, up to the first line that is not five numbers
unfoldable pub judgments_in : List (List ℕ) → List Wanted
judgments_in [] = []
judgments_in (line ∷ lines) = before (request_in line) (judgments_in lines)

-- the judgments that are read of a text: there is room for 1,024
unfoldable pub judgments_of : List ℕ → List Wanted
judgments_of text = judgments_in (take 1024 (lines_of text))

-- five words a judgment
unfoldable pub numbers_of : List Wanted → List ℕ
numbers_of [] = []
numbers_of (w ∷ ws) = w.form ∷ w.context ∷ w.s1 ∷ w.s2 ∷ w.s3 ∷ numbers_of ws

-- the buffer of words afterwards: those of the judgments that are read stand at its start, the others are as they were
unfoldable pub numbers_after : List ℕ → List ℕ → List ℕ
numbers_after text buffer = words ++ drop (length words) buffer
  where
    words : List ℕ
    words = numbers_of (judgments_of text)

-- all lines are read, so many; or reading stopped for want of room, or at a line that is not five numbers
unfoldable pub listing_of : List ℕ → Result ℕ ListError
listing_of text =
    cond (eqb read (length (lines_of text))) (Ok read) (Err (cond (eqb read 1024) TooMany Unreadable))
  where
    read : ℕ
    read = length (judgments_of text)

-- the judgments that are counted are at most 1,024, and their words lie within a buffer of so many
abbrev pub InRoom : ℕ → Result ℕ ListError → Type 0
InRoom room result = IfOk result (λ count. (count ≤ 1024) × (5 * count ≤ room))

-- digits that spell a number below 2^32
pub record SpellsWord (text : List ℕ) (n : ℕ) : Type 0 where
  pub numeral : Numeral text
  pub value : n ≡ spelled 0 text
  pub small : n < 4294967296

-- a line spells a judgment; `request_in_is` in proofs/JudgmentTextLaws: `request_in` gives it exactly then
pub record SpellsJudgment (line : List ℕ) (w : Wanted) : Type 0 where
  pub form : List ℕ
  pub context : List ℕ
  pub s1 : List ℕ
  pub s2 : List ℕ
  pub s3 : List ℕ
  pub parted : line ≡ form ++ (32 ∷ (context ++ (32 ∷ (s1 ++ (32 ∷ (s2 ++ (32 ∷ s3)))))))
  pub form_word : SpellsWord form w.form
  pub context_word : SpellsWord context w.context
  pub s1_word : SpellsWord s1 w.s1
  pub s2_word : SpellsWord s2 w.s2
  pub s3_word : SpellsWord s3 w.s3

-- line for line
pub data Spell : List (List ℕ) → List Wanted → Type 0 where
  none : Spell [] []
  one : {line : List ℕ} {lines : List (List ℕ)} {w : Wanted} {ws : List Wanted} → SpellsJudgment line w
      → Spell lines ws → Spell (line ∷ lines) (w ∷ ws)

-- what each answer means, and there is no other: `listing_is` in proofs/ListTextLaws
pub data ListingMeans (text : List ℕ) : Result ℕ ListError → Type 0 where
  all : {ws : List Wanted} → Spell (lines_of text) ws → length ws ≤ 1024 → ListingMeans text (Ok (length ws))
  full : {ws : List Wanted} → Spell (take 1024 (lines_of text)) ws → 1024 < length (lines_of text)
      → ListingMeans text (Err TooMany)
  wrong : {ws : List Wanted} (i : ℕ) → i < 1024 → i < length (lines_of text) → Spell (take i (lines_of text)) ws
      → ((w : Wanted) → SpellsJudgment (get_or (lines_of text) i []) w → ⊥) → ListingMeans text (Err Unreadable)
