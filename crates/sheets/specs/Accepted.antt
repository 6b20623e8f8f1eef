-- Accepted sheets and what they state: document 01, "Derivations that fit".
use Rattle.std.specs.Prelude.{◌≡◌, List, ℕ, ◌≤◌, Ok}
use Rattle.terms.specs.Lists.{AllBelow, listed}
use Rattle.rules.specs.Judgment.{Judgment}
use Rattle.sheets.specs.Refusals.{counts}
use Rattle.sheets.specs.Layout.{trailer_of}
use Rattle.sheets.specs.Lines.{stated_at}
use Rattle.sheets.specs.Admission.{admit_of}

-- a list of bytes
abbrev pub Bytes : List ℕ → Type 0
Bytes b = AllBelow 256 b

-- "It is accepted if admission answers T, C, L with a work buffer of at least T words; what that buffer held, and how
-- much longer it is, makes no difference."
pub record IsAccepted (b : List ℕ) : Type 0 where
  pub T : ℕ
  pub C : ℕ
  pub L : ℕ
  pub answer : (work : ℕ) → T ≤ work → admit_of b work ≡ Ok (counts T C L)

-- "A sheet states its lines' judgments in line order", each read as plain terms; the counts are those of the trailer
unfoldable pub stated_by : List ℕ → List Judgment
unfolding listed
stated_by b = listed (stated_at b (trailer_of b).terms (trailer_of b).contexts) (trailer_of b).lines
