-- Demand 3, parts (a) and (b): document 01, "Derivations that fit". Document 02, A5: "soundness and completeness are
-- stated for all 67 rules through one rule relation", for a sheet by those of its edition.
use Rattle.std.specs.Prelude.{◌≡◌, ◌↔◌, List, ℕ, ◌<◌, length}
use Rattle.rules.specs.Judgment.{Judgment}
use Rattle.rules.specs.Editions.{IsEdition}
use Rattle.derivations.specs.Derivation.{judgment_at, Derivation, Derives}
use Rattle.derivations.specs.Fits.{Fits}
use Rattle.sheets.specs.Layout.{edition_of}
use Rattle.sheets.specs.Accepted.{Bytes, IsAccepted, stated_by}

-- (a) an accepted sheet states as many judgments as admission answers lines, and each of them has a finite derivation
-- by the rules of the sheet's edition alone
abbrev pub Sound : Type 0
Sound =
    (b : List ℕ) (a : IsAccepted b)
    → (length (stated_by b) ≡ a.L)
    × ((i : ℕ) → i < length (stated_by b) → (js : List Judgment) × Derives (edition_of b) js (judgment_at (stated_by b) i))

-- (b) some accepted sheet of the edition states just this list, line for line, exactly if the list is a derivation by
-- the edition's rules that fits
abbrev pub Complete : Type 0
Complete =
    (edition : ℕ) → IsEdition edition → (js : List Judgment)
    → ((b : List ℕ) × Bytes b × IsAccepted b × (edition_of b ≡ edition) × (stated_by b ≡ js))
    ↔ (Derivation edition js × Fits js)
