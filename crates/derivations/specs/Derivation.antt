-- Derivations: document 01, "Derivations that fit". "A derivation is a finite list of judgments, possibly empty, each
-- the conclusion of an instance of a rule whose premises all stand earlier in the list; it derives the last of them, if
-- there is one." Document 02, A5: the rules of all editions are in one relation, and a derivation goes by those of one
-- edition.
use Rattle.std.specs.Prelude.{◌≡◌, List, [], ◌∷◌, ◌++◌, map, ℕ, ◌<◌, length, get_or}
use Rattle.terms.specs.Lists.{AllBelow}
use Rattle.rules.specs.Judgment.{Judgment, wf}
use Rattle.rules.specs.Instance.{Instance}
use Rattle.rules.specs.Editions.{row_in}

-- judgment i of the list, counted from 0
abbrev pub judgment_at : List Judgment → ℕ → Judgment
judgment_at js i = get_or js i (wf [])

-- judgment i is the conclusion of an instance of a rule that the edition admits (any other has row 0, and row 0 has no
-- instance: law rules_admitted), whose premises stand at places before i; law step_is: they all stand in the list
-- before judgment i
pub record Step (edition : ℕ) (js : List Judgment) (i : ℕ) : Type 0 where
  pub rule : ℕ
  pub places : List ℕ
  pub earlier : AllBelow i places
  pub follows : Instance (row_in edition rule) (map (judgment_at js) places) (judgment_at js i)

abbrev pub Derivation : ℕ → List Judgment → Type 0
Derivation edition js = (i : ℕ) → i < length js → Step edition js i

-- the list is a derivation, and j is its last judgment
pub record Derives (edition : ℕ) (js : List Judgment) (j : Judgment) : Type 0 where
  pub derivation : Derivation edition js
  pub before : List Judgment
  pub last : js ≡ before ++ j ∷ []
