-- What translators of judgments may rely on, where their form is 0 to 3: document 02, A9, and that the list says itself
-- that their contexts are well formed. Both are stated of every derivation and of every accepted sheet.
use Rattle.std.specs.Prelude.{◌≡◌, List, ℕ, ◌≤◌, ◌<◌, length}
use Rattle.rules.specs.Judgment.{Context, Judgment, wf, form, context_of}
use Rattle.rules.specs.Stated.{last_form_in_context}
use Rattle.rules.specs.Scoped.{NoStray}
use Rattle.derivations.specs.Derivation.{judgment_at, Derivation}
use Rattle.sheets.specs.Accepted.{IsAccepted, stated_by}

-- "nothing dangles": no judgment of the list that has form 0 to 3 has a stray variable
abbrev pub NothingStray : List Judgment → Type 0
NothingStray js = (i : ℕ) → i < length js → form (judgment_at js i) ≤ last_form_in_context → NoStray (judgment_at js i)

-- that G is well formed stands at place i or before it
abbrev pub WellFormedBy : List Judgment → ℕ → Context → Type 0
WellFormedBy js i G = (k : ℕ) × (k ≤ i) × (judgment_at js k ≡ wf G)

-- so of the context of every judgment of form 0 to 3
abbrev pub ContextsStated : List Judgment → Type 0
ContextsStated js =
    (i : ℕ) → i < length js → form (judgment_at js i) ≤ last_form_in_context
    → WellFormedBy js i (context_of (judgment_at js i))

-- of every derivation, whichever edition's rules it goes by
abbrev pub OfDerivations : (List Judgment → Type 0) → Type 0
OfDerivations P = (edition : ℕ) (js : List Judgment) → Derivation edition js → P js

-- of what every accepted sheet states, line by line
abbrev pub OfSheets : (List Judgment → Type 0) → Type 0
OfSheets P = (b : List ℕ) → IsAccepted b → P (stated_by b)
