-- No stray variables: document 02, A9, of a context and of a judgment. Index 0 is the nearest entry, so "the entries
-- before" a type are the rest of the list, and what is below their number names one of them.
use Rattle.std.specs.Prelude.{[], ◌∷◌, length}
use Rattle.terms.specs.FreeIndices.{FreeBelow}
use Rattle.terms.specs.Lists.{All}
use Rattle.rules.specs.Judgment.{Context, Judgment, context_of}
use Rattle.rules.specs.Subjects.{subjects}

-- "only types whose free indices lie within the entries before them"; law scoped_is: entry by entry
unfoldable pub Scoped : Context → Type 0
Scoped [] = Unit {0}
Scoped (A ∷ G) = FreeBelow (length G) A × Scoped G

-- "its context has only [such] types .., and every subject that its form uses has free indices below the context's
-- length". The claim is made of forms 0 to 3; in forms 4 to 6 variables may be free, though the context is empty.
unfoldable pub NoStray : Judgment → Type 0
unfolding Scoped context_of subjects
NoStray j = Scoped (context_of j) × All (FreeBelow (length (context_of j))) (subjects j)
