-- The recognisers of normal and neutral terms: twice the row's number falls, one more on the normal side.
use Prim.Native.Nat.{ℕ, ◌+◌, ◌*◌}
use Rattle.terms.specs.Term.{Term}
use Rattle.terms.specs.Tag.{tag_in}
use Rattle.terms.specs.Rows.{term}
use Rattle.terms.specs.NormalForms.{Normal}
use Rattle.terms.specs.Recognition.{Known}
use Rattle.terms.proofs.NormalLaws.{Part}
use Rattle.terms.proofs.VisitLaws.{Visit}
use Rattle.terms.proofs.normal.+walk_neutral_walk_normal.Given as goal

-- what a term that is not neutral asks of its children
abbrev pub NormalPart : ℕ → Term → Type 0
NormalPart j s = Normal s

abbrev pub decreases-walk_normal : goal.decreases-walk_normal
decreases-walk_normal l = 2 * l.t + 1

abbrev pub decreases-walk_neutral : goal.decreases-walk_neutral
decreases-walk_neutral l = 2 * l.t

abbrev pub invariant-walk_normal-loop-j : goal.invariant-walk_normal-loop-j
invariant-walk_normal-loop-j l = Visit l.rows l.t NormalPart l.j × Known l.rows l.known

abbrev pub invariant-walk_neutral-loop-j : goal.invariant-walk_neutral-loop-j
invariant-walk_neutral-loop-j l = Visit l.rows l.t (Part (tag_in (term l.rows l.t))) l.j × Known l.rows l.known
