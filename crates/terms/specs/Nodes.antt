-- A term described by its head and its children's rows; the term itself need have no row of its own.
use Rattle.std.specs.Prelude.{◌≡◌, List, [], ◌∷◌, ℕ}
use Rattle.terms.specs.Term.{Term, var, univ, pi, lam, app, sigma, pair, first, second, nat, zer, succ, ind}
use Rattle.terms.specs.Tag.{tag_in, number_in}
use Rattle.terms.specs.Rows.{term}
use Rattle.terms.specs.declared.rows.Row.{Row}
use Rattle.terms.specs.declared.nodes.Node.{Node}
use Rattle.terms.specs.declared.nodes.Node.TheVariants as node

-- the plain term of a node whose children are rows of the table
abbrev pub node_term : List ℕ → Node → Term
node_term bytes (node.Var i) = var i
node_term bytes (node.Univ l) = univ l
node_term bytes (node.Pi a b) = pi (term bytes a) (term bytes b)
node_term bytes (node.Lam b) = lam (term bytes b)
node_term bytes (node.App b a) = app (term bytes b) (term bytes a)
node_term bytes (node.Sigma a b) = sigma (term bytes a) (term bytes b)
node_term bytes (node.Pair a b) = pair (term bytes a) (term bytes b)
node_term bytes (node.First a) = first (term bytes a)
node_term bytes (node.Second a) = second (term bytes a)
node_term bytes node.Nat = nat
node_term bytes node.Zero = zer
node_term bytes (node.Succ a) = succ (term bytes a)
node_term bytes (node.Ind p a b c) = ind (term bytes p) (term bytes a) (term bytes b) (term bytes c)

-- the rows that it names
abbrev pub node_children : Node → List ℕ
node_children (node.Var i) = []
node_children (node.Univ l) = []
node_children (node.Pi a b) = a ∷ b ∷ []
node_children (node.Lam b) = b ∷ []
node_children (node.App b a) = b ∷ a ∷ []
node_children (node.Sigma a b) = a ∷ b ∷ []
node_children (node.Pair a b) = a ∷ b ∷ []
node_children (node.First a) = a ∷ []
node_children (node.Second a) = a ∷ []
node_children node.Nat = []
node_children node.Zero = []
node_children (node.Succ a) = a ∷ []
node_children (node.Ind p a b c) = p ∷ a ∷ b ∷ c ∷ []

-- the row that would spell it
abbrev pub node_row : Node → Row
node_row (node.Var i) = record { tag = 1; a = i; b = 0; c = 0; d = 0 }
node_row (node.Univ l) = record { tag = 2; a = l; b = 0; c = 0; d = 0 }
node_row (node.Pi a b) = record { tag = 3; a = a; b = b; c = 0; d = 0 }
node_row (node.Lam b) = record { tag = 4; a = b; b = 0; c = 0; d = 0 }
node_row (node.App b a) = record { tag = 5; a = b; b = a; c = 0; d = 0 }
node_row (node.Sigma a b) = record { tag = 6; a = a; b = b; c = 0; d = 0 }
node_row (node.Pair a b) = record { tag = 7; a = a; b = b; c = 0; d = 0 }
node_row (node.First a) = record { tag = 8; a = a; b = 0; c = 0; d = 0 }
node_row (node.Second a) = record { tag = 9; a = a; b = 0; c = 0; d = 0 }
node_row node.Nat = record { tag = 10; a = 0; b = 0; c = 0; d = 0 }
node_row node.Zero = record { tag = 11; a = 0; b = 0; c = 0; d = 0 }
node_row (node.Succ a) = record { tag = 12; a = a; b = 0; c = 0; d = 0 }
node_row (node.Ind p a b c) = record { tag = 13; a = p; b = a; c = b; d = c }

-- the same constructor with the same number
abbrev pub SameHead : Term → Term → Type 0
SameHead t u = (tag_in t ≡ tag_in u) × (number_in t ≡ number_in u)
