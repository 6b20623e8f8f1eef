-- The thirteen tags of a term row, and one view of a term by its tag: document 01, "The sheet".
use Rattle.std.specs.Prelude.{◌≡◌, ◌⊎◌, ◌≤◌, ◌<◌, ℕ, zero, suc, List, [], ◌∷◌, get_or, Result, MatchResult}
use Rattle.terms.specs.declared.tags.Tag as source
use Rattle.terms.specs.declared.tags.Tag.TheVariants as source_tag
use Rattle.terms.specs.declared.tags.NoTag.{NoTag}
use Rattle.terms.specs.Term.{Term, var, univ, pi, lam, app, sigma, pair, first, second, nat, zer, succ, ind}

pub data Tag : Type 0 where
  none Var Univ Pi Lam App Sigma Pair First Second Nat Zero Succ Ind : Tag

-- in the format's numbering, from 0, which is no tag
unfoldable pub tags : List Tag
tags = none ∷ Var ∷ Univ ∷ Pi ∷ Lam ∷ App ∷ Sigma ∷ Pair ∷ First ∷ Second ∷ Nat ∷ Zero ∷ Succ ∷ Ind ∷ []

unfoldable pub tag_of : ℕ → Tag
unfolding tags
tag_of n = get_or tags n none

-- the tag that a value of the source means
abbrev pub tag_meant : source.Tag → Tag
tag_meant source_tag.Var = Var
tag_meant source_tag.Univ = Univ
tag_meant source_tag.Pi = Pi
tag_meant source_tag.Lam = Lam
tag_meant source_tag.App = App
tag_meant source_tag.Sigma = Sigma
tag_meant source_tag.Pair = Pair
tag_meant source_tag.First = First
tag_meant source_tag.Second = Second
tag_meant source_tag.Nat = Nat
tag_meant source_tag.Zero = Zero
tag_meant source_tag.Succ = Succ
tag_meant source_tag.Ind = Ind

-- what a word is taken for: 1 to 13 for the tag that it has, any other for none
abbrev pub Decodes : ℕ → Result source.Tag NoTag → Type 0
Decodes w r = MatchResult r (λ τ. (1 ≤ w) × (w ≤ 13) × (tag_meant τ ≡ tag_of w)) (λ e. (w ≡ 0) ⊎ (13 < w))

-- how many of a row's operands are children: they stand first
unfoldable pub arity : Tag → ℕ
arity none = 0
arity Var = 0
arity Univ = 0
arity Pi = 2
arity Lam = 1
arity App = 2
arity Sigma = 2
arity Pair = 2
arity First = 1
arity Second = 1
arity Nat = 0
arity Zero = 0
arity Succ = 1
arity Ind = 4

-- how many of a row's operands are used: the children, or an index or a level
unfoldable pub used : Tag → ℕ
used none = 0
used Var = 1
used Univ = 1
used Pi = 2
used Lam = 1
used App = 2
used Sigma = 2
used Pair = 2
used First = 1
used Second = 1
used Nat = 0
used Zero = 0
used Succ = 1
used Ind = 4

-- how many variables the child at place j, counted from 1, binds; place 0 is the tag's
unfoldable pub binders_of : Tag → List ℕ
binders_of none = []
binders_of Var = []
binders_of Univ = []
binders_of Pi = 0 ∷ 0 ∷ 1 ∷ []
binders_of Lam = 0 ∷ 1 ∷ []
binders_of App = []
binders_of Sigma = 0 ∷ 0 ∷ 1 ∷ []
binders_of Pair = []
binders_of First = []
binders_of Second = []
binders_of Nat = []
binders_of Zero = []
binders_of Succ = []
binders_of Ind = 0 ∷ 1 ∷ 0 ∷ 0 ∷ 2 ∷ []

unfoldable pub binders : Tag → ℕ → ℕ
unfolding binders_of
binders τ j = get_or (binders_of τ) j 0

-- k, raised by the b binders that are crossed
unfoldable pub under : ℕ → ℕ → ℕ
under zero k = k
under (suc b) k = suc (under b k)

-- the term with tag τ, the number n (an index or a level) and at place j the child x j
unfoldable pub shape : Tag → ℕ → (ℕ → Term) → Term
shape none n x = zer
shape Var n x = var n
shape Univ n x = univ n
shape Pi n x = pi (x 1) (x 2)
shape Lam n x = lam (x 1)
shape App n x = app (x 1) (x 2)
shape Sigma n x = sigma (x 1) (x 2)
shape Pair n x = pair (x 1) (x 2)
shape First n x = first (x 1)
shape Second n x = second (x 1)
shape Nat n x = nat
shape Zero n x = zer
shape Succ n x = succ (x 1)
shape Ind n x = ind (x 1) (x 2) (x 3) (x 4)

-- the same view of a given term: its tag, its number (0 where it has none), and its children by place, itself where it
-- has none there
unfoldable pub tag_in : Term → Tag
tag_in (var i) = Var
tag_in (univ l) = Univ
tag_in (pi a b) = Pi
tag_in (lam b) = Lam
tag_in (app b a) = App
tag_in (sigma a b) = Sigma
tag_in (pair a b) = Pair
tag_in (first a) = First
tag_in (second a) = Second
tag_in nat = Nat
tag_in zer = Zero
tag_in (succ a) = Succ
tag_in (ind p a b c) = Ind

unfoldable pub number_in : Term → ℕ
number_in (var i) = i
number_in (univ l) = l
number_in (pi a b) = 0
number_in (lam b) = 0
number_in (app b a) = 0
number_in (sigma a b) = 0
number_in (pair a b) = 0
number_in (first a) = 0
number_in (second a) = 0
number_in nat = 0
number_in zer = 0
number_in (succ a) = 0
number_in (ind p a b c) = 0

unfoldable pub children : Term → List Term
children (var i) = []
children (univ l) = []
children (pi a b) = a ∷ b ∷ []
children (lam b) = b ∷ []
children (app b a) = b ∷ a ∷ []
children (sigma a b) = a ∷ b ∷ []
children (pair a b) = a ∷ b ∷ []
children (first a) = a ∷ []
children (second a) = a ∷ []
children nat = []
children zer = []
children (succ a) = a ∷ []
children (ind p a b c) = p ∷ a ∷ b ∷ c ∷ []

unfoldable pub child : Term → ℕ → Term
unfolding children
child t j = get_or (t ∷ children t) j t
