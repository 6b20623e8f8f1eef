-- Derivations that fit: document 01, "Derivations that fit". "It fits, that is, keeps the limits, if it has at most
-- 1,024 judgments; at most 3,072 different terms, subterms and context types included; at most 256 different non-empty
-- contexts, beginnings included; and indices, levels and sizes as above."
use mathlib.Core.List.{List, [], ◌∷◌, ◌++◌, flat_map}
use Rattle.std.specs.Prelude.{◌≤◌, length}
use Rattle.terms.specs.Term.{Term, var, univ, pi, lam, app, sigma, pair, first, second, nat, zer, succ, ind, size}
use Rattle.terms.specs.FreeIndices.{InRange}
use Rattle.rules.specs.Judgment.{Context, Judgment, context_of, term?, list?}
use Rattle.rules.specs.Subjects.{subjects}
use Rattle.derivations.specs.Lists.{◌∈◌, AtMost}

-- the term itself and all that stand in it
unfoldable pub subterms : Term → List Term
subterms (var i) = var i ∷ []
subterms (univ l) = univ l ∷ []
subterms (pi a b) = pi a b ∷ (subterms a ++ subterms b)
subterms (lam b) = lam b ∷ subterms b
subterms (app b a) = app b a ∷ (subterms b ++ subterms a)
subterms (sigma a b) = sigma a b ∷ (subterms a ++ subterms b)
subterms (pair a b) = pair a b ∷ (subterms a ++ subterms b)
subterms (first a) = first a ∷ subterms a
subterms (second a) = second a ∷ subterms a
subterms nat = nat ∷ []
subterms zer = zer ∷ []
subterms (succ a) = succ a ∷ subterms a
subterms (ind p a b c) = ind p a b c ∷ (subterms p ++ (subterms a ++ (subterms b ++ subterms c)))

-- the terms of a list of judgments: subjects and context types, with all their subterms
unfoldable pub terms_of : List Judgment → List Term
unfolding subterms subjects flat_map
terms_of js = flat_map (λ j. flat_map subterms (subjects j ++ context_of j)) js

-- the context and its beginnings that have an entry; a context's nearest entry stands first, so its beginnings are the
-- list's endings
unfoldable pub beginnings : Context → List Context
beginnings [] = []
beginnings (A ∷ G) = (A ∷ G) ∷ beginnings G

unfoldable pub contexts_of : List Judgment → List Context
unfolding beginnings flat_map
contexts_of js = flat_map (λ j. beginnings (context_of j)) js

pub record Fits (js : List Judgment) : Type 0 where
  pub short : length js ≤ 1024
  pub terms : AtMost term? 3072 (terms_of js)
  pub contexts : AtMost (list? term?) 256 (contexts_of js)
  pub ranges : (t : Term) → t ∈ terms_of js → InRange t
  pub sizes : (t : Term) → t ∈ terms_of js → size t ≤ 65535
