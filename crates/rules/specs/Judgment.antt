-- Plain judgments: document 01, "Derivations that fit". A judgment is its form, its context and the subjects that its
-- form uses.
use Rattle.std.specs.Prelude.{◌≡◌, refl, ℕ}
use Rattle.std.proofs.Common.{sym}
use mathlib.Core.List.{List, [], ◌∷◌, cons≢nil}
use Rattle.std.proofs.Math.Decide.{ℕ_discrete}
use Rattle.terms.specs.Term.{Term, zer, Term_discrete}

-- The entries' types, the nearest first: document 01 reads a context from the empty one on, so its "last entry" is the
-- list's head, and the variable 0 is the entry at the head.
abbrev pub Context : Type 0
Context = List Term

-- Forms 0 to 3: the context is well formed; a has type A; a equals b at A; A is a subtype of B. Forms 4 to 6 (document
-- 02, A5): a is a strong normal form; a is a strong neutral form; a steps to b at its head. Rules conclude these three
-- in the empty context alone.
pub data Judgment : Type 0 where
  wf : Context → Judgment
  typed : Context → Term → Term → Judgment
  equal : Context → Term → Term → Term → Judgment
  sub : Context → Term → Term → Judgment
  normal : Context → Term → Judgment
  neutral : Context → Term → Judgment
  steps : Context → Term → Term → Judgment
  deriving Discrete as Judgment_discrete

unfoldable pub form : Judgment → ℕ
form (wf G) = 0
form (typed G a A) = 1
form (equal G a b A) = 2
form (sub G A B) = 3
form (normal G a) = 4
form (neutral G a) = 5
form (steps G a b) = 6

unfoldable pub context_of : Judgment → Context
context_of (wf G) = G
context_of (typed G a A) = G
context_of (equal G a b A) = G
context_of (sub G A B) = G
context_of (normal G a) = G
context_of (neutral G a) = G
context_of (steps G a b) = G

-- The subjects by the names that a line gives them: form 1 uses s1 and s3, forms 3 and 6 use s1 and s2, forms 4 and 5
-- use s1; zer where the form uses none.
unfoldable pub s1 : Judgment → Term
s1 (wf G) = zer
s1 (typed G a A) = a
s1 (equal G a b A) = a
s1 (sub G A B) = A
s1 (normal G a) = a
s1 (neutral G a) = a
s1 (steps G a b) = a

unfoldable pub s2 : Judgment → Term
s2 (wf G) = zer
s2 (typed G a A) = zer
s2 (equal G a b A) = b
s2 (sub G A B) = B
s2 (normal G a) = zer
s2 (neutral G a) = zer
s2 (steps G a b) = b

unfoldable pub s3 : Judgment → Term
s3 (wf G) = zer
s3 (typed G a A) = A
s3 (equal G a b A) = A
s3 (sub G A B) = zer
s3 (normal G a) = zer
s3 (neutral G a) = zer
s3 (steps G a b) = zer

-- Equality of terms, lists and judgments, decided by computation (the library's decision on lists does not compute
-- outside its module).
unfoldable pub term? : Discrete Term
unfolding ℕ_discrete
term? = Term_discrete ℕ_discrete

cons? : {A : Type 0} {x y : A} {xs ys : List A} → Dec (x ≡ y) → Dec (xs ≡ ys) → Dec (◌≡◌ {A = List A} (x ∷ xs) (y ∷ ys))
cons? (yes e) (yes f) = yes (cc)
cons? (yes e) (no f) = no (λ g. f (cc))
cons? (no e) f = no (λ g. e (cc))

unfoldable pub list? : {A : Type 0} → Discrete A → Discrete (List A)
unfolding cons?
list? d [] [] = yes refl
list? d [] (y ∷ ys) = no (λ e. cons≢nil (sym e))
list? d (x ∷ xs) [] = no (λ e. cons≢nil e)
list? d (x ∷ xs) (y ∷ ys) = cons? (d x y) (list? d xs ys)

unfoldable pub judgment? : Discrete Judgment
unfolding term? list?
judgment? = Judgment_discrete (list? term?) term?
