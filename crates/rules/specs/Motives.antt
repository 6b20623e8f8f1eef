-- The motive of an induction: document 02, A10 and A11. What the extra first premise of rules 33 and 34 says of a
-- conclusion G |- ind(P, ..) = .. : P[..].
use Rattle.std.specs.Prelude.{◌≡◌, Bool, true, false, List, [], ◌∷◌, ℕ}
use Rattle.terms.specs.Term.{univ, nat}
use Rattle.terms.specs.Tag.{number_in, child}
use Rattle.rules.specs.Judgment.{Judgment, typed, context_of, s1, s3, judgment?}
use Rattle.rules.specs.Instance.{Instance}

-- "G,Nat |- P : U_i": G is the conclusion's context, P the first part of its first subject, i any level
abbrev pub GivesMotive : Judgment → Judgment → Type 0
GivesMotive premise conclusion =
    (i : ℕ) × (premise ≡ typed (nat ∷ context_of conclusion) (child (s1 conclusion) 1) (univ i))

-- the same by computation: the level is that of the premise's type, if it is a universe
unfoldable pub gives_motive : Judgment → Judgment → Bool
gives_motive premise conclusion =
    elim
    (judgment? premise
    (typed (nat ∷ context_of conclusion) (child (s1 conclusion) 1) (univ (number_in (s3 premise))))) [
      | yes _ ↦ true
      | no _ ↦ false
    ]

-- the first premise is the motive, and from those behind it the conclusion follows by the rule as printed
abbrev pub WithMotive : ℕ → List Judgment → Judgment → Type 0
WithMotive rule [] conclusion = ⊥
WithMotive rule (motive ∷ printed) conclusion = GivesMotive motive conclusion × Instance rule printed conclusion
