-- Universes by the level that a row's number gives.
-- Assumes nothing.
use mathlib.Core.Path.{◌≡◌, sym, ◌∙◌, ap, subst₂}
use mathlib.Core.Logic.{◌↔◌}
use Prim.Native.Nat.{ℕ, ◌+◌, ◌≤◌}
use native.Mathlib.Numerals.{add-one}
use Rattle.terms.specs.Term.{Term, univ}
use Rattle.terms.specs.Tag.{number_in}
use Rattle.rules.specs.Conditions.{IsUniverse, NextUniverse, UniversesRise}

pub universe_level : (t : Term) (i : ℕ) → i ≡ number_in t → (t ≡ univ i) ↔ IsUniverse t
unfolding number_in
universe_level t i e = (λ h. (i, h), λ u. u.1 ∙ ap univ (sym (e ∙ ap number_in u.1)))

pub next_level : (t u : Term) (i : ℕ) → i ≡ number_in t → ((t ≡ univ i) × (u ≡ univ (i + 1))) ↔ NextUniverse t u
unfolding number_in
next_level t u i e = (
  λ h. (i, h.0, h.1 ∙ ap univ (add-one i)),
  λ n.
      let f : i ≡ n.0 = e ∙ ap number_in n.1 in
      (n.1 ∙ ap univ (sym f), n.2 ∙ ap univ (sym (add-one n.0)) ∙ ap (λ l. univ (l + 1)) (sym f)),
)

pub levels_rise : (t u : Term) (m n : ℕ) → m ≡ number_in t → n ≡ number_in u → ((IsUniverse t × IsUniverse u) × (m ≤ n)) ↔ UniversesRise t u
unfolding number_in
levels_rise t u m n e f = (
  λ h. (h.0.0.0, h.0.1.0, subst₂ (λ x y. x ≤ y) (e ∙ ap number_in h.0.0.1) (f ∙ ap number_in h.0.1.1) h.1, h.0.0.1, h.0.1.1),
  λ r. (((r.0, r.3), (r.1, r.4)), subst₂ (λ x y. x ≤ y) (sym (e ∙ ap number_in r.3)) (sym (f ∙ ap number_in r.4)) r.2),
)
