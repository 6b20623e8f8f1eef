-- The forms one by one, the subjects that a form uses, place by place, and the contexts that it may stand in.
-- Assumes nothing.
use mathlib.Core.Path.{◌≡◌, refl}
use mathlib.Core.Logic.{◌↔◌}
use mathlib.Core.Bool.{true, false, ◌&&◌, ◌||◌, not}
use Prim.Native.Nat.{ℕ, zero, suc, ◌≤◌, ◌<◌}
use native.Mathlib.Decide.{dec_le}
use native.Mathlib.Omega.{arith}
use borrow.Author.Tests.{le-leb, lt-leb, ne_eqb}
use lib.Dec.{leb, eqb}
use Rattle.terms.specs.Decides.{Decides}
use Rattle.terms.proofs.Tests.{never, says_le, decides_via}
use Rattle.rules.specs.Subjects.{uses_subject, use_of}
use Rattle.rules.specs.declared.judgments.SubjectUse.{SubjectUse}
use Rattle.rules.specs.Stated.{last_form_in_context, last_context}

-- what holds of each form and of the numbers behind the last holds of every number
pub by_form : (P : ℕ → Type 0) → P 0 → P 1 → P 2 → P 3 → P 4 → P 5 → P 6
    → ((f : ℕ) → P (suc (suc (suc (suc (suc (suc (suc f)))))))) → (f : ℕ) → P f
by_form P p0 p1 p2 p3 p4 p5 p6 behind zero = p0
by_form P p0 p1 p2 p3 p4 p5 p6 behind (suc zero) = p1
by_form P p0 p1 p2 p3 p4 p5 p6 behind (suc (suc zero)) = p2
by_form P p0 p1 p2 p3 p4 p5 p6 behind (suc (suc (suc zero))) = p3
by_form P p0 p1 p2 p3 p4 p5 p6 behind (suc (suc (suc (suc zero)))) = p4
by_form P p0 p1 p2 p3 p4 p5 p6 behind (suc (suc (suc (suc (suc zero))))) = p5
by_form P p0 p1 p2 p3 p4 p5 p6 behind (suc (suc (suc (suc (suc (suc zero)))))) = p6
by_form P p0 p1 p2 p3 p4 p5 p6 behind (suc (suc (suc (suc (suc (suc (suc f))))))) = behind f

-- the tests of `subject_use` together
abbrev tested : ℕ → SubjectUse
tested form =
    record {
      s1 = leb form 6 && not (eqb form 0);
      s2 = eqb form 2 || eqb form 3 || eqb form 6;
      s3 = eqb form 1 || eqb form 2;
    }

pub use_is : (form : ℕ) → tested form ≡ use_of form
unfolding uses_subject
use_is = by_form (λ form. tested form ≡ use_of form) refl refl refl refl refl refl refl behind
  where
    behind : (f : ℕ) → tested (suc (suc (suc (suc (suc (suc (suc f))))))) ≡ use_of (suc (suc (suc (suc (suc (suc (suc f)))))))
    behind f =
        let form = suc (suc (suc (suc (suc (suc (suc f)))))) in
        rw (
          lt-leb form 6 (omega arith),
          ne_eqb form 1 (λ e. omega (arith, e)),
          ne_eqb form 2 (λ e. omega (arith, e)),
          ne_eqb form 3 (λ e. omega (arith, e)),
          ne_eqb form 6 (λ e. omega (arith, e)),
        )

-- no form uses a subject past the third
pub unused_past : (form k : ℕ) → uses_subject form (suc (suc (suc k))) ≡ false
unfolding uses_subject
unused_past form k =
    by_form (λ f. uses_subject f (suc (suc (suc k))) ≡ false) refl refl refl refl refl refl refl (λ f. refl) form

-- what holds at the three places and past them holds at each
pub by_place : (P : ℕ → Type 0) → P 0 → P 1 → P 2 → ((k : ℕ) → P (suc (suc (suc k)))) → (k : ℕ) → P k
by_place P a b c d zero = a
by_place P a b c d (suc zero) = b
by_place P a b c d (suc (suc zero)) = c
by_place P a b c d (suc (suc (suc k))) = d k

pub used_small : (form k : ℕ) → uses_subject form k ≡ true → k < 3
used_small form =
    by_place (λ k. uses_subject form k ≡ true → k < 3) (λ u. omega arith) (λ u. omega arith) (λ u. omega arith)
    (λ k u. never u (unused_past form k))

-- the contexts that a judgment of the form may stand in
module _ (form count : ℕ) where
  pub any_context : form ≤ last_form_in_context → last_context form count ≡ count
  unfolding last_context
  any_context h = rw (le-leb form last_form_in_context h, last_context)

  pub empty_alone : last_form_in_context < form → last_context form count ≡ 0
  unfolding last_context
  empty_alone h = rw (lt-leb form last_form_in_context h, last_context)

  pub says_context : (context : ℕ)
      → Decides (leb context (last_context form count)) ((context ≤ count) × (last_form_in_context < form → context ≡ 0))
  says_context context = decides_via (stands (dec_le form last_form_in_context)) (says_le context (last_context form count))
    where
      stands : Dec (form ≤ last_form_in_context)
          → (context ≤ last_context form count) ↔ ((context ≤ count) × (last_form_in_context < form → context ≡ 0))
      stands (yes h) = (
        λ l. (omega (arith, any_context h), λ k. absurd (omega arith)),
        λ l. omega (arith, any_context h, l.0),
      )
      stands (no h) =
          let k : last_form_in_context < form = omega arith in (
            λ l. (omega (arith, empty_alone k), λ _. omega (arith, empty_alone k)),
            λ l. omega (arith, empty_alone k, l.1 k),
          )
