-- What is put for an index, and tests on its raised image.
-- Assumes nothing.
use mathlib.Core.Path.{◌≡◌, refl, sym, ◌∙◌, ap}
use mathlib.Core.Logic.{◌↔◌}
use mathlib.Core.List.{List}
use Prim.Native.Nat.{ℕ, zero, suc, ◌+◌, zero-le}
use Rattle.terms.specs.Term.{Term, var, first, succ, ind}
use Rattle.terms.proofs.SubstitutionLaws.{raise_free}
use Rattle.terms.specs.Substitution.{shift, instantiate, outer_succ, instantiate_both}
use Rattle.terms.specs.Tag.{child}
use Rattle.terms.specs.Images.{substitution, image_term, lowered_of, image_of}
use Rattle.terms.specs.declared.images.Subst.{Subst}
use Rattle.terms.specs.declared.images.Subst.TheVariants as by
use Rattle.terms.specs.declared.images.Image.{Image}
use Rattle.terms.specs.declared.images.Image.TheVariants as image

-- an image of the nearest index, or a variable
lowered_means : (bytes : List ℕ) (nearest : Image) (i : ℕ) → image_term bytes (lowered_of nearest i) ≡ instantiate (image_term bytes nearest) i
unfolding instantiate
lowered_means bytes nearest zero = refl
lowered_means bytes nearest (suc i) = refl

both_means : (bytes : List ℕ) (p a b c i : ℕ) → image_term bytes (lowered_of (image.Row a) i) ≡ substitution bytes (by.Both p a b c) (suc i)
unfolding instantiate_both
both_means bytes p a b c zero = refl
both_means bytes p a b c (suc i) = refl

-- the image is what the substitution puts
pub image_means : (bytes : List ℕ) (p : Subst) (i : ℕ) → image_term bytes (image_of p i) ≡ substitution bytes p i
unfolding outer_succ instantiate_both
image_means bytes (by.Row a) i = lowered_means bytes (image.Row a) i
image_means bytes by.Zero i = lowered_means bytes image.Zero i
image_means bytes (by.First a) i = lowered_means bytes (image.First a) i
image_means bytes by.OuterSucc zero = refl
image_means bytes by.OuterSucc (suc i) = refl
image_means bytes (by.Both p a b c) zero = refl
image_means bytes (by.Both p a b c) (suc i) = both_means bytes p a b c i

-- a term is a constructor's exactly if its own children make it one and are the parts
pub first_parts : (t v x : Term) → v ≡ child t 1 → ((t ≡ first v) × (v ≡ x)) ↔ (t ≡ first x)
unfolding child
first_parts t v x e = (λ h. h.0 ∙ ap first h.1, λ h. let f : v ≡ x = e ∙ ap (λ s. child s 1) h in (h ∙ ap first (sym f), f))

pub succ_parts : (t v x : Term) → v ≡ child t 1 → ((t ≡ succ v) × (v ≡ x)) ↔ (t ≡ succ x)
unfolding child
succ_parts t v x e = (λ h. h.0 ∙ ap succ h.1, λ h. let f : v ≡ x = e ∙ ap (λ s. child s 1) h in (h ∙ ap succ (sym f), f))

pub ind_parts : (t v w x y p a b c : Term) → v ≡ child t 1 → w ≡ child t 2 → x ≡ child t 3 → y ≡ child t 4
    → ((t ≡ ind v w x y) × ((((v ≡ p) × (w ≡ a)) × (x ≡ b)) × (y ≡ c))) ↔ (t ≡ ind p a b c)
unfolding child
ind_parts t v w x y p a b c e f g h = (
  λ k. k.0 ∙ (λ i. ind (k.1.0.0.0 i) (k.1.0.0.1 i) (k.1.0.1 i) (k.1.1 i)),
  λ k.
      let l : v ≡ p = e ∙ ap (λ s. child s 1) k in
      let m : w ≡ a = f ∙ ap (λ s. child s 2) k in
      let n : x ≡ b = g ∙ ap (λ s. child s 3) k in
      let o : y ≡ c = h ∙ ap (λ s. child s 4) k in
      (k ∙ (λ i. ind (sym l i) (sym m i) (sym n i) (sym o i)), (((l, m), n), o)),
)

-- a variable and what is made of variables, raised by k with no binder crossed
pub raised_variable : (k i : ℕ) → var (i + k) ≡ shift 0 k (var i)
unfolding shift
raised_variable k i = ap var (sym (raise_free 0 k i zero-le))
