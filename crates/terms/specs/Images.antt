-- The substitutions that rules make, described by rows: document 01, "Amended readings" (B[a], P[succ x], E-INDSUC).
-- What one brings in need have no row: zero, first a, succ x and ind P a b c are described by the rows of their parts.
use Rattle.std.specs.Prelude.{List, [], ◌∷◌, ℕ, zero, suc}
use Rattle.terms.specs.Term.{Term, var, first, zer, succ, ind}
use Rattle.terms.specs.Substitution.{instantiate, outer_succ, instantiate_both}
use Rattle.terms.specs.Rows.{term}
use Rattle.terms.specs.declared.images.Subst.{Subst}
use Rattle.terms.specs.declared.images.Subst.TheVariants as by
use Rattle.terms.specs.declared.images.Image.{Image}
use Rattle.terms.specs.declared.images.Image.TheVariants as image

-- the substitution that a description means
abbrev pub substitution : List ℕ → Subst → ℕ → Term
substitution bytes (by.Row a) = instantiate (term bytes a)
substitution bytes by.Zero = instantiate zer
substitution bytes (by.First a) = instantiate (first (term bytes a))
substitution bytes by.OuterSucc = outer_succ
substitution bytes (by.Both p a b c) = instantiate_both (term bytes a) (ind (term bytes p) (term bytes a) (term bytes b) (term bytes c))

-- the rows that it names
abbrev pub subst_rows : Subst → List ℕ
subst_rows (by.Row a) = a ∷ []
subst_rows by.Zero = []
subst_rows (by.First a) = a ∷ []
subst_rows by.OuterSucc = []
subst_rows (by.Both p a b c) = p ∷ a ∷ b ∷ c ∷ []

-- the term that an image means
abbrev pub image_term : List ℕ → Image → Term
image_term bytes (image.Var i) = var i
image_term bytes (image.Row a) = term bytes a
image_term bytes image.Zero = zer
image_term bytes (image.First a) = first (term bytes a)
image_term bytes (image.SuccVar i) = succ (var i)
image_term bytes (image.Ind p a b c) = ind (term bytes p) (term bytes a) (term bytes b) (term bytes c)

-- the rows that it names, and the index that it has, or 0
abbrev pub image_rows : Image → List ℕ
image_rows (image.Var i) = []
image_rows (image.Row a) = a ∷ []
image_rows image.Zero = []
image_rows (image.First a) = a ∷ []
image_rows (image.SuccVar i) = []
image_rows (image.Ind p a b c) = p ∷ a ∷ b ∷ c ∷ []

abbrev pub image_number : Image → ℕ
image_number (image.Var i) = i
image_number (image.Row a) = 0
image_number image.Zero = 0
image_number (image.First a) = 0
image_number (image.SuccVar i) = i
image_number (image.Ind p a b c) = 0

-- the nearest index has the image, the others are lowered by 1
abbrev pub lowered_of : Image → ℕ → Image
lowered_of nearest zero = nearest
lowered_of nearest (suc i) = image.Var i

-- the image of the index i
abbrev pub image_of : Subst → ℕ → Image
image_of (by.Row a) i = lowered_of (image.Row a) i
image_of by.Zero i = lowered_of image.Zero i
image_of (by.First a) i = lowered_of (image.First a) i
image_of by.OuterSucc zero = image.SuccVar 1
image_of by.OuterSucc (suc i) = image.Var (suc (suc i))
image_of (by.Both p a b c) zero = image.Ind p a b c
image_of (by.Both p a b c) (suc i) = lowered_of (image.Row a) i
