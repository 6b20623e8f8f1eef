-- What holds of every element of a list.
-- Assumes nothing.
use mathlib.Core.List.{List, [], ◌∷◌, map}
use Prim.Native.Nat.{ℕ, suc, ◌<◌}
use native.Mathlib.Omega.{arith}
use lib.ListN.{length, get_or}
use Rattle.terms.specs.Lists.{All}

-- at every place
pub all_at : {A : Type 0} (P : A → Type 0) (d : A) (l : List A) → ((i : ℕ) → i < length l → P (get_or l i d)) → All P l
all_at P d [] h = tt
all_at P d (x ∷ l) h = (h 0 (omega arith), all_at P d l (λ i b. h (suc i) (omega arith)))

-- by what implies it
pub all_more : {A : Type 0} (P Q : A → Type 0) (l : List A) → ((x : A) → P x → Q x) → All P l → All Q l
all_more P Q [] h p = tt
all_more P Q (x ∷ l) h p = (h x p.0, all_more P Q l h p.1)

-- of the images, where that is implied at each
pub all_image : {A B : Type 0} (f : A → B) (P Q : B → Type 0) (l : List A)
    → All (λ x. P (f x) → Q (f x)) l → All P (map f l) → All Q (map f l)
all_image f P Q [] h p = tt
all_image f P Q (x ∷ l) h p = (h.0 p.0, all_image f P Q l h.1 p.1)
