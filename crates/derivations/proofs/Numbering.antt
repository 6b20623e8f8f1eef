-- Numbers for the elements of a list in which each stands once, counted from the list's end, so that what stands behind
-- an element has a lower number.
-- Assumes nothing.
use mathlib.Core.Path.{◌≡◌, refl, sym, ◌∙◌, ap, subst}
use mathlib.Core.Logic.{⊎_elim}
use mathlib.Core.List.Memᴰ
use mathlib.Core.List.Memᴰ.{head as here}
use mathlib.Core.List.Memᴰ.{tail as there}
use mathlib.Core.List.{List, [], ◌∷◌, ◌++◌}
use Prim.Native.Nat.{ℕ, suc, ◌<◌}
use native.Mathlib.Decide.{ℕ_discrete}
use native.Mathlib.Omega.{arith}
use lib.ListN.{length}
use Rattle.derivations.specs.Lists.{◌∈◌, member?, before, distinct}
use Rattle.derivations.proofs.DistinctLaws.{Once, in_distinct}

pub pick : {P B : Type 0} → Dec P → B → B → B
pick (yes p) a b = a
pick (no p) a b = b

pub pick_yes : {P B : Type 0} (p : Dec P) (a b : B) → P → pick p a b ≡ a
unfolding pick
pick_yes (yes p) a b h = refl
pick_yes (no p) a b h = absurd (p h)

pub pick_no : {P B : Type 0} (p : Dec P) (a b : B) → (P → ⊥) → pick p a b ≡ b
unfolding pick
pick_no (yes p) a b h = absurd (h p)
pick_no (no p) a b h = refl

pub pick_either : {P B : Type 0} (Q : B → Type 0) (p : Dec P) (a b : B) → (P → Q a) → ((P → ⊥) → Q b) → Q (pick p a b)
unfolding pick
pick_either Q (yes p) a b f g = f p
pick_either Q (no p) a b f g = g p

module _ {A : Type 0} where
  -- the number of x: how many stand behind it
  pub number : Discrete A → List A → A → ℕ
  number d [] x = 0
  number d (y ∷ l) x = pick (d x y) (length l) (number d l x)

  -- the element with number k; z past the end
  pub numbered : A → List A → ℕ → A
  numbered z [] k = z
  numbered z (y ∷ l) k = pick (ℕ_discrete k (length l)) y (numbered z l k)

  at_head : (z y : A) (l : List A) → numbered z (y ∷ l) (length l) ≡ y
  unfolding numbered
  at_head z y l = pick_yes (ℕ_discrete (length l) (length l)) y (numbered z l (length l)) refl

  at_rest : (z y : A) (l : List A) (k : ℕ) → k < length l → numbered z (y ∷ l) k ≡ numbered z l k
  unfolding numbered
  at_rest z y l k h = pick_no (ℕ_discrete k (length l)) y (numbered z l k) (λ e. omega arith)

  pub numbered_in : (z : A) (l : List A) (k : ℕ) → k < length l → numbered z l k ∈ l
  numbered_in z [] k h = absurd (omega arith)
  numbered_in z (y ∷ l) k h = at (ℕ_discrete k (length l)) (λ b. numbered_in z l k b)
    where
      at : Dec (k ≡ length l) → (k < length l → numbered z l k ∈ l) → numbered z (y ∷ l) k ∈ (y ∷ l)
      at (yes e) ih = here (ap (numbered z (y ∷ l)) e ∙ at_head z y l)
      at (no e) ih = let b : k < length l = omega arith in Memᴰ.cast (at_rest z y l k b) (there (ih b))

  module _ (d : Discrete A) where
    number_head : (x y : A) (l : List A) → x ≡ y → number d (y ∷ l) x ≡ length l
    unfolding number
    number_head x y l e = pick_yes (d x y) (length l) (number d l x) e

    number_rest : (x y : A) (l : List A) → (x ≡ y → ⊥) → number d (y ∷ l) x ≡ number d l x
    unfolding number
    number_rest x y l e = pick_no (d x y) (length l) (number d l x) e

    pub number_below : (l : List A) (x : A) → x ∈ l → number d l x < length l
    number_below [] x m = absurd (Memᴰ.not-nil m)
    number_below (y ∷ l) x m = at (d x y) (λ k. number_below l x k)
      where
        at : Dec (x ≡ y) → (x ∈ l → number d l x < length l) → number d (y ∷ l) x < suc (length l)
        at (yes e) ih = omega (arith, number_head x y l e)
        at (no e) ih =
            let k : x ∈ l = ⊎_elim (λ f. absurd (e f)) (λ q. q) (Memᴰ.cases_cons m) in
            omega (arith, number_rest x y l e, ih k)

    -- the element with the number of x is x
    pub numbered_number : (z : A) (l : List A) (x : A) → x ∈ l → numbered z l (number d l x) ≡ x
    numbered_number z [] x m = absurd (Memᴰ.not-nil m)
    numbered_number z (y ∷ l) x m = at (d x y) (λ k. numbered_number z l x k)
      where
        at : Dec (x ≡ y) → (x ∈ l → numbered z l (number d l x) ≡ x) → numbered z (y ∷ l) (number d (y ∷ l) x) ≡ x
        at (yes e) ih = ap (numbered z (y ∷ l)) (number_head x y l e) ∙ at_head z y l ∙ sym e
        at (no e) ih =
            let k : x ∈ l = ⊎_elim (λ f. absurd (e f)) (λ q. q) (Memᴰ.cases_cons m) in
            ap (numbered z (y ∷ l)) (number_rest x y l e) ∙ at_rest z y l (number d l x) (number_below l x k) ∙ ih k

    -- and the number of the element with number k is k
    pub number_numbered : (z : A) (l : List A) → Once l → (k : ℕ) → k < length l → number d l (numbered z l k) ≡ k
    number_numbered z [] o k h = absurd (omega arith)
    number_numbered z (y ∷ l) o k h = at (ℕ_discrete k (length l)) (λ b. number_numbered z l o.1 k b)
      where
        at : Dec (k ≡ length l) → (k < length l → number d l (numbered z l k) ≡ k) → number d (y ∷ l) (numbered z (y ∷ l) k) ≡ k
        at (yes e) ih = number_head (numbered z (y ∷ l) k) y l (ap (numbered z (y ∷ l)) e ∙ at_head z y l) ∙ sym e
        at (no e) ih =
            let b : k < length l = omega arith in
            ap (number d (y ∷ l)) (at_rest z y l k b)
            ∙ number_rest (numbered z l k) y l (λ f. o.0 (Memᴰ.cast (sym f) (numbered_in z l k b))) ∙ ih b

    pub numbered_once : (z : A) (l : List A) → Once l → (m n : ℕ) → m < length l → n < length l → numbered z l m ≡ numbered z l n → m ≡ n
    numbered_once z l o m n h k e = sym (number_numbered z l o m h) ∙ ap (number d l) e ∙ number_numbered z l o n k

-- Lists in which the parts of each element stand behind it.
module _ {A : Type 0} (parts : A → List A) where
  abbrev pub Closed : List A → Type 0
  Closed [] = Unit {0}
  Closed (x ∷ l) = ((y : A) → y ∈ parts x → y ∈ l) × Closed l

  pub closed_append : (l m : List A) → Closed l → Closed m → Closed (l ++ m)
  closed_append [] m c e = e
  closed_append (x ∷ l) m c e = ((λ y k. Memᴰ.append_left m (c.0 y k)), closed_append l m c.1 e)

  closed_before : {x : A} {l r : List A} (p : Dec (x ∈ l)) → ((y : A) → y ∈ parts x → y ∈ r) → Closed r → Closed (before p r)
  unfolding before
  closed_before (yes m) h c = c
  closed_before (no m) h c = (h, c)

  module _ (d : Discrete A) where
    pub closed_distinct : (l : List A) → Closed l → Closed (distinct d l)
    unfolding distinct
    closed_distinct [] c = tt
    closed_distinct (x ∷ l) c = closed_before (member? d x l) (λ y k. in_distinct d l y (c.0 y k)) (closed_distinct l c.1)

    pub part_in : (l : List A) → Closed l → (x : A) → x ∈ l → (y : A) → y ∈ parts x → y ∈ l
    part_in [] c x m y k = absurd (Memᴰ.not-nil m)
    part_in (w ∷ l) c x m y k =
        ⊎_elim (λ e. there (c.0 y (subst (λ v. y ∈ parts v) e k))) (λ q. there (part_in l c.1 x q y k)) (Memᴰ.cases_cons m)

    -- a part's number is lower
    pub part_lower : (z : A) (l : List A) → Once l → Closed l → (k : ℕ) → k < length l → (y : A) → y ∈ parts (numbered z l k) → number d l y < k
    part_lower z [] o c k h y m = absurd (omega arith)
    part_lower z (x ∷ l) o c k h y m = at (ℕ_discrete k (length l)) (λ b. part_lower z l o.1 c.1 k b y)
      where
        behind : y ∈ l → number d (x ∷ l) y ≡ number d l y
        behind q = number_rest d y x l (λ f. o.0 (Memᴰ.cast (sym f) q))

        at : Dec (k ≡ length l) → (k < length l → y ∈ parts (numbered z l k) → number d l y < k) → number d (x ∷ l) y < k
        at (yes e) ih =
            let q : y ∈ l = c.0 y (subst (λ w. y ∈ parts w) (ap (numbered z (x ∷ l)) e ∙ at_head z x l) m) in
            omega (arith, behind q, number_below d l y q)
        at (no e) ih =
            let b : k < length l = omega arith in
            let n : y ∈ parts (numbered z l k) = subst (λ w. y ∈ parts w) (at_rest z x l k b) m in
            omega (arith, behind (part_in l c.1 (numbered z l k) (numbered_in z l k b) y n), ih b n)
