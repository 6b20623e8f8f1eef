-- Laws of the one view of a term by its tag, each by cases on the tag. What is proved of a tag's children here is
-- used for all thirteen constructors at once elsewhere.
-- Assumes nothing.
use mathlib.Core.Path.{◌≡◌, refl, sym, ◌∙◌, ap, subst}
use mathlib.Core.Logic.{◌≢◌, ◌↔◌, ⊎_elim}
use mathlib.Core.List.{◌∷◌}
use Prim.Native.Nat.{ℕ, zero, suc, ◌+◌, ◌≤◌, ◌<◌, zero-le}
use native.Mathlib.Nat.{eq-or-lt_of_le}
use native.Mathlib.Omega.{arith}
use lib.Dec.{eqb}
use lib.ListN.{length, get_or-eq_default}
use mathlib.Core.Bool.{false}
use borrow.Author.Tests.{eqb-false}
use Rattle.terms.specs.Term.{Term, var, univ, pi, lam, app, sigma, pair, first, second, nat, zer, succ, ind, size}
use Rattle.terms.specs.FreeIndices.{FreeBelow}
use Rattle.terms.specs.Tag.{Tag, none, Var, Univ, Pi, Lam, App, Sigma, Pair, First, Second, Nat, Zero, Succ, Ind, tag_of, arity, used, binders, under, shape, tag_in, number_in, children, child}
use Rattle.terms.specs.Sizes.{sum_to}

pub under_is : (b k : ℕ) → under b k ≡ k + b
unfolding under
under_is zero k = omega arith
under_is (suc b) k = let e = under_is b k in omega arith

-- a proof for each place from 1 to n
abbrev pub Each : (ℕ → Type 0) → ℕ → Type 0
Each P zero = Unit {0}
Each P (suc n) = Each P n × P (suc n)

pub each : (P : ℕ → Type 0) (n : ℕ) → Each P n → (j : ℕ) → 1 ≤ j → j ≤ n → P j
each P zero p j low high = absurd (omega arith)
each P (suc n) p j low high = ⊎_elim (λ e. subst P (sym e) p.1) (λ h. each P n p.0 j low (omega arith)) (eq-or-lt_of_le high)

-- k is below n or n itself
pub below_or_last : (P : ℕ → Type 0) (n k : ℕ) → k < suc n → (k < n → P k) → P n → P k
below_or_last P n k h p q = ⊎_elim (λ e. subst P (sym e) q) p (eq-or-lt_of_le (at_most h))
  where
    at_most : k < suc n → k ≤ n
    at_most l = omega arith

-- a proof for each number of a tag, 0 among them, which is none
pub each_tag : (P : ℕ → Type 0) → P 0 → Each P 13 → (n : ℕ) → n ≤ 13 → P n
each_tag P z p n h = ⊎_elim (λ e. subst P e z) (λ low. each P 13 p n low h) (eq-or-lt_of_le zero-le)

-- a tag's number in the format
unfoldable pub tag_number : Tag → ℕ
tag_number none = 0
tag_number Var = 1
tag_number Univ = 2
tag_number Pi = 3
tag_number Lam = 4
tag_number App = 5
tag_number Sigma = 6
tag_number Pair = 7
tag_number First = 8
tag_number Second = 9
tag_number Nat = 10
tag_number Zero = 11
tag_number Succ = 12
tag_number Ind = 13

pub apart : (σ τ : Tag) → eqb (tag_number σ) (tag_number τ) ≡ false → σ ≢ τ
apart σ τ h e = eqb-false (tag_number σ) (tag_number τ) h (ap tag_number e)

-- tag_of numbers the tags as the format does
pub tag_number_tag_of : (n : ℕ) → n ≤ 13 → tag_number (tag_of n) ≡ n
unfolding tag_number tag_of
tag_number_tag_of = each_tag (λ n. tag_number (tag_of n) ≡ n) refl (((((((((((((tt, refl), refl), refl), refl), refl), refl), refl), refl), refl), refl), refl), refl), refl)

-- two numbers of tags with one tag are equal
pub tag_of_inj : (m n : ℕ) → m ≤ 13 → n ≤ 13 → tag_of m ≡ tag_of n → m ≡ n
tag_of_inj m n hm hn e = sym (tag_number_tag_of m hm) ∙ ap tag_number e ∙ tag_number_tag_of n hn

pub tag_of_known : (n : ℕ) → 1 ≤ n → n ≤ 13 → tag_of n ≢ none
unfolding tag_number
tag_of_known n low high e = let z : n ≡ 0 = sym (tag_number_tag_of n high) ∙ ap tag_number e in omega arith

-- the statement holds at each child of the tag
abbrev pub AtChildren : Tag → (ℕ → Type 0) → Type 0
AtChildren τ P = (j : ℕ) → 1 ≤ j → j ≤ arity τ → P j

pub shape_cong : (τ : Tag) (n : ℕ) (x y : ℕ → Term) → AtChildren τ (λ j. x j ≡ y j) → shape τ n x ≡ shape τ n y
unfolding shape arity
shape_cong none n x y h = refl
shape_cong Var n x y h = refl
shape_cong Univ n x y h = refl
shape_cong Pi n x y h = λ i. pi (h 1 (omega arith) (omega arith) i) (h 2 (omega arith) (omega arith) i)
shape_cong Lam n x y h = λ i. lam (h 1 (omega arith) (omega arith) i)
shape_cong App n x y h = λ i. app (h 1 (omega arith) (omega arith) i) (h 2 (omega arith) (omega arith) i)
shape_cong Sigma n x y h = λ i. sigma (h 1 (omega arith) (omega arith) i) (h 2 (omega arith) (omega arith) i)
shape_cong Pair n x y h = λ i. pair (h 1 (omega arith) (omega arith) i) (h 2 (omega arith) (omega arith) i)
shape_cong First n x y h = λ i. first (h 1 (omega arith) (omega arith) i)
shape_cong Second n x y h = λ i. second (h 1 (omega arith) (omega arith) i)
shape_cong Nat n x y h = refl
shape_cong Zero n x y h = refl
shape_cong Succ n x y h = λ i. succ (h 1 (omega arith) (omega arith) i)
shape_cong Ind n x y h = λ i. ind (h 1 (omega arith) (omega arith) i) (h 2 (omega arith) (omega arith) i) (h 3 (omega arith) (omega arith) i) (h 4 (omega arith) (omega arith) i)

pub child-shape : (τ : Tag) (n : ℕ) (x : ℕ → Term) → AtChildren τ (λ j. child (shape τ n x) j ≡ x j)
unfolding shape arity child
child-shape none n x = each _ 0 tt
child-shape Var n x = each _ 0 tt
child-shape Univ n x = each _ 0 tt
child-shape Pi n x = each _ 2 ((tt, refl), refl)
child-shape Lam n x = each _ 1 (tt, refl)
child-shape App n x = each _ 2 ((tt, refl), refl)
child-shape Sigma n x = each _ 2 ((tt, refl), refl)
child-shape Pair n x = each _ 2 ((tt, refl), refl)
child-shape First n x = each _ 1 (tt, refl)
child-shape Second n x = each _ 1 (tt, refl)
child-shape Nat n x = each _ 0 tt
child-shape Zero n x = each _ 0 tt
child-shape Succ n x = each _ 1 (tt, refl)
child-shape Ind n x = each _ 4 ((((tt, refl), refl), refl), refl)

-- terms of one tag are equal only if their children are
pub children_equal : (τ : Tag) (m n : ℕ) (x y : ℕ → Term) → shape τ m x ≡ shape τ n y → AtChildren τ (λ j. x j ≡ y j)
children_equal τ m n x y e j low high = sym (child-shape τ m x j low high) ∙ ap (λ t. child t j) e ∙ child-shape τ n y j low high

pub tag_in-shape : (τ : Tag) (n : ℕ) (x : ℕ → Term) → τ ≢ none → tag_in (shape τ n x) ≡ τ
unfolding shape tag_in
tag_in-shape none n x h = absurd (h refl)
tag_in-shape Var n x h = refl
tag_in-shape Univ n x h = refl
tag_in-shape Pi n x h = refl
tag_in-shape Lam n x h = refl
tag_in-shape App n x h = refl
tag_in-shape Sigma n x h = refl
tag_in-shape Pair n x h = refl
tag_in-shape First n x h = refl
tag_in-shape Second n x h = refl
tag_in-shape Nat n x h = refl
tag_in-shape Zero n x h = refl
tag_in-shape Succ n x h = refl
tag_in-shape Ind n x h = refl

-- no term has the tag none
pub tag_in_known : (t : Term) → tag_in t ≢ none
unfolding tag_in tag_number
tag_in_known (var i) = apart Var none refl
tag_in_known (univ l) = apart Univ none refl
tag_in_known (pi a b) = apart Pi none refl
tag_in_known (lam b) = apart Lam none refl
tag_in_known (app b a) = apart App none refl
tag_in_known (sigma a b) = apart Sigma none refl
tag_in_known (pair a b) = apart Pair none refl
tag_in_known (first a) = apart First none refl
tag_in_known (second a) = apart Second none refl
tag_in_known nat = apart Nat none refl
tag_in_known zer = apart Zero none refl
tag_in_known (succ a) = apart Succ none refl
tag_in_known (ind p a b c) = apart Ind none refl

children_count : (t : Term) → length (children t) ≡ arity (tag_in t)
unfolding children tag_in arity
children_count (var i) = refl
children_count (univ l) = refl
children_count (pi a b) = refl
children_count (lam b) = refl
children_count (app b a) = refl
children_count (sigma a b) = refl
children_count (pair a b) = refl
children_count (first a) = refl
children_count (second a) = refl
children_count nat = refl
children_count zer = refl
children_count (succ a) = refl
children_count (ind p a b c) = refl

-- past its children a term stands for itself
pub child_beyond : (t : Term) (j : ℕ) → arity (tag_in t) < j → child t j ≡ t
unfolding child
child_beyond t j h = get_or-eq_default (t ∷ children t) t {n = j} (omega (arith, children_count t))

-- a number belongs to the head alone
pub number_any : (τ : Tag) (n : ℕ) (x y : ℕ → Term) → number_in (shape τ n x) ≡ number_in (shape τ n y)
unfolding shape number_in
number_any none n x y = refl
number_any Var n x y = refl
number_any Univ n x y = refl
number_any Pi n x y = refl
number_any Lam n x y = refl
number_any App n x y = refl
number_any Sigma n x y = refl
number_any Pair n x y = refl
number_any First n x y = refl
number_any Second n x y = refl
number_any Nat n x y = refl
number_any Zero n x y = refl
number_any Succ n x y = refl
number_any Ind n x y = refl

pub no_number : (τ : Tag) (n : ℕ) (x : ℕ → Term) → τ ≢ Var → τ ≢ Univ → number_in (shape τ n x) ≡ 0
unfolding shape number_in
no_number none n x v u = refl
no_number Var n x v u = absurd (v refl)
no_number Univ n x v u = absurd (u refl)
no_number Pi n x v u = refl
no_number Lam n x v u = refl
no_number App n x v u = refl
no_number Sigma n x v u = refl
no_number Pair n x v u = refl
no_number First n x v u = refl
no_number Second n x v u = refl
no_number Nat n x v u = refl
no_number Zero n x v u = refl
no_number Succ n x v u = refl
no_number Ind n x v u = refl

-- a tag that uses more operands than it has children has a number, which is its one operand
pub number_shape : (τ : Tag) (n : ℕ) (x : ℕ → Term) → arity τ < used τ → number_in (shape τ n x) ≡ n
unfolding shape number_in arity used
number_shape none n x h = absurd (omega arith)
number_shape Var n x h = refl
number_shape Univ n x h = refl
number_shape Pi n x h = absurd (omega arith)
number_shape Lam n x h = absurd (omega arith)
number_shape App n x h = absurd (omega arith)
number_shape Sigma n x h = absurd (omega arith)
number_shape Pair n x h = absurd (omega arith)
number_shape First n x h = absurd (omega arith)
number_shape Second n x h = absurd (omega arith)
number_shape Nat n x h = absurd (omega arith)
number_shape Zero n x h = absurd (omega arith)
number_shape Succ n x h = absurd (omega arith)
number_shape Ind n x h = absurd (omega arith)

used_one : (τ : Tag) → arity τ < used τ → used τ ≡ 1
unfolding arity used
used_one none h = absurd (omega arith)
used_one Var h = refl
used_one Univ h = refl
used_one Pi h = absurd (omega arith)
used_one Lam h = absurd (omega arith)
used_one App h = absurd (omega arith)
used_one Sigma h = absurd (omega arith)
used_one Pair h = absurd (omega arith)
used_one First h = absurd (omega arith)
used_one Second h = absurd (omega arith)
used_one Nat h = absurd (omega arith)
used_one Zero h = absurd (omega arith)
used_one Succ h = absurd (omega arith)
used_one Ind h = absurd (omega arith)

pub used_number : (τ : Tag) (j : ℕ) → arity τ < j → j ≤ used τ → (P : ℕ → Type 0) → (arity τ < used τ → P 1) → P j
used_number τ j low high P p = subst P one (p few)
  where
    few : arity τ < used τ
    few = omega arith

    one : 1 ≡ j
    one = omega (arith, used_one τ few)

pub shape_view : (t : Term) → shape (tag_in t) (number_in t) (child t) ≡ t
unfolding shape tag_in number_in child
shape_view (var i) = refl
shape_view (univ l) = refl
shape_view (pi a b) = refl
shape_view (lam b) = refl
shape_view (app b a) = refl
shape_view (sigma a b) = refl
shape_view (pair a b) = refl
shape_view (first a) = refl
shape_view (second a) = refl
shape_view nat = refl
shape_view zer = refl
shape_view (succ a) = refl
shape_view (ind p a b c) = refl

pub size-shape : (τ : Tag) (n : ℕ) (x : ℕ → Term) → size (shape τ n x) ≡ 1 + sum_to (arity τ) (λ j. size (x j))
unfolding shape arity size sum_to
size-shape none n x = omega arith
size-shape Var n x = omega arith
size-shape Univ n x = omega arith
size-shape Pi n x = omega arith
size-shape Lam n x = omega arith
size-shape App n x = omega arith
size-shape Sigma n x = omega arith
size-shape Pair n x = omega arith
size-shape First n x = omega arith
size-shape Second n x = omega arith
size-shape Nat n x = omega arith
size-shape Zero n x = omega arith
size-shape Succ n x = omega arith
size-shape Ind n x = omega arith

pub free_shape : (τ : Tag) (m : ℕ) (x : ℕ → Term) (n : ℕ) → τ ≢ Var → FreeBelow n (shape τ m x) ↔ AtChildren τ (λ j. FreeBelow (under (binders τ j) n) (x j))
unfolding shape FreeBelow under binders arity
free_shape none m x n h = (λ f. each _ 0 tt, λ g. tt)
free_shape Var m x n h = absurd (h refl)
free_shape Univ m x n h = (λ f. each _ 0 tt, λ g. tt)
free_shape Pi m x n h = (λ f. each _ 2 ((tt, f.0), f.1), λ g. (g 1 (omega arith) (omega arith), g 2 (omega arith) (omega arith)))
free_shape Lam m x n h = (λ f. each _ 1 (tt, f), λ g. g 1 (omega arith) (omega arith))
free_shape App m x n h = (λ f. each _ 2 ((tt, f.0), f.1), λ g. (g 1 (omega arith) (omega arith), g 2 (omega arith) (omega arith)))
free_shape Sigma m x n h = (λ f. each _ 2 ((tt, f.0), f.1), λ g. (g 1 (omega arith) (omega arith), g 2 (omega arith) (omega arith)))
free_shape Pair m x n h = (λ f. each _ 2 ((tt, f.0), f.1), λ g. (g 1 (omega arith) (omega arith), g 2 (omega arith) (omega arith)))
free_shape First m x n h = (λ f. each _ 1 (tt, f), λ g. g 1 (omega arith) (omega arith))
free_shape Second m x n h = (λ f. each _ 1 (tt, f), λ g. g 1 (omega arith) (omega arith))
free_shape Nat m x n h = (λ f. each _ 0 tt, λ g. tt)
free_shape Zero m x n h = (λ f. each _ 0 tt, λ g. tt)
free_shape Succ m x n h = (λ f. each _ 1 (tt, f), λ g. g 1 (omega arith) (omega arith))
free_shape Ind m x n h = (λ f. each _ 4 ((((tt, f.0), f.1), f.2), f.3), λ g. (g 1 (omega arith) (omega arith), g 2 (omega arith) (omega arith), g 3 (omega arith) (omega arith), g 4 (omega arith) (omega arith)))

-- induction on terms in two cases: a variable, and any other tag with the hypothesis at its children
pub by_shape : (P : Term → Type 0) → ((i : ℕ) → P (var i)) → ((τ : Tag) (n : ℕ) (x : ℕ → Term) → τ ≢ Var → τ ≢ none → AtChildren τ (λ j. P (x j)) → P (shape τ n x)) → (t : Term) → P t
unfolding shape child arity tag_number
by_shape P v s (var i) = v i
by_shape P v s (univ l) = s Univ l (child (univ l)) (apart Univ Var refl) (apart Univ none refl) (each _ 0 tt)
by_shape P v s (pi a b) = s Pi 0 (child (pi a b)) (apart Pi Var refl) (apart Pi none refl) (each _ 2 ((tt, by_shape P v s a), by_shape P v s b))
by_shape P v s (lam b) = s Lam 0 (child (lam b)) (apart Lam Var refl) (apart Lam none refl) (each _ 1 (tt, by_shape P v s b))
by_shape P v s (app b a) = s App 0 (child (app b a)) (apart App Var refl) (apart App none refl) (each _ 2 ((tt, by_shape P v s b), by_shape P v s a))
by_shape P v s (sigma a b) = s Sigma 0 (child (sigma a b)) (apart Sigma Var refl) (apart Sigma none refl) (each _ 2 ((tt, by_shape P v s a), by_shape P v s b))
by_shape P v s (pair a b) = s Pair 0 (child (pair a b)) (apart Pair Var refl) (apart Pair none refl) (each _ 2 ((tt, by_shape P v s a), by_shape P v s b))
by_shape P v s (first a) = s First 0 (child (first a)) (apart First Var refl) (apart First none refl) (each _ 1 (tt, by_shape P v s a))
by_shape P v s (second a) = s Second 0 (child (second a)) (apart Second Var refl) (apart Second none refl) (each _ 1 (tt, by_shape P v s a))
by_shape P v s nat = s Nat 0 (child nat) (apart Nat Var refl) (apart Nat none refl) (each _ 0 tt)
by_shape P v s zer = s Zero 0 (child zer) (apart Zero Var refl) (apart Zero none refl) (each _ 0 tt)
by_shape P v s (succ a) = s Succ 0 (child (succ a)) (apart Succ Var refl) (apart Succ none refl) (each _ 1 (tt, by_shape P v s a))
by_shape P v s (ind p a b c) = s Ind 0 (child (ind p a b c)) (apart Ind Var refl) (apart Ind none refl) (each _ 4 ((((tt, by_shape P v s p), by_shape P v s a), by_shape P v s b), by_shape P v s c))
