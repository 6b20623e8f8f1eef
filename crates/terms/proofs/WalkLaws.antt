-- Walking two terms in step, for any operation that goes to the children, raised by the binders crossed, wherever the
-- head is no variable.
-- Assumes nothing.
use mathlib.Core.Path.{◌≡◌, sym, ◌∙◌, ap, subst}
use mathlib.Core.Logic.{◌≢◌, ◌↔◌}
use mathlib.Core.Bool.{Bool, true, false}
use mathlib.Core.List.{List, ◌∷◌}
use Prim.Native.Nat.{ℕ, ◌+◌, ◌≤◌, ◌<◌}
use native.Mathlib.Omega.{arith}
use Rattle.terms.specs.Term.{Term}
use Rattle.terms.specs.Decides.{Decides}
use Rattle.terms.specs.Tag.{Var, arity, binders, under, shape, tag_in, number_in, child}
use Rattle.terms.specs.Operations.{GoesUnder}
use Rattle.terms.specs.Rows.{word, term}
use Rattle.terms.specs.Table.{RowsInTable}
use Rattle.terms.specs.Nodes.{SameHead}
use Rattle.terms.proofs.Shape.{AtChildren, under_is, shape_cong, shape_view, child-shape, tag_in-shape, tag_in_known, number_any}
use Rattle.terms.proofs.Tests.{says_yes, says_no, refuted, other_rows}
use Rattle.terms.proofs.NodeLaws.{row_arity, child_is, child_before}
use Rattle.terms.proofs.VisitLaws.{AllParts, Visit, Visited, visit_start, visit_child, visit_end}

-- on plain terms: u is the image of t exactly if the heads are the same and the children are the images
module _ (F : ℕ → Term → Term) (U : GoesUnder F) (k : ℕ) (t u : Term) (h : tag_in t ≢ Var) where
  image : ℕ → Term
  image j = F (under (binders (tag_in t) j) k) (child t j)

  image_step : F k t ≡ shape (tag_in t) (number_in t) image
  unfolding image
  image_step = ap (F k) (sym (shape_view t)) ∙ U.goes (tag_in t) (number_in t) (child t) k h

  image_heads : u ≡ F k t → SameHead t u
  image_heads e =
      let whole = e ∙ image_step in (
        sym (ap tag_in whole ∙ tag_in-shape (tag_in t) (number_in t) image (tag_in_known t)),
        ap number_in (sym (shape_view t)) ∙ number_any (tag_in t) (number_in t) (child t) image ∙ sym (ap number_in whole),
      )

  image_children : u ≡ F k t → AtChildren (tag_in t) (λ j. child u j ≡ F (under (binders (tag_in t) j) k) (child t j))
  unfolding image
  image_children e j low high = ap (λ s. child s j) (e ∙ image_step) ∙ child-shape (tag_in t) (number_in t) image j low high

  image_made : SameHead t u → AtChildren (tag_in t) (λ j. child u j ≡ F (under (binders (tag_in t) j) k) (child t j)) → u ≡ F k t
  unfolding image
  image_made s c =
      sym (shape_view u) ∙ (λ i. shape (sym s.0 i) (sym s.1 i) (child u)) ∙ shape_cong (tag_in t) (number_in t) (child u) image c ∙ sym image_step

-- on rows of a table: what is asked at place i of row t: the child's image stands at place i of row u
abbrev ImageAt : List ℕ → (ℕ → Term → Term) → ℕ → ℕ → ℕ → ℕ → Term → Type 0
ImageAt bytes F k t u i s = term bytes (word bytes u i) ≡ F (k + binders (tag_in (term bytes t)) i) s

-- row t spells no variable, and the walk has passed the places before j
pub record Walk (bytes rest : List ℕ) (F : ℕ → Term → Term) (k t u j : ℕ) : Type 0 where
  pub given : RowsInTable bytes (t ∷ u ∷ rest)
  pub under : GoesUnder F
  pub not_var : tag_in (term bytes t) ≢ Var
  pub heads : SameHead (term bytes t) (term bytes u)
  pub visit : Visit bytes t (ImageAt bytes F k t u) j

pub heads_differ : {F : ℕ → Term → Term} → GoesUnder F → (k : ℕ) (t u : Term) → tag_in t ≢ Var
    → {s : Bool} → Decides s (SameHead t u) → s ≡ false → Decides false (u ≡ F k t)
heads_differ {F} U k t u h d f = says_no (λ i. refuted d f (image_heads F U k t u h i))

pub walk_start : {bytes rest : List ℕ} {F : ℕ → Term → Term} {k t u : ℕ} → RowsInTable bytes (t ∷ u ∷ rest) → GoesUnder F
    → tag_in (term bytes t) ≢ Var → SameHead (term bytes t) (term bytes u) → Walk bytes rest F k t u 1
walk_start g U h s = record { given = g; under = U; not_var = h; heads = s; visit = visit_start (other_rows (λ n b. (b.0, tt)) g) }

module _ {bytes rest : List ℕ} {F : ℕ → Term → Term} {k t u j : ℕ} (w : Walk bytes rest F k t u j) where
  -- row u has as many children as row t
  as_many : (i : ℕ) → i ≤ row_arity bytes t → i ≤ row_arity bytes u
  as_many i h = subst (λ τ. i ≤ arity τ) w.heads.0 h

  -- the children of row u are the images exactly if every place has been passed
  places : AtChildren (tag_in (term bytes t)) (λ i. child (term bytes u) i ≡ F (under (binders (tag_in (term bytes t)) i) k) (child (term bytes t) i))
      ↔ AllParts bytes t (ImageAt bytes F k t u)
  places = (
    λ h i low high. there i low high ∙ h i low high ∙ (λ p. F (cut i p) (child (term bytes t) i)),
    λ h i low high. sym (there i low high) ∙ h i low high ∙ (λ p. F (sym (cut i) p) (child (term bytes t) i)),
  )
    where
      there : AtChildren (tag_in (term bytes t)) (λ i. term bytes (word bytes u i) ≡ child (term bytes u) i)
      there i low high = child_is bytes w.given.count w.given.table u w.given.below.1.0 i low (as_many i high)

      cut : (i : ℕ) → under (binders (tag_in (term bytes t)) i) k ≡ k + binders (tag_in (term bytes t)) i
      cut i = under_is (binders (tag_in (term bytes t)) i) k

  pub walk_end : row_arity bytes t < j → Decides true (term bytes u ≡ F k (term bytes t))
  walk_end h = says_yes (image_made F w.under k _ _ w.not_var w.heads (places.1 (visit_end w.visit h)))

  -- x and y are the children at the place that is compared, under b binders
  pub record Compared (b x y : ℕ) : Type 0 where
    pub below : x < t
    pub given : RowsInTable bytes (x ∷ y ∷ rest)
    pub next : term bytes y ≡ F (k + b) (term bytes x) → Walk bytes rest F k t u (j + 1)
    pub asked : term bytes u ≡ F k (term bytes t) → term bytes y ≡ F (k + b) (term bytes x)

  pub compared : {b x y : ℕ} → j ≤ row_arity bytes t → b ≡ binders (tag_in (term bytes t)) j
      → x ≡ word bytes t j → y ≡ word bytes u j → Compared b x y
  compared {b} {x} {y} h n e f =
      record {
        below = child.below;
        given =
            record {
              count = w.given.count;
              few = w.given.few;
              table = w.given.table;
              below = (omega (arith, child.below, w.given.below.0), (omega (arith, there, w.given.below.1.0), w.given.below.1.1));
            };
        next =
            λ i.
            record {
              given = w.given;
              under = w.under;
              not_var = w.not_var;
              heads = w.heads;
              visit = child.next (ap (term bytes) (sym f) ∙ i ∙ (λ p. F (k + n p) (term bytes x)));
            };
        asked =
            λ i.
            let all = places.0 (image_children F w.under k _ _ w.not_var i) in
            ap (term bytes) f ∙ child.part all ∙ (λ p. F (k + sym n p) (term bytes x));
      }
    where
      child : Visited w.visit x
      child = visit_child w.visit h e

      there : y < u
      there =
          let before = child_before bytes w.given.count w.given.table u w.given.below.1.0 j w.visit.from (as_many j h) in
          omega arith
