-- The context that entries are counted from, and the rule table's demands on four premises, tested one by one.
-- Assumes nothing.
use mathlib.Core.Path.{◌≡◌, refl, sym, ◌∙◌, ap, subst₂}
use mathlib.Core.Logic.{◌↔◌}
use mathlib.Core.Bool.{Bool, true, ◌&&◌}
use mathlib.Core.List.{List, [], ◌∷◌, map}
use Prim.Native.Nat.{ℕ, zero, suc, ◌+◌, ◌≤◌, ◌<◌}
use native.Mathlib.Decide.{dec_le}
use native.Mathlib.Omega.{arith}
use borrow.Author.Tests.{eqb-true, eq-eqb}
use lib.Dec.{eqb}
use lib.ListN.{get_or, length, take, drop}
use Rattle.terms.specs.Decides.{Decides}
use Rattle.terms.specs.Lists.{AllBelow}
use Rattle.terms.proofs.Tests.{says_yes, decides_via, ◌&◌}
use Rattle.rules.specs.Judgment.{Context}
use Rattle.rules.specs.RuleTable.{IsRule, premise_count, premise_form, added_entries, demand, rule_row, counted_from, Adds}
use Rattle.rules.specs.Contexts.{parent_of, context, ContextsInTable}
use Rattle.rules.specs.Stated.{used_premises}
use Rattle.rules.specs.RuleChecks.{ShapedFrom, Shaped, rule_contexts}
use Rattle.rules.specs.declared.judgments.LineJudgment.{LineJudgment}
use Rattle.rules.specs.declared.table.Demand.{Demand}
use Rattle.rules.specs.declared.table.RuleRow.{RuleRow}
use Rattle.rules.proofs.TableLaws.{row_agrees, counted_same}
use Rattle.rules.proofs.ContextTableLaws.{context_empty}
use Rattle.rules.proofs.ContextTableAnswers.{other_contexts}
use Rattle.rules.proofs.ArmLaws.{Fits}
use Rattle.rules.proofs.AncestorLaws.{parent_step}

-- the row's fields by place
abbrev demand_at : RuleRow → ℕ → Demand
demand_at row j = get_or (row.p ∷ row.q ∷ row.r ∷ row.s ∷ []) j row.s

one_of_four : (f : ℕ → Demand) (j : ℕ) → j < 4 → get_or (f 0 ∷ f 1 ∷ f 2 ∷ f 3 ∷ []) j (f 3) ≡ f j
one_of_four f zero l = refl
one_of_four f (suc zero) l = refl
one_of_four f (suc (suc zero)) l = refl
one_of_four f (suc (suc (suc zero))) l = refl
one_of_four f (suc (suc (suc (suc j)))) l = absurd (omega arith)

module _ (terms contexts : List ℕ) where
  -- `counted_from`
  module _ (rule n : ℕ) where
    pub counted_itself : (rule ≡ 2 → ⊥) → context terms contexts n ≡ counted_from rule (context terms contexts n)
    counted_itself h = sym (counted_same rule (context terms contexts n) h)

    module _ (e : rule ≡ 2) where
      shorter : (G : Context) → counted_from rule G ≡ drop 1 G
      unfolding counted_from
      shorter G = rw (eq-eqb rule 2 e, counted_from)

      pub counted_empty : n ≡ 0 → context terms contexts n ≡ counted_from rule (context terms contexts n)
      counted_empty z = let f = ap (context terms contexts) z ∙ context_empty terms contexts in f ∙ sym (shorter (context terms contexts n) ∙ ap (drop 1) f)

      pub counted_parent : (above : ℕ) → ContextsInTable terms contexts (n ∷ []) → (n ≡ 0 → ⊥) → above ≡ parent_of contexts n
          → (context terms contexts above ≡ counted_from rule (context terms contexts n)) × (above ≤ n)
      counted_parent above g some f = (
        ap (context terms contexts) f ∙ sym (shorter (context terms contexts n) ∙ ap (drop 1) (parent_step terms contexts n [] g some)),
        omega (arith, g.within.0, (g.table.rows n (omega arith) (omega (arith, g.within.0))).earlier),
      )

  -- `fits_if_used`: what a place of the row asks of a premise, unless its form is 255
  module _ (base : ℕ) (d : Demand) (p : LineJudgment) where
    abbrev FitsFrom : Type 0
    FitsFrom = (d.form ≡ 255 → ⊥) → (p.form ≡ d.form) × Adds (context terms contexts p.context) (context terms contexts base) d.added

    pub unused_says : d.form ≡ 255 → Decides true FitsFrom
    unused_says e = says_yes (λ some. absurd (some e))

    pub fits_says : (b : Bool) → (d.form ≡ 255 → ⊥) → Decides b (Adds (context terms contexts p.context) (context terms contexts base) d.added)
        → Decides (eqb p.form d.form && b) FitsFrom
    fits_says b some says =
        decides_via (λ x k. x, λ f. f some) ((eqb-true p.form d.form, eq-eqb p.form d.form) & says)

  -- `shaped`: the demands on those of the premises that stand before place n
  module _ (rule : ℕ) (c : LineJudgment) where
    -- the context that entries are counted from
    abbrev from : Context
    from = counted_from rule (context terms contexts c.context)

    abbrev Asked : ℕ → ℕ → List LineJudgment → Type 0
    Asked n j [] = Unit {0}
    Asked n j (p ∷ ps) = (j < n → Fits terms contexts rule from p j) × Asked n (suc j) ps

    none_asked : (n j : ℕ) (ps : List LineJudgment) → n ≤ j → Asked n j ps
    none_asked n j [] h = tt
    none_asked n j (p ∷ ps) h = (λ l. absurd (omega arith), none_asked n (suc j) ps (omega arith))

    asked_shaped : (n j m : ℕ) (ps : List LineJudgment) → m ≡ j + n → Asked m j ps ↔ ShapedFrom terms contexts rule from j (take n ps)
    unfolding ShapedFrom
    asked_shaped zero j m ps e = (λ h. tt, λ h. none_asked m j ps (omega arith))
    asked_shaped (suc n) j m [] e = (λ h. tt, λ h. tt)
    asked_shaped (suc n) j m (p ∷ ps) e =
        let rest = asked_shaped n (suc j) m ps (omega arith) in
        (λ h. (h.0 (omega arith), rest.0 h.1), λ h. (λ l. h.0, rest.1 h.1))

    below_used : (bound n : ℕ) (ps : List LineJudgment) → AllBelow bound (map (λ k. k.context) (take n ps)) → (j : ℕ) → j < n → j < length ps → (get_or ps j c).context < bound
    below_used bound zero ps h j l m = absurd (omega arith)
    below_used bound (suc n) [] h j l m = absurd (omega arith)
    below_used bound (suc n) (p ∷ ps) h zero l m = h.0
    below_used bound (suc n) (p ∷ ps) h (suc j) l m = below_used bound n ps h.1 j (omega arith) (omega arith)

    -- over the row and the context that entries are counted from, as they were read
    module _ (known : IsRule rule) (row : RuleRow) (is_row : row ≡ rule_row rule) (base : ℕ)
        (is_base : (context terms contexts base ≡ from) × (base ≤ c.context)) (p q r s : LineJudgment) where
      abbrev premises : List LineJudgment
      premises = p ∷ q ∷ r ∷ s ∷ []

      demand_is : (j : ℕ) → j < 4 → demand_at row j ≡ demand rule j
      unfolding rule_row
      demand_is j l = ap (λ w. demand_at w j) is_row ∙ one_of_four (demand rule) j l

      form_is : (j : ℕ) → j < 4 → (demand_at row j).form ≡ premise_form rule j
      unfolding demand
      form_is j l = ap (λ d. d.form) (demand_is j l)

      added_is : (j : ℕ) → j < 4 → (demand_at row j).added ≡ added_entries rule j
      unfolding demand
      added_is j l = ap (λ d. d.added) (demand_is j l)

      -- a place asks for a premise where the rule uses one
      used_at : (j : ℕ) → j < 4 → ((demand_at row j).form ≡ 255 → ⊥) ↔ (j < premise_count rule)
      used_at j l = let marks = (row_agrees rule known).forms j l in (
        λ some. elim (dec_le (premise_count rule) j) [ yes m ↦ absurd (some (form_is j l ∙ marks.1 m)) | no m ↦ omega arith ],
        λ m e. let n : premise_count rule ≤ j = marks.0 (sym (form_is j l) ∙ e) in omega arith,
      )

      pub used_given : ContextsInTable terms contexts (rule_contexts (used_premises rule premises) c)
          → (j : ℕ) → j < 4 → ((demand_at row j).form ≡ 255 → ⊥) → ContextsInTable terms contexts ((get_or premises j c).context ∷ base ∷ [])
      unfolding used_premises
      used_given g j l some =
          other_contexts g
          (below_used (suc g.count) (premise_count rule) premises g.within.1 j ((used_at j l).0 some) l, (omega (arith, is_base.1, g.within.0), tt))

      as_asked : (j : ℕ) → j < 4 → (k : LineJudgment) {b : Bool} → Decides b (FitsFrom base (demand_at row j) k)
          → Decides b (j < premise_count rule → Fits terms contexts rule from k j)
      as_asked j l k d =
          decides_via (
            λ f m. let x = f ((used_at j l).1 m) in (x.0 ∙ form_is j l, subst₂ (Adds (context terms contexts k.context)) is_base.0 (added_is j l) x.1),
            λ f some. let x = f ((used_at j l).0 some) in (x.0 ∙ sym (form_is j l), subst₂ (Adds (context terms contexts k.context)) (sym is_base.0) (sym (added_is j l)) x.1),
          ) d

      pub shaped_says : {x y z w : Bool} → Decides x (FitsFrom base row.p p) → Decides y (FitsFrom base row.q q)
          → Decides z (FitsFrom base row.r r) → Decides w (FitsFrom base row.s s)
          → Decides (((x && y) && z) && w) (Shaped terms contexts rule premises c)
      unfolding used_premises
      shaped_says hx hy hz hw =
          decides_via (
            λ t. asked.0 (t.0.0.0, (t.0.0.1, (t.0.1, (t.1, tt)))),
            λ t. let u = asked.1 t in (((u.0, u.1.0), u.1.1.0), u.1.1.1.0),
          )
          (as_asked 0 (omega arith) p hx & as_asked 1 (omega arith) q hy & as_asked 2 (omega arith) r hz & as_asked 3 (omega arith) s hw)
        where
          asked : Asked (premise_count rule) 0 premises ↔ Shaped terms contexts rule premises c
          asked = asked_shaped (premise_count rule) 0 (premise_count rule) premises (omega arith)
