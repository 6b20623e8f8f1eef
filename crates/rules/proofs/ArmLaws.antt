-- From what the rule table asks to the instance: where the premises are shaped, the placed instance is the instance;
-- every instance is shaped; and the numbers that a rule's forms use are in range.
-- Assumes nothing.
use mathlib.Core.Path.{◌≡◌, refl, sym, ◌∙◌, ap, ap₂, subst, subst₂, subst₃}
use mathlib.Core.Logic.{◌↔◌}
use mathlib.Core.Bool.{Bool, true, false}
use mathlib.Core.List.{List, [], ◌∷◌, ◌++◌, map}
use Prim.Native.Nat.{ℕ, zero, suc, ◌+◌, ◌≤◌, ◌<◌}
use native.Mathlib.Omega.{arith}
use borrow.Author.Tests.{eqb-true}
use lib.Dec.{eqb}
use lib.ListN.{get_or, length, take, length-map, get_or-map}
use Rattle.terms.specs.Decides.{Decides}
use Rattle.terms.specs.Term.{Term}
use Rattle.terms.specs.Lists.{AllBelow, selected}
use Rattle.terms.specs.Table.{RowsInTable}
use Rattle.terms.proofs.Tests.{decides_via, refuted, says_no}
use Rattle.rules.specs.Judgment.{Context, Judgment, form, context_of}
use Rattle.rules.specs.Subjects.{last_form, subject_use, uses_subject, subjects_of, used_subjects}
use Rattle.rules.specs.RuleTable.{premise_form, added_entries, form_of, counted_from, Adds, FitsRow}
use Rattle.rules.specs.Instance.{Instance}
use Rattle.rules.specs.Contexts.{context, ContextsInTable}
use Rattle.rules.specs.Stated.{last_form_in_context, plain_judgment, stated_in, stated, Numbered, used_premises, Follows, AllNumbered}
use Rattle.rules.specs.RuleChecks.{ShapedFrom, Shaped, LineInTables, subjects_from, rule_subjects, rule_contexts, RuleInTables, placed_from, FollowsIn, FollowsPlaced, SubjectsInTable, DecidesInEmpty}
use Rattle.rules.specs.declared.judgments.LineJudgment.{LineJudgment}
use Rattle.rules.proofs.SubjectLaws.{by_form}
use Rattle.rules.proofs.TableFitsLaws.{row_fits}
use Rattle.rules.proofs.ContextTableLaws.{context_empty}
use Rattle.rules.proofs.ContextTableAnswers.{other_contexts, rows_known}

-- the first of several premises
pub numbered_taken : (term_count count k : ℕ) (ps : List LineJudgment) → AllNumbered term_count count ps
    → AllNumbered term_count count (take k ps)
numbered_taken term_count count zero ps h = tt
numbered_taken term_count count (suc k) [] h = tt
numbered_taken term_count count (suc k) (p ∷ ps) h = (h.0, numbered_taken term_count count k ps h.1)

-- no entries added: the same context
pub adds_none : {H G : Context} {n : ℕ} → Adds H G n → n ≡ 0 → H ≡ G
adds_none {H} {G} a e = joins a.new (a.many ∙ e) a.joined
  where
    joins : (new : Context) → length new ≡ 0 → H ≡ new ++ G → H ≡ G
    joins [] l j = j
    joins (A ∷ new) l j = absurd (omega arith)

-- the context of a placed premise is its own
own : {H G : Context} (n : ℕ) (b : Bool) → eqb n 0 ≡ b → Adds H G n → ◌≡◌ {A = Context} (elim b [ true ↦ G | false ↦ H ]) H
own n true e a = sym (adds_none a (eqb-true n 0 e))
own n false e a = refl

-- the form and the context that a judgment is made of
pub form_of_lem : (f : ℕ) (G : Context) (a b A : Term) → f ≤ last_form → form (plain_judgment f G a b A) ≡ f
unfolding plain_judgment form
form_of_lem f G a b A =
    by_form (λ f. f ≤ last_form → form (plain_judgment f G a b A) ≡ f) (λ h. refl) (λ h. refl) (λ h. refl) (λ h. refl)
    (λ h. refl) (λ h. refl) (λ h. refl) (λ f h. absurd (omega arith)) f

pub context_of_lem : (f : ℕ) (G : Context) (a b A : Term) → context_of (plain_judgment f G a b A) ≡ G
unfolding plain_judgment context_of
context_of_lem f G a b A =
    by_form (λ f. context_of (plain_judgment f G a b A) ≡ G) refl refl refl refl refl refl refl (λ f. refl) f

both_below : (count : ℕ) (ns ms : List ℕ) → AllBelow count ns → AllBelow count ms → AllBelow count (ns ++ ms)
both_below count [] ms h k = k
both_below count (n ∷ ns) ms h k = (h.0, both_below count ns ms h.1 k)

-- the subjects that are marked as used
below_selected : (count : ℕ) (used : List Bool) (ns : List ℕ) → ((k : ℕ) → get_or used k false ≡ true → get_or ns k 0 < count)
    → AllBelow count (selected used ns)
unfolding selected
below_selected count [] ns h = tt
below_selected count (b ∷ used) [] h = tt
below_selected count (true ∷ used) (n ∷ ns) h = (h 0 refl, below_selected count used ns (λ k. h (suc k)))
below_selected count (false ∷ used) (n ∷ ns) h = below_selected count used ns (λ k. h (suc k))

module _ (term_count count : ℕ) where
  pub subjects_below : (f : ℕ) (j : LineJudgment) → Numbered term_count count j → j.form ≡ f → AllBelow term_count (used_subjects f j)
  unfolding used_subjects uses_subject
  subjects_below f j h e =
      subst (λ m. AllBelow term_count (used_subjects m j)) e (below_selected term_count (subject_use j.form) (subjects_of j) h.subjects)

  contexts_below : (ps : List LineJudgment) → AllNumbered term_count count ps → AllBelow (suc count) (map (λ p. p.context) ps)
  contexts_below [] h = tt
  contexts_below (p ∷ ps) h = (let l = h.0.within in omega arith, contexts_below ps h.1)

  form_known : (d : LineJudgment) (ps : List LineJudgment) → AllNumbered term_count count ps → (k : ℕ) → k < length ps → (get_or ps k d).form ≤ last_form
  form_known d [] h k l = absurd (omega arith)
  form_known d (p ∷ ps) h zero l = h.0.form
  form_known d (p ∷ ps) h (suc k) l = form_known d ps h.1 k (omega arith)

module _ (terms contexts : List ℕ) (rule : ℕ) (G : Context) where
  -- what the table asks of the premise p at place j
  abbrev pub Fits : LineJudgment → ℕ → Type 0
  Fits p j = (p.form ≡ premise_form rule j) × Adds (context terms contexts p.context) G (added_entries rule j)

  placed_same : (j : ℕ) (ps : List LineJudgment) → ShapedFrom terms contexts rule G j ps
      → placed_from terms contexts rule G j ps ≡ map (stated terms contexts) ps
  unfolding ShapedFrom placed_from stated
  placed_same j [] h = refl
  placed_same j (p ∷ ps) h =
      ap₂ ◌∷◌
      (ap₂ (λ f H. stated_in terms f H p) (sym h.0.0) (own (added_entries rule j) (eqb (added_entries rule j) 0) refl h.0.1))
      (placed_same (suc j) ps h.1)

  shaped_from : (j : ℕ) (ps : List LineJudgment) (d : LineJudgment) → ((k : ℕ) → k < length ps → Fits (get_or ps k d) (j + k))
      → ShapedFrom terms contexts rule G j ps
  unfolding ShapedFrom
  shaped_from j [] d h = tt
  shaped_from j (p ∷ ps) d h = (
    subst (Fits p) (omega arith) (h 0 (omega arith)),
    shaped_from (suc j) ps d (λ k l. subst (Fits (get_or ps k d)) (omega arith) (h (suc k) (omega arith))),
  )

  subjects_from_lem : (term_count count j : ℕ) (ps : List LineJudgment) → AllNumbered term_count count ps
      → ShapedFrom terms contexts rule G j ps → AllBelow term_count (subjects_from rule j ps)
  unfolding ShapedFrom subjects_from
  subjects_from_lem term_count count j [] h k = tt
  subjects_from_lem term_count count j (p ∷ ps) h k =
      both_below term_count (used_subjects (premise_form rule j) p) (subjects_from rule (suc j) ps)
      (subjects_below term_count count (premise_form rule j) p h.0 k.0.0) (subjects_from_lem term_count count (suc j) ps h.1 k.1)

module _ (terms contexts : List ℕ) (rule : ℕ) (premises : List LineJudgment) (c : LineJudgment) where
  -- the premises that the rule uses
  abbrev used : List LineJudgment
  used = used_premises rule premises

  -- the context that entries are counted from
  abbrev base : Context
  base = counted_from rule (context terms contexts c.context)

  placed : c.form ≡ form_of rule → Shaped terms contexts rule premises c
      → FollowsPlaced terms contexts rule used c ↔ Follows terms contexts rule premises c
  unfolding Follows FollowsIn stated
  placed e h = (subst₂ (Instance rule) same ends, subst₂ (Instance rule) (sym same) (sym ends))
    where
      same : placed_from terms contexts rule base 0 used ≡ map (stated terms contexts) used
      same = placed_same terms contexts rule base 0 used h

      at_form : ℕ → Judgment
      at_form f = stated_in terms f (context terms contexts c.context) c

      ends : at_form (form_of rule) ≡ stated terms contexts c
      ends = ap at_form (sym e)

  -- what an instance says of the table's row
  module _ (i : Follows terms contexts rule premises c) where
    fits : FitsRow rule (map (stated terms contexts) used) (stated terms contexts c)
    unfolding Follows
    fits = row_fits i

    unshaped : (term_count count : ℕ) → AllNumbered term_count count used → Shaped terms contexts rule premises c
    unfolding stated
    unshaped term_count count h = shaped_from terms contexts rule base 0 used c at
      where
        stands : (k : ℕ) → get_or (map (stated terms contexts) used) k (stated terms contexts c) ≡ stated terms contexts (get_or used k c)
        stands k = get_or-map (stated terms contexts) used k c

        at : (k : ℕ) → k < length used → Fits terms contexts rule base (get_or used k c) (0 + k)
        at k l =
            let m : k < length (map (stated terms contexts) used) = omega (arith, length-map used (stated terms contexts)) in (
              sym (form_of_lem (get_or used k c).form _ _ _ _ (form_known term_count count c used h k l)) ∙ sym (ap form (stands k))
                  ∙ fits.forms k m ∙ ap (premise_form rule) (omega arith),
              subst₃ Adds (ap context_of (stands k) ∙ context_of_lem (get_or used k c).form _ _ _ _)
                  (ap (counted_from rule) (context_of_lem c.form _ _ _ _)) (ap (added_entries rule) (omega arith)) (fits.added k m),
            )

  -- the contexts of the conclusion and of the premises
  contexts_known : (term_count count : ℕ) → Numbered term_count count c → AllNumbered term_count count used
      → AllBelow (suc count) (rule_contexts used c)
  contexts_known term_count count ends h = (let l = ends.within in omega arith, contexts_below term_count count used h)

-- over a line that keeps the layout
module _ {terms contexts : List ℕ} {rule : ℕ} {premises : List LineJudgment} {c : LineJudgment} (g : LineInTables terms contexts rule premises c) where
  -- what `shaped` asks for
  pub shaped_given : ContextsInTable terms contexts (rule_contexts (used_premises rule premises) c)
  shaped_given =
      let tables = g.given in
      other_contexts tables (contexts_known terms contexts rule premises c tables.term_count tables.count g.conclusion g.used)

  -- where the premises are not shaped it does not follow
  pub wrong_shape : {r : Bool} → Decides r (Shaped terms contexts rule premises c) → r ≡ false → Decides false (Follows terms contexts rule premises c)
  wrong_shape d f = says_no (λ i. refuted d f (unshaped terms contexts rule premises c i g.given.term_count g.given.count g.used))

-- the arm of a `match` at rule n, over a line that keeps the layout and whose premises are shaped
module _ {terms contexts : List ℕ} {rule : ℕ} {premises : List LineJudgment} {c : LineJudgment}
    (g : LineInTables terms contexts rule premises c) (shaped : Shaped terms contexts rule premises c) {n : ℕ} (e : rule ≡ n) where
  pub by_arm : {r : Bool} → Decides r (FollowsPlaced terms contexts n (used_premises n premises) c) → Decides r (Follows terms contexts rule premises c)
  by_arm {r} d =
      decides_via (placed terms contexts rule premises c g.concludes shaped)
      (subst (λ m. Decides r (FollowsPlaced terms contexts m (used_premises m premises) c)) (sym e) d)

  rows_below : AllBelow g.given.term_count (rule_subjects n (used_premises n premises) c)
  unfolding rule_subjects
  rows_below =
      let ps = used_premises rule premises in
      subst (λ m. AllBelow g.given.term_count (rule_subjects m (used_premises m premises) c)) e
      (both_below g.given.term_count (used_subjects (form_of rule) c) (subjects_from rule 0 ps)
      (subjects_below g.given.term_count g.given.count (form_of rule) c g.conclusion g.concludes)
      (subjects_from_lem terms contexts rule (counted_from rule (context terms contexts c.context)) g.given.term_count g.given.count 0 ps g.used shaped))

  pub given_arm : RuleInTables terms contexts n (used_premises n premises) c
  given_arm =
      record {
        given = record {
          term_count = g.given.term_count;
          few_terms = g.given.few_terms;
          term_table = g.given.term_table;
          count = g.given.count;
          few = g.given.few;
          table = g.given.table;
          within = subst (λ m. AllBelow (suc g.given.count) (rule_contexts (used_premises m premises) c)) e
              (contexts_known terms contexts rule premises c g.given.term_count g.given.count g.conclusion g.used);
        };
        below = rows_below;
      }

-- the group of a rule that holds in the empty context alone: what it is given, and what its answer decides
module _ {terms contexts : List ℕ} {rule : ℕ} {premises : List LineJudgment} {c : LineJudgment}
    (line : LineInTables terms contexts rule premises c) (shaped : Shaped terms contexts rule premises c) where
  pub given_empty : SubjectsInTable terms rule premises c
  given_empty = record { rows = rows_known (given_arm line shaped refl) }

  pub by_group : {r : Bool} → last_form_in_context < form_of rule → DecidesInEmpty r terms rule premises c
      → Decides r (Follows terms contexts rule premises c)
  by_group {r} behind d =
      by_arm line shaped refl
      (subst (λ G. Decides r (FollowsIn terms contexts rule G (used_premises rule premises) c)) (sym empty) (d contexts))
    where
      empty : context terms contexts c.context ≡ []
      empty =
          let form : last_form_in_context < c.form = subst (λ f. last_form_in_context < f) (sym line.concludes) behind in
          ap (context terms contexts) (line.conclusion.empty form) ∙ context_empty terms contexts

-- the arm of a `match` at rule n in such a group
module _ {terms : List ℕ} {rule : ℕ} {premises : List LineJudgment} {c : LineJudgment}
    (given : SubjectsInTable terms rule premises c) {n : ℕ} (e : rule ≡ n) where
  -- the rows of the rule's subjects
  pub arm_rows : RowsInTable terms (rule_subjects n (used_premises n premises) c)
  arm_rows = subst (λ m. RowsInTable terms (rule_subjects m (used_premises m premises) c)) e given.rows

  -- by the rule's own check
  pub by_check : {r : Bool} → DecidesInEmpty r terms n premises c → DecidesInEmpty r terms rule premises c
  by_check {r} d = subst (λ m. DecidesInEmpty r terms m premises c) (sym e) d

  -- by the rule's law, where that is one test
  pub by_law : {r : Bool} {P : Type 0}
      → ((contexts : List ℕ) → FollowsIn terms contexts n [] (used_premises n premises) c ↔ P)
      → Decides r P → DecidesInEmpty r terms rule premises c
  by_law law d = by_check (λ contexts. decides_via ((law contexts).1, (law contexts).0) d)
