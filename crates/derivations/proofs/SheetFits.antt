-- From a good sheet to the limits: every term and every context of what it states has a row.
-- Assumes nothing.
use mathlib.Core.Path.{◌≡◌, refl, sym, ◌∙◌, ap, subst}
use mathlib.Core.Logic.{⊎_elim}
use mathlib.Core.List.Memᴰ
use mathlib.Core.List.{List, [], ◌∷◌, ◌++◌, map, flat_map}
use Prim.Native.Nat.{ℕ, zero, suc, ◌≤◌, ◌<◌}
use native.Mathlib.Omega.{arith}
use lib.ListN.{get_or, get_or-map}
use Rattle.terms.specs.Term.{Term, size}
use Rattle.terms.specs.FreeIndices.{InRange}
use Rattle.terms.specs.Tag.{Tag, none, Var, Univ, Pi, Lam, App, Sigma, Pair, First, Second, Nat, Zero, Succ, Ind, tag_of, shape}
use Rattle.terms.specs.Rows.{word, tag, term}
use Rattle.terms.specs.Table.{limit, TermTable}
use Rattle.terms.proofs.TermLaws.{spelled, downward, unfolded}
use Rattle.rules.specs.Judgment.{Context, Judgment, context_of, term?, list?}
use Rattle.rules.specs.Subjects.{subject_use, uses_subject, subjects_of, subjects}
use Rattle.rules.specs.Contexts.{parent_of, type_of, context, ContextTable}
use Rattle.rules.specs.Stated.{plain_judgment, stated}
use Rattle.rules.proofs.ContextTableLaws.{context_empty, context_step}
use Rattle.rules.proofs.SubjectLaws.{by_form}
use Rattle.rules.proofs.ArmLaws.{context_of_lem}
use Rattle.sheets.specs.Layout.{contexts_in}
use Rattle.sheets.specs.Lines.{judgment_of, line_at, stated_at}
use Rattle.sheets.specs.Good.{Good}
use Rattle.derivations.specs.Lists.{◌∈◌}
use Rattle.derivations.specs.Fits.{subterms, terms_of, beginnings, contexts_of, Fits}
use Rattle.terms.specs.Lists.{listed, selected}
use Rattle.sheets.specs.Accepted.{stated_by}
use Rattle.derivations.proofs.ListLaws.{Among, in_listed, of_listed, of_selected, of_flat}
use Rattle.derivations.proofs.DistinctLaws.{at_most_is}
use Rattle.derivations.proofs.Subterms.{of_children, of_subterms}
use Rattle.sheets.proofs.AcceptedLaws.{stated_is}
use Rattle.sheets.proofs.ListedLaws.{listed-length}
use Rattle.derivations.proofs.SheetDerives.{stated-length}

-- the index or level of a row that keeps its limit
in_range : (τ : Tag) (n w : ℕ) (x : ℕ → Term) → w < limit τ n 1 → InRange (shape τ w x)
unfolding limit shape InRange
in_range none n w x h = tt
in_range Var n w x h = omega arith
in_range Univ n w x h = omega arith
in_range Pi n w x h = tt
in_range Lam n w x h = tt
in_range App n w x h = tt
in_range Sigma n w x h = tt
in_range Pair n w x h = tt
in_range First n w x h = tt
in_range Second n w x h = tt
in_range Nat n w x h = tt
in_range Zero n w x h = tt
in_range Succ n w x h = tt
in_range Ind n w x h = tt

-- the terms of a table
module _ (b : List ℕ) (T : ℕ) (table : TermTable b T) where
  sub_row : (bound k : ℕ) → k < bound → k < T → (u : Term) → u ∈ subterms (term b k) → Among (term b) T u
  unfolding tag
  sub_row zero k l h u m = absurd (omega arith)
  sub_row (suc bound) k l h u m =
      ⊎_elim (λ e. (k, h, e ∙ sym (unfolded b T table k h)))
      (λ p.
      let c = of_children (tag_of (word b k 0)) (word b k 1) (λ j. term b (word b k j)) p.1 in
      let d = downward b T table k h (suc c.0) (omega arith) c.1 in
      sub_row bound (word b k (suc c.0)) (omega arith) (omega arith) u (subst (λ t. u ∈ subterms t) c.2 p.2))
      (of_subterms (spelled b (word b k)) (subst (λ t. u ∈ subterms t) (unfolded b T table k h) m))

  -- a subterm of a row's term has a row
  pub subterm_row : (t : Term) → Among (term b) T t → (u : Term) → u ∈ subterms t → Among (term b) T u
  subterm_row t a u m = sub_row (suc a.0) a.0 (omega arith) a.1 u (subst (λ w. u ∈ subterms w) a.2 m)

  pub row_range : (t : Term) → Among (term b) T t → InRange t
  unfolding tag
  row_range t a =
      subst InRange (sym (a.2 ∙ unfolded b T table a.0 a.1))
      (in_range (tag_of (word b a.0 0)) a.0 (word b a.0 1) (λ j. term b (word b a.0 j)) ((table.rows a.0 a.1).operands 1 (omega arith) (omega arith)))

  pub row_size_lem : (t : Term) → Among (term b) T t → size t ≤ 65535
  row_size_lem t a = subst (λ u. size u ≤ 65535) (sym a.2) (table.sizes a.0 a.1)

-- the contexts of a table
module _ (b cs : List ℕ) (T C : ℕ) (table : ContextTable cs T C) where
  step : (n : ℕ) → suc n ≤ C → context b cs (suc n) ≡ term b (type_of cs (suc n)) ∷ context b cs (parent_of cs (suc n))
  step n h = context_step b cs C (λ m low high. (table.rows m low high).earlier) (suc n) (omega arith) h

  entry_to : (bound n : ℕ) → n < bound → n ≤ C → (A : Term) → A ∈ context b cs n → Among (term b) T A
  entry_to zero n l h A m = absurd (omega arith)
  entry_to (suc bound) zero l h A m = absurd (Memᴰ.not-nil (subst (λ G. A ∈ G) (context_empty b cs) m))
  entry_to (suc bound) (suc n) l h A m =
      let r = table.rows (suc n) (omega arith) h in
      let p = r.earlier in
      ⊎_elim (λ e. (type_of cs (suc n), r.known, e)) (λ k. entry_to bound (parent_of cs (suc n)) (omega arith) (omega arith) A k)
      (Memᴰ.cases_cons (subst (λ G. A ∈ G) (step n h) m))

  -- the types of a context have rows
  pub entry_row : (n : ℕ) → n ≤ C → (A : Term) → A ∈ context b cs n → Among (term b) T A
  entry_row n h A m = entry_to (suc n) n (omega arith) h A m

  begin_to : (bound n : ℕ) → n < bound → n ≤ C → (G : Context) → G ∈ beginnings (context b cs n) → Among (λ k. context b cs (suc k)) C G
  unfolding beginnings
  begin_to zero n l h G m = absurd (omega arith)
  begin_to (suc bound) zero l h G m = absurd (Memᴰ.not-nil (subst (λ H. G ∈ beginnings H) (context_empty b cs) m))
  begin_to (suc bound) (suc n) l h G m =
      let p = (table.rows (suc n) (omega arith) h).earlier in
      ⊎_elim (λ e. (n, h, e ∙ sym (step n h))) (λ k. begin_to bound (parent_of cs (suc n)) (omega arith) (omega arith) G k)
      (Memᴰ.cases_cons (subst (λ H. G ∈ beginnings H) (step n h) m))

  -- the beginnings of a context have rows
  pub beginning_row : (n : ℕ) → n ≤ C → (G : Context) → G ∈ beginnings (context b cs n) → Among (λ k. context b cs (suc k)) C G
  beginning_row n h G m = begin_to (suc n) n (omega arith) h G m

-- the subjects of the judgment of a form
subjects_with : (f : ℕ) (G : Context) (s t u : Term)
    → subjects (plain_judgment f G s t u) ≡ selected (subject_use f) (s ∷ t ∷ u ∷ [])
unfolding plain_judgment subjects
subjects_with f G s t u =
    by_form (λ f. subjects (plain_judgment f G s t u) ≡ selected (subject_use f) (s ∷ t ∷ u ∷ []))
    refl refl refl refl refl refl refl (λ f. refl) f

module _ {b : List ℕ} {T C L : ℕ} (g : Good b T C L) where
  abbrev cs : List ℕ
  cs = contexts_in b T

  subject_row_lem : (i : ℕ) → i < L → (t : Term) → t ∈ subjects (stated_at b T C i) → Among (term b) T t
  unfolding stated_at stated uses_subject subjects_of
  subject_row_lem i h t m =
      let j = judgment_of (line_at b T C i) in
      let n = (g.lines i h).ok.numbers in
      of_selected (Among (term b) T) (subject_use j.form) (map (term b) (subjects_of j)) (term b 0)
      (λ k u. (get_or (subjects_of j) k 0, n.subjects k u, get_or-map (term b) (subjects_of j) k 0))
      (subst (λ l. t ∈ l) (subjects_with j.form _ _ _ _) m)

  context_is : (i : ℕ) → context_of (stated_at b T C i) ≡ context b cs (judgment_of (line_at b T C i)).context
  unfolding stated_at stated
  context_is i = let j = judgment_of (line_at b T C i) in context_of_lem j.form (context b cs j.context) (term b j.s1) (term b j.s2) (term b j.s3)

  -- each term of what the sheet states has a row
  pub term_row : (u : Term) → u ∈ terms_of (stated_by b) → Among (term b) T u
  unfolding terms_of
  term_row u m = on (of_flat (λ j. flat_map subterms (subjects j ++ context_of j)) (stated_by b) m)
    where
      named : (i : ℕ) → i < L → (t : Term) → t ∈ (subjects (stated_at b T C i) ++ context_of (stated_at b T C i)) → Among (term b) T t
      named i h t k =
          ⊎_elim (subject_row_lem i h t)
          (λ n. entry_row b cs T C g.tables.contexts (judgment_of (line_at b T C i)).context (g.lines i h).ok.numbers.within t (subst (λ G. t ∈ G) (context_is i) n))
          (Memᴰ.append_cases (subjects (stated_at b T C i)) k)

      at : (i : ℕ) → i < L → u ∈ flat_map subterms (subjects (stated_at b T C i) ++ context_of (stated_at b T C i)) → Among (term b) T u
      at i h k =
          let f = of_flat subterms (subjects (stated_at b T C i) ++ context_of (stated_at b T C i)) k in
          subterm_row b T g.tables.terms f.0 (named i h f.0 f.1) u f.2

      on : (j : Judgment) × (j ∈ stated_by b) × (u ∈ flat_map subterms (subjects j ++ context_of j)) → Among (term b) T u
      on f =
          let p = of_listed (stated_at b T C) L (subst (λ js. f.0 ∈ js) (stated_is g) f.1) in
          at p.0 p.1 (subst (λ j. u ∈ flat_map subterms (subjects j ++ context_of j)) p.2 f.2)

  -- each context of what the sheet states has a row
  pub context_row : (G : Context) → G ∈ contexts_of (stated_by b) → Among (λ k. context b cs (suc k)) C G
  unfolding contexts_of
  context_row G m =
      let f = of_flat (λ j. beginnings (context_of j)) (stated_by b) m in
      let p = of_listed (stated_at b T C) L (subst (λ js. f.0 ∈ js) (stated_is g) f.1) in
      beginning_row b cs T C g.tables.contexts (judgment_of (line_at b T C p.0)).context (g.lines p.0 p.1).ok.numbers.within G
      (subst (λ H. G ∈ beginnings H) (ap context_of p.2 ∙ context_is p.0) f.2)

  pub stated_fits : Fits (stated_by b)
  stated_fits =
      let laid = g.tables.laid in
      record {
        short = omega (arith, stated-length g, laid.few_lines);
        terms = (at_most_is term? 3072 (terms_of (stated_by b))).1
            (listed (term b) T, omega (arith, listed-length (term b) T, laid.few_terms), λ u m. let r = term_row u m in Memᴰ.cast r.2 (in_listed (term b) T r.0 r.1));
        contexts = (at_most_is (list? term?) 256 (contexts_of (stated_by b))).1 (
          listed (λ k. context b cs (suc k)) C,
          omega (arith, listed-length (λ k. context b cs (suc k)) C, laid.few_contexts),
          λ G m. let r = context_row G m in Memᴰ.cast r.2 (in_listed (λ k. context b cs (suc k)) C r.0 r.1),
        );
        ranges = λ t m. row_range b T g.tables.terms t (term_row t m);
        sizes = λ t m. row_size_lem b T g.tables.terms t (term_row t m);
      }
