-- Two sheets with the same words before their lines: the tables of terms and of contexts are the same in both, and so
-- is what a judgment states.
-- Assumes nothing.
use mathlib.Core.Path.{◌≡◌, refl, sym, ◌∙◌, ap, subst, subst₂}
use mathlib.Core.Bool.{true}
use mathlib.Core.List.{List}
use Prim.Native.Nat.{ℕ, ◌+◌, ◌-◌, ◌*◌, ◌≤◌, ◌<◌}
use native.Mathlib.Omega.{arith}
use lib.ListN.{get_or, length, length-drop}
use Rattle.terms.specs.Term.{Term, size}
use Rattle.terms.specs.Tag.{tag_of}
use Rattle.terms.specs.Words.{word_at}
use Rattle.terms.specs.Rows.{word, tag, term}
use Rattle.terms.specs.Table.{limit, GoodRow, TermTable}
use Rattle.terms.proofs.TermLaws.{downward, same_term}
use Rattle.rules.specs.Judgment.{Context, wf, typed, equal, sub, normal, neutral, steps}
use Rattle.rules.specs.Subjects.{uses_subject, subjects_of}
use Rattle.rules.specs.Contexts.{parent_of, type_of, context, ContextTable}
use Rattle.rules.specs.Stated.{stated, Numbered, plain_judgment}
use Rattle.rules.specs.declared.judgments.LineJudgment.{LineJudgment}
use Rattle.rules.proofs.SubjectLaws.{by_form}
use Rattle.rules.proofs.ContextTableLaws.{same_context}
use Rattle.sheets.specs.Layout.{contexts_in}
use Rattle.sheets.proofs.WrittenLaws.{word-drop}

-- the same subjects that the form uses, in the same context
judgment_same : (form : ℕ) {G H : Context} (x y : ℕ → Term) → G ≡ H → ((k : ℕ) → uses_subject form k ≡ true → x k ≡ y k)
    → plain_judgment form G (x 0) (x 1) (x 2) ≡ plain_judgment form H (y 0) (y 1) (y 2)
unfolding plain_judgment uses_subject
judgment_same form {G} {H} x y e =
    by_form
    (λ form. ((k : ℕ) → uses_subject form k ≡ true → x k ≡ y k)
    → plain_judgment form G (x 0) (x 1) (x 2) ≡ plain_judgment form H (y 0) (y 1) (y 2))
    (λ s. ap wf e)
    (λ s i. typed (e i) (s 0 refl i) (s 2 refl i))
    (λ s i. equal (e i) (s 0 refl i) (s 1 refl i) (s 2 refl i))
    (λ s i. sub (e i) (s 0 refl i) (s 1 refl i))
    (λ s i. normal (e i) (s 0 refl i))
    (λ s i. neutral (e i) (s 0 refl i))
    (λ s i. steps (e i) (s 0 refl i) (s 1 refl i))
    (λ form s. ap wf e)
    form

module _ (b new : List ℕ) (T C : ℕ) (terms : TermTable b T) (contexts : ContextTable (contexts_in b T) T C)
    (same : (i : ℕ) → i < 5 * T + 2 * C → word_at b i ≡ word_at new i) where
  -- the terms
  row_same : (r j : ℕ) → r < T → j < 5 → word b r j ≡ word new r j
  unfolding word
  row_same r j h k = same (5 * r + j) (omega arith)

  pub term_same : (t : ℕ) → t < T → term b t ≡ term new t
  term_same t h = same_term b T (downward b T terms) new row_same t h

  good_row : (r : ℕ) → r < T → GoodRow b r → GoodRow new r
  unfolding tag
  good_row r h o =
      record {
        low = subst (λ w. 1 ≤ w) (row_same r 0 h (omega arith)) o.low;
        high = subst (λ w. w ≤ 13) (row_same r 0 h (omega arith)) o.high;
        operands = λ j low high.
            subst₂ (λ w t. w < limit (tag_of t) r j) (row_same r j h (omega arith)) (row_same r 0 h (omega arith))
            (o.operands j low high);
      }

  -- the contexts
  context_word : (i : ℕ) → i < 2 * C → word_at (contexts_in b T) i ≡ word_at (contexts_in new T) i
  unfolding contexts_in
  context_word i h =
      word-drop b (10 * T) (5 * T) i (omega arith) ∙ same (5 * T + i) (omega arith)
      ∙ sym (word-drop new (10 * T) (5 * T) i (omega arith))

  parent_same : (k : ℕ) → 1 ≤ k → k ≤ C → parent_of (contexts_in b T) k ≡ parent_of (contexts_in new T) k
  unfolding parent_of
  parent_same k low high = context_word (2 * (k - 1)) (omega arith)

  type_same : (k : ℕ) → 1 ≤ k → k ≤ C → type_of (contexts_in b T) k ≡ type_of (contexts_in new T) k
  unfolding type_of
  type_same k low high = context_word (2 * (k - 1) + 1) (omega arith)

  pub context_same : (k : ℕ) → k ≤ C → context b (contexts_in b T) k ≡ context new (contexts_in new T) k
  context_same k h =
      same_context b (contexts_in b T) C (λ m low high. (contexts.rows m low high).earlier) new (contexts_in new T)
      parent_same
      (λ m low high. term_same _ (contexts.rows m low high).known ∙ ap (term new) (type_same m low high)) k h

  -- what a judgment states
  pub stated_same : (j : LineJudgment) → Numbered T C j → stated b (contexts_in b T) j ≡ stated new (contexts_in new T) j
  unfolding stated subjects_of
  stated_same j k =
      let at : ℕ → ℕ = λ i. get_or (subjects_of j) i 0 in
      judgment_same j.form (λ i. term b (at i)) (λ i. term new (at i)) (context_same j.context k.within)
      (λ i h. term_same (at i) (k.subjects i h))

  -- the tables, if they are whole
  module _ (long : 10 * T + 4 * C ≤ length new) where
    pub terms_same : TermTable new T
    terms_same =
        record {
          whole = omega arith;
          rows = λ r h. good_row r h (terms.rows r h);
          distinct = λ r s h k e. terms.distinct r s h k (λ j l. row_same r j h l ∙ e j l ∙ sym (row_same s j k l));
          sizes = λ r h. subst (λ u. size u ≤ 65535) (term_same r h) (terms.sizes r h);
        }

    pub contexts_same : ContextTable (contexts_in new T) T C
    unfolding contexts_in
    contexts_same =
        record {
          whole = omega (arith, length-drop (10 * T) new);
          rows = λ k low high.
              record {
                earlier = subst (λ p. p < k) (parent_same k low high) (contexts.rows k low high).earlier;
                known = subst (λ p. p < T) (type_same k low high) (contexts.rows k low high).known;
              };
          distinct = λ k m a c d e s.
              contexts.distinct k m a c d e
              (parent_same k a c ∙ s.0 ∙ sym (parent_same m d e), type_same k a c ∙ s.1 ∙ sym (type_same m d e));
        }
