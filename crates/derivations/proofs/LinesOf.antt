-- The line of a judgment, by the numbers of its terms, of its context and of its premises' places: it keeps the layout
-- and states the judgment again.
-- Assumes nothing.
use mathlib.Core.Path.{◌≡◌, refl, sym, ◌∙◌, ap, subst}
use mathlib.Core.Logic.{inl, inr}
use mathlib.Core.Bool.{true, false}
use mathlib.Core.List.Memᴰ.{head as here}
use mathlib.Core.List.Memᴰ.{tail as there}
use mathlib.Core.List.{List, [], ◌∷◌, map}
use Prim.Native.Nat.{ℕ, zero, suc, ◌≤◌, ◌<◌}
use native.Mathlib.Decide.{dec_lt}
use native.Mathlib.Omega.{arith}
use lib.ListN.{length, get_or, take, get_or-eq_default}
use Rattle.terms.specs.Term.{Term, zer}
use Rattle.terms.specs.Rows.{term}
use Rattle.terms.specs.Lists.{AllBelow}
use Rattle.terms.proofs.Tests.{either}
use Rattle.rules.specs.Judgment.{Context, Judgment, wf, typed, equal, sub, normal, neutral, steps, form, context_of, s1, s2, s3, term?}
use Rattle.rules.specs.Subjects.{last_form, subject_use, uses_subject, subjects_of, subjects}
use Rattle.rules.specs.Instance.{Instance}
use Rattle.rules.specs.RuleTable.{IsRule, premise_count}
use Rattle.rules.specs.Editions.{row_in}
use Rattle.rules.specs.Contexts.{context}
use Rattle.rules.specs.Stated.{stated}
use Rattle.rules.proofs.SubjectLaws.{unused_past, by_place, used_small}
use Rattle.rules.proofs.TableFitsLaws.{row_fits}
use Rattle.rules.proofs.TableLaws.{row_agrees, form_small}
use Rattle.rules.proofs.EmptyContextLaws.{empty_context}
use Rattle.rules.proofs.EditionLaws.{last_most, row_known}
use Rattle.sheets.specs.declared.lines.Line.{Line}
use Rattle.sheets.specs.Lines.{line_word, line_of, judgment_of, premises_of, cited_by}
use Rattle.sheets.specs.GoodLines.{LineOk}
use Rattle.sheets.proofs.BelowLaws.{below_at}
use Rattle.derivations.specs.Lists.{◌∈◌}
use Rattle.derivations.proofs.ListLaws.{in_selected}
use Rattle.derivations.proofs.Numbering.{number, number_below}
use Rattle.derivations.proofs.ContextTableOf.{context_number, number_empty, Listed, context_number_most}

-- the ten words of a line, one of them the rule's number, for which the edition has the row that the line is judged by
pub column : ℕ → Line → ℕ → ℕ
column word l k = get_or (l.form ∷ word ∷ l.context ∷ l.s1 ∷ l.s2 ∷ l.s3 ∷ l.p0 ∷ l.p1 ∷ l.p2 ∷ l.p3 ∷ []) k 0

pub line_read : (edition : ℕ) (lines : List ℕ) (n word : ℕ) (l : Line) → row_in edition word ≡ l.rule
    → ((k : ℕ) → k < 10 → line_word lines n k ≡ column word l k) → line_of edition lines n ≡ l
unfolding line_of column
line_read edition lines n word l row h =
    λ i. record {
      form = h 0 (omega arith) i;
      rule = (ap (row_in edition) (h 1 (omega arith)) ∙ row) i;
      context = h 2 (omega arith) i;
      s1 = h 3 (omega arith) i;
      s2 = h 4 (omega arith) i;
      s3 = h 5 (omega arith) i;
      p0 = h 6 (omega arith) i;
      p1 = h 7 (omega arith) i;
      p2 = h 8 (omega arith) i;
      p3 = h 9 (omega arith) i;
    }

-- a line that keeps the layout has small words; word is its rule's number
module _ {l : Line} {n T C : ℕ} (ok : LineOk l n T C) (few : n ≤ 1024) (terms : T ≤ 3072) (contexts : C ≤ 256)
    (edition word : ℕ) (row : row_in edition word ≡ l.rule) where
  premise_small : (j : ℕ) → j < 4 → get_or (premises_of l) j 0 < 65536
  premise_small j h =
      elim (dec_lt j (premise_count l.rule)) [
        | yes u ↦ omega (arith, ok.earlier j h u)
        | no u ↦ omega (arith, ok.unused_premise j h (omega arith))
      ]

  subject_small : (k : ℕ) → get_or (subjects_of (judgment_of l)) k 0 < 65536
  subject_small k =
      elim (either (uses_subject (judgment_of l).form k)) [
        | inl u ↦ omega (arith, ok.numbers.subjects k u)
        | inr u ↦ omega (arith, ok.unused_subject k u)
      ]

  pub line_small : (k : ℕ) → column word l k < 65536
  unfolding column judgment_of subjects_of premises_of
  line_small zero = omega (arith, ok.numbers.form)
  line_small (suc zero) =
      let admitted = ((row_known edition word).0 (subst IsRule (sym row) ok.rule)).1 in
      omega (arith, admitted, last_most edition)
  line_small (suc (suc zero)) = omega (arith, ok.numbers.within)
  line_small (suc (suc (suc zero))) = subject_small 0
  line_small (suc (suc (suc (suc zero)))) = subject_small 1
  line_small (suc (suc (suc (suc (suc zero))))) = subject_small 2
  line_small (suc (suc (suc (suc (suc (suc zero)))))) = premise_small 0 (omega arith)
  line_small (suc (suc (suc (suc (suc (suc (suc zero))))))) = premise_small 1 (omega arith)
  line_small (suc (suc (suc (suc (suc (suc (suc (suc zero)))))))) = premise_small 2 (omega arith)
  line_small (suc (suc (suc (suc (suc (suc (suc (suc (suc zero))))))))) = premise_small 3 (omega arith)
  line_small (suc (suc (suc (suc (suc (suc (suc (suc (suc (suc k)))))))))) = omega arith

-- the subject at a place
abbrev subject_at : Judgment → ℕ → Term
subject_at j k = get_or (s1 j ∷ s2 j ∷ s3 j ∷ []) k zer

-- its row, 0 where the form does not use it
subject_row : List Term → Judgment → ℕ → ℕ
subject_row D j k = elim (uses_subject (form j) k) [ true ↦ number term? D (subject_at j k) | false ↦ 0 ]

-- the line
pub line_for : List Term → List Context → Judgment → ℕ → List ℕ → Line
line_for D E j rule places =
    record {
      form = form j;
      rule = rule;
      context = context_number E (context_of j);
      s1 = subject_row D j 0;
      s2 = subject_row D j 1;
      s3 = subject_row D j 2;
      p0 = get_or places 0 0;
      p1 = get_or places 1 0;
      p2 = get_or places 2 0;
      p3 = get_or places 3 0;
    }

-- its rule is the row that was given
pub line_rule : (D : List Term) (E : List Context) (j : Judgment) (rule : ℕ) (places : List ℕ)
    → rule ≡ (line_for D E j rule places).rule
unfolding line_for
line_rule D E j rule places = refl

abbrev pub SubjectsIn : List Term → Judgment → Type 0
SubjectsIn D j = (t : Term) → t ∈ subjects j → t ∈ D

in_subjects : (j : Judgment) (k : ℕ) → uses_subject (form j) k ≡ true → subject_at j k ∈ subjects j
unfolding subjects uses_subject
in_subjects j k u = in_selected (subject_use (form j)) (s1 j ∷ s2 j ∷ s3 j ∷ []) k zer (used_small (form j) k u) u

module _ (D : List Term) (j : Judgment) where
  row_unused : (k : ℕ) → uses_subject (form j) k ≡ false → subject_row D j k ≡ 0
  unfolding subject_row
  row_unused k u = rw (u, subject_row)

  row_below : SubjectsIn D j → (k : ℕ) → uses_subject (form j) k ≡ true → subject_row D j k < length D
  unfolding subject_row
  row_below s k u = rw (u, subject_row) (number_below term? D (subject_at j k) (s (subject_at j k) (in_subjects j k u)))

  abbrev rows : List ℕ
  rows = subject_row D j 0 ∷ subject_row D j 1 ∷ subject_row D j 2 ∷ []

  row_at : (k : ℕ) → subject_row D j k ≡ get_or rows k 0
  row_at =
      by_place (λ k. subject_row D j k ≡ get_or rows k 0) refl refl refl
      (λ k. row_unused (suc (suc (suc k))) (unused_past (form j) k))

four_places : (places : List ℕ) (j : ℕ) → j < 4 → get_or (get_or places 0 0 ∷ get_or places 1 0 ∷ get_or places 2 0 ∷ get_or places 3 0 ∷ []) j 0 ≡ get_or places j 0
four_places places zero h = refl
four_places places (suc zero) h = refl
four_places places (suc (suc zero)) h = refl
four_places places (suc (suc (suc zero))) h = refl
four_places places (suc (suc (suc (suc j)))) h = absurd (omega arith)

take_places : (places : List ℕ) → length places ≤ 4 → take (length places) (get_or places 0 0 ∷ get_or places 1 0 ∷ get_or places 2 0 ∷ get_or places 3 0 ∷ []) ≡ places
take_places [] h = refl
take_places (a ∷ []) h = refl
take_places (a ∷ b ∷ []) h = refl
take_places (a ∷ b ∷ c ∷ []) h = refl
take_places (a ∷ b ∷ c ∷ d ∷ []) h = refl
take_places (a ∷ b ∷ c ∷ d ∷ e ∷ l) h = absurd (omega arith)

-- of an instance whose premises stand at the given places
module _ (D : List Term) (E : List Context) {rule : ℕ} {ps : List Judgment} {j : Judgment} (i : Instance rule ps j) (places : List ℕ) (same : length ps ≡ length places) where
  count_is : premise_count rule ≡ length places
  count_is = sym (row_fits i).count ∙ same

  count_most : length places ≤ 4
  count_most = omega (arith, count_is, (row_agrees rule (row_fits i).known).count)

  cited_is : cited_by (line_for D E j rule places) ≡ places
  unfolding cited_by premises_of line_for
  cited_is = ap (λ k. take k (get_or places 0 0 ∷ get_or places 1 0 ∷ get_or places 2 0 ∷ get_or places 3 0 ∷ [])) count_is ∙ take_places places count_most

  pub line_instance : (f : ℕ → Judgment) (c : Judgment) → Instance rule (map f places) c
      → Instance (line_for D E j rule places).rule (map f (cited_by (line_for D E j rule places))) c
  unfolding line_for
  line_instance f c h = subst (λ l. Instance rule (map f l) c) (sym cited_is) h

  pub line_ok : (n : ℕ) → AllBelow n places → SubjectsIn D j → Listed E (context_of j) → LineOk (line_for D E j rule places) n (length D) (length E)
  unfolding line_for judgment_of subjects_of premises_of
  line_ok n b s c =
      let f = row_fits i in
      let concludes = f.concludes ∙ (row_agrees rule f.known).concludes in
      record {
        rule = f.known;
        form = concludes;
        numbers = record {
          form = subst (λ m. m ≤ last_form) (sym concludes) (form_small rule f.known);
          within = context_number_most E (context_of j) c;
          empty = λ h. ap (context_number E) (empty_context i h) ∙ number_empty E;
          subjects = λ k u. subst (λ r. r < length D) (row_at D j k) (row_below D j s k u);
        };
        unused_subject = λ k u. sym (row_at D j k) ∙ row_unused D j k u;
        earlier = λ k h l. subst (λ p. p < n) (sym (four_places places k h)) (below_at n places b k (omega (arith, count_is)));
        unused_premise = λ k h l. four_places places k h ∙ get_or-eq_default places 0 {n = k} (omega (arith, count_is));
      }

-- the line states the judgment, where the rows of its subjects and of its context spell them
pub line_states : (D : List Term) (E : List Context) (b cs : List ℕ) (j : Judgment) (rule : ℕ) (places : List ℕ)
    → ((t : Term) → t ∈ subjects j → term b (number term? D t) ≡ t) → context b cs (context_number E (context_of j)) ≡ context_of j
    → stated b cs (judgment_of (line_for D E j rule places)) ≡ j
unfolding stated judgment_of line_for form context_of subject_row subjects uses_subject
line_states D E b cs (wf G) rule places h c = λ i. wf (c i)
line_states D E b cs (typed G a A) rule places h c = λ i. typed (c i) (h a (here refl) i) (h A (there (here refl)) i)
line_states D E b cs (equal G a e A) rule places h c = λ i. equal (c i) (h a (here refl) i) (h e (there (here refl)) i) (h A (there (there (here refl))) i)
line_states D E b cs (sub G A B) rule places h c = λ i. sub (c i) (h A (here refl) i) (h B (there (here refl)) i)
line_states D E b cs (normal G a) rule places h c = λ i. normal (c i) (h a (here refl) i)
line_states D E b cs (neutral G a) rule places h c = λ i. neutral (c i) (h a (here refl) i)
line_states D E b cs (steps G a e) rule places h c = λ i. steps (c i) (h a (here refl) i) (h e (there (here refl)) i)
