-- Number 9 answers for its declarative reading, and passes only a rule that the sheet's edition admits.
-- Assumes nothing.
use mathlib.Core.Path.{◌≡◌, refl, sym, subst}
use mathlib.Core.Logic.{◌↔◌}
use mathlib.Core.Bool.{Bool, true, false, ◌&&◌}
use mathlib.Core.List.{List}
use Prim.Native.Nat.{ℕ, zero, suc, ◌+◌, ◌≤◌, ◌<◌}
use native.Mathlib.Omega.{arith}
use lib.Dec.{leb, ltb}
use lib.ListN.{get_or}
use borrow.Author.Tests.{ltb-true, ltb-false, lt-ltb, le-ltb}
use Rattle.terms.specs.Decides.{Decides}
use Rattle.terms.proofs.Tests.{never, says_lt, says_eq, decides_via, ◌&◌}
use Rattle.rules.specs.Editions.{last_rule, AsksMotive}
use Rattle.rules.specs.Subjects.{last_form, uses_subject, subjects_of, use_of}
use Rattle.rules.specs.RuleTable.{IsRule, form_of, premise_count}
use Rattle.rules.specs.Stated.{last_form_in_context, last_context}
use Rattle.rules.specs.declared.judgments.LineJudgment.{LineJudgment}
use Rattle.rules.specs.declared.judgments.SubjectUse.{SubjectUse}
use Rattle.rules.proofs.EditionLaws.{last_first, row_known, row_motive, row_own}
use Rattle.rules.proofs.SubjectLaws.{unused_past, by_place, says_context}
use Rattle.rules.proofs.RuleTableEntries.{says_rule}
use Rattle.rules.proofs.TableLaws.{form_small}
use Rattle.sheets.specs.declared.lines.Line.{Line}
use Rattle.sheets.specs.Layout.{edition_of, lines_in}
use Rattle.sheets.specs.Lines.{line_word, line_of, judgment_of, premises_of, below, subjects_fit, premises_fit, rule_fits, numbers_fit, line_fits, line_at}
use Rattle.sheets.specs.GoodLines.{LineOk}

-- the premises are words 6 to 9
pub premise_word : (edition : ℕ) (lines : List ℕ) (k j : ℕ) → j < 4
    → line_word lines k (6 + j) ≡ get_or (premises_of (line_of edition lines k)) j 0
unfolding line_of premises_of
premise_word edition lines k zero h = refl
premise_word edition lines k (suc zero) h = refl
premise_word edition lines k (suc (suc zero)) h = refl
premise_word edition lines k (suc (suc (suc zero))) h = refl
premise_word edition lines k (suc (suc (suc (suc j)))) h = absurd (omega arith)

-- `bound`
pub bound_used : (b : Bool) (n : ℕ) → b ≡ true → n ≡ below b n
unfolding below
bound_used b n e = rw e

pub bound_unused : (b : Bool) (n : ℕ) → b ≡ false → 1 ≡ below b n
unfolding below
bound_unused b n e = rw e

-- `subjects_fit`, where u says which subjects are used
pub subjects_bound : (j : LineJudgment) (T : ℕ) {u : SubjectUse} {x y z : ℕ}
    → u ≡ use_of j.form
    → x ≡ below u.s1 T → y ≡ below u.s2 T → z ≡ below u.s3 T
    → ltb j.s1 x && ltb j.s2 y && ltb j.s3 z ≡ subjects_fit j T
unfolding subjects_fit
subjects_bound j T e ex ey ez = cc

-- `numbers_fit`, where j is what the line states
pub numbers_joined : (l : Line) (n T C : ℕ) {j : LineJudgment} {count last : ℕ} {s p : Bool}
    → j ≡ judgment_of l → count ≡ premise_count l.rule
    → last ≡ last_context j.form C → s ≡ subjects_fit j T → p ≡ premises_fit l count n
    → leb l.context last && s && p ≡ numbers_fit l n T C
unfolding numbers_fit
numbers_joined l n T C ej ec el es ep = cc

-- a number is below the bound if it is used, else 0
abbrev Kept : Bool → ℕ → ℕ → Type 0
Kept used x bound = (used ≡ true → x < bound) × (used ≡ false → x ≡ 0)

says_kept : (used : Bool) (x bound : ℕ) → Decides (ltb x (below used bound)) (Kept used x bound)
unfolding below
says_kept true x bound = decides_via (λ h. (λ u. h, λ u. never refl u), λ k. k.0 refl) (says_lt x bound)
says_kept false x bound =
    decides_via (λ h. (λ u. never u refl, λ u. omega arith), λ k. omega (arith, k.1 refl)) (says_lt x 1)

four : (P : ℕ → Type 0) → P 0 → P 1 → P 2 → P 3 → (j : ℕ) → j < 4 → P j
four P a b c d zero h = a
four P a b c d (suc zero) h = b
four P a b c d (suc (suc zero)) h = c
four P a b c d (suc (suc (suc zero))) h = d
four P a b c d (suc (suc (suc (suc j)))) h = absurd (omega arith)

-- used and unused subjects
abbrev SubjectOk : LineJudgment → ℕ → ℕ → Type 0
SubjectOk j T k = Kept (uses_subject j.form k) (get_or (subjects_of j) k 0) T

abbrev SubjectsOk : LineJudgment → ℕ → Type 0
SubjectsOk j T = (k : ℕ) → SubjectOk j T k

subjects_say : (j : LineJudgment) (T : ℕ) → Decides (subjects_fit j T) (SubjectsOk j T)
unfolding subjects_fit subjects_of
subjects_say j T =
    decides_via (
      λ p. by_place (SubjectOk j T) p.0.0 p.0.1 p.1 (λ k. (λ u. never u (unused_past j.form k), λ u. refl)),
      λ f. ((f 0, f 1), f 2),
    ) (says 0 & says 1 & says 2)
  where
    says : (k : ℕ) → Decides (ltb (get_or (subjects_of j) k 0) (below (uses_subject j.form k) T)) (SubjectOk j T k)
    says k = says_kept (uses_subject j.form k) (get_or (subjects_of j) k 0) T

-- used and unused premises
abbrev PremiseOk : Line → ℕ → ℕ → ℕ → Type 0
PremiseOk l count n j = Kept (ltb j count) (get_or (premises_of l) j 0) n

abbrev PremisesOk : Line → ℕ → ℕ → Type 0
PremisesOk l count n = (j : ℕ) → j < 4 → PremiseOk l count n j

premises_say : (l : Line) (count n : ℕ) → Decides (premises_fit l count n) (PremisesOk l count n)
unfolding premises_fit premises_of
premises_say l count n =
    decides_via (
      λ p. four (PremiseOk l count n) p.0.0.0 p.0.0.1 p.0.1 p.1,
      λ f. (((f 0 (omega arith), f 1 (omega arith)), f 2 (omega arith)), f 3 (omega arith)),
    ) (says 0 & says 1 & says 2 & says 3)
  where
    says : (j : ℕ) → Decides (ltb (get_or (premises_of l) j 0) (below (ltb j count) n)) (PremiseOk l count n j)
    says j = says_kept (ltb j count) (get_or (premises_of l) j 0) n

-- a context of a form that may stand in any is there; of another, it is context 0
abbrev ContextOk : LineJudgment → ℕ → Type 0
ContextOk j C = (j.context ≤ C) × (last_form_in_context < j.form → j.context ≡ 0)

module _ (l : Line) (n T C : ℕ) where
  abbrev RuleOk : Type 0
  RuleOk = IsRule l.rule × ((judgment_of l).form ≡ form_of l.rule)

  pub rule_says : Decides (rule_fits l) RuleOk
  unfolding rule_fits
  rule_says = says_rule l.rule & says_eq _ _

  abbrev AllOk : Type 0
  AllOk =
      RuleOk
      × ((ContextOk (judgment_of l) C × SubjectsOk (judgment_of l) T) × PremisesOk l (premise_count l.rule) n)

  all_ok : AllOk ↔ LineOk l n T C
  unfolding judgment_of
  all_ok = (
    λ a.
        let r = a.0 in
        let x = a.1.0.0 in
        let s = a.1.0.1 in
        let p = a.1.1 in
        record {
          rule = r.0;
          form = r.1;
          numbers = record {
            form = subst (λ m. m ≤ last_form) (sym r.1) (form_small l.rule r.0);
            within = x.0;
            empty = x.1;
            subjects = λ k. (s k).0;
          };
          unused_subject = λ k. (s k).1;
          earlier = λ j h k. (p j h).0 (lt-ltb j _ k);
          unused_premise = λ j h k. (p j h).1 (le-ltb j _ k);
        },
    λ o. (
      (o.rule, o.form),
      (
        (
          (o.numbers.within, o.numbers.empty),
          λ k. (o.numbers.subjects k, o.unused_subject k),
        ),
        λ j h. (λ k. o.earlier j h (ltb-true j _ k), λ k. o.unused_premise j h (ltb-false j _ k)),
      ),
    ),
  )

  -- number 9 passes exactly if the line keeps the layout
  pub line_says : Decides (line_fits l n T C) (LineOk l n T C)
  unfolding line_fits numbers_fit judgment_of
  line_says =
      decides_via all_ok
      (rule_says
      & (says_context l.form C l.context & subjects_say (judgment_of l) T
      & premises_say l (premise_count l.rule) n))

-- a line that passes number 9 has a rule that its sheet's edition admits, and is judged by the row of that number, but
-- for rules 33 and 34 of an edition that asks for the motive
module _ (b : List ℕ) (T C n : ℕ) where
  abbrev rule_word : ℕ
  rule_word = line_word (lines_in b T C) n 1

  pub rule_admitted : LineOk (line_at b T C n) n T C → (1 ≤ rule_word) × (rule_word ≤ last_rule (edition_of b))
  unfolding line_at line_of
  rule_admitted ok = (row_known (edition_of b) rule_word).0 ok.rule

  pub rule_own : LineOk (line_at b T C n) n T C → (AsksMotive (edition_of b) rule_word → ⊥)
      → (line_at b T C n).rule ≡ rule_word
  unfolding line_at line_of
  rule_own ok plain = row_own (edition_of b) rule_word (rule_admitted ok).1 plain

  pub rule_motive : AsksMotive (edition_of b) rule_word → (line_at b T C n).rule ≡ rule_word + 35
  unfolding line_at line_of
  rule_motive asks = row_motive (edition_of b) rule_word asks

  -- "An edition 1 sheet with a rule above 43 still gets 9" (document 02, A5)
  pub old_rule : edition_of b ≡ 1 → 43 < rule_word → LineOk (line_at b T C n) n T C → ⊥
  old_rule e h ok = omega (arith, rule_admitted ok, last_first (edition_of b) (omega (arith, e)))
