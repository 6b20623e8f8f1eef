-- Rules 33 and 34 with the motive: document 02, A10. They are the printed rules behind one premise more; which premises
-- each edition's rules have follows. That premise by computation, and by the numbers of the lines that state it.
-- Assumes nothing.
use mathlib.Core.Path.{◌≡◌, refl, sym, ◌∙◌, ap, subst, subst₂}
use mathlib.Core.Logic.{◌↔◌, ⊎_elim}
use mathlib.Core.Bool.{true, false}
use mathlib.Core.List.Memᴰ.{head as here}
use mathlib.Core.List.Memᴰ.{tail as there}
use mathlib.Core.List.{List, [], ◌∷◌, Memᴰ}
use Prim.Native.Nat.{ℕ, suc, ◌+◌, ◌-◌, ◌≤◌, ◌<◌}
use native.Mathlib.Nat.{eq-or-lt_of_le}
use native.Mathlib.Omega.{arith}
use Rattle.terms.specs.Term.{Term, univ, nat}
use Rattle.terms.specs.Substitution.{on_succ}
use Rattle.terms.specs.Tag.{number_in, child}
use Rattle.terms.specs.Rows.{term}
use Rattle.terms.specs.Decides.{Decides}
use Rattle.terms.proofs.Tests.{says_yes, says_no, decides_via}
use Rattle.rules.specs.Judgment.{Context, Judgment, typed, equal, form, context_of, s1, s3, judgment?}
use Rattle.rules.specs.Subjects.{last_form}
use Rattle.rules.specs.Conditions.{IsUniverse}
use Rattle.rules.specs.Contexts.{context}
use Rattle.rules.specs.Instance.{Instance, e_indzero, e_indsuc, e_indzero_cited, e_indsuc_cited}
use Rattle.rules.specs.RuleTable.{premise_count, form_of}
use Rattle.rules.specs.Stated.{
  plain_judgment,
  stated_in,
  stated,
  Numbered,
  AllNumbered,
  used_premises,
  Follows,
}
use Rattle.rules.specs.RuleChecks.{LineInTables, JudgmentsInTables}
use Rattle.rules.specs.declared.judgments.LineJudgment.{LineJudgment}
use Rattle.rules.specs.Editions.{last_rule, AsksMotive, row_in}
use Rattle.rules.specs.Motives.{GivesMotive, gives_motive, WithMotive}
use Rattle.rules.proofs.ArmLaws.{form_of_lem}
use Rattle.rules.proofs.EditionLaws.{row_motive, row_own, row_known}
use Rattle.rules.proofs.TableFitsLaws.{row_fits}
use Rattle.rules.proofs.PremiseLaws.{InContext}

-- the motive's premise by computation: its level is the number in its type
level_read : (p c : Judgment)
    → (p ≡ typed (nat ∷ context_of c) (child (s1 c) 1) (univ (number_in (s3 p)))) ↔ GivesMotive p c
unfolding s3 number_in
level_read p c = (λ e. (number_in (s3 p), e), λ g. let e = g.1 in cc)

pub says_gives : (p c : Judgment) → Decides (gives_motive p c) (GivesMotive p c)
unfolding gives_motive
says_gives p c = decides_via (level_read p c) (by (judgment? p _))
  where
    by : {P : Type 0} (d : Dec P) → Decides (elim d [ yes _ ↦ true | no _ ↦ false ]) P
    by (yes h) = says_yes h
    by (no h) = says_no h

-- the premise by its context, its subject and its type
by_parts : {G H : Context} {p₁ p₃ m : Term} (c₁ c₂ c₃ : Term) → m ≡ child c₁ 1
    → (((H ≡ nat ∷ G) × (p₁ ≡ m)) × IsUniverse p₃) ↔ GivesMotive (typed H p₁ p₃) (equal G c₁ c₂ c₃)
unfolding context_of s1
by_parts c₁ c₂ c₃ k = (λ h. let u = h.1.1 in (h.1.0, cc), λ g. let e = g.1 in ((cc, cc), (g.0, cc)))

-- a line p that states it
module _ (terms contexts : List ℕ) (p : LineJudgment) where
  -- its parts as numbers state them, for the conclusion c and its motive m
  abbrev pub MotiveParts : LineJudgment → Term → Type 0
  MotiveParts c m =
      ((context terms contexts p.context ≡ nat ∷ context terms contexts c.context) × (term terms p.s1 ≡ m))
      × IsUniverse (term terms p.s3)

  -- p of form 1 does so for c of form 2 by these
  pub gives_parts : (c : LineJudgment) {m : Term} → p.form ≡ 1 → c.form ≡ 2 → m ≡ child (term terms c.s1) 1
      → MotiveParts c m ↔ GivesMotive (stated terms contexts p) (stated terms contexts c)
  unfolding stated plain_judgment
  gives_parts c {m} e f k =
      subst₂
      (λ i j. MotiveParts c m
      ↔ GivesMotive (stated_in terms i (context terms contexts p.context) p)
      (stated_in terms j (context terms contexts c.context) c)) (sym e) (sym f) (by_parts _ _ _ k)

  -- and p of no other form does
  pub gives_form : (c : Judgment) → p.form ≤ last_form → GivesMotive (stated terms contexts p) c → p.form ≡ 1
  unfolding stated form
  gives_form c low g = sym (form_of_lem p.form _ _ _ _ low) ∙ ap form g.1

-- an equal premise will do
same_premise : (n : ℕ) {m k c : Judgment} {ps : List Judgment} → m ≡ k → Instance n (k ∷ ps) c → Instance n (m ∷ ps) c
same_premise n {c = c} {ps = ps} e i = subst (λ m. Instance n (m ∷ ps) c) (sym e) i

-- E-INDZERO
zero_with : {m c : Judgment} {ps : List Judgment} → Instance 33 ps c → GivesMotive m c → Instance 68 (m ∷ ps) c
unfolding context_of s1 child
zero_with (e_indzero G P b c) (i, e) = same_premise 68 e (e_indzero_cited G P b c i)

zero-without : {m c : Judgment} {ps : List Judgment} → Instance 68 (m ∷ ps) c → GivesMotive m c × Instance 33 ps c
unfolding context_of s1 child
zero-without (e_indzero_cited G P b c i) = ((i, refl), e_indzero G P b c)

pub zero_cited : {m c : Judgment} {ps : List Judgment} → (GivesMotive m c × Instance 33 ps c) ↔ Instance 68 (m ∷ ps) c
zero_cited = (λ h. zero_with h.1 h.0, zero-without)

-- E-INDSUC
suc_with : {m c : Judgment} {ps : List Judgment} → Instance 34 ps c → GivesMotive m c → Instance 69 (m ∷ ps) c
unfolding context_of s1 child
suc_with (e_indsuc G P a b c) (i, e) = same_premise 69 e (e_indsuc_cited G P a b c i)

suc-without : {m c : Judgment} {ps : List Judgment} → Instance 69 (m ∷ ps) c → GivesMotive m c × Instance 34 ps c
unfolding context_of s1 child
suc-without (e_indsuc_cited G P a b c i) = ((i, refl), e_indsuc G P a b c)

pub suc_cited : {m c : Judgment} {ps : List Judgment} → (GivesMotive m c × Instance 34 ps c) ↔ Instance 69 (m ∷ ps) c
suc_cited = (λ h. suc_with h.1 h.0, suc-without)

-- what holds of both rules
either_rule : (P : ℕ → Type 0) → P 33 → P 34 → (rule : ℕ) → (33 ≤ rule) × (rule ≤ 34) → P rule
either_rule P p q rule range =
    ⊎_elim (λ e. subst P (sym e) q)
    (λ low.
    let e : 33 ≡ rule = omega (arith, low, range) in
    subst P e p) (eq-or-lt_of_le range.1)

-- with the motive either has one premise more, and concludes the same form
abbrev pub MotiveAdded : ℕ → Type 0
MotiveAdded rule =
    (premise_count (rule + 35) ≡ suc (premise_count rule)) × (premise_count rule ≤ 3) × (form_of (rule + 35) ≡ form_of rule)

pub motive_added : (rule : ℕ) → (33 ≤ rule) × (rule ≤ 34) → MotiveAdded rule
unfolding premise_count form_of
motive_added = either_rule MotiveAdded (refl, omega arith, refl) (refl, omega arith, refl)

-- by either as printed P is a type of the last premise's context
abbrev pub EntersMotive : List Judgment → Judgment → Type 0
EntersMotive ps c =
    (p : Judgment) × Memᴰ p ps × InContext p × (context_of p ≡ child (s1 c) 1 ∷ nat ∷ context_of c)

zero_enters : (ps : List Judgment) (c : Judgment) → Instance 33 ps c → EntersMotive ps c
unfolding form context_of s1 child
zero_enters _ _ (e_indzero G P b c) = (typed (P ∷ nat ∷ G) c (on_succ P), there (here refl), omega arith, refl)

suc_enters : (ps : List Judgment) (c : Judgment) → Instance 34 ps c → EntersMotive ps c
unfolding form context_of s1 child
suc_enters _ _ (e_indsuc G P a b c) = (typed (P ∷ nat ∷ G) c (on_succ P), there (there (here refl)), omega arith, refl)

pub enters_motive : (rule : ℕ) → (33 ≤ rule) × (rule ≤ 34) → (ps : List Judgment) (c : Judgment)
    → Instance rule ps c → EntersMotive ps c
enters_motive =
    either_rule (λ n. (ps : List Judgment) (c : Judgment) → Instance n ps c → EntersMotive ps c) zero_enters suc_enters

-- a row with premises, the first of which is the motive
behind_motive : {c : Judgment} (rule row : ℕ)
    → ((m : Judgment) (ps : List Judgment) → (GivesMotive m c × Instance rule ps c) ↔ Instance row (m ∷ ps) c)
    → 0 < premise_count row → (ps : List Judgment) → Instance row ps c ↔ WithMotive rule ps c
behind_motive rule row law some [] = (λ i. absurd (omega (arith, some, (row_fits i).count)), λ none. absurd none)
behind_motive rule row law some (m ∷ ps) = ((law m ps).1, (law m ps).0)

-- What an edition's rule is, for any premises and any conclusion. Where it asks for the motive, it is the printed rule
-- behind that premise; else it is the rule of that number, if the edition admits it.
module _ (edition rule : ℕ) {ps : List Judgment} {c : Judgment} where
  pub with_motive : AsksMotive edition rule → Instance (row_in edition rule) ps c ↔ WithMotive rule ps c
  unfolding premise_count
  with_motive asks =
      subst (λ n. Instance n ps c ↔ WithMotive rule ps c) (sym (row_motive edition rule asks))
      (either_rule (λ n. Instance (n + 35) ps c ↔ WithMotive n ps c)
      (behind_motive 33 68 (λ m ps. zero_cited) (omega arith) ps)
      (behind_motive 34 69 (λ m ps. suc_cited) (omega arith) ps) rule asks.1)

  pub as_printed : (AsksMotive edition rule → ⊥)
      → Instance (row_in edition rule) ps c ↔ ((rule ≤ last_rule edition) × Instance rule ps c)
  as_printed plain = (
    λ i.
        let admitted = ((row_known edition rule).0 (row_fits i).known).1 in
        (admitted, subst (λ n. Instance n ps c) (row_own edition rule admitted plain) i),
    λ h. subst (λ n. Instance n ps c) (sym (row_own edition rule h.0 plain)) h.1,
  )

-- the answers of the test of the motive and of the check of rule n as printed come to that of the row's
abbrev BehindMotive : List ℕ → List ℕ → ℕ → ℕ → (p q r s c : LineJudgment) → Type 0
BehindMotive terms contexts n row p q r s c =
    (GivesMotive (stated terms contexts p) (stated terms contexts c) × Follows terms contexts n (q ∷ r ∷ s ∷ s ∷ []) c)
    ↔ Follows terms contexts row (p ∷ q ∷ r ∷ s ∷ []) c

-- what a line by row 68 or 69 gives these two
pub record CitedLine (terms contexts : List ℕ) (row : ℕ) (p q r s c : LineJudgment) : Type 0 where
  pub motive : JudgmentsInTables terms contexts (c ∷ p ∷ [])
  pub form : c.form ≡ 2
  pub printed : LineInTables terms contexts (row - 35) (q ∷ r ∷ s ∷ s ∷ []) c
  pub law : BehindMotive terms contexts (row - 35) row p q r s c

both_forms : (n : ℕ) → (33 ≤ n) × (n ≤ 34) → (form_of (n + 35) ≡ 2) × (form_of n ≡ 2)
unfolding form_of
both_forms = either_rule (λ n. (form_of (n + 35) ≡ 2) × (form_of n ≡ 2)) (refl, refl) (refl, refl)

both_numbered : (T C : ℕ) (p q r s : LineJudgment) (n : ℕ) → (33 ≤ n) × (n ≤ 34)
    → AllNumbered T C (used_premises (n + 35) (p ∷ q ∷ r ∷ s ∷ []))
    → Numbered T C p × AllNumbered T C (used_premises n (q ∷ r ∷ s ∷ s ∷ []))
unfolding used_premises premise_count
both_numbered T C p q r s =
    either_rule
    (λ n. AllNumbered T C (used_premises (n + 35) (p ∷ q ∷ r ∷ s ∷ []))
    → Numbered T C p × AllNumbered T C (used_premises n (q ∷ r ∷ s ∷ s ∷ []))) (λ u. (u.0, u.1)) (λ u. (u.0, u.1))

both_follow : (terms contexts : List ℕ) (p q r s c : LineJudgment) (n : ℕ) → (33 ≤ n) × (n ≤ 34)
    → BehindMotive terms contexts n (n + 35) p q r s c
unfolding Follows used_premises premise_count
both_follow terms contexts p q r s c =
    either_rule (λ n. BehindMotive terms contexts n (n + 35) p q r s c) zero_cited suc_cited

pub cited_line : {terms contexts : List ℕ} {row : ℕ} {p q r s c : LineJudgment}
    → LineInTables terms contexts row (p ∷ q ∷ r ∷ s ∷ []) c → 67 < row → CitedLine terms contexts row p q r s c
cited_line {terms} {contexts} {row} {p} {q} {r} {s} {c} line behind =
    let n = row - 35 in
    let range : (33 ≤ n) × (n ≤ 34) = (omega (arith, behind), omega (arith, line.known)) in
    let same : row ≡ n + 35 = omega (arith, behind) in
    let T = line.given.term_count in
    let C = line.given.count in
    let cited = subst (λ m. AllNumbered T C (used_premises m (p ∷ q ∷ r ∷ s ∷ []))) same line.used in
    let used = both_numbered T C p q r s n range cited in
    let form = line.concludes ∙ ap form_of same ∙ (both_forms n range).0 in
    record {
      motive = record { given = line.given; numbered = (line.conclusion, (used.0, tt)) };
      form = form;
      printed = record {
        given = line.given;
        known = (omega (arith, behind), omega (arith, line.known));
        concludes = form ∙ sym (both_forms n range).1;
        conclusion = line.conclusion;
        used = used.1;
      };
      law = subst (λ m. BehindMotive terms contexts n m p q r s c) (sym same)
          (both_follow terms contexts p q r s c n range);
    }
