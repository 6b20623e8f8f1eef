-- What the tests on tables and cases answer for, and that a case over sound tables is what `is_instance` asks for.
-- Assumes nothing.
use mathlib.Core.Path.{◌≡◌, refl, sym, ◌∙◌}
use mathlib.Core.Bool.{Bool, true, false, ◌&&◌, ◌||◌, not}
use mathlib.Core.List.{List, [], ◌∷◌}
use Prim.Native.Nat.{ℕ, ◌*◌, ◌≤◌, ◌<◌}
use native.Mathlib.Omega.{arith}
use lib.Dec.{leb, ltb, eqb}
use lib.ListN.{length, get_or}
use Rattle.terms.specs.Decides.{Decides}
use Rattle.terms.specs.Sizes.{TermsAnswer, faultless, check_terms}
use Rattle.terms.specs.declared.sizes.TermsError.{TermsError}
use Rattle.terms.proofs.Tests.{never, says_yes, says_no, says_le, says_lt, says_eq, decides_via, ◌&◌, clash}
use Rattle.terms.proofs.TableLaws as terms_check
use Rattle.rules.specs.Contexts.{check_contexts}
use Rattle.rules.specs.Subjects.{last_form, uses_subject, subjects_of, use_of}
use Rattle.rules.specs.RuleTable.{rule_known, form_of, premise_count}
use Rattle.rules.specs.Stated.{last_context, Numbered, used_premises}
use Rattle.rules.specs.RuleChecks.{LineInTables}
use Rattle.rules.specs.declared.judgments.LineJudgment.{LineJudgment}
use Rattle.rules.specs.declared.judgments.SubjectUse.{SubjectUse}
use Rattle.rules.specs.declared.contexts.ContextsError.{ContextsError}
use Rattle.std.specs.Prelude.{Result, Ok, Err, is_ok}
use Rattle.rules.proofs.SubjectLaws.{unused_past, by_place, says_context}
use Rattle.rules.proofs.ContextTableCheckLaws as contexts_check
use Rattle.rules.proofs.ArmLaws.{numbered_taken}
use Rattle.rules.proofs.RuleTableEntries.{says_rule}
use Rattle.rules_demo.specs.Cases.{SoundTables, Case}

-- what is asked only of a subject that is used
if_used : {P : Type 0} (u : Bool) {s : Bool} → Decides s P → Decides (not u || s) (u ≡ true → P)
if_used true d = (λ h u. d.0 h, λ f. d.1 (f refl))
if_used false d = (λ h u. never u refl, λ f. refl)

module _ (t n : ℕ) where
  pub numbered_says : (j : LineJudgment) {u : SubjectUse} {last : ℕ}
      → u ≡ use_of j.form → last ≡ last_context j.form n
      → Decides
      (leb j.form last_form && leb j.context last && (not u.s1 || ltb j.s1 t)
      && (not u.s2 || ltb j.s2 t) && (not u.s3 || ltb j.s3 t))
      (Numbered t n j)
  unfolding subjects_of
  numbered_says j e f =
      rw (e, f)
      (decides_via (
        λ h. record {
          form = h.0.0.0.0;
          within = h.0.0.0.1.0;
          empty = h.0.0.0.1.1;
          subjects = by_place Below h.0.0.1 h.0.1 h.1 (λ k u. never u (unused_past j.form k));
        },
        λ m. ((((m.form, (m.within, m.empty)), m.subjects 0), m.subjects 1), m.subjects 2),
      ) (says_le j.form last_form & says_context j.form n j.context & at 0 & at 1 & at 2))
    where
      Below : ℕ → Type 0
      Below k = uses_subject j.form k ≡ true → get_or (subjects_of j) k 0 < t

      at : (k : ℕ) → Decides (not (uses_subject j.form k) || ltb (get_or (subjects_of j) k 0) t) (Below k)
      at k = if_used (uses_subject j.form k) (says_lt (get_or (subjects_of j) k 0) t)

  pub case_says : (rule f : ℕ) (c p q r s : LineJudgment) {u v w x y z : Bool} → u ≡ rule_known rule → f ≡ form_of rule
      → Decides v (Numbered t n c) → Decides w (Numbered t n p) → Decides x (Numbered t n q)
      → Decides y (Numbered t n r) → Decides z (Numbered t n s)
      → Decides (u && eqb c.form f && v && w && x && y && z) (Case t n rule (p ∷ q ∷ r ∷ s ∷ []) c)
  unfolding rule_known
  case_says rule f c p q r s known e dv dw dx dy dz =
      rw known
      (decides_via (
        λ h. record {
          known = h.0.0.0.0.0.0;
          concludes = h.0.0.0.0.0.1 ∙ e;
          conclusion = h.0.0.0.0.1;
          all = (h.0.0.0.1, (h.0.0.1, (h.0.1, (h.1, tt))));
        },
        λ k.
            let ps = k.all in
            ((((((k.known, k.concludes ∙ sym e), k.conclusion), ps.0), ps.1.0), ps.1.1.0), ps.1.1.1.0),
      ) (says_rule rule & says_eq c.form f & dv & dw & dx & dy & dz))

  module _ (terms contexts : List ℕ) where
    pub case_in_tables : (rule : ℕ) (ps : List LineJudgment) (c : LineJudgment) → SoundTables terms t contexts n → Case t n rule ps c → LineInTables terms contexts rule ps c
    unfolding used_premises
    case_in_tables rule ps c tables k =
        record {
          given = record { term_count = t; few_terms = tables.few_terms; term_table = tables.term_table; count = n; few = tables.few; table = tables.table; within = tt };
          known = k.known;
          concludes = k.concludes;
          conclusion = k.conclusion;
          used = numbered_taken t n (premise_count rule) ps k.all;
        }

    -- the ways out of the check of both tables
    module _ (long : 10 * t ≤ length terms) (a : TermsAnswer) (e : a ≡ (check_terms terms t).answer) where
      pub faulty_terms_lem : (r : TermsError) → a ≡ Err r → Decides false (SoundTables terms t contexts n)
      faulty_terms_lem r f = says_no (λ s. let g = (terms_check.check_faultless terms t long).1 s.term_table in let z : ◌≡◌ {A = ℕ} 0 1 = cc in omega arith)

      module _ (few_terms : t ≤ 3072) (few : n ≤ 256) (f : a ≡ faultless) (whole : 4 * n ≤ length contexts) where
        pub contexts_say : (b : Result (Unit {0}) ContextsError) → b ≡ check_contexts contexts t n → Decides (is_ok b) (SoundTables terms t contexts n)
        contexts_say (Ok tt) d =
            says_yes
            (record {
              few_terms = few_terms;
              few = few;
              term_table = (terms_check.check_faultless terms t long).0 (sym e ∙ f);
              table = (contexts_check.check_faultless contexts t n whole).0 (sym d);
            })
        contexts_say (Err _) d = says_no (λ s. let h = (contexts_check.check_faultless contexts t n whole).1 s.table in let z : ◌≡◌ {A = ℕ} 0 1 = cc in clash z)
