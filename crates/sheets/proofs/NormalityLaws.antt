-- Whether a term is normal, for any sheet and work buffer: an answer is given exactly if it means what document 02, A2
-- says, and the work buffer then holds what admission leaves.
-- Assumes nothing.
use Rattle.std.specs.Prelude.{Result, Ok, Err}
use Rattle.sheets.specs.declared.refusals.Counts.{Counts}
use Rattle.sheets.specs.declared.refusals.Fault.{Fault}
use Rattle.sheets.specs.declared.refusals.Fault.TheVariants.{NoTerm}
use Rattle.sheets.specs.declared.refusals.Refusal.{Refusal}
use Rattle.sheets.specs.Refusals.{number_of, refused, counts}
use mathlib.Core.Path.{◌≡◌, refl, sym, ◌∙◌, ap, subst}
use mathlib.Core.Logic.{◌↔◌}
use mathlib.Core.Bool.{Bool, true, false}
use mathlib.Core.List.{List}
use Prim.Native.Nat.{ℕ, ◌≤◌, ◌<◌}
use native.Mathlib.Decide.{dec_le}
use native.Mathlib.Omega.{arith}
use lib.ListN.{length}
use borrow.Author.Tests.{lt-ltb, le-ltb}
use Rattle.terms.specs.Decides.{Decides}
use Rattle.terms.specs.Term.{Term}
use Rattle.terms.specs.Rows.{term}
use Rattle.terms.specs.Reduction.{Beta, Inside}
use Rattle.terms.specs.NormalForms.{Normal, is_normal}
use Rattle.terms.proofs.Tests.{says_yes, says_no, refuted, decides_same}
use Rattle.terms.proofs.NormalLaws.{normal_decided, no_beta}
use Rattle.sheets.specs.Admission.{admit_of}
use Rattle.sheets.specs.Good.{Good}
use Rattle.sheets.specs.Normality.{
  after_term,
  normality_after,
  normality_of,
  NormalityMeans,
  faulty,
  missing,
  normal,
  not_normal,
}
use Rattle.sheets.proofs.AdmissionLaws.{accepted_is, refused_is, fault_left}
use Rattle.sheets.proofs.AnsweredLaws.{RefusalLeaves, AllSizes, all_sizes, later}

-- `term_normality`
module _ (bytes : List ℕ) (T t : ℕ) where
  pub term_missing : T ≤ t → refused NoTerm t ≡ after_term bytes T t
  unfolding after_term
  term_missing h = rw (le-ltb, after_term)

  term_there : t < T → after_term bytes T t ≡ Ok (is_normal (term bytes t))
  unfolding after_term
  term_there h = rw (lt-ltb, after_term)

  -- r is what a test of the term answers
  pub term-answered : t < T → (r b : Bool) → Decides r (Normal (term bytes t)) → r ≡ b → Ok b ≡ after_term bytes T t
  term-answered h r b d e = ap Ok (sym e ∙ decides_same r _ d (normal_decided (term bytes t))) ∙ sym (term_there h)

module _ (bytes : List ℕ) (t work : ℕ) where
  -- a refusal of admission is handed on
  pub normality_refused : (fault : Fault) (place : ℕ) → admit_of bytes work ≡ refused fault place
      → normality_of bytes t work ≡ refused fault place
  unfolding normality_of normality_after
  normality_refused fault place e = ap (normality_after bytes t) e

  pub normality_accepted : (T C L : ℕ) → admit_of bytes work ≡ Ok (counts T C L)
      → normality_of bytes t work ≡ after_term bytes T t
  unfolding normality_of normality_after
  normality_accepted T C L e = ap (normality_after bytes t) e

  -- what is answered for a sheet with these counts
  module _ (T C L : ℕ) (accepted : admit_of bytes work ≡ Ok (counts T C L)) where
    answered : {a : Result Bool Refusal} → a ≡ after_term bytes T t → normality_of bytes t work ≡ a
    answered e = normality_accepted T C L accepted ∙ sym e

    good : Good bytes T C L × (T ≤ work)
    good = (accepted_is bytes work T C L).0 accepted

    told : t < T → (b : Bool) → is_normal (term bytes t) ≡ b → NormalityMeans bytes t work (Ok b)
    told h true e = normal good.0 good.1 h ((normal_decided (term bytes t)).0 e)
    told h false e = not_normal good.0 good.1 h (refuted (normal_decided (term bytes t)) e)

    means_accepted : Dec (T ≤ t) → NormalityMeans bytes t work (normality_of bytes t work)
    means_accepted (yes h) =
        let e = answered (term_missing bytes T t h) in
        subst (NormalityMeans bytes t work) (sym e) (missing good.0 good.1 h)
    means_accepted (no f) =
        let h : t < T = omega arith in
        let e = answered (term-answered bytes T t h _ _ (normal_decided (term bytes t)) refl) in
        subst (NormalityMeans bytes t work) (sym e) (told h _ refl)

  means : (a : Result Counts Refusal) → admit_of bytes work ≡ a → NormalityMeans bytes t work (normality_of bytes t work)
  means (Err r) e =
      let fault = (refused_is bytes work r.fault r.place).0 e in
      subst (NormalityMeans bytes t work) (sym (normality_refused r.fault r.place e)) (faulty fault)
  means (Ok n) e = means_accepted n.terms n.contexts n.lines e (dec_le n.terms t)

  back : {a : Result Bool Refusal} → NormalityMeans bytes t work a → normality_of bytes t work ≡ a
  back (faulty {fault} {place} f) = normality_refused fault place ((refused_is bytes work fault place).1 f)
  back (missing {T} {C} {L} g room h) =
      answered T C L ((accepted_is bytes work T C L).1 (g, room)) (term_missing bytes T t h)
  back (normal {T} {C} {L} g room h n) =
      let e = term-answered bytes T t h true true (says_yes n) refl in
      answered T C L ((accepted_is bytes work T C L).1 (g, room)) e
  back (not_normal {T} {C} {L} g room h n) =
      let e = term-answered bytes T t h false false (says_no n) refl in
      answered T C L ((accepted_is bytes work T C L).1 (g, room)) e

  pub normality_is : (a : Result Bool Refusal) → (normality_of bytes t work ≡ a) ↔ NormalityMeans bytes t work a
  normality_is a = (λ e. subst (NormalityMeans bytes t work) e (means (admit_of bytes work) refl), back)

  -- "a yes implies that no primitive beta step of section 3 applies at any place in it"
  pub yes_no_beta : normality_of bytes t work ≡ Ok true → {u v : Term} → Inside u (term bytes t) → Beta u v → ⊥
  yes_no_beta e = at ((normality_is (Ok true)).0 e)
    where
      at : NormalityMeans bytes t work (Ok true) → {u v : Term} → Inside u (term bytes t) → Beta u v → ⊥
      at (normal g room h n) i b = no_beta n i b

-- The work buffer: after a refusal it holds what the number says.
module _ (bytes before : List ℕ) (t : ℕ) where
  pub normality_left : (fault : Fault) (place : ℕ) → normality_of bytes t (length before) ≡ refused fault place
      → RefusalLeaves bytes before fault place
  unfolding number_of
  normality_left fault place e = at ((normality_is bytes t (length before) (refused fault place)).0 e)
    where
      at : {k : Fault} {p : ℕ} → NormalityMeans bytes t (length before) (refused k p) → RefusalLeaves bytes before k p
      at (faulty f) = fault_left bytes before f
      at (missing g room h) = later bytes before g room NoTerm t (omega arith)

  -- after 17 all sizes
  pub normality_sizes : (fault : Fault) (place : ℕ) → normality_of bytes t (length before) ≡ refused fault place
      → 11 ≤ number_of fault → AllSizes bytes before
  normality_sizes fault place e h = (normality_left fault place e).wholly (omega arith)

  -- after yes and no all sizes
  pub answered_left : (b : Bool) → normality_of bytes t (length before) ≡ Ok b → AllSizes bytes before
  answered_left b e = at b ((normality_is bytes t (length before) (Ok b)).0 e)
    where
      at : (b : Bool) → NormalityMeans bytes t (length before) (Ok b) → AllSizes bytes before
      at true (normal g room h n) = all_sizes bytes before g room
      at false (not_normal g room h n) = all_sizes bytes before g room
