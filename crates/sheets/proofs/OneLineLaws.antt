-- Withdrawal of one line is withdrawal of the set of that line: answer, output and what is kept.
-- Assumes nothing.
use Rattle.std.specs.Prelude.{Result, Ok, Err}
use Rattle.sheets.specs.declared.refusals.Counts.{Counts}
use Rattle.sheets.specs.declared.refusals.Fault.TheVariants.{NoLine}
use Rattle.sheets.specs.declared.refusals.Refusal.{Refusal}
use Rattle.sheets.specs.Refusals.{refused}
use mathlib.Core.Path.{◌≡◌, refl, sym, ◌∙◌, ap, subst}
use mathlib.Core.Logic.{⊎_elim}
use mathlib.Core.List.{List, [], ◌∷◌}
use Prim.Native.Nat.{ℕ}
use native.Mathlib.Omega.{arith}
use lib.ListN.{length}
use Rattle.terms.specs.Lists.{without}
use Rattle.sheets.specs.Layout.{edition_of, lines_in}
use Rattle.sheets.specs.Lines.{line_of, line_at}
use Rattle.sheets.specs.Admission.{admit_of}
use Rattle.sheets.specs.Good.{Good}
use Rattle.sheets.specs.Accepted.{stated_by}
use Rattle.sheets.specs.LineSets.{Rises, Listed, Stays}
use Rattle.sheets.specs.Withdrawal.{Uses, Unused, new_length, withdraw_of, without_line, out_from, out_after}
use Rattle.sheets.specs.Withdrawal.{AdmittedWithdrawalMeans, missing, used, short, written, KeepsTheOthers}
use Rattle.sheets.specs.WithdrawalSet.{kept_length, withdraw_set_of, without_lines, set_out_after, NoneUsed}
use Rattle.sheets.specs.WithdrawalSet.{AdmittedSetMeans, not_rising, KeepsTheUnlisted}
use Rattle.sheets.specs.WithdrawalSet.{beyond, cited, too_short, withdrawn}
use Rattle.sheets.proofs.AdmissionLaws.{accepted_is}
use Rattle.sheets.proofs.LineSetLaws.{listed_first, listed_split}
use Rattle.sheets.proofs.PlaceLaws.{without_none, without_next}
use Rattle.sheets.proofs.WithdrawalLaws.{withdraw_refused, withdrawn_is}
use Rattle.sheets.proofs.SetLaws.{set-refused, set_is}

pub one_rises : (n : ℕ) → Rises (n ∷ [])
one_rises n i h = absurd (omega arith)

pub one_listed : {n k : ℕ} → Listed (n ∷ []) k → n ≡ k
one_listed {n} {k} l = ⊎_elim (λ e. e) (λ x. absurd (omega (arith, x.1))) (listed_split n k [] l)

pub one_other : {n k : ℕ} → (k ≡ n → ⊥) → Stays (n ∷ []) k
one_other d l = d (sym (one_listed l))

module _ (bytes : List ℕ) (n work room : ℕ) where
  module _ (T C L : ℕ) (g : Good bytes T C L) where
    unused : NoneUsed (edition_of bytes) (lines_in bytes T C) L (n ∷ [])
        → Unused (edition_of bytes) (lines_in bytes T C) L n
    unused none k low high x = none n (listed_first n []) k high (one_other (λ e. omega (arith, e, low)), x)

    -- the set's answers mean what the line's do
    from_set : {a : Result ℕ Refusal} → AdmittedSetMeans bytes T C L (n ∷ []) room a
        → AdmittedWithdrawalMeans bytes T C L n room a
    unfolding kept_length new_length line_at
    from_set (not_rising f) = absurd (f (one_rises n))
    from_set (beyond {n = k} rising m) =
        let e : n ≡ k = one_listed m.listed in
        subst (λ i. AdmittedWithdrawalMeans bytes T C L n room (refused NoLine i)) e
        (missing (omega (arith, e, m.missing)))
    from_set (cited {n = m} {p = p} rising all u) =
        let e : n ≡ m = one_listed u.listed in
        let cites = u.uses.1 in
        used {p = p} (all n (listed_first n []))
        (record {
          later = omega (arith, e, cites.3, (g.lines p u.within).ok.earlier cites.0 cites.1 cites.2);
          within = u.within;
          uses = subst (Uses (line_of (edition_of bytes) (lines_in bytes T C) p)) (sym e) cites;
          lowest = λ k low high x.
              u.lowest k high (
                one_other (λ y. omega (arith, y, low)),
                subst (Uses (line_of (edition_of bytes) (lines_in bytes T C) k)) e x,
              );
        })
    from_set (too_short rising all none k) = short (all n (listed_first n [])) (unused none) k
    from_set (withdrawn rising all none k) = written (all n (listed_first n [])) (unused none) k

  on_admission : (a : Result Counts Refusal) → admit_of bytes work ≡ a
      → withdraw_of bytes n work room ≡ withdraw_set_of bytes (n ∷ []) work room
  on_admission (Err r) e =
      withdraw_refused bytes n work room r.fault r.place e ∙ sym (set-refused bytes (n ∷ []) work room r.fault r.place e)
  on_admission (Ok c) e =
      (withdrawn_is bytes n work room c.terms c.contexts c.lines e (withdraw_set_of bytes (n ∷ []) work room)).1
      (from_set c.terms c.contexts c.lines ((accepted_is bytes work c.terms c.contexts c.lines).0 e).0
      ((set_is bytes (n ∷ []) work room c.terms c.contexts c.lines e _).0 refl))

  pub single_answer : withdraw_of bytes n work room ≡ withdraw_set_of bytes (n ∷ []) work room
  single_answer = on_admission (admit_of bytes work) refl

module _ (bytes : List ℕ) (n work : ℕ) (before : List ℕ) where
  pub single_out : out_after bytes n work before ≡ set_out_after bytes (n ∷ []) work before
  unfolding out_after set_out_after without_lines
  single_out = ap (out_from (without_line bytes n) before) (single_answer bytes n work (length before))

-- demand 3 (c)
pub single_keeps : (bytes : List ℕ) (n : ℕ) (after : List ℕ) (a : Result ℕ Refusal) → KeepsTheUnlisted bytes (n ∷ []) after a
    → KeepsTheOthers bytes n after a
unfolding KeepsTheUnlisted KeepsTheOthers
single_keeps bytes n after (Err r) k = tt
single_keeps bytes n after (Ok new) k = (
  k.0,
  k.1,
  k.2 ∙ without_next n [] (one_rises n) (stated_by bytes) ∙ ap (without n) (without_none (stated_by bytes)),
)
