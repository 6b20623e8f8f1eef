-- Finding, withdrawal and conversion, for any sheet and work buffer: an answer is given exactly if it means what
-- documents 01 and 02 say, and the work buffer then holds what they say.
-- Assumes nothing.
use Rattle.std.specs.Prelude.{Result, Ok, Err}
use Rattle.sheets.specs.declared.refusals.Counts.{Counts}
use Rattle.sheets.specs.declared.refusals.Fault.{Fault}
use Rattle.sheets.specs.declared.refusals.Fault.TheVariants.{Room, NotStated, UpToDate, NoMotive}
use Rattle.sheets.specs.declared.refusals.Refusal.{Refusal}
use Rattle.sheets.specs.Refusals.{number_of, refused, counts}
use mathlib.Core.Path.{◌≡◌, refl, sym, ◌∙◌, subst}
use mathlib.Core.Logic.{◌↔◌}
use mathlib.Core.List.{List}
use Prim.Native.Nat.{ℕ, ◌≤◌}
use native.Mathlib.Omega.{arith}
use lib.ListN.{length}
use Rattle.sheets.specs.declared.finding.Wanted.{Wanted}
use Rattle.sheets.specs.Layout.{trailer_of}
use Rattle.sheets.specs.Admission.{admit_of, work_after}
use Rattle.sheets.specs.Good.{Good}
use Rattle.sheets.specs.WorkBuffer.{SizesLeft, WorkLeft}
use Rattle.sheets.specs.Finding.{find_of}
use Rattle.sheets.specs.Withdrawal.{withdraw_of, AdmittedWithdrawalMeans, missing, used, short}
use Rattle.sheets.specs.WithdrawalSet.{withdraw_set_of, AdmittedSetMeans, not_rising}
use Rattle.sheets.specs.WithdrawalSet.{beyond, cited, too_short, withdrawn}
use Rattle.sheets.specs.Conversion.{convert_of, AdmittedConversionMeans, asks_already, no_motive, no_room, whole}
use Rattle.sheets.specs.Answered.{FoundMeans, faulty, found, absent}
use Rattle.sheets.specs.Answered.{AnswerMeans, unfit, admitted}
use Rattle.sheets.specs.Answered.{WithdrawalMeans, SetWithdrawalMeans, ConversionMeans}
use Rattle.sheets.proofs.AdmissionLaws.{accepted_is, refused_is, left_counted, left_wholly, fault_left}
use Rattle.sheets.proofs.FindingLaws.{find_refused, found_is, missing_is, missing_only}
use Rattle.sheets.proofs.WithdrawalLaws.{withdraw_refused, withdrawn_is}
use Rattle.sheets.proofs.SetLaws.{set-refused, set_is}
use Rattle.sheets.proofs.ConversionLaws.{convert_refused, convert_is}

module _ (bytes : List ℕ) (work : ℕ) (w : Wanted) where
  on_found : (T C L : ℕ) → admit_of bytes work ≡ Ok (counts T C L) → (a : Result ℕ Refusal) → find_of bytes work w ≡ a → FoundMeans bytes work w a
  on_found T C L e (Ok i) f = let g = (accepted_is bytes work T C L).0 e in found g.0 g.1 ((found_is bytes work w T C L e i).0 f)
  on_found T C L e (Err r) f =
      let g = (accepted_is bytes work T C L).0 e in
      let h = missing_only bytes work w T C L e r.fault r.place f in
      let k : find_of bytes work w ≡ refused NotStated 0 = f ∙ (λ i. refused (h.0 i) (h.1 i)) in
      subst (FoundMeans bytes work w) (sym k ∙ f) (absent g.0 g.1 ((missing_is bytes work w T C L e).0 k))

  on_admission : (a : Result Counts Refusal) → admit_of bytes work ≡ a → FoundMeans bytes work w (find_of bytes work w)
  on_admission (Err r) e =
      subst (FoundMeans bytes work w) (sym (find_refused bytes work w r.fault r.place e))
      (faulty ((refused_is bytes work r.fault r.place).0 e))
  on_admission (Ok n) e = on_found n.terms n.contexts n.lines e (find_of bytes work w) refl

  back : {a : Result ℕ Refusal} → FoundMeans bytes work w a → find_of bytes work w ≡ a
  back (faulty {fault} {place} f) = find_refused bytes work w fault place ((refused_is bytes work fault place).1 f)
  back (found {T} {C} {L} {i} g room l) = (found_is bytes work w T C L ((accepted_is bytes work T C L).1 (g, room)) i).1 l
  back (absent {T} {C} {L} g room none) = (missing_is bytes work w T C L ((accepted_is bytes work T C L).1 (g, room))).1 none

  pub find_is : (a : Result ℕ Refusal) → (find_of bytes work w ≡ a) ↔ FoundMeans bytes work w a
  find_is a = (λ e. subst (FoundMeans bytes work w) e (on_admission (admit_of bytes work) refl), back)

-- an answer of any kind, which hands on what admission refuses
module _ {A : Type 0} (bytes : List ℕ) (work : ℕ) (Admitted : ℕ → ℕ → ℕ → Result A Refusal → Type 0) (answer : Result A Refusal)
    (handed : (fault : Fault) (place : ℕ) → admit_of bytes work ≡ refused fault place → answer ≡ refused fault place)
    (asked : (T C L : ℕ) → admit_of bytes work ≡ Ok (counts T C L) → (a : Result A Refusal) → (answer ≡ a) ↔ Admitted T C L a) where
  abbrev Means : Result A Refusal → Type 0
  Means = AnswerMeans bytes work Admitted

  on_answer : (a : Result Counts Refusal) → admit_of bytes work ≡ a → Means answer
  on_answer (Err r) e =
      subst Means (sym (handed r.fault r.place e)) (unfit ((refused_is bytes work r.fault r.place).0 e))
  on_answer (Ok n) e =
      let g = (accepted_is bytes work n.terms n.contexts n.lines).0 e in
      admitted g.0 g.1 ((asked n.terms n.contexts n.lines e answer).0 refl)

  answer_back : {a : Result A Refusal} → Means a → answer ≡ a
  answer_back (unfit {fault} {place} f) = handed fault place ((refused_is bytes work fault place).1 f)
  answer_back (admitted {T} {C} {L} {a} g fits m) = (asked T C L ((accepted_is bytes work T C L).1 (g, fits)) a).1 m

  answer_is : (a : Result A Refusal) → (answer ≡ a) ↔ Means a
  answer_is a = (λ e. subst Means e (on_answer (admit_of bytes work) refl), answer_back)

pub withdrawal_is : (bytes : List ℕ) (work n room : ℕ) (a : Result ℕ Refusal)
    → (withdraw_of bytes n work room ≡ a) ↔ WithdrawalMeans bytes work n room a
withdrawal_is bytes work n room =
    answer_is bytes work (λ T C L. AdmittedWithdrawalMeans bytes T C L n room) (withdraw_of bytes n work room)
    (withdraw_refused bytes n work room) (withdrawn_is bytes n work room)

pub set_withdrawal_is : (bytes : List ℕ) (work : ℕ) (set : List ℕ) (room : ℕ) (a : Result ℕ Refusal)
    → (withdraw_set_of bytes set work room ≡ a) ↔ SetWithdrawalMeans bytes work set room a
set_withdrawal_is bytes work set room =
    answer_is bytes work (λ T C L. AdmittedSetMeans bytes T C L set room) (withdraw_set_of bytes set work room)
    (set-refused bytes set work room) (set_is bytes set work room)

pub conversion_is : (bytes : List ℕ) (work room : ℕ) (a : Result ℕ Refusal)
    → (convert_of bytes work room ≡ a) ↔ ConversionMeans bytes work room a
conversion_is bytes work room =
    answer_is bytes work (λ T C L. AdmittedConversionMeans bytes T C L room) (convert_of bytes work room)
    (convert_refused bytes work room) (convert_is bytes work room)

-- a length that is answered is within the output
pub set_written_fits : (bytes set : List ℕ) (work room l : ℕ) → withdraw_set_of bytes set work room ≡ Ok l → l ≤ room
set_written_fits bytes set work room l e = at ((set_withdrawal_is bytes work set room (Ok l)).0 e)
  where
    within : {T C L m : ℕ} → AdmittedSetMeans bytes T C L set room (Ok m) → m ≤ room
    within (withdrawn rising all none k) = k

    at : {m : ℕ} → SetWithdrawalMeans bytes work set room (Ok m) → m ≤ room
    at (admitted g fits answer) = within answer

pub converted_fits : (bytes : List ℕ) (work room l : ℕ) → convert_of bytes work room ≡ Ok l → l ≤ room
converted_fits bytes work room l e = at ((conversion_is bytes work room (Ok l)).0 e)
  where
    at : {m : ℕ} → ConversionMeans bytes work room (Ok m) → m ≤ room
    at (admitted g fits (whole early all k)) = k

-- The work buffer: after a refusal it holds what the number says, all sizes from 8 on; after any other answer, all
-- sizes. Once the sheet is accepted it makes no difference what is answered.
module _ (bytes before : List ℕ) where
  abbrev pub RefusalLeaves : Fault → ℕ → Type 0
  RefusalLeaves fault place = WorkLeft bytes before (work_after bytes before) (number_of fault) place

  abbrev pub AllSizes : Type 0
  AllSizes = SizesLeft bytes (trailer_of bytes).terms before (work_after bytes before)

  module _ {T C L : ℕ} (g : Good bytes T C L) (room : T ≤ length before) where
    pub all_sizes : AllSizes
    all_sizes = left_counted bytes before g.tables.laid room g.tables.terms

    pub later : (fault : Fault) (place : ℕ) → 8 ≤ number_of fault → RefusalLeaves fault place
    later = left_wholly bytes before g.tables.laid room g.tables.terms

  pub find_left : (w : Wanted) (fault : Fault) (place : ℕ) → find_of bytes (length before) w ≡ refused fault place
      → RefusalLeaves fault place
  unfolding number_of
  find_left w fault place e = at ((find_is bytes (length before) w (refused fault place)).0 e)
    where
      at : {k : Fault} {p : ℕ} → FoundMeans bytes (length before) w (refused k p) → RefusalLeaves k p
      at (faulty f) = fault_left bytes before f
      at (absent g room none) = later g room NotStated 0 (omega arith)

  -- after 14 all sizes
  pub find_sizes : (w : Wanted) (fault : Fault) (place : ℕ) → find_of bytes (length before) w ≡ refused fault place
      → 11 ≤ number_of fault → AllSizes
  find_sizes w fault place e h = (find_left w fault place e).wholly (omega arith)

  pub found_left : (w : Wanted) (i : ℕ) → find_of bytes (length before) w ≡ Ok i → AllSizes
  found_left w i e = at ((find_is bytes (length before) w (Ok i)).0 e)
    where
      at : FoundMeans bytes (length before) w (Ok i) → AllSizes
      at (found g room l) = all_sizes g room

  -- a withdrawal of any kind, whose own refusals have numbers from 11 on
  module _ (Admitted : ℕ → ℕ → ℕ → Result ℕ Refusal → Type 0) where
    refusal_left : ((T C L : ℕ) (fault : Fault) (place : ℕ) → Admitted T C L (refused fault place) → 11 ≤ number_of fault)
        → {fault : Fault} {place : ℕ} → AnswerMeans bytes (length before) Admitted (refused fault place)
        → RefusalLeaves fault place
    refusal_left late (unfit f) = fault_left bytes before f
    refusal_left late (admitted g fits m) = later g fits _ _ (omega (arith, late _ _ _ _ _ m))

    any_left : {new : ℕ} → AnswerMeans bytes (length before) Admitted (Ok new) → AllSizes
    any_left (admitted g fits m) = all_sizes g fits

  module _ (n room : ℕ) where
    late : {T C L : ℕ} {fault : Fault} {place : ℕ} → AdmittedWithdrawalMeans bytes T C L n room (refused fault place) → 11 ≤ number_of fault
    unfolding number_of
    late (missing h) = omega arith
    late (used h u) = omega arith
    late (short h u k) = omega arith

    pub withdrawal_left : (fault : Fault) (place : ℕ) → withdraw_of bytes n (length before) room ≡ refused fault place
        → RefusalLeaves fault place
    withdrawal_left fault place e =
        refusal_left (λ T C L. AdmittedWithdrawalMeans bytes T C L n room) (λ T C L fault place. late)
        ((withdrawal_is bytes (length before) n room (refused fault place)).0 e)

    -- after 11 to 13 all sizes
    pub withdrawal_sizes : (fault : Fault) (place : ℕ) → withdraw_of bytes n (length before) room ≡ refused fault place
        → 11 ≤ number_of fault → AllSizes
    withdrawal_sizes fault place e h = (withdrawal_left fault place e).wholly (omega arith)

    pub written_left : (new : ℕ) → withdraw_of bytes n (length before) room ≡ Ok new → AllSizes
    written_left new e =
        any_left (λ T C L. AdmittedWithdrawalMeans bytes T C L n room)
        ((withdrawal_is bytes (length before) n room (Ok new)).0 e)

  module _ (set : List ℕ) (room : ℕ) where
    late_set : {T C L : ℕ} {fault : Fault} {place : ℕ} → AdmittedSetMeans bytes T C L set room (refused fault place) → 11 ≤ number_of fault
    unfolding number_of
    late_set (not_rising f) = omega arith
    late_set (beyond rising m) = omega arith
    late_set (cited rising all u) = omega arith
    late_set (too_short rising all none k) = omega arith

    pub set_withdrawal_left : (fault : Fault) (place : ℕ) → withdraw_set_of bytes set (length before) room ≡ refused fault place
        → RefusalLeaves fault place
    set_withdrawal_left fault place e =
        refusal_left (λ T C L. AdmittedSetMeans bytes T C L set room) (λ T C L fault place. late_set)
        ((set_withdrawal_is bytes (length before) set room (refused fault place)).0 e)

    -- after 18 and 11 to 13 all sizes
    pub set_withdrawal_sizes : (fault : Fault) (place : ℕ) → withdraw_set_of bytes set (length before) room ≡ refused fault place
        → 11 ≤ number_of fault → AllSizes
    set_withdrawal_sizes fault place e h = (set_withdrawal_left fault place e).wholly (omega arith)

    pub set_written_left : (new : ℕ) → withdraw_set_of bytes set (length before) room ≡ Ok new → AllSizes
    set_written_left new e =
        any_left (λ T C L. AdmittedSetMeans bytes T C L set room)
        ((set_withdrawal_is bytes (length before) set room (Ok new)).0 e)

  module _ (room : ℕ) where
    -- after a refusal what the number says, after a length all sizes
    Leaves : Result ℕ Refusal → Type 0
    Leaves (Err r) = RefusalLeaves r.fault r.place
    Leaves (Ok new) = AllSizes

    leaves : {a : Result ℕ Refusal} → ConversionMeans bytes (length before) room a → Leaves a
    unfolding Leaves number_of
    leaves (unfit f) = fault_left bytes before f
    leaves (admitted g fits (asks_already e)) = later g fits UpToDate 0 (omega arith)
    leaves (admitted g fits (no_motive {n} early m)) = later g fits NoMotive n (omega arith)
    leaves (admitted g fits (no_room early all k)) = later g fits Room 0 (omega arith)
    leaves (admitted g fits (whole early all k)) = all_sizes g fits

    pub conversion_work : (fault : Fault) (place : ℕ) → convert_of bytes (length before) room ≡ refused fault place
        → RefusalLeaves fault place
    unfolding Leaves
    conversion_work fault place e = leaves ((conversion_is bytes (length before) room (refused fault place)).0 e)

    -- after 20, 21 and 13 all sizes
    pub conversion_sizes : (fault : Fault) (place : ℕ) → convert_of bytes (length before) room ≡ refused fault place
        → 11 ≤ number_of fault → AllSizes
    conversion_sizes fault place e h = (conversion_work fault place e).wholly (omega arith)

    pub converted_work : (new : ℕ) → convert_of bytes (length before) room ≡ Ok new → AllSizes
    unfolding Leaves
    converted_work new e = leaves ((conversion_is bytes (length before) room (Ok new)).0 e)
