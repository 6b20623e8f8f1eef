-- A batch of searches, for any sheet, judgments and buffers: its answer, each of its searches and what it leaves in the
-- buffers mean what document 02 says, and nothing else does.
-- Assumes nothing.
use Rattle.std.specs.Prelude.{Result, Ok, Err}
use Rattle.sheets.specs.declared.refusals.Counts.{Counts}
use Rattle.sheets.specs.declared.refusals.Fault.{Fault}
use Rattle.sheets.specs.declared.refusals.Fault.TheVariants.{AnswerRoom}
use Rattle.sheets.specs.declared.refusals.Refusal.{Refusal}
use Rattle.sheets.specs.Refusals.{number_of, refused, counts}
use mathlib.Core.Path.{◌≡◌, refl, sym, ◌∙◌, ap, ap₂, subst}
use mathlib.Core.Logic.{◌↔◌}
use mathlib.Core.List.{List, ◌∷◌, map}
use Prim.Native.Nat.{ℕ, zero, suc, ◌+◌, ◌*◌, ◌/◌, ◌≤◌, ◌<◌}
use native.Mathlib.Decide.{dec_lt}
use native.Mathlib.Omega.{arith}
use lib.Dec.{ltb}
use lib.ListN.{length, get_or, take, drop, get_or-append}
use lib.Seq.{ext_get_or, get_or-take, drop-drop}
use Rattle.std.specs.Simd.{first_chunks}
use Rattle.std.proofs.lemmas.List.{get_or-map}
use Rattle.terms.specs.Lists.{listed}
use Rattle.terms.specs.Buffers.{over}
use Rattle.terms.proofs.Tests.{refutes, says_lt, clash}
use Rattle.sheets.specs.declared.finding.Wanted.{Wanted}
use Rattle.sheets.specs.Admission.{admit_of}
use Rattle.sheets.specs.Finding.{find_of}
use Rattle.sheets.specs.Answered.{FoundMeans, found, faulty as unfit, absent as unfound}
use Rattle.sheets.specs.Batch.{wanted_of, no_judgment, wanted_at, wanted_in, answer_for, batch_after, batch_of, answers_from}
use Rattle.sheets.specs.Batch.{answers_after, BatchMeans, faulty, short, all, SearchMeans, stated, absent}
use Rattle.sheets.specs.Batch.{AnswersLeft}
use Rattle.sheets.proofs.BufferLaws.{over_length, over_beyond}
use Rattle.sheets.proofs.SheetWithout.{listed_same}
use Rattle.sheets.proofs.ListedLaws.{listed-length, listed_at, map-listed}
use Rattle.sheets.proofs.AdmissionLaws.{accepted_is, refused_is, fault_left}
use Rattle.sheets.proofs.AnsweredLaws.{find_is, RefusalLeaves, AllSizes, all_sizes, later}

module _ (bytes : List ℕ) (work count room : ℕ) where
  abbrev Means : Result ℕ Refusal → Type 0
  Means = BatchMeans bytes work count room

  pub handed : (fault : Fault) (place : ℕ) → admit_of bytes work ≡ refused fault place
      → batch_of bytes work count room ≡ refused fault place
  unfolding batch_of batch_after
  handed fault place e = ap (batch_after count room) e

  module _ (T C L : ℕ) (accepted : admit_of bytes work ≡ Ok (counts T C L)) where
    pub too_short_lem : room < count → batch_of bytes work count room ≡ refused AnswerRoom 0
    unfolding batch_of batch_after
    too_short_lem h = ap (batch_after count room) accepted ∙ rw ((says_lt room count).1 h, batch_after)

    pub long_enough : count ≤ room → batch_of bytes work count room ≡ Ok count
    unfolding batch_of batch_after
    long_enough h =
        ap (batch_after count room) accepted
        ∙ rw (refutes (ltb room count) (says_lt room count) (λ k. omega arith), batch_after)

  on_admission : (a : Result Counts Refusal) → admit_of bytes work ≡ a → Means (batch_of bytes work count room)
  on_admission (Err r) e =
      subst Means (sym (handed r.fault r.place e)) (faulty ((refused_is bytes work r.fault r.place).0 e))
  on_admission (Ok n) e = at (dec_lt room count)
    where
      T : ℕ
      T = n.terms

      C : ℕ
      C = n.contexts

      L : ℕ
      L = n.lines

      at : Dec (room < count) → Means (batch_of bytes work count room)
      at (yes h) =
          let g = (accepted_is bytes work T C L).0 e in
          subst Means (sym (too_short_lem T C L e h)) (short g.0 g.1 h)
      at (no h) =
          let g = (accepted_is bytes work T C L).0 e in
          let k : count ≤ room = omega arith in
          subst Means (sym (long_enough T C L e k)) (all g.0 g.1 k)

  back : {a : Result ℕ Refusal} → Means a → batch_of bytes work count room ≡ a
  back (faulty {fault} {place} f) = handed fault place ((refused_is bytes work fault place).1 f)
  back (short {T} {C} {L} g fits h) = too_short_lem T C L ((accepted_is bytes work T C L).1 (g, fits)) h
  back (all {T} {C} {L} g fits h) = long_enough T C L ((accepted_is bytes work T C L).1 (g, fits)) h

  pub batch_is : (a : Result ℕ Refusal) → (batch_of bytes work count room ≡ a) ↔ BatchMeans bytes work count room a
  batch_is a = (λ e. subst Means e (on_admission (admit_of bytes work) refl), back)

module _ (bytes : List ℕ) (work : ℕ) (w : Wanted) where
  answer_only : {n : ℕ} → SearchMeans bytes work w n → answer_for (find_of bytes work w) ≡ n
  unfolding answer_for
  answer_only (stated h m) = ap answer_for ((find_is bytes work w _).1 m)
  answer_only (absent m) = ap answer_for ((find_is bytes work w _).1 m)

  module _ (T C L : ℕ) (accepted : admit_of bytes work ≡ Ok (counts T C L)) where
    on_found : {a : Result ℕ Refusal} → FoundMeans bytes work w a → SearchMeans bytes work w (answer_for a)
    unfolding answer_for
    on_found (unfit {fault} {place} f) = clash (cc (accepted, (refused_is bytes work fault place).1 f))
    on_found (found {i = i} g fits l) =
        stated {line = i} (omega (arith, l.within, g.tables.laid.few_lines)) (found g fits l)
    on_found (unfound g fits none) = absent (unfound g fits none)

    pub answer_is : (n : ℕ) → (answer_for (find_of bytes work w) ≡ n) ↔ SearchMeans bytes work w n
    answer_is n = (
      λ e. subst (SearchMeans bytes work w) e (on_found ((find_is bytes work w (find_of bytes work w)).0 refl)),
      answer_only,
    )

-- the buffer of answers
module _ (bytes : List ℕ) (work : ℕ) (ws : List Wanted) (before : List ℕ) where
  abbrev Batched : Result ℕ Refusal → Type 0
  Batched a = batch_of bytes work (length ws) (length before) ≡ a

  -- the answer for judgment i, and all of them
  abbrev answer_at : ℕ → ℕ
  answer_at i = answer_for (find_of bytes work (wanted_at ws i))

  abbrev answers : List ℕ
  answers = listed answer_at (length ws)

  pub answers_kept : (fault : Fault) (place : ℕ) → Batched (refused fault place) → answers_after bytes work ws before ≡ before
  unfolding answers_after answers_from
  answers_kept fault place e = ap (answers_from _ before) e

  written : (count : ℕ) → Batched (Ok count) → answers_after bytes work ws before ≡ over answers before
  unfolding answers_after answers_from
  written count e = ap (answers_from _ before) e ∙ ap (λ l. over l before) (map-listed _ _ ws)

  pub answers_left : (count : ℕ) → Batched (Ok count)
      → AnswersLeft bytes work ws before (answers_after bytes work ws before)
  answers_left count e =
      subst (AnswersLeft bytes work ws before) (sym (written count e))
      (at ((batch_is bytes work (length ws) (length before) (Ok count)).0 e))
    where
      size : length answers ≡ length ws
      size = listed-length answer_at (length ws)

      put : (i : ℕ) → i < length ws → get_or (over answers before) i 0 ≡ answer_at i
      put i h =
          get_or-append answers (drop (length answers) before) 0 i (omega (arith, size))
          ∙ listed_at answer_at (length ws) i 0 h

      at : {n : ℕ} → BatchMeans bytes work (length ws) (length before) (Ok n)
          → AnswersLeft bytes work ws before (over answers before)
      at (all {T} {C} {L} g fits room) =
          let accepted = (accepted_is bytes work T C L).1 (g, fits) in
          record {
            long = over_length answers before (omega (arith, size));
            each = λ i h. (answer_is bytes work (wanted_at ws i) T C L accepted _).0 (sym (put i h));
            beyond = λ i h. over_beyond answers before i (omega (arith, size));
          }

  -- and nothing else is left
  pub answers_only : (count : ℕ) → Batched (Ok count) → (after : List ℕ) → AnswersLeft bytes work ws before after
      → after ≡ answers_after bytes work ws before
  answers_only count e after o =
      ext_get_or 0 after (answers_after bytes work ws before) (o.long ∙ sym left.long)
      (λ i _. at i (dec_lt i (length ws)))
    where
      left : AnswersLeft bytes work ws before (answers_after bytes work ws before)
      left = answers_left count e

      at : (i : ℕ) → Dec (i < length ws) → get_or after i 0 ≡ get_or (answers_after bytes work ws before) i 0
      at i (yes h) =
          sym (answer_only bytes work (wanted_at ws i) (o.each i h))
          ∙ answer_only bytes work (wanted_at ws i) (left.each i h)
      at i (no h) = o.beyond i (omega arith) ∙ sym (left.beyond i (omega arith))

-- the work buffer
module _ (bytes before : List ℕ) (count room : ℕ) where
  pub batch_left : (fault : Fault) (place : ℕ) → batch_of bytes (length before) count room ≡ refused fault place
      → RefusalLeaves bytes before fault place
  unfolding number_of
  batch_left fault place e = at ((batch_is bytes (length before) count room (refused fault place)).0 e)
    where
      at : {k : Fault} {p : ℕ} → BatchMeans bytes (length before) count room (refused k p) → RefusalLeaves bytes before k p
      at (faulty f) = fault_left bytes before f
      at (short g fits h) = later bytes before g fits AnswerRoom 0 (omega arith)

  -- after 19 all sizes
  pub batch_sizes : (fault : Fault) (place : ℕ) → batch_of bytes (length before) count room ≡ refused fault place
      → 11 ≤ number_of fault → AllSizes bytes before
  batch_sizes fault place e h = (batch_left fault place e).wholly (omega arith)

  pub answered_left : (n : ℕ) → batch_of bytes (length before) count room ≡ Ok n → AllSizes bytes before
  answered_left n e = at ((batch_is bytes (length before) count room (Ok n)).0 e)
    where
      at : {m : ℕ} → BatchMeans bytes (length before) count room (Ok m) → AllSizes bytes before
      at (all g fits h) = all_sizes bytes before g fits

-- an element of a list, as what is looked for
pub wanted_element : {X : Type 0} (f : X → Wanted) (xs : List X) (i : ℕ) (x : X) → i < length xs → x ≡ get_or xs i x
    → f x ≡ wanted_at (map f xs) i
wanted_element f xs i x h e = ap f e ∙ sym (get_or-map f xs i x no_judgment h)

-- judgments as numbers, five a judgment
first_five : (numbers : List ℕ) → wanted_of (take 5 numbers) ≡ wanted_of numbers
unfolding wanted_of
first_five numbers =
    λ i. record {
      form = get_or-take 5 numbers 0 0 (omega arith) i;
      context = get_or-take 5 numbers 1 0 (omega arith) i;
      s1 = get_or-take 5 numbers 2 0 (omega arith) i;
      s2 = get_or-take 5 numbers 3 0 (omega arith) i;
      s3 = get_or-take 5 numbers 4 0 (omega arith) i;
    }

chunks : (k : ℕ) (numbers : List ℕ)
    → map wanted_of (first_chunks 5 k numbers) ≡ listed (λ i. wanted_of (drop (5 * i) numbers)) k
unfolding listed
chunks zero numbers = refl
chunks (suc k) numbers =
    ap₂ (λ w ws. w ∷ ws) (first_five numbers)
    (chunks k (drop 5 numbers)
    ∙ listed_same (λ j. wanted_of (drop (5 * j) (drop 5 numbers))) (λ j. wanted_of (drop (5 * suc j) numbers)) k
    (λ j h. ap wanted_of (drop-drop (5 * j) 5 numbers ∙ ap (λ n. drop n numbers) (next j))))
  where
    next : (j : ℕ) → 5 + 5 * j ≡ 5 * suc j
    next j = omega arith

pub wanted_chunks : (numbers : List ℕ) → map wanted_of (first_chunks 5 (length numbers / 5) numbers) ≡ wanted_in numbers
unfolding wanted_in
wanted_chunks numbers = chunks (length numbers / 5) numbers

pub wanted_count : (numbers : List ℕ) → length (wanted_in numbers) ≡ length numbers / 5
unfolding wanted_in
wanted_count numbers = listed-length _ (length numbers / 5)

pub wanted_at_lem : (numbers : List ℕ) (i : ℕ) → i < length numbers / 5
    → wanted_at (wanted_in numbers) i ≡ wanted_of (drop (5 * i) numbers)
unfolding wanted_in
wanted_at_lem numbers i h = listed_at (λ k. wanted_of (drop (5 * k) numbers)) (length numbers / 5) i _ h
