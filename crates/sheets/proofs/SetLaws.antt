-- Withdrawal of a set, on a sheet that admission accepts: each answer is given exactly if it means what document 02
-- says. On any other sheet admission's refusal is answered. Demand 3 (c).
-- Assumes nothing.
use Rattle.std.specs.Prelude.{Result, Ok, Err}
use Rattle.sheets.specs.declared.refusals.Counts.{Counts}
use Rattle.sheets.specs.declared.refusals.Fault.{Fault}
use Rattle.sheets.specs.declared.refusals.Fault.TheVariants.{NoLine, NotRising}
use Rattle.sheets.specs.declared.refusals.Refusal.{Refusal}
use Rattle.sheets.specs.Refusals.{refused, counts}
use mathlib.Core.Path.{◌≡◌, refl, sym, ◌∙◌, ap, subst}
use mathlib.Core.Logic.{◌↔◌, ◌⊎◌, inl, inr}
use mathlib.Core.Bool.{Bool, true, false, ◌&&◌}
use mathlib.Core.List.{List}
use Prim.Native.Nat.{ℕ, ◌≤◌, ◌<◌}
use native.Mathlib.Decide.{dec_lt}
use native.Mathlib.Omega.{arith}
use lib.Dec.{leb, ltb}
use lib.ListN.{length, take, drop}
use lib.Seq.{take_at}
use Rattle.terms.specs.Decides.{Decides}
use Rattle.terms.specs.Buffers.{over}
use Rattle.terms.proofs.Tests.{either, refutes, refuted, says_lt, says_le, ◌&◌}
use Rattle.sheets.specs.Layout.{edition_of, lines_in}
use Rattle.sheets.specs.Admission.{admit_of}
use Rattle.sheets.specs.Good.{Good}
use Rattle.sheets.specs.Accepted.{IsAccepted, stated_by}
use Rattle.sheets.specs.LineSets.{rises, Rises, last_listed}
use Rattle.sheets.specs.Withdrawal.{after_use, out_from}
use Rattle.sheets.specs.WithdrawalSet.{kept_use, kept_length, kept_answer, after_set, withdraw_set_after, withdraw_set_of}
use Rattle.sheets.specs.WithdrawalSet.{without_lines, set_out_after, KeepsTheUnlisted, AllLines, HighestMissing}
use Rattle.sheets.specs.WithdrawalSet.{NoneUsed, AdmittedSetMeans, not_rising, beyond, cited, too_short, withdrawn}
use Rattle.sheets.proofs.LineSetLaws.{rises_says, last_listed_lem, last_highest}
use Rattle.sheets.proofs.UseLaws.{use_highest, use_none, highest_use, none_use}
use Rattle.sheets.proofs.WithdrawalLaws.{use_refused, room_refused, room_enough}
use Rattle.sheets.proofs.AdmissionLaws.{accepted_is}
use Rattle.sheets.proofs.AcceptedLaws.{good_accepted}
use Rattle.sheets.proofs.LinesWithout.{lines_away, good_left, stated_left}

-- the last listed number is no line
abbrev LastMissing : ℕ → List ℕ → Type 0
LastMissing L set = (0 < length set) × (L ≤ last_listed set)

abbrev last_missing : ℕ → List ℕ → Bool
last_missing L set = ltb 0 (length set) && leb L (last_listed set)

last_says : (L : ℕ) (set : List ℕ) → Decides (last_missing L set) (LastMissing L set)
last_says L set = says_lt 0 (length set) & says_le L (last_listed set)

-- a rising list has lines only if its last number is one
module _ (L : ℕ) (set : List ℕ) where
  pub all_lines : Rises set → (LastMissing L set → ⊥) → AllLines L set
  all_lines rising there n l = at (dec_lt n L)
    where
      at : Dec (n < L) → n < L
      at (yes h) = h
      at (no h) = absurd (there (omega (arith, l.1), omega (arith, last_highest set rising n l)))

  last_there : AllLines L set → LastMissing L set → ⊥
  last_there all m = omega (arith, m.1, all (last_listed set) (last_listed_lem set m.0))

  -- the highest listed number is the last
  missing_last : Rises set → LastMissing L set → HighestMissing L set (last_listed set)
  missing_last rising m =
      record { listed = last_listed_lem set m.0; missing = m.1; highest = λ k l _. last_highest set rising k l }

  last_missing_lem : (n : ℕ) → Rises set → HighestMissing L set n → LastMissing L set × (last_listed set ≡ n)
  last_missing_lem n rising m =
      let some : 0 < length set = omega (arith, m.listed.1) in
      let low : n ≤ last_listed set = last_highest set rising n m.listed in
      let last : L ≤ last_listed set = omega (arith, low, m.missing) in
      ((some, last), omega (arith, low, m.highest (last_listed set) (last_listed_lem set some) last))

-- the ways through 18 and 11
module _ (bytes : List ℕ) (T C L : ℕ) (set : List ℕ) (room : ℕ) where
  pub not_rising_lem : rises set ≡ false → after_set bytes T C L set room ≡ refused NotRising 0
  unfolding after_set
  not_rising_lem e = rw (e, after_set)

  pub not_there : rises set ≡ true → LastMissing L set → after_set bytes T C L set room ≡ refused NoLine (last_listed set)
  unfolding after_set
  not_there e m = rw (e, (last_says L set).1 m, after_set)

  pub lines_there : rises set ≡ true → (LastMissing L set → ⊥)
      → after_set bytes T C L set room ≡ kept_answer bytes T C L set room
  unfolding after_set
  lines_there e f = rw (e, refutes (last_missing L set) (last_says L set) f, after_set)

  abbrev place : ℕ
  place = kept_use (edition_of bytes) (lines_in bytes T C) L set

  abbrev new : ℕ
  new = kept_length T C L set

  abbrev Means : Result ℕ Refusal → Type 0
  Means = AdmittedSetMeans bytes T C L set room

  kept_means : Rises set → AllLines L set → Means (kept_answer bytes T C L set room)
  unfolding kept_answer
  kept_means rising all = on_use (dec_lt place L)
    where
      none : L ≤ place → NoneUsed (edition_of bytes) (lines_in bytes T C) L set
      none = use_none (edition_of bytes) (lines_in bytes T C) L set all

      on_room : L ≤ place → Dec (room < new) → Means (after_use L new room place)
      on_room h (yes k) = subst Means (sym (room_refused L new room place h k)) (too_short rising all (none h) k)
      on_room h (no k) =
          subst Means (sym (room_enough L new room place h (omega arith))) (withdrawn rising all (none h) (omega arith))

      on_use : Dec (place < L) → Means (after_use L new room place)
      on_use (yes h) =
          subst Means (sym (use_refused L new room place h))
          (cited rising all (use_highest (edition_of bytes) (lines_in bytes T C) L set all h).1)
      on_use (no h) = on_room (omega arith) (dec_lt room new)

  means : Means (after_set bytes T C L set room)
  means = at (either (rises set)) (either (last_missing L set))
    where
      at : (rises set ≡ true) ⊎ (rises set ≡ false)
          → (last_missing L set ≡ true) ⊎ (last_missing L set ≡ false)
          → Means (after_set bytes T C L set room)
      at (inr e) d = subst Means (sym (not_rising_lem e)) (not_rising (refuted (rises_says set) e))
      at (inl e) (inl d) =
          let rising : Rises set = (rises_says set).0 e in
          let m : LastMissing L set = (last_says L set).0 d in
          subst Means (sym (not_there e m)) (beyond rising (missing_last L set rising m))
      at (inl e) (inr d) =
          let rising : Rises set = (rises_says set).0 e in
          let f : LastMissing L set → ⊥ = refuted (last_says L set) d in
          subst Means (sym (lines_there e f)) (kept_means rising (all_lines L set rising f))

  there : Rises set → AllLines L set → after_set bytes T C L set room ≡ after_use L new room place
  unfolding kept_answer
  there rising all = lines_there ((rises_says set).1 rising) (last_there L set all)

  back : {a : Result ℕ Refusal} → Means a → after_set bytes T C L set room ≡ a
  back (not_rising f) = not_rising_lem (refutes (rises set) (rises_says set) f)
  back (beyond {n} rising m) =
      let l = last_missing_lem L set n rising m in not_there ((rises_says set).1 rising) l.0 ∙ ap (refused NoLine) l.1
  back (cited {n} {p} rising all u) =
      there rising all ∙ ap (after_use L new room) (highest_use (edition_of bytes) (lines_in bytes T C) L set all n p u)
      ∙ use_refused L new room p u.within
  back (too_short rising all none k) =
      there rising all
      ∙ room_refused L new room place (none_use (edition_of bytes) (lines_in bytes T C) L set all none) k
  back (withdrawn rising all none k) =
      there rising all
      ∙ room_enough L new room place (none_use (edition_of bytes) (lines_in bytes T C) L set all none) k

  set_means : (a : Result ℕ Refusal) → (after_set bytes T C L set room ≡ a) ↔ Means a
  set_means a = (λ e. subst Means e means, back)

module _ (bytes set : List ℕ) (work room : ℕ) where
  -- a refusal of admission is handed on
  pub set-refused : (fault : Fault) (place : ℕ) → admit_of bytes work ≡ refused fault place
      → withdraw_set_of bytes set work room ≡ refused fault place
  unfolding withdraw_set_of withdraw_set_after
  set-refused fault at e = ap (withdraw_set_after bytes set room) e

  module _ (T C L : ℕ) (accepted : admit_of bytes work ≡ Ok (counts T C L)) where
    set_admitted : withdraw_set_of bytes set work room ≡ after_set bytes T C L set room
    unfolding withdraw_set_of withdraw_set_after
    set_admitted = ap (withdraw_set_after bytes set room) accepted

    -- on an accepted sheet an answer is given exactly if it means what it should
    pub set_is : (a : Result ℕ Refusal) → (withdraw_set_of bytes set work room ≡ a) ↔ AdmittedSetMeans bytes T C L set room a
    set_is a = (
      λ e. (set_means bytes T C L set room a).0 (sym set_admitted ∙ e),
      λ m. set_admitted ∙ (set_means bytes T C L set room a).1 m,
    )

module _ (bytes set : List ℕ) (T C L : ℕ) (g : Good bytes T C L) (rising : Rises set) (all : AllLines L set) where
  pub left_long : length (without_lines bytes set) ≡ kept_length T C L set
  unfolding kept_length
  left_long = (lines_away bytes T C L g.tables.laid set rising all).laid.long

  -- the output up to the new length
  pub sheet_left : (before : List ℕ)
      → take (kept_length T C L set) (over (without_lines bytes set) before) ≡ without_lines bytes set
  sheet_left before =
      take_at (without_lines bytes set) (drop (length (without_lines bytes set)) before) (kept_length T C L set) left_long

-- demand 3 (c)
module _ (bytes set : List ℕ) (work : ℕ) (before : List ℕ) where
  on_means : (T C L : ℕ) → Good bytes T C L → {a : Result ℕ Refusal} → AdmittedSetMeans bytes T C L set (length before) a
      → KeepsTheUnlisted bytes set (out_from (without_lines bytes set) before a) a
  unfolding KeepsTheUnlisted out_from
  on_means T C L g (not_rising f) = tt
  on_means T C L g (beyond rising m) = tt
  on_means T C L g (cited rising all u) = tt
  on_means T C L g (too_short rising all none k) = tt
  on_means T C L g (withdrawn rising all none k) =
      let new = sheet_left bytes set T C L g rising all before in (
        good_accepted g,
        subst IsAccepted (sym new) (good_accepted (good_left bytes T C L g set rising all none)),
        ap stated_by new ∙ stated_left bytes T C L g set rising all none,
      )

  on_admission : (a : Result Counts Refusal) → admit_of bytes work ≡ a
      → KeepsTheUnlisted bytes set
      (out_from (without_lines bytes set) before (withdraw_set_after bytes set (length before) a))
      (withdraw_set_after bytes set (length before) a)
  unfolding KeepsTheUnlisted withdraw_set_after
  on_admission (Err r) e = tt
  on_admission (Ok c) e =
      on_means c.terms c.contexts c.lines ((accepted_is bytes work c.terms c.contexts c.lines).0 e).0
      (means bytes c.terms c.contexts c.lines set (length before))

  pub set_keeps : KeepsTheUnlisted bytes set (set_out_after bytes set work before)
      (withdraw_set_of bytes set work (length before))
  unfolding set_out_after withdraw_set_of
  set_keeps = on_admission (admit_of bytes work) refl
