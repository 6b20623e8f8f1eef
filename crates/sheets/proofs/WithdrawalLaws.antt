-- Withdrawal, on a sheet that admission accepts: each answer is given exactly if it means what document 01 says. On any
-- other sheet admission's refusal is answered.
-- Assumes nothing.
use Rattle.std.specs.Prelude.{Result, Ok}
use Rattle.sheets.specs.declared.refusals.Fault.{Fault}
use Rattle.sheets.specs.declared.refusals.Fault.TheVariants.{NoLine, LineUsed, Room}
use Rattle.sheets.specs.declared.refusals.Refusal.{Refusal}
use Rattle.sheets.specs.Refusals.{refused, counts}
use mathlib.Core.Path.{◌≡◌, refl, sym, ◌∙◌, ap, subst}
use mathlib.Core.Logic.{◌↔◌, ◌⊎◌, inl, inr, ⊎_elim}
use mathlib.Core.Bool.{Bool, ◌&&◌}
use mathlib.Core.List.{List}
use Prim.Native.Nat.{ℕ, zero, suc, ◌-◌, ◌≤◌, ◌<◌}
use native.Mathlib.Decide.{dec_lt}
use native.Mathlib.Omega.{arith}
use lib.Dec.{ltb, eqb}
use lib.ListN.{get_or}
use borrow.Author.Tests.{lt-ltb, le-ltb}
use Rattle.terms.specs.Decides.{Decides}
use Rattle.terms.proofs.Tests.{says_lt, says_eq, decides_via, ◌&◌, decides_either}
use Rattle.terms.proofs.SearchLaws.{stops, passes, search_means, FirstOf, first_tells}
use Rattle.rules.specs.RuleTable.{premise_count}
use Rattle.sheets.specs.declared.lines.Line.{Line}
use Rattle.sheets.specs.Layout.{edition_of, lines_in}
use Rattle.sheets.specs.Lines.{line_of, premises_of}
use Rattle.sheets.specs.Admission.{admit_of}
use Rattle.sheets.specs.Withdrawal.{uses, Uses, first_use, new_length, after_use, after_line, withdraw_after}
use Rattle.sheets.specs.Withdrawal.{withdraw_of, LowestUse, Unused}
use Rattle.sheets.specs.Withdrawal.{AdmittedWithdrawalMeans, missing, used, short, written}

-- premise j is used and is n
abbrev UsesAt : Line → ℕ → ℕ → Type 0
UsesAt l n j = (j < premise_count l.rule) × (get_or (premises_of l) j 0 ≡ n)

four_uses : (l : Line) (n : ℕ) → (((UsesAt l n 0 ⊎ UsesAt l n 1) ⊎ UsesAt l n 2) ⊎ UsesAt l n 3) ↔ Uses l n
four_uses l n = (
  ⊎_elim (⊎_elim (⊎_elim (at 0 (omega arith)) (at 1 (omega arith))) (at 2 (omega arith))) (at 3 (omega arith)),
  λ u. to u.0 u.1 (u.2, u.3),
)
  where
    at : (j : ℕ) → j < 4 → UsesAt l n j → Uses l n
    at j h u = (j, h, u.0, u.1)

    to : (j : ℕ) → j < 4 → UsesAt l n j → ((UsesAt l n 0 ⊎ UsesAt l n 1) ⊎ UsesAt l n 2) ⊎ UsesAt l n 3
    to zero h u = inl (inl (inl u))
    to (suc zero) h u = inl (inl (inr u))
    to (suc (suc zero)) h u = inl (inr u)
    to (suc (suc (suc zero))) h u = inr u
    to (suc (suc (suc (suc j)))) h u = absurd (omega arith)

-- the test answers for the use
pub uses_says : (l : Line) (n : ℕ) → Decides (uses l n) (Uses l n)
unfolding uses premises_of
uses_says l n =
    decides_via (four_uses l n)
    (decides_either
    (decides_either (decides_either (says 0 l.p0) (says 1 l.p1)) (says 2 l.p2))
    (says 3 l.p3))
  where
    at : ℕ → ℕ → Bool
    at j p = ltb j (premise_count l.rule) && eqb p n

    says : (j p : ℕ) → Decides (at j p) ((j < premise_count l.rule) × (p ≡ n))
    says j p = says_lt j (premise_count l.rule) & says_eq p n

module _ (edition : ℕ) (lines : List ℕ) (n L : ℕ) (h : n < L) where
  -- what the search for a use answers
  abbrev First : ℕ → Type 0
  First = FirstOf (λ k. Uses (line_of edition lines k) n) (λ k. k) L (suc n) L

  first_means : (p : ℕ) → (first_use edition lines L n ≡ p) ↔ First p
  unfolding first_use
  first_means =
      search_means
      (first_tells (λ k. Uses (line_of edition lines k) n) (λ k. k) (λ k. uses_says (line_of edition lines k) n))
      L (L - suc n) (suc n) L (omega arith)

  first : First (first_use edition lines L n)
  first = (first_means (first_use edition lines L n)).0 refl

  use_lowest : first_use edition lines L n < L → LowestUse edition lines L n (first_use edition lines L n)
  use_lowest l = from first
    where
      from : First (first_use edition lines L n) → LowestUse edition lines L n (first_use edition lines L n)
      from (stops p low high before x) =
          subst (LowestUse edition lines L n) (sym x.1)
          (record { later = low; within = high; uses = x.0; lowest = before })
      from (passes all e) = absurd (omega arith)

  use_none : L ≤ first_use edition lines L n → Unused edition lines L n
  use_none l = from first
    where
      from : First (first_use edition lines L n) → Unused edition lines L n
      from (stops p low high before x) = absurd (omega (arith, x.1))
      from (passes all e) = all

  lowest_use : (p : ℕ) → LowestUse edition lines L n p → first_use edition lines L n ≡ p
  lowest_use p u = (first_means p).1 (stops p u.later u.within u.lowest (u.uses, refl))

  none_use : Unused edition lines L n → L ≤ first_use edition lines L n
  none_use f = omega (arith, (first_means L).1 (passes f refl))

-- the ways through 12 and 13
module _ (L new room p : ℕ) where
  pub use_refused : p < L → after_use L new room p ≡ refused LineUsed p
  unfolding after_use
  use_refused h = rw (lt-ltb p L h, after_use)

  pub room_refused : L ≤ p → room < new → after_use L new room p ≡ refused Room 0
  unfolding after_use
  room_refused h k = rw (le-ltb p L h, lt-ltb room new k, after_use)

  pub room_enough : L ≤ p → new ≤ room → after_use L new room p ≡ Ok new
  unfolding after_use
  room_enough h k = rw (le-ltb p L h, le-ltb room new k, after_use)

-- 11, then these
module _ (bytes : List ℕ) (T C L n room : ℕ) where
  line_missing : L ≤ n → after_line bytes T C L n room ≡ refused NoLine n
  unfolding after_line
  line_missing h = rw (le-ltb n L h, after_line)

  line_there : n < L → after_line bytes T C L n room
      ≡ after_use L (new_length T C L) room (first_use (edition_of bytes) (lines_in bytes T C) L n)
  unfolding after_line
  line_there h = rw (lt-ltb n L h, after_line)

  means : AdmittedWithdrawalMeans bytes T C L n room (after_line bytes T C L n room)
  means = at (dec_lt n L)
    where
      Means : Result ℕ Refusal → Type 0
      Means = AdmittedWithdrawalMeans bytes T C L n room

      place : ℕ
      place = first_use (edition_of bytes) (lines_in bytes T C) L n

      none : n < L → L ≤ place → Unused (edition_of bytes) (lines_in bytes T C) L n
      none = use_none (edition_of bytes) (lines_in bytes T C) n L

      new : ℕ
      new = new_length T C L

      on_room : n < L → L ≤ place → Dec (room < new) → Means (after_use L new room place)
      on_room h l (yes k) = subst Means (sym (room_refused L new room place l k)) (short h (none h l) k)
      on_room h l (no k) =
          subst Means (sym (room_enough L new room place l (omega arith))) (written h (none h l) (omega arith))

      on_use : n < L → Dec (place < L) → Means (after_use L new room place)
      on_use h (yes l) =
          subst Means (sym (use_refused L new room place l))
          (used h (use_lowest (edition_of bytes) (lines_in bytes T C) n L h l))
      on_use h (no l) = on_room h (omega arith) (dec_lt room new)

      at : Dec (n < L) → Means (after_line bytes T C L n room)
      at (yes h) = subst Means (sym (line_there h)) (on_use h (dec_lt place L))
      at (no h) = subst Means (sym (line_missing (omega arith))) (missing (omega arith))

  back : {a : Result ℕ Refusal} → AdmittedWithdrawalMeans bytes T C L n room a → after_line bytes T C L n room ≡ a
  back (missing h) = line_missing h
  back (used {p} h u) =
      let e = lowest_use (edition_of bytes) (lines_in bytes T C) n L h p u in
      line_there h ∙ ap (after_use L (new_length T C L) room) e ∙ use_refused L (new_length T C L) room p u.within
  back (short h u k) = line_there h ∙ room_refused _ _ _ _ (none_use (edition_of bytes) (lines_in bytes T C) n L h u) k
  back (written h u k) = line_there h ∙ room_enough _ _ _ _ (none_use (edition_of bytes) (lines_in bytes T C) n L h u) k

module _ (bytes : List ℕ) (n work room : ℕ) where
  -- a refusal of admission is handed on
  pub withdraw_refused : (fault : Fault) (place : ℕ) → admit_of bytes work ≡ refused fault place
      → withdraw_of bytes n work room ≡ refused fault place
  unfolding withdraw_of withdraw_after
  withdraw_refused fault place e = ap (withdraw_after bytes n room) e

  module _ (T C L : ℕ) (accepted : admit_of bytes work ≡ Ok (counts T C L)) where
    withdrawn_by : withdraw_of bytes n work room ≡ after_line bytes T C L n room
    unfolding withdraw_of withdraw_after
    withdrawn_by = ap (withdraw_after bytes n room) accepted

    -- no later line uses line n
    abbrev Free : Type 0
    Free = Unused (edition_of bytes) (lines_in bytes T C) L n

    -- line p is the lowest later line that uses it
    abbrev LowestAt : ℕ → Type 0
    LowestAt p = LowestUse (edition_of bytes) (lines_in bytes T C) L n p

    -- on an accepted sheet an answer is given exactly if it means what it should
    pub withdrawn_is : (a : Result ℕ Refusal)
        → (withdraw_of bytes n work room ≡ a) ↔ AdmittedWithdrawalMeans bytes T C L n room a
    withdrawn_is a = (
      λ e. subst (AdmittedWithdrawalMeans bytes T C L n room) (sym withdrawn_by ∙ e) (means bytes T C L n room),
      λ m. withdrawn_by ∙ back bytes T C L n room m,
    )

    -- number by number
    pub missing_is : (withdraw_of bytes n work room ≡ refused NoLine n) ↔ (L ≤ n)
    missing_is = (λ e. from ((withdrawn_is (refused NoLine n)).0 e), λ h. (withdrawn_is (refused NoLine n)).1 (missing h))
      where
        from : {p : ℕ} → AdmittedWithdrawalMeans bytes T C L n room (refused NoLine p) → L ≤ n
        from (missing h) = h

    pub used_is : (p : ℕ) → (withdraw_of bytes n work room ≡ refused LineUsed p) ↔ ((n < L) × LowestAt p)
    used_is p = (λ e. from ((withdrawn_is (refused LineUsed p)).0 e), λ h. (withdrawn_is (refused LineUsed p)).1 (used h.0 h.1))
      where
        from : AdmittedWithdrawalMeans bytes T C L n room (refused LineUsed p) → (n < L) × LowestAt p
        from (used h u) = (h, u)

    pub short_is : (withdraw_of bytes n work room ≡ refused Room 0) ↔ ((n < L) × Free × (room < new_length T C L))
    short_is = (
      λ e. from ((withdrawn_is (refused Room 0)).0 e),
      λ h. (withdrawn_is (refused Room 0)).1 (short h.0 h.1 h.2),
    )
      where
        from : {p : ℕ} → AdmittedWithdrawalMeans bytes T C L n room (refused Room p)
            → (n < L) × Free × (room < new_length T C L)
        from (short h u k) = (h, u, k)

    pub written_is : (withdraw_of bytes n work room ≡ Ok (new_length T C L))
        ↔ ((n < L) × Free × (new_length T C L ≤ room))
    written_is = (λ e. from ((withdrawn_is _).0 e), λ h. (withdrawn_is _).1 (written h.0 h.1 h.2))
      where
        from : {l : ℕ} → AdmittedWithdrawalMeans bytes T C L n room (Ok l)
            → (n < L) × Free × (new_length T C L ≤ room)
        from (written h u k) = (h, u, k)
