-- Withdrawal of a set answers what single withdrawals come to, taken from the highest number down, and leaves the sheet
-- that they leave.
-- Assumes nothing.
use Rattle.std.specs.Prelude.{Result, Ok}
use Rattle.sheets.specs.declared.refusals.Fault.TheVariants.{NoLine, LineUsed, Room}
use Rattle.sheets.specs.declared.refusals.Refusal.{Refusal}
use Rattle.sheets.specs.Refusals.{refused}
use mathlib.Core.Path.{◌≡◌, refl, sym, ◌∙◌, ap, subst}
use mathlib.Core.Logic.{◌↔◌, ⊎_elim}
use mathlib.Core.List.{List, [], ◌∷◌}
use Prim.Native.Nat.{ℕ, ◌-◌, ◌≤◌, ◌<◌}
use native.Mathlib.Decide.{dec_lt, ℕ_discrete}
use native.Mathlib.Omega.{arith}
use lib.ListN.{length, take, drop}
use lib.Seq.{take_at}
use borrow.Author.Tests.{lt-ltb, le-ltb}
use Rattle.sheets.specs.Layout.{edition_of, lines_in}
use Rattle.sheets.specs.Lines.{line_at}
use Rattle.sheets.specs.Good.{Good}
use Rattle.sheets.specs.LineSets.{Rises, Listed, Stays, new_number, old_number}
use Rattle.sheets.specs.Withdrawal.{Uses, new_length, withdraw_of, without_line, out_from, out_after}
use Rattle.sheets.specs.Withdrawal.{LowestUse, Unused, AdmittedWithdrawalMeans, missing, used, written}
use Rattle.sheets.specs.WithdrawalSet.{kept_length, withdraw_set_of, without_lines, AllLines, HighestMissing}
use Rattle.sheets.specs.WithdrawalSet.{HighestUsed, NoneUsed}
use Rattle.sheets.specs.WithdrawalSet.{AdmittedSetMeans, not_rising, beyond, cited, too_short, withdrawn}
use Rattle.sheets.specs.SetOutput.{LinesAway}
use Rattle.sheets.specs.Singly.{left, stopped, after_single, withdraw_next, singly, in_room}
use Rattle.sheets.proofs.AdmissionLaws.{accepted_is}
use Rattle.sheets.proofs.LineSetLaws.{listed_first, listed_later, listed_split, rises_later, rises_above}
use Rattle.sheets.proofs.LineSetLaws.{new_first, new_less, new_within, old_stays, old_new, new_old, old_least}
use Rattle.sheets.proofs.WithdrawalLaws.{withdrawn_is}
use Rattle.sheets.proofs.SheetWithout.{new_long}
use Rattle.sheets.proofs.LinesWithout.{lines_later, first_stays, first_there, without_laid, lines_away}
use Rattle.sheets.proofs.LinesWithout.{uses_kept, user_stays, none_later, unused_left, good_left}
use Rattle.sheets.proofs.SetLaws.{set_is, left_long}
use Rattle.sheets.proofs.OneLineLaws.{one_listed}

-- an output of enough length
module _ (out : List ℕ) (enough : 52240 ≤ length out) where
  -- a good sheet keeps the limits, so each single withdrawal has room
  module _ (s : List ℕ) (T C L n : ℕ) (g : Good s T C L) (set : List ℕ) where
    means : (a : Result ℕ Refusal) → AdmittedWithdrawalMeans s T C L n (length out) a → withdraw_of s n 3072 (length out) ≡ a
    means a =
        (withdrawn_is s n 3072 (length out) T C L ((accepted_is s 3072 T C L).1 (g, g.tables.laid.few_terms)) a).1

    next_missing : L ≤ n → withdraw_next out set n (left s) ≡ stopped NoLine (old_number set n)
    unfolding withdraw_next after_single
    next_missing h = ap (after_single out set n s) (means (refused NoLine n) (missing h))

    next_used : (p : ℕ) → n < L → LowestUse (edition_of s) (lines_in s T C) L n p
        → withdraw_next out set n (left s) ≡ stopped LineUsed (old_number set p)
    unfolding withdraw_next after_single
    next_used p h u = ap (after_single out set n s) (means (refused LineUsed p) (used h u))

    module _ (h : n < L) (u : Unused (edition_of s) (lines_in s T C) L n) where
      answer : withdraw_of s n 3072 (length out) ≡ Ok (new_length T C L)
      unfolding new_length
      answer = means (Ok (new_length T C L)) (written h u (omega (arith, enough, g.tables.laid)))

      -- the output up to the length returned
      sheet_taken : take (new_length T C L) (out_after s n 3072 out) ≡ without_line s n
      unfolding out_after out_from new_length
      sheet_taken =
          ap (λ a. take (new_length T C L) (out_from (without_line s n) out a)) answer
          ∙ take_at (without_line s n) (drop (length (without_line s n)) out) (new_length T C L)
          (ap length (without_laid n g.tables.laid) ∙ new_long s T C L n g.tables.laid h)

      next_left : withdraw_next out set n (left s) ≡ left (without_line s n)
      unfolding withdraw_next after_single
      next_left = ap (after_single out set n s) answer ∙ ap left sheet_taken

  module _ (b : List ℕ) (T C L : ℕ) (g : Good b T C L) where
    -- the highest number is withdrawn first, and is no line
    singly_missing : (set : List ℕ) → Rises set → (n : ℕ) → HighestMissing L set n → singly out b set ≡ stopped NoLine n
    unfolding singly withdraw_next old_number
    singly_missing [] rising n m = absurd (omega (arith, m.listed.1))
    singly_missing (k ∷ []) rising n m =
        let e : k ≡ n = one_listed m.listed in
        next_missing b T C L k g [] (omega (arith, e, m.missing)) ∙ ap (stopped NoLine) e
    singly_missing (k ∷ i ∷ set) rising n m =
        ap (withdraw_next out (i ∷ set) k) (singly_missing (i ∷ set) (rises_later k (i ∷ set) rising) n later)
      where
        second : Listed (k ∷ i ∷ set) i
        second = listed_later k i (i ∷ set) (listed_first i set)

        above : k < i
        above = rises_above k (i ∷ set) rising i (listed_first i set)

        -- the lowest is not the highest that is no line
        other : k ≡ n → ⊥
        other e = omega (arith, e, above, m.highest i second (omega (arith, e, above, m.missing)))

        later : HighestMissing L (i ∷ set) n
        later =
            record {
              listed = ⊎_elim (λ e. absurd (other e)) (λ l. l) (listed_split k n (i ∷ set) m.listed);
              missing = m.missing;
              highest = λ j l. m.highest j (listed_later k j (i ∷ set) l);
            }

    -- no line that stays uses a listed one, so each may go
    singly_left : (set : List ℕ) → Rises set → AllLines L set → NoneUsed (edition_of b) (lines_in b T C) L set
        → singly out b set ≡ left (without_lines b set)
    unfolding singly without_lines
    singly_left [] rising all none = refl
    singly_left (n ∷ set) rising all none =
        let later = rises_later n set rising in
        let lines = lines_later n L set rising all in
        let free = none_later b T C L g n set rising none in
        let away = lines_away b T C L g.tables.laid set later lines in
        ap (withdraw_next out set n) (singly_left set later lines free)
        ∙ next_left (without_lines b set) T C (L - length set) n (good_left b T C L g set later lines free) set
        (first_there n L set rising all)
        (unused_left b T C L g n set rising all none (without_lines b set) away)

    -- the highest listed line that a line which stays uses, and the lowest such line
    abbrev Highest : List ℕ → ℕ → ℕ → Type 0
    Highest = HighestUsed (edition_of b) (lines_in b T C) L

    -- a higher one is found before the lowest of the set is withdrawn
    used_later : (k : ℕ) (set : List ℕ) → Rises (k ∷ set) → (n p : ℕ) → Listed set n → Highest (k ∷ set) n p
        → Highest set n p
    unfolding line_at
    used_later k set rising n p l u =
        record {
          listed = l;
          within = u.within;
          uses = (λ x. u.uses.0 (listed_later k p set x), u.uses.1);
          lowest = λ i h x.
              u.lowest i h (user_stays b T C L g k n i set above (omega (arith, u.within)) x.1 x.0, x.1);
          highest = λ m h x i j y.
              u.highest m h (listed_later k m set x) i j
              (user_stays b T C L g k m i set (omega (arith, above)) j y.1 y.0, y.1);
        }
      where
        above : k < n
        above = rises_above k set rising n l

    -- the lowest of the set is the highest that is so used: the others may go, and then it may not
    module _ (k : ℕ) (set : List ℕ) (rising : Rises (k ∷ set)) (all : AllLines L (k ∷ set))
        (p : ℕ) (u : Highest (k ∷ set) k p) where
      later : Rises set
      later = rises_later k set rising

      lines : AllLines L set
      lines = lines_later k L set rising all

      none_above : NoneUsed (edition_of b) (lines_in b T C) L set
      unfolding line_at
      none_above m l i h x =
          let above : k < m = rises_above k set rising m l in
          u.highest m above (listed_later k m set l) i h (user_stays b T C L g k m i set above h x.1 x.0, x.1)

      abbrev s : List ℕ
      s = without_lines b set

      away : LinesAway b s T C L set
      away = lines_away b T C L g.tables.laid set later lines

      stays : Stays set p
      stays x = u.uses.0 (listed_later k p set x)

      alone : (q : ℕ) → (new_number set q ≡ k) ↔ (q ≡ k)
      alone = new_first k set rising

      lowest_left : LowestUse (edition_of s) (lines_in s T C) (L - length set) k (new_number set p)
      unfolding line_at
      lowest_left =
          record {
            later =
                subst (λ m. m < new_number set p) ((alone k).1 refl)
                (new_less set later k p (first_stays k set rising) behind);
            within = new_within set L later lines p stays u.within;
            uses = (uses_kept b T C L set s away p u.within stays k alone).1 u.uses.1;
            lowest = lowest;
          }
        where
          behind : k < p
          behind =
              let x = u.uses.1 in omega (arith, x.3, (g.lines p u.within).ok.earlier x.0 x.1 x.2)

          lowest : (i : ℕ) → k < i → i < new_number set p → Uses (line_at s T C i) k → ⊥
          lowest i low high x =
              u.lowest q before
              (first, (uses_kept b T C L set s away q within other k alone).0 (subst Used (sym same) x))
            where
              q : ℕ
              q = old_number set i

              Used : ℕ → Type 0
              Used m = Uses (line_at s T C m) k

              same : new_number set q ≡ i
              same = new_old set later i

              other : Stays set q
              other = old_stays set later i

              before : q < p
              before = at (dec_lt q p) (ℕ_discrete p q)
                where
                  at : Dec (q < p) → Dec (p ≡ q) → q < p
                  at (yes h) d = h
                  at (no h) (yes e) = absurd (omega (arith, ap (new_number set) e, same, high))
                  at (no h) (no f) = absurd (omega (arith, new_less set later p q stays (omega (arith, f)), same, high))

              within : q < L
              within = omega (arith, before, u.within)

              first : Stays (k ∷ set) q
              first l = ⊎_elim (λ e. omega (arith, e, low, old_least set i)) other (listed_split k q set l)

      singly_first : singly out b (k ∷ set) ≡ stopped LineUsed p
      unfolding singly
      singly_first =
          ap (withdraw_next out set k) (singly_left set later lines none_above)
          ∙ next_used s T C (L - length set) k (good_left b T C L g set later lines none_above) set (new_number set p)
          (first_there k L set rising all) lowest_left
          ∙ ap (stopped LineUsed) (old_new set later p stays)

    singly-used : (set : List ℕ) → Rises set → AllLines L set → (n p : ℕ) → Highest set n p
        → singly out b set ≡ stopped LineUsed p
    unfolding singly withdraw_next
    singly-used [] rising all n p u = absurd (omega (arith, u.listed.1))
    singly-used (k ∷ set) rising all n p u =
        let at_later = singly-used set (rises_later k set rising) (lines_later k L set rising all) n p in
        ⊎_elim (λ e. singly_first k set rising all p (subst (λ m. Highest (k ∷ set) m p) (sym e) u))
        (λ l. ap (withdraw_next out set k) (at_later (used_later k set rising n p l u)))
        (listed_split k n set u.listed)

    module _ (set : List ℕ) (work room : ℕ) (rising : Rises set) (fits : T ≤ work) where
      long : AllLines L set → length (without_lines b set) ≡ kept_length T C L set
      long all = left_long b set T C L g rising all

      short_room : (sheet : List ℕ) → room < length sheet → in_room room (left sheet) ≡ refused Room 0
      unfolding in_room
      short_room sheet h = rw (lt-ltb room (length sheet) h, in_room)

      enough_room : (sheet : List ℕ) → length sheet ≤ room → in_room room (left sheet) ≡ Ok (length sheet)
      unfolding in_room
      enough_room sheet h = rw (le-ltb room (length sheet) h, in_room)

      from : {a : Result ℕ Refusal} → AdmittedSetMeans b T C L set room a → in_room room (singly out b set) ≡ a
      unfolding in_room
      from (not_rising f) = absurd (f rising)
      from (beyond {n = n} _ m) = ap (in_room room) (singly_missing set rising n m)
      from (cited {n = n} {p = p} _ all u) = ap (in_room room) (singly-used set rising all n p u)
      from (too_short _ all none k) =
          ap (in_room room) (singly_left set rising all none)
          ∙ short_room (without_lines b set) (omega (arith, k, long all))
      from (withdrawn _ all none k) =
          ap (in_room room) (singly_left set rising all none)
          ∙ enough_room (without_lines b set) (omega (arith, k, long all)) ∙ ap Ok (long all)

      answered : (a : Result ℕ Refusal) → (withdraw_set_of b set work room ≡ a) ↔ AdmittedSetMeans b T C L set room a
      answered = set_is b set work room T C L ((accepted_is b work T C L).1 (g, fits))

      -- the answer is what single withdrawals come to
      pub by_singles : withdraw_set_of b set work room ≡ in_room room (singly out b set)
      by_singles = sym (from ((answered (withdraw_set_of b set work room)).0 refl))

      -- and the sheet that is written is the one that they leave
      pub sheet_by_singles : (l : ℕ) → withdraw_set_of b set work room ≡ Ok l
          → singly out b set ≡ left (without_lines b set)
      sheet_by_singles l e = at ((answered (Ok l)).0 e)
        where
          at : {m : ℕ} → AdmittedSetMeans b T C L set room (Ok m) → singly out b set ≡ left (without_lines b set)
          at (withdrawn _ all none k) = singly_left set rising all none
