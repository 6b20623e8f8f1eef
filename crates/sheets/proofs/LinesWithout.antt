-- The sheet that is left when a set of lines is withdrawn one by one, from the highest down: what it holds, that it is
-- good if no line that stays uses a listed one, and what it states then.
-- Assumes nothing.
use mathlib.Core.Path.{◌≡◌, refl, sym, ◌∙◌, ap, subst, subst₂}
use mathlib.Core.Logic.{◌↔◌, ⊎_elim}
use mathlib.Core.List.{List, [], ◌∷◌}
use Prim.Native.Nat.{ℕ, suc, ◌+◌, ◌-◌, ◌<◌}
use native.Mathlib.Omega.{arith}
use lib.ListN.{length, get_or}
use Rattle.terms.specs.Lists.{without}
use Rattle.rules.specs.Editions.{row_in}
use Rattle.rules.specs.RuleTable.{premise_count}
use Rattle.sheets.specs.declared.lines.Line.{Line}
use Rattle.sheets.specs.Layout.{edition_of, lines_in}
use Rattle.sheets.specs.Lines.{line_of, line_at, premises_of}
use Rattle.sheets.specs.Good.{Good}
use Rattle.sheets.specs.GoodLayout.{LaidOut, trailer_for}
use Rattle.sheets.specs.Accepted.{stated_by}
use Rattle.sheets.specs.Withdrawal.{Uses, Unused, lower_premise, sheet_without, without_line}
use Rattle.sheets.specs.LineSets.{Rises, Stays, count_below, new_number, old_number, without_places}
use Rattle.sheets.specs.WithdrawalSet.{without_lines, AllLines, NoneUsed}
use Rattle.sheets.specs.SetOutput.{Renumbered, LinesAway}
use Rattle.sheets.specs.Output.{MovedLine}
use Rattle.sheets.proofs.LineLaws.{premise_word}
use Rattle.sheets.proofs.LineNumberLaws.{before_behind, before_lower, lower_below}
use Rattle.sheets.proofs.LineSetLaws.{listed_first, listed_later, stays_later, listed_split}
use Rattle.sheets.proofs.LineSetLaws.{rises_later, rises_above, new_lower, new_within, new_first, new_other}
use Rattle.sheets.proofs.LineSetLaws.{old_stays, new_old, old_within, old_least}
use Rattle.sheets.proofs.PlaceLaws.{without_none, without_next}
use Rattle.sheets.proofs.SheetWithout.{head_word, edition_kept, laid, line_moved, good_without, stated-without}

-- a set with one number more, the lowest, which stays while the others go
pub first_stays : (n : ℕ) (set : List ℕ) → Rises (n ∷ set) → Stays set n
first_stays n set rising l = let h : n < n = rises_above n set rising n l in omega (arith, h)

module _ (n L : ℕ) (set : List ℕ) (rising : Rises (n ∷ set)) (all : AllLines L (n ∷ set)) where
  pub lines_later : AllLines L set
  lines_later k l = all k (listed_later n k set l)

  -- once they are away it is a line still, with its old number
  pub first_there : n < L - length set
  first_there =
      let stays = first_stays n set rising in
      subst (λ m. m < L - length set) ((new_first n set rising n).1 refl)
      (new_within set L (rises_later n set rising) lines_later n stays (all n (listed_first n set)))

-- no number is new where nothing is listed
none_new : (k : ℕ) → new_number [] k ≡ k
unfolding count_below
none_new k = omega arith

-- the counts are those of the trailer
pub without_laid : {b : List ℕ} {T C L : ℕ} (n : ℕ) → LaidOut b T C L → without_line b n ≡ sheet_without b T C L n
unfolding without_line trailer_for
without_laid {b} n l = ap (λ t. sheet_without b t.terms t.contexts t.lines n) l.trailer

module _ (b : List ℕ) (T C L : ℕ) where
  -- one line more, the lowest, is withdrawn from the sheet that is left
  module _ (n : ℕ) (set : List ℕ) (rising : Rises (n ∷ set)) (all : AllLines L (n ∷ set)) (s : List ℕ)
      (a : LinesAway b s T C L set) where
    abbrev left : ℕ
    left = L - length set

    abbrev new : List ℕ
    new = sheet_without s T C left n

    there : n < left
    there = first_there n L set rising all

    renumbered : (k : ℕ) → k < L → Stays (n ∷ set) k
        → Renumbered (n ∷ set) (lines_in b T C) (lines_in new T C) k (new_number (n ∷ set) k)
    renumbered k h stays =
        subst (Renumbered (n ∷ set) (lines_in b T C) (lines_in new T C) k) (sym (new_lower n set rising k))
        (record {
          fields = λ j l. moved.fields j l ∙ r.fields j l;
          premises = λ j low high.
              moved.premises j low high ∙ ap (lower_premise n) (r.premises j low high)
              ∙ sym (new_lower n set rising _);
        })
      where
        q : ℕ
        q = new_number set k

        later : Stays set k
        later = stays_later n k set stays

        other : q ≡ n → ⊥
        other = new_other n set rising k stays

        r : Renumbered set (lines_in b T C) (lines_in s T C) k q
        r = a.lines k h later

        within : lower_premise n q < left - 1
        within =
            lower_below n (left - 1) q other
            (omega (
              arith,
              before_behind n (left - 1) (omega (arith, there)),
              there,
              new_within set L (rises_later n set rising) (lines_later n L set rising all) k later h,
            ))

        moved : MovedLine n (lines_in s T C) (lines_in new T C) q (lower_premise n q)
        moved =
            subst (λ i. MovedLine n (lines_in s T C) (lines_in new T C) i (lower_premise n q)) (before_lower n q other)
            (line_moved s T C left n a.laid there (lower_premise n q) within)

    next_away : LinesAway b new T C L (n ∷ set)
    next_away =
        record {
          tables = λ i h. head_word s T C left n a.laid there i h ∙ a.tables i h;
          lines = renumbered;
          edition = edition_kept s T C left n a.laid there ∙ a.edition;
          laid = subst (LaidOut new T C) fewer (laid s T C left n a.laid there);
        }
      where
        fewer : left - 1 ≡ L - suc (length set)
        fewer = omega arith

  -- what the sheet without the listed lines holds, for any sheet with this layout
  module _ (old : LaidOut b T C L) where
    pub lines_away : (set : List ℕ) → Rises set → AllLines L set → LinesAway b (without_lines b set) T C L set
    unfolding without_lines
    lines_away [] rising all =
        record {
          tables = λ i h. refl;
          lines = λ k h stays.
              subst (Renumbered [] (lines_in b T C) (lines_in b T C) k) (sym (none_new k))
              (record { fields = λ j l. refl; premises = λ j low high. sym (none_new _) });
          edition = refl;
          laid = subst (LaidOut b T C) none_fewer old;
        }
      where
        none_fewer : L ≡ L - 0
        none_fewer = omega arith
    lines_away (n ∷ set) rising all =
        let a = lines_away set (rises_later n set rising) (lines_later n L set rising all) in
        subst (λ s. LinesAway b s T C L (n ∷ set)) (sym (without_laid n a.laid))
        (next_away n set rising all (without_lines b set) a)

  -- a line that stays keeps its rule, and uses the renumbered lines
  module _ (set s : List ℕ) (a : LinesAway b s T C L set) (k : ℕ) (h : k < L) (stays : Stays set k) where
    abbrev moved_to : Line
    moved_to = line_at s T C (new_number set k)

    abbrev moved_from : Line
    moved_from = line_at b T C k

    r : Renumbered set (lines_in b T C) (lines_in s T C) k (new_number set k)
    r = a.lines k h stays

    rule_kept : moved_to.rule ≡ moved_from.rule
    unfolding line_at line_of
    rule_kept = λ i. row_in (a.edition i) (r.fields 1 (omega arith) i)

    premise_kept : (j : ℕ) → j < 4 → get_or (premises_of moved_to) j 0 ≡ new_number set (get_or (premises_of moved_from) j 0)
    unfolding line_at
    premise_kept j l =
        sym (premise_word (edition_of s) (lines_in s T C) (new_number set k) j l)
        ∙ r.premises (6 + j) (omega arith) (omega arith)
        ∙ ap (new_number set) (premise_word (edition_of b) (lines_in b T C) k j l)

    -- where no other number becomes n
    pub uses_kept : (n : ℕ) → ((p : ℕ) → (new_number set p ≡ n) ↔ (p ≡ n)) → Uses moved_to n ↔ Uses moved_from n
    uses_kept n alone = (
      λ u. (u.0, u.1, subst (λ c. u.0 < c) counts u.2, (alone _).0 (sym (premise_kept u.0 u.1) ∙ u.3)),
      λ u. (u.0, u.1, subst (λ c. u.0 < c) (sym counts) u.2, premise_kept u.0 u.1 ∙ (alone _).1 u.3),
    )
      where
        counts : premise_count moved_to.rule ≡ premise_count moved_from.rule
        counts = ap premise_count rule_kept

  module _ (g : Good b T C L) where
    -- a line that uses a higher line than n is another than n
    pub user_stays : (n m k : ℕ) (set : List ℕ) → n < m → k < L → Uses (line_at b T C k) m → Stays set k
        → Stays (n ∷ set) k
    user_stays n m k set above h u stays l =
        ⊎_elim (λ e. omega (arith, e, above, u.3, (g.lines k h).ok.earlier u.0 u.1 u.2)) stays
        (listed_split n k set l)

    -- if no line that stays uses a line of the set, so it is without the lowest of the set
    pub none_later : (n : ℕ) (set : List ℕ) → Rises (n ∷ set) → NoneUsed (edition_of b) (lines_in b T C) L (n ∷ set)
        → NoneUsed (edition_of b) (lines_in b T C) L set
    unfolding line_at
    none_later n set rising none m l k h u =
        none m (listed_later n m set l) k h (user_stays n m k set (rises_above n set rising m l) h u.1 u.0, u.1)

    pub unused_left : (n : ℕ) (set : List ℕ) → Rises (n ∷ set) → AllLines L (n ∷ set)
        → NoneUsed (edition_of b) (lines_in b T C) L (n ∷ set)
        → (s : List ℕ) → LinesAway b s T C L set → Unused (edition_of s) (lines_in s T C) (L - length set) n
    unfolding line_at
    unused_left n set rising all none s a m low high u =
        none n (listed_first n set) k within
        (stays, (uses_kept set s a k within later n (new_first n set rising)).0 (subst Used (sym same) u))
      where
        later_rises : Rises set
        later_rises = rises_later n set rising

        k : ℕ
        k = old_number set m

        within : k < L
        within = old_within set L later_rises (lines_later n L set rising all) m high

        later : Stays set k
        later = old_stays set later_rises m

        stays : Stays (n ∷ set) k
        stays l = ⊎_elim (λ e. omega (arith, e, low, old_least set m)) later (listed_split n k set l)

        same : new_number set k ≡ m
        same = new_old set later_rises m

        Used : ℕ → Type 0
        Used i = Uses (line_at s T C i) n

    -- the sheet without the listed lines, if no line that stays uses one of them
    pub good_left : (set : List ℕ) → Rises set → AllLines L set → NoneUsed (edition_of b) (lines_in b T C) L set
        → Good (without_lines b set) T C (L - length set)
    unfolding without_lines
    good_left [] rising all none = let same : L ≡ L - 0 = omega arith in subst (Good b T C) same g
    good_left (n ∷ set) rising all none =
        let a = lines_away g.tables.laid set (rises_later n set rising) (lines_later n L set rising all) in
        let good = good_left set (rises_later n set rising) (lines_later n L set rising all)
        (none_later n set rising none) in
        let fewer : L - length set - 1 ≡ L - suc (length set) = omega arith in
        subst₂ (λ s l. Good s T C l) (sym (without_laid n a.laid)) fewer
        (good_without (without_lines b set) T C (L - length set) n a.laid (first_there n L set rising all) good
        (unused_left n set rising all none (without_lines b set) a))

    pub stated_left : (set : List ℕ) → Rises set → AllLines L set → NoneUsed (edition_of b) (lines_in b T C) L set
        → stated_by (without_lines b set) ≡ without_places set (stated_by b)
    unfolding without_lines
    stated_left [] rising all none = sym (without_none (stated_by b))
    stated_left (n ∷ set) rising all none =
        let a = lines_away g.tables.laid set (rises_later n set rising) (lines_later n L set rising all) in
        let later = none_later n set rising none in
        let good = good_left set (rises_later n set rising) (lines_later n L set rising all) later in
        ap stated_by (without_laid n a.laid)
        ∙ stated-without (without_lines b set) T C (L - length set) n a.laid (first_there n L set rising all) good
        (unused_left n set rising all none (without_lines b set) a)
        ∙ ap (without n) (stated_left set (rises_later n set rising) (lines_later n L set rising all) later)
        ∙ sym (without_next n set rising (stated_by b))
