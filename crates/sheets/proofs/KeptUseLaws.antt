-- Listed lines that lines which stay use, asked line by line: what one line's answer means, and what the loop through
-- the lines keeps.
-- Assumes nothing.
use mathlib.Core.Path.{◌≡◌, refl, sym, ◌∙◌, ap, subst, subst₂}
use Rattle.std.specs.Prelude.{Option, Some, None, IfSome, MatchOption}
use Rattle.std.specs.Ordering.{ord_max}
use Rattle.std.specs.Option.{option_cmp}
use Rattle.std.proofs.Common.{nat_cmp}
use Rattle.std.proofs.lemmas.Grind.{common_steps}
use mathlib.Core.Logic.{◌⊎◌, ⊎_elim}
use mathlib.Core.Bool.{Bool, true, false, ◌&&◌}
use mathlib.Core.List.{List}
use Prim.Native.Nat.{ℕ, suc, max, ◌+◌, ◌-◌, ◌*◌, ◌≤◌, ◌<◌}
use native.Mathlib.Decide.{dec_lt}
use native.Mathlib.Omega.{arith}
use native.Mathlib.Numerals.{add-one}
use lib.Dec.{ltb}
use lib.ListN.{length, get_or}
use borrow.Author.Tests.{lt-ltb, le-ltb}
use Rattle.terms.specs.Decides.{Decides}
use Rattle.terms.proofs.Tests.{either, says_lt, refuted, decides_via, ◌&◌}
use Rattle.rules.specs.RuleTable.{IsRule, premise_count}
use Rattle.sheets.specs.declared.lines.Line.{Line}
use Rattle.sheets.specs.declared.uses.Use.{Use}
use Rattle.sheets.specs.Lines.{line_of, premises_of}
use Rattle.sheets.specs.LineSets.{Rises, is_listed, Listed, last_listed, count_below, new_number, old_number}
use Rattle.sheets.specs.Numbering.{Numbering}
use Rattle.sheets.specs.Withdrawal.{Uses}
use Rattle.sheets.specs.WithdrawalSet.{kept_use, AllLines, KeptUses}
use Rattle.sheets.specs.ListedUses.{above, listed_premise, greater, highest_listed, higher_use}
use Rattle.sheets.specs.Citing.{CitesEarlier, CitingLines}
use Rattle.sheets.proofs.CitingLaws.{premise_within, premises_within}
use Rattle.sheets.proofs.LineSetLaws.{listed_says, first_least, last_highest, count_here, count_there, new_less}
use Rattle.sheets.proofs.LineSetLaws.{new_within, old_stays, old_new, new_old, old_within, old_below}
use Rattle.sheets.proofs.UseLaws.{highest_use, unused_use}

-- a number is listed exactly if more are below the next
count_says : (set : List ℕ) → Rises set → (k : ℕ)
    → Decides (ltb (count_below set k) (count_below set (suc k))) (Listed set k)
count_says set r k =
    decides_via (
      λ h. ⊎_elim (listed_says set k).0 (not_more h) (either (is_listed set k)),
      λ l. omega (arith, count_here set r k l),
    )
    (says_lt (count_below set k) (count_below set (suc k)))
  where
    not_more : count_below set k < count_below set (suc k) → is_listed set k ≡ false → Listed set k
    not_more h f = absurd (omega (arith, count_there set k (refuted (listed_says set k) f)))

-- the greater of two numbers
module _ (m n : ℕ) where
  pub greater_first : n ≤ m → greater m n ≡ m
  unfolding greater
  greater_first h = rw (le-ltb m n h, greater)

  pub greater_second : m < n → greater m n ≡ n
  unfolding greater
  greater_second h = rw (lt-ltb m n h, greater)

pub max_greater : (m n : ℕ) → max m n ≡ greater m n
max_greater m n =
    elim (dec_lt m n) [
      | yes h ↦ omega (arith, greater_second m n h)
      | no h ↦ omega (arith, greater_first m n (omega arith))
    ]

-- the greater of two listed lines, of which no line is below any
max_above : (o p : Option ℕ) → above (ord_max (option_cmp nat_cmp) o p) ≡ max (above o) (above p)
max_above None None = omega arith
max_above None (Some n) = omega arith
max_above (Some m) None = omega arith
max_above (Some m) (Some n) = grind (arith, common_steps)

pub greater_above : (o p q : Option ℕ) → q ≡ ord_max (option_cmp nat_cmp) o p → above q ≡ greater (above o) (above p)
greater_above o p q e = ap above e ∙ max_above o p ∙ max_greater (above o) (above p)

-- a premise that is used and listed, and any other
module _ (below : List ℕ) (used : Bool) (p : ℕ) where
  pub listed_premise_lem : (used && ltb (get_or below p 0) (get_or below (p + 1) 0)) ≡ true → listed_premise below used p ≡ p + 1
  unfolding listed_premise
  listed_premise_lem e = rw (e, listed_premise)

  pub other_premise : (used && ltb (get_or below p 0) (get_or below (p + 1) 0)) ≡ false → listed_premise below used p ≡ 0
  unfolding listed_premise
  other_premise e = rw (e, listed_premise)

-- one more than the listed line of a use, 0 for none
abbrev pub above_use : Option Use → ℕ
above_use None = 0
above_use (Some u) = suc u.listed

-- the higher of two uses
pub higher_other : (found : Option Use) (v : Use) → above_use found ≤ v.listed → higher_use found v ≡ v
unfolding higher_use
higher_other None v h = refl
higher_other (Some u) v h = rw (lt-ltb u.listed v.listed (omega arith), higher_use)

pub higher_first : (found : Option Use) (v : Use) → v.listed < above_use found → found ≡ Some (higher_use found v)
unfolding higher_use
higher_first None v h = absurd (omega arith)
higher_first (Some u) v h = ap Some (sym (first (le-ltb u.listed v.listed (omega arith))))
  where
    first : ltb u.listed v.listed ≡ false → higher_use (Some u) v ≡ u
    first e = rw (e, higher_use)

-- h is one more than the highest number of which P holds, 0 if it holds of none
record Above (P : ℕ → Type 0) (h : ℕ) : Type 0 where
  highest : (n : ℕ) → h ≤ n → P n → ⊥
  holds : (n : ℕ) → h ≡ suc n → P n

-- one of the places from a on, before b, has the number n
abbrev Among : (ℕ → ℕ → Type 0) → ℕ → ℕ → ℕ → Type 0
Among P a b n = (j : ℕ) × (a ≤ j) × (j < b) × P j n

-- the places of two stretches, one behind the other
module _ (P : ℕ → ℕ → Type 0) (a b c h k : ℕ) (low : a ≤ b) (high : b ≤ c)
    (first : Above (Among P a b) h) (second : Above (Among P b c) k) where
  above_either : (n : ℕ) → h ≤ n → k ≤ n → Among P a c n → ⊥
  above_either n l m (j, s, t, p) = at (dec_lt j b)
    where
      at : Dec (j < b) → ⊥
      at (yes d) = first.highest n l (j, s, d, p)
      at (no d) = second.highest n m (j, omega arith, t, p)

  above_greater : Above (Among P a c) (greater h k)
  above_greater = at (dec_lt h k)
    where
      at : Dec (h < k) → Above (Among P a c) (greater h k)
      at (yes d) =
          subst (Above (Among P a c)) (sym (greater_second h k d))
          (record {
            highest = λ n l. above_either n (omega arith) l;
            holds = λ n e. let p = second.holds n e in (p.0, omega (arith, p.1), p.2, p.3);
          })
      at (no d) =
          subst (Above (Among P a c)) (sym (greater_first h k (omega arith)))
          (record {
            highest = λ n l. above_either n l (omega arith);
            holds = λ n e. let p = first.holds n e in (p.0, p.1, omega (arith, p.2), p.3);
          })

-- an array holds how many listed numbers are below each
module _ (set : List ℕ) (rises : Rises set) (count : ℕ) (below : List ℕ)
    (counts : (k : ℕ) → k ≤ count → get_or below k 0 ≡ count_below set k) where
  below_says : (p : ℕ) → p < count → Decides (ltb (get_or below p 0) (get_or below (p + 1) 0)) (Listed set p)
  below_says p h = rw (add-one, counts p (omega arith), counts (suc p) h) (count_says set rises p)

  -- line k cites earlier lines
  module _ (l : Line) (k : ℕ) (within : k < count) (cites : CitesEarlier l k) where
    -- premise j is used and listed, and is n
    abbrev ListedAt : ℕ → ℕ → Type 0
    ListedAt j n = (j < premise_count l.rule) × Listed set (get_or (premises_of l) j 0) × (get_or (premises_of l) j 0 ≡ n)

    premise_above : (j : ℕ) → j < 4 → Above (Among ListedAt j (suc j))
        (listed_premise below (ltb j (premise_count l.rule)) (get_or (premises_of l) j 0))
    unfolding listed_premise
    premise_above j h = on _ (says_lt j (premise_count l.rule) & below_says (get_or (premises_of l) j 0) earlier)
      where
        earlier : get_or (premises_of l) j 0 < count
        earlier = premise_within l k cites count (omega arith) (omega arith) j h

        -- the only place among these
        here : {n : ℕ} (u : Among ListedAt j (suc j) n) → ListedAt j n
        here {n} u = let e : u.0 ≡ j = omega (arith, u.1, u.2) in subst (λ i. ListedAt i n) e u.3

        on : (b : Bool) → Decides b ((j < premise_count l.rule) × Listed set (get_or (premises_of l) j 0))
            → Above (Among ListedAt j (suc j)) (elim b [ true ↦ get_or (premises_of l) j 0 + 1 | false ↦ 0 ])
        on true d =
            record {
              highest = λ n s u. omega (arith, (here u).2);
              holds = λ n e. (j, omega arith, omega arith, ((d.0 refl).0, (d.0 refl).1, omega arith));
            }
        on false d =
            record {
              highest = λ n s u. refuted d refl ((here u).0, (here u).1);
              holds = λ n e. absurd (omega arith);
            }

    four_above : Above (Among ListedAt 0 4) (highest_listed below l)
    unfolding highest_listed premises_of
    four_above =
        above_greater ListedAt 0 2 4 _ _ (omega arith) (omega arith)
        (above_greater ListedAt 0 1 2 _ _ (omega arith) (omega arith)
        (premise_above 0 (omega arith)) (premise_above 1 (omega arith)))
        (above_greater ListedAt 2 3 4 _ _ (omega arith) (omega arith)
        (premise_above 2 (omega arith)) (premise_above 3 (omega arith)))

    -- what the line's own answer means
    highest_above : Above (λ n. Listed set n × Uses l n) (highest_listed below l)
    highest_above =
        record {
          highest = λ n s u.
              let cited = u.1 in
              four_above.highest n s
              (cited.0, omega arith, cited.1, (cited.2, subst (Listed set) (sym cited.3) u.0, cited.3));
          holds = λ n e.
              let cited = four_above.holds n e in
              (subst (Listed set) cited.3.2 cited.3.1, (cited.0, cited.2, cited.3.0, cited.3.2));
        }

module _ (edition : ℕ) (lines : List ℕ) (count : ℕ) (set : List ℕ) where
  -- line n is used by line k, which stays
  abbrev UsedBy : ℕ → ℕ → Type 0
  UsedBy = KeptUses edition lines set

  -- n is listed and p is the lowest line that stays and uses it
  pub record LowestUser (n p : ℕ) : Type 0 where
    pub listed : Listed set n
    pub within : p < count
    pub uses : UsedBy n p
    pub lowest : (k : ℕ) → k < p → UsedBy n k → ⊥

  -- what is found among the lines that stay whose new numbers are below m
  pub record FoundBefore (m : ℕ) (found : Option Use) : Type 0 where
    pub highest : (n : ℕ) → above_use found ≤ n → Listed set n
        → (k : ℕ) → k < count → new_number set k < m → UsedBy n k → ⊥
    pub used : IfSome found (λ u. LowestUser u.listed u.place)

  -- a line with a new number below the first listed one is before it, and cites none that is listed
  pub found_start : Rises set → CitingLines edition lines count → FoundBefore (get_or set 0 0) None
  found_start rises cites = record { highest = λ n _. before n; used = tt }
    where
      before : (n : ℕ) → Listed set n → (k : ℕ) → k < count → new_number set k < get_or set 0 0 → UsedBy n k → ⊥
      before n l k h b (stays, (j, four, used, is)) =
          omega (arith, same, old_new set rises k stays, first_least set rises n l, (cites k h).earlier j four used, is)
        where
          same : old_number set (new_number set k) ≡ new_number set k
          same =
              old_below set (new_number set k) (new_number set k) (λ i m. omega (arith, first_least set rises i m))
              (omega arith)

  module _ (rises : Rises set) (all : AllLines count set) (m : ℕ) (found : Option Use) (before : FoundBefore m found) where
    -- the line that stays and has the new number m is asked
    module _ (within : m < count - length set) (above : ℕ)
        (asked : Above (λ n. Listed set n × Uses (line_of edition lines (old_number set m)) n) above) where
      none_more : (n : ℕ) → above_use found ≤ n → above ≤ n → Listed set n
          → (k : ℕ) → k < count → new_number set k < suc m → UsedBy n k → ⊥
      none_more n f a l k h b u = at (dec_lt (new_number set k) m)
        where
          at : Dec (new_number set k < m) → ⊥
          at (yes d) = before.highest n f l k h d u
          at (no d) =
              let same : new_number set k ≡ m = omega arith in
              let here : k ≡ old_number set m = sym (old_new set rises k u.0) ∙ ap (old_number set) same in
              asked.highest n a (l, subst (λ i. Uses (line_of edition lines i) n) here u.1)

      lowest_here : (n : ℕ) → above_use found ≤ n → above ≡ suc n → LowestUser n (old_number set m)
      lowest_here n f e =
          record { listed = cited.0; within = here; uses = (old_stays set rises m, cited.1); lowest = earlier }
        where
          cited : Listed set n × Uses (line_of edition lines (old_number set m)) n
          cited = asked.holds n e

          here : old_number set m < count
          here = old_within set count rises all m within

          earlier : (k : ℕ) → k < old_number set m → UsedBy n k → ⊥
          earlier k h u =
              before.highest n f cited.0 k (omega (arith, here))
              (omega (arith, new_less set rises k (old_number set m) u.0 h, new_old set rises m)) u

      none_next : above ≡ 0 → FoundBefore (suc m) found
      none_next e = record { highest = λ n f. none_more n f (omega arith); used = before.used }

      some_next : (listed : ℕ) → above ≡ suc listed
          → FoundBefore (suc m) (Some (higher_use found (record { listed = listed; place = old_number set m })))
      some_next listed e = at (dec_lt listed (above_use found))
        where
          here : Use
          here = record { listed = listed; place = old_number set m }

          at : Dec (listed < above_use found) → FoundBefore (suc m) (Some (higher_use found here))
          at (yes d) =
              subst (FoundBefore (suc m)) (higher_first found here d)
              (record { highest = λ n f. none_more n f (omega arith); used = before.used })
          at (no d) =
              subst (λ u. FoundBefore (suc m) (Some u)) (sym (higher_other found here (omega arith)))
              (record {
                highest = λ n a. none_more n (omega arith) (omega arith);
                used = lowest_here listed (omega arith) e;
              })

    -- the loop ends behind the last line that stays, or once the last listed line is found used
    pub found_use : (count - length set ≤ m) ⊎ (last_listed set < above_use found)
        → MatchOption found (kept_use edition lines count set ≡ count)
        (λ u. (u.place < count) × (kept_use edition lines count set ≡ u.place))
    found_use ended = at found highest before.used
      where
        highest : (n : ℕ) → above_use found ≤ n → Listed set n → (k : ℕ) → k < count → UsedBy n k → ⊥
        highest n f l k h u =
            ⊎_elim (λ b. before.highest n f l k h (omega (arith, new_within set count rises all k u.0 h)) u)
            (λ b. omega (arith, last_highest set rises n l)) ended

        at : (o : Option Use)
            → ((n : ℕ) → above_use o ≤ n → Listed set n → (k : ℕ) → k < count → UsedBy n k → ⊥)
            → IfSome o (λ u. LowestUser u.listed u.place)
            → MatchOption o (kept_use edition lines count set ≡ count)
            (λ u. (u.place < count) × (kept_use edition lines count set ≡ u.place))
        at None none _ = unused_use edition lines count set all (λ n l. none n (omega arith) l)
        at (Some u) none user = (
          user.within,
          highest_use edition lines count set all u.listed u.place
              (record {
                listed = user.listed;
                within = user.within;
                uses = user.uses;
                lowest = user.lowest;
                highest = λ i h l. none i (omega arith) l;
              }),
        )

-- nothing is listed
pub none_listed : (edition : ℕ) (lines : List ℕ) (count : ℕ) (set : List ℕ) → AllLines count set → length set ≡ 0
    → kept_use edition lines count set ≡ count
none_listed edition lines count set all e =
    unused_use edition lines count set all (λ n l. absurd (omega (arith, l.1)))

-- what `kept_use` requires, and a place at which its loop asks a line, whose old number is `place`
pub record Asking (edition : ℕ) (lines : List ℕ) (count : ℕ) (set below kept : List ℕ) (m place : ℕ) : Type 0 where
  pub sheet : (20 * count ≤ length lines) × (count ≤ 1024) × CitingLines edition lines count
  pub numbered : Rises set × AllLines count set × Numbering set count below kept
  pub within : m < count - length set
  pub place_is : place ≡ get_or kept m 0

module _ {edition : ℕ} {lines : List ℕ} {count : ℕ} {set below kept : List ℕ} {m place : ℕ}
    (asking : Asking edition lines count set below kept m place) where
  -- the line asked is the one that stays and has the new number m
  old_line : old_number set m < count
  old_line = old_within set count asking.numbered.0 asking.numbered.1 m asking.within

  place_old : place ≡ old_number set m
  place_old =
      asking.place_is ∙ ap (λ i. get_or kept i 0) (sym (new_old set asking.numbered.0 m))
      ∙ asking.numbered.2.numbers (old_number set m) old_line (old_stays set asking.numbered.0 m)

  pub place_within : place < count
  place_within = omega (arith, place_old, old_line)

  module _ (line : Line) (read : line ≡ line_of edition lines place) where
    line_cites : CitesEarlier line place
    line_cites = subst (λ l. CitesEarlier l place) (sym read) (asking.sheet.2 place place_within)

    pub rule_known_lem : IsRule line.rule
    rule_known_lem = line_cites.rule

    pub premises_few : (line.p0 < 1024) × (line.p1 < 1024) × (line.p2 < 1024) × (line.p3 < 1024)
    premises_few =
        let within : place ≤ 1024 = omega (arith, place_within, asking.sheet.1) in
        premises_within line place line_cites 1024 (omega arith) within

    module _ {found : Option Use} (before : FoundBefore edition lines count set m found) (listed : Option ℕ)
        (asked : above listed ≡ highest_listed below line) where
      meant : Above (λ n. Listed set n × Uses (line_of edition lines (old_number set m)) n) (above listed)
      meant =
          subst₂ (λ l a. Above (λ n. Listed set n × Uses l n) a) (read ∙ ap (line_of edition lines) place_old) (sym asked)
          (highest_above set asking.numbered.0 count below asking.numbered.2.counts line place place_within line_cites)

      pub none_found : listed ≡ None → FoundBefore edition lines count set (m + 1) found
      none_found e =
          rw (add-one)
          (none_next edition lines count set asking.numbered.0 asking.numbered.1 m found before asking.within
          (above listed) meant (ap above e))

      pub one_found : (n : ℕ) → listed ≡ Some n → (next : Use)
          → next ≡ higher_use found (record { listed = n; place = place })
          → FoundBefore edition lines count set (m + 1) (Some next)
      one_found n e next higher =
          rw (add-one, higher, place_old)
          (some_next edition lines count set asking.numbered.0 asking.numbered.1 m found before asking.within
          (above listed) meant n (ap above e ∙ add-one n))
