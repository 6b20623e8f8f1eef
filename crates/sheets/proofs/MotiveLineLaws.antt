-- The lines that give the motives of others, and the lines that have none: what the searches by definition answer, and
-- that the numbers of motives find the same.
-- Assumes nothing.
use mathlib.Core.Path.{◌≡◌, refl, sym, ◌∙◌, ap, subst}
use mathlib.Core.Logic.{◌↔◌, inl, ⊎_elim}
use mathlib.Core.Bool.{Bool, true, false, ◌&&◌}
use mathlib.Core.List.{List, [], ◌∷◌}
use Prim.Native.Nat.{ℕ, zero, suc, ◌+◌, ◌≤◌, ◌<◌}
use native.Mathlib.Omega.{arith}
use lib.Dec.{leb, eqb}
use lib.ListN.{length, get_or, set, take, length-set}
use lib.Seq.{get_or-set_same, get_or-set_other, length-take-le}
use borrow.Author.Count.{below_none, below_more}
use Rattle.terms.specs.Decides.{Decides}
use Rattle.std.proofs.Common.{Option, Some, None, MatchOption, unwrap_or}
use Rattle.std.specs.List.{AllWithin, HoldsAt}
use Rattle.std.proofs.lemmas.List.{get_or-take}
use Rattle.terms.specs.Search.{first_at, search_from, ends_if, ends, goes}
use Rattle.terms.proofs.Tests.{says_le, says_eq, refutes, decides_same, decides_via, ◌&◌}
use Rattle.terms.proofs.SearchLaws.{Looking, looking_start, looking_here, looking_next, looking_end}
use Rattle.terms.proofs.SearchLaws.{stops, passes, search_means, FirstOf, first_tells, first_same, first_most, first_holds, first_found, first_at_lem, first_none}
use Rattle.rules.specs.Editions.{motive_asked}
use Rattle.rules.specs.Motives.{gives_motive}
use Rattle.rules.specs.MotiveNumbers.{MotiveAskedBy, MotiveGivenBy}
use Rattle.rules.specs.RuleChecks.{JudgmentsInTables}
use Rattle.rules.specs.declared.judgments.LineJudgment.{LineJudgment}
use Rattle.rules.proofs.EditionLaws.{says_motive, motive_or_not}
use Rattle.rules.proofs.MotiveLaws.{says_gives}
use Rattle.rules.proofs.TableLaws.{range_2}
use Rattle.sheets.specs.declared.lines.Line.{Line}
use Rattle.sheets.specs.Layout.{edition_of, contexts_in, lines_in}
use Rattle.sheets.specs.Lines.{line_of, judgment_of, line_at, stated_at}
use Rattle.sheets.specs.Good.{Good}
use Rattle.sheets.specs.Conversion.{new_edition, wants_motive, motive_line, first_without, new_premise}
use Rattle.sheets.specs.Conversion.{WantsMotive, IsMotiveOf, HasMotive, LowestMotive, AllMotives, LowestWithout}
use Rattle.sheets.specs.MotiveSteps.{MotivesGiven, NewPremises}
use Rattle.sheets.proofs.LineAnswers.{judgments_in_tables}

-- what the search of an array's first places for a number answers
module _ (numbers : List ℕ) (count wanted : ℕ) where
  abbrev Others : ℕ → Type 0
  Others = AllWithin (λ x. x ≡ wanted → ⊥) (take count numbers) 0

  pub first_position : count ≤ length numbers → (place : Option ℕ)
      → MatchOption place (Others (length (take count numbers)))
      (λ i. (i < length (take count numbers)) × HoldsAt (λ x. x ≡ wanted) (take count numbers) i × Others i)
      → place ≡ first_at (λ k. eqb (get_or numbers k 0) wanted) Some None count 0
  first_position room place found = sym ((means place).1 (from place found))
    where
      Here : ℕ → Type 0
      Here k = get_or numbers k 0 ≡ wanted

      means : (a : Option ℕ) → (first_at (λ k. eqb (get_or numbers k 0) wanted) Some None count 0 ≡ a) ↔ FirstOf Here Some None 0 count a
      means = search_means (first_tells Here Some (λ k. says_eq (get_or numbers k 0) wanted)) None count 0 count (omega arith)

      long : length (take count numbers) ≡ count
      long = length-take-le count numbers room

      from : (a : Option ℕ)
          → MatchOption a (Others (length (take count numbers)))
          (λ i. (i < length (take count numbers)) × HoldsAt (λ x. x ≡ wanted) (take count numbers) i × Others i)
          → FirstOf Here Some None 0 count a
      from None all =
          passes (λ k low high e. all k 0 low (omega (arith, long)) (get_or-take count numbers k 0 high ∙ e)) refl
      from (Some i) (within, here, before) =
          let high : i < count = omega (arith, long) in
          stops i (omega arith) high
          (λ k low less e. before k 0 low less (get_or-take count numbers k 0 (omega arith) ∙ e))
          (sym (get_or-take count numbers i 0 high) ∙ here 0, refl)

-- a first place, or a number for none
first_or : (test : ℕ → Bool) (none more n : ℕ)
    → unwrap_or (first_at test Some None more n) none ≡ first_at test (λ k. k) none more n
unfolding search_from ends_if
first_or test none zero n = refl
first_or test none (suc more) n = on (test n) (first_or test none more (suc n))
  where
    on : (b : Bool)
        → unwrap_or (first_at test Some None more (suc n)) none ≡ first_at test (λ k. k) none more (suc n)
        → unwrap_or (elim (ends_if b (Some n)) [ ends a ↦ a | goes t ↦ first_at test Some None more (suc n) ]) none
        ≡ elim (ends_if b n) [ ends a ↦ a | goes t ↦ first_at test (λ k. k) none more (suc n) ]
    on true rest = refl
    on false rest = rest

-- an array that holds what it should at its first n places, and one element more
array_next : (P : ℕ → ℕ → Type 0) (a : List ℕ) (n x : ℕ) → n < length a → ((k : ℕ) → k < n → P k (get_or a k 0))
    → P n x → (k : ℕ) → k < n + 1 → P k (get_or (set a n x) k 0)
array_next P a n x room all here =
    below_more (λ k. P k (get_or (set a n x) k 0)) n
    (λ k h. subst (P k) (sym (get_or-set_other a n k x 0 (λ e. omega arith))) (all k h))
    (subst (P n) (sym (get_or-set_same a n x 0 room)) here)

module _ (bytes : List ℕ) (T C : ℕ) where
  -- the test of the lines of rules 33 and 34
  pub says_wants : (n : ℕ) → Decides (wants_motive bytes T C n) (WantsMotive bytes T C n)
  unfolding wants_motive
  says_wants n = says_motive new_edition (line_at bytes T C n).rule

  -- the lowest earlier line that gives a line's motive
  module _ (n : ℕ) where
    says_motive_of : (k : ℕ)
        → Decides (gives_motive (stated_at bytes T C k) (stated_at bytes T C n)) (IsMotiveOf bytes T C n k)
    says_motive_of k = says_gives (stated_at bytes T C k) (stated_at bytes T C n)

    pub motive_most : motive_line bytes T C n ≤ n
    unfolding motive_line
    motive_most = first_most (IsMotiveOf bytes T C n) says_motive_of n

    pub motive_lowest : motive_line bytes T C n < n → LowestMotive bytes T C n (motive_line bytes T C n)
    unfolding motive_line
    motive_lowest h =
        let found = first_holds (IsMotiveOf bytes T C n) says_motive_of n h in
        record { earlier = h; gives = found.0; lowest = found.1 }

    pub lowest_motive : (k : ℕ) → LowestMotive bytes T C n k → motive_line bytes T C n ≡ k
    unfolding motive_line
    lowest_motive k m = first_at_lem (IsMotiveOf bytes T C n) says_motive_of n k m.earlier m.gives m.lowest

    motive_earlier : HasMotive bytes T C n → motive_line bytes T C n < n
    unfolding motive_line
    motive_earlier m = first_found (IsMotiveOf bytes T C n) says_motive_of n m.0 m.1 m.2

    -- it is an earlier line exactly if there is one
    pub has_motive : HasMotive bytes T C n ↔ (motive_line bytes T C n < n)
    has_motive = (motive_earlier, λ h. (motive_line bytes T C n, h, (motive_lowest h).gives))

    -- the line that line n is to cite first
    pub premise_wanted : WantsMotive bytes T C n → new_premise bytes T C n ≡ motive_line bytes T C n
    unfolding new_premise
    premise_wanted wants = rw ((says_wants n).1 wants, new_premise)

    pub premise_own : (WantsMotive bytes T C n → ⊥) → new_premise bytes T C n ≡ n
    unfolding new_premise
    premise_own not = rw (refutes (wants_motive bytes T C n) (says_wants n) not, new_premise)

    pub premise_most : new_premise bytes T C n ≤ n
    premise_most =
        ⊎_elim (λ wants. omega (arith, premise_wanted wants, motive_most)) (λ not. omega (arith, premise_own not))
        (motive_or_not new_edition (line_at bytes T C n).rule)

  -- line n wants a motive and has none, by the search
  abbrev IsWithout : ℕ → Type 0
  IsWithout n = WantsMotive bytes T C n × (n ≤ motive_line bytes T C n)

  abbrev without : ℕ → Bool
  without n = wants_motive bytes T C n && leb n (motive_line bytes T C n)

  says_without : (n : ℕ) → Decides (without n) (IsWithout n)
  says_without n = says_wants n & says_le n (motive_line bytes T C n)

  -- the first L lines have their motives exactly if none of them is so
  none_without : (L : ℕ) → AllMotives bytes T C L → (n : ℕ) → n < L → IsWithout n → ⊥
  none_without L all n h w = let earlier = (has_motive n).0 (all n h w.0) in omega (arith, earlier, w.1)

  with_motives : (L : ℕ) → ((n : ℕ) → n < L → IsWithout n → ⊥) → AllMotives bytes T C L
  with_motives L none n h wants =
      let found : n ≤ motive_line bytes T C n → ⊥ = λ l. none n h (wants, l) in (has_motive n).1 (omega arith)

  -- number 21
  module _ (L : ℕ) where
    pub without_most : first_without bytes T C L ≤ L
    unfolding first_without
    without_most = first_most IsWithout says_without L

    pub without_lowest : first_without bytes T C L < L → LowestWithout bytes T C L (first_without bytes T C L)
    unfolding first_without
    without_lowest h =
        let place = first_without bytes T C L in
        let found = first_holds IsWithout says_without L h in
        record {
          within = h;
          wants = found.0.0;
          without = λ m. let earlier = (has_motive place).0 m in omega (arith, earlier, found.0.1);
          lowest = with_motives place found.1;
        }

    pub lowest_without : (n : ℕ) → LowestWithout bytes T C L n → first_without bytes T C L ≡ n
    unfolding first_without
    lowest_without n w =
        let none : motive_line bytes T C n < n → ⊥ = λ l. w.without ((has_motive n).1 l) in
        first_at_lem IsWithout says_without L n w.within (w.wants, omega arith) (none_without n w.lowest)

    pub without_is : (n : ℕ) → n < L → (first_without bytes T C L ≡ n) ↔ LowestWithout bytes T C L n
    without_is n h = (
      λ e. subst (LowestWithout bytes T C L) e (without_lowest (omega (arith, e))),
      lowest_without n,
    )

    -- no line is without exactly if all have their motives
    every_motive : AllMotives bytes T C L → first_without bytes T C L ≡ L
    unfolding first_without
    every_motive all = first_none IsWithout says_without L (none_without L all)

    no_motive_lem : (n : ℕ) → n < L → IsWithout n → first_without bytes T C L < L
    unfolding first_without
    no_motive_lem n h w = first_found IsWithout says_without L n h w

    pub without_none : (first_without bytes T C L ≡ L) ↔ AllMotives bytes T C L
    without_none = (
      λ e. with_motives L (λ n h w. let l = no_motive_lem n h w in omega (arith, l, e)),
      every_motive,
    )

module _ (bytes : List ℕ) (T C n : ℕ) {line : Line} where
  -- a line that is read
  pub read_is : {edition : ℕ} {rows : List ℕ} → edition ≡ edition_of bytes → rows ≡ lines_in bytes T C
      → line ≡ line_of edition rows n → line ≡ line_at bytes T C n
  unfolding line_at
  read_is own part e = e ∙ (λ i. line_of (own i) (part i) n)

  -- what `asks_motive` answers about it
  pub asks_is : {asks : Bool} → line ≡ line_at bytes T C n → asks ≡ motive_asked new_edition line.rule
      → asks ≡ wants_motive bytes T C n
  unfolding wants_motive
  asks_is is a = a ∙ ap (λ l. motive_asked new_edition l.rule) is

-- the lines of a good sheet
module _ {bytes : List ℕ} {T C L : ℕ} (g : Good bytes T C L) where
  -- rules 33 and 34 conclude equalities
  pub wants_form : (n : ℕ) → n < L → WantsMotive bytes T C n → (judgment_of (line_at bytes T C n)).form ≡ 2
  wants_form n h wants =
      let ok = (g.lines n h).ok in ok.form ∙ (range_2 _ ok.rule).1 (inl (omega (arith, wants), wants.1.1))

  pub both_in_tables : (n k : ℕ) → n < L → k < L
      → JudgmentsInTables bytes (contexts_in bytes T)
      (judgment_of (line_at bytes T C n) ∷ judgment_of (line_at bytes T C k) ∷ [])
  both_in_tables n k h l =
      judgments_in_tables g.tables _ ((g.lines n h).ok.numbers, ((g.lines k l).ok.numbers, tt))

  -- line n is read, and j is what it states
  module _ (n : ℕ) (h : n < L) {line : Line} (is : line ≡ line_at bytes T C n)
      {j : LineJudgment} (e : j ≡ judgment_of line) where
    states : j ≡ judgment_of (line_at bytes T C n)
    states = e ∙ ap judgment_of is

    pub read_in_tables : JudgmentsInTables bytes (contexts_in bytes T) (j ∷ [])
    read_in_tables =
        subst (λ i. JudgmentsInTables bytes (contexts_in bytes T) (i ∷ [])) (sym states)
        (judgments_in_tables g.tables _ ((g.lines n h).ok.numbers, tt))

    -- `motive_given`
    pub number_given : {r : ℕ} → MotiveGivenBy bytes (contexts_in bytes T) j r
        → MotiveGivenBy bytes (contexts_in bytes T) (judgment_of (line_at bytes T C n)) r
    number_given {r} m = subst (λ i. MotiveGivenBy bytes (contexts_in bytes T) i r) states m

    -- `new_premise`, where the line wants a motive
    module _ (wants : WantsMotive bytes T C n) where
      pub asking_form : j.form ≡ 2
      asking_form = ap (λ i. i.form) states ∙ wants_form n h wants

      -- the lines that give the motive are those of which the array holds the number that is asked
      module _ (given : List ℕ) (m : MotivesGiven bytes T C given n)
          {asked : ℕ} (by : MotiveAskedBy bytes j asked) where
        alike : (k : ℕ) → k < n
            → eqb (get_or given k 0) asked ≡ gives_motive (stated_at bytes T C k) (stated_at bytes T C n)
        unfolding stated_at
        alike k l =
            decides_same (eqb (get_or given k 0) asked) (gives_motive (stated_at bytes T C k) (stated_at bytes T C n))
            (decides_via
            (m k l (judgment_of (line_at bytes T C n)) asked (both_in_tables n k h (omega arith)) (wants_form n h wants)
            (subst (λ i. MotiveAskedBy bytes i asked) states by)) (says_eq (get_or given k 0) asked))
            (says_gives (stated_at bytes T C k) (stated_at bytes T C n))

        pub found_premise : unwrap_or (first_at (λ k. eqb (get_or given k 0) asked) Some None n 0) n ≡ new_premise bytes T C n
        unfolding motive_line
        found_premise =
            first_or _ n n 0 ∙ first_same _ _ (λ k. k) n n 0 (λ k _ l. alike k (omega arith)) ∙ sym (premise_wanted bytes T C n wants)

-- `find_motives`: the first n lines have their numbers in the arrays, and none of them is without a motive
module _ (bytes : List ℕ) (T C L : ℕ) where
  pub record Found (first given : List ℕ) (n : ℕ) : Type 0 where
    pub looking : Looking (without bytes T C) (λ k. k) L L (first_without bytes T C L) n
    pub premises : NewPremises bytes T C first n
    pub motives : MotivesGiven bytes T C given n
    pub room_first : length first ≡ 1024
    pub room_given : length given ≡ 1024

  pub found_start : (first given : List ℕ) → length first ≡ 1024 → length given ≡ 1024 → Found first given 0
  unfolding first_without
  found_start first given room_first room_given =
      record {
        looking = looking_start L (omega arith) refl;
        premises = below_none _;
        motives = below_none _;
        room_first = room_first;
        room_given = room_given;
      }

  -- a line has no motive exactly if it wants one and itself stands for it
  own_premise : (n : ℕ) → (wants_motive bytes T C n && eqb (new_premise bytes T C n) n) ≡ without bytes T C n
  unfolding new_premise
  own_premise n = on (wants_motive bytes T C n)
    where
      line : ℕ
      line = motive_line bytes T C n

      same : eqb line n ≡ leb n line
      same =
          decides_same (eqb line n) (leb n line) (says_eq line n)
          (decides_via (λ l. omega (arith, motive_most bytes T C n), λ e. omega (arith, e)) (says_le n line))

      on : (w : Bool) → (w && eqb (elim w [ true ↦ line | false ↦ n ]) n) ≡ (w && leb n line)
      on true = same
      on false = refl

  module _ {first given : List ℕ} {n : ℕ} (at : Found first given n) where
    pub found_end : L ≤ n
        → (first_without bytes T C L ≡ L) × NewPremises bytes T C first (first_without bytes T C L)
    found_end h =
        let all = looking_end at.looking h in
        (sym all, subst (NewPremises bytes T C first) all (λ k l. at.premises k (omega arith)))

    -- `asks` is what `asks_motive` answers about line n, and `premise` what `new_premise` does
    module _ (h : n < L) {asks : Bool} (a : asks ≡ wants_motive bytes T C n)
        {premise : ℕ} (p : premise ≡ new_premise bytes T C n) where
      test_is : (asks && eqb premise n) ≡ without bytes T C n
      test_is = (λ i. a i && eqb (p i) n) ∙ own_premise n

      pub found-without : (asks && eqb premise n) ≡ true
          → ((n < L) × (first_without bytes T C L ≡ n)) × NewPremises bytes T C first (first_without bytes T C L)
      found-without taken =
          let place = looking_here at.looking h (sym test_is ∙ taken) in
          ((h, sym place), subst (NewPremises bytes T C first) place at.premises)

      pub premise_small : L ≤ 1024 → premise < 65536
      premise_small few = omega (arith, p, premise_most bytes T C n)

      pub found_next : (asks && eqb premise n) ≡ false → L ≤ 1024
          → {number : ℕ} → MotiveGivenBy bytes (contexts_in bytes T) (judgment_of (line_at bytes T C n)) number
          → Found (set first n premise) (set given n number) (n + 1)
      found_next left few {number} m =
          record {
            looking = looking_next at.looking h (sym test_is ∙ left);
            premises = array_next (λ k x. x ≡ new_premise bytes T C k) first n premise (omega (arith, at.room_first))
                at.premises p;
            motives = array_next
                (λ k x. MotiveGivenBy bytes (contexts_in bytes T) (judgment_of (line_at bytes T C k)) x)
                given n number (omega (arith, at.room_given)) at.motives m;
            room_first = length-set first n premise ∙ at.room_first;
            room_given = length-set given n number ∙ at.room_given;
          }
