-- A sheet with its motives added, in the new edition: it is good, and it states the judgments of the old one.
-- Assumes nothing.
use mathlib.Core.Path.{◌≡◌, refl, sym, ◌∙◌, ap, subst, subst₂}
use mathlib.Core.Logic.{⊎_elim}
use mathlib.Core.List.{List, [], ◌∷◌, map}
use Prim.Native.Nat.{ℕ, zero, suc, ◌+◌, ◌*◌, ◌≤◌, ◌<◌}
use native.Mathlib.Decide.{dec_le}
use native.Mathlib.Omega.{arith}
use lib.ListN.{length, get_or, take}
use Rattle.terms.specs.Words.{word_at}
use Rattle.rules.specs.Editions.{last_rule, AsksMotive, row_in}
use Rattle.rules.specs.Instance.{Instance}
use Rattle.rules.specs.Judgment.{Judgment}
use Rattle.rules.specs.Motives.{GivesMotive}
use Rattle.rules.specs.RuleTable.{premise_count}
use Rattle.rules.specs.Stated.{stated}
use Rattle.rules.proofs.EditionLaws.{last_first, last_later, row_motive, row_own, motive_or_not}
use Rattle.rules.proofs.MotiveLaws.{with_motive, motive_added}
use Rattle.sheets.specs.declared.lines.Line.{Line}
use Rattle.sheets.specs.Layout.{contexts_in, lines_in, edition_of}
use Rattle.sheets.specs.Lines.{line_word, line_of, judgment_of, premises_of, cited_by, line_at, stated_at, LineFollows}
use Rattle.sheets.specs.Good.{Good}
use Rattle.sheets.specs.GoodLines.{LineOk, GoodLine}
use Rattle.sheets.specs.Accepted.{stated_by}
use Rattle.sheets.specs.Conversion.{new_edition, WantsMotive}
use Rattle.sheets.specs.ConversionOutput.{MotiveAdded, MotivesAdded}
use Rattle.sheets.proofs.LineLaws.{rule_admitted, rule_own}
use Rattle.sheets.proofs.SameTables.{terms_same, contexts_same, stated_same}
use Rattle.sheets.proofs.SheetWithout.{listed_same, map_taken}
use Rattle.sheets.proofs.AcceptedLaws.{stated_is}

-- the new edition admits what an earlier one does
admitted_later : (edition : ℕ) → edition < new_edition → last_rule edition ≤ last_rule new_edition
unfolding last_rule
admitted_later edition h =
    elim (dec_le edition 1) [
      | yes l ↦ omega (arith, last_first edition l)
      | no l ↦ omega (arith, last_later edition (omega arith))
    ]

-- a line that cites line m before its own premises, by the row for its rule with the motive
citing : ℕ → Line → Line
citing m l =
    record {
      form = l.form;
      rule = l.rule + 35;
      context = l.context;
      s1 = l.s1;
      s2 = l.s2;
      s3 = l.s3;
      p0 = m;
      p1 = l.p0;
      p2 = l.p1;
      p3 = l.p2;
    }

premise_behind : (m : ℕ) (l : Line) (j : ℕ) → suc j < 4
    → get_or (premises_of (citing m l)) (suc j) 0 ≡ get_or (premises_of l) j 0
unfolding premises_of citing
premise_behind m l zero h = refl
premise_behind m l (suc zero) h = refl
premise_behind m l (suc (suc zero)) h = refl
premise_behind m l (suc (suc (suc j))) h = absurd (omega arith)

-- a line's keeping of the layout carries over
module _ (m : ℕ) (l : Line) (asks : AsksMotive new_edition l.rule) where
  one_more_lem : premise_count (l.rule + 35) ≡ suc (premise_count l.rule)
  one_more_lem = (motive_added l.rule asks.1).0

  citing_ok : (n T C : ℕ) → m < n → LineOk l n T C → LineOk (citing m l) n T C
  unfolding citing judgment_of premises_of
  citing_ok n T C low o =
      record {
        rule = (omega (arith, asks), omega (arith, asks));
        form = o.form ∙ sym (motive_added l.rule asks.1).2;
        numbers = o.numbers;
        unused_subject = o.unused_subject;
        earlier = earlier;
        unused_premise = unused;
      }
    where
      earlier : (j : ℕ) → j < 4 → j < premise_count (l.rule + 35) → get_or (premises_of (citing m l)) j 0 < n
      earlier zero h k = low
      earlier (suc j) h k =
          subst (λ p. p < n) (sym (premise_behind m l j h)) (o.earlier j (omega arith) (omega (arith, k, one_more_lem)))

      unused : (j : ℕ) → j < 4 → premise_count (l.rule + 35) ≤ j → get_or (premises_of (citing m l)) j 0 ≡ 0
      unused zero h k = absurd (omega (arith, k, one_more_lem))
      unused (suc j) h k =
          premise_behind m l j h ∙ o.unused_premise j (omega arith) (omega (arith, k, one_more_lem))

  -- it cites the motive, and what the line cites
  cited_first : cited_by (citing m l) ≡ m ∷ cited_by l
  unfolding cited_by premises_of citing
  cited_first =
      ap (λ c. take c (m ∷ l.p0 ∷ l.p1 ∷ l.p2 ∷ [])) one_more_lem
      ∙ ap (λ ps. m ∷ ps) (three (premise_count l.rule) (motive_added l.rule asks.1).1)
    where
      three : (c : ℕ) → c ≤ 3
          → take c (l.p0 ∷ l.p1 ∷ l.p2 ∷ []) ≡ take c (l.p0 ∷ l.p1 ∷ l.p2 ∷ l.p3 ∷ [])
      three zero h = refl
      three (suc zero) h = refl
      three (suc (suc zero)) h = refl
      three (suc (suc (suc zero))) h = refl
      three (suc (suc (suc (suc c)))) h = absurd (omega arith)

  -- with the motive it follows by the new row from what it followed from
  citing_follows : (f : ℕ → Judgment) (c : Judgment) → GivesMotive (f m) c → Instance l.rule (map f (cited_by l)) c
      → Instance (l.rule + 35) (map f (cited_by (citing m l))) c
  citing_follows f c gives follows =
      subst₂ (λ row ps. Instance row (map f ps) c) (row_motive new_edition l.rule asks) (sym cited_first)
      ((with_motive new_edition l.rule asks).1 (gives, follows))

module _ (b new : List ℕ) (T C L : ℕ) (g : Good b T C L) (early : edition_of b < new_edition)
    (a : MotivesAdded b new T C L) where
  abbrev was : ℕ → Line
  was n = line_at b T C n

  same_words : (i : ℕ) → i < 5 * T + 2 * C → word_at b i ≡ word_at new i
  same_words i h = sym (a.tables i h)

  -- the first six words of a line stay
  field_kept : (n j : ℕ) → n < L → j < 6 → line_word (lines_in new T C) n j ≡ line_word (lines_in b T C) n j
  field_kept n j h k =
      ⊎_elim (λ wants. (a.added n h wants).fields j k) (λ plain. a.others n h plain j (omega arith))
      (motive_or_not new_edition (was n).rule)

  judgment_kept : (n : ℕ) → n < L → judgment_of (line_at new T C n) ≡ judgment_of (was n)
  unfolding line_at line_of judgment_of
  judgment_kept n h =
      λ i. record {
        form = field_kept n 0 h (omega arith) i;
        context = field_kept n 2 h (omega arith) i;
        s1 = field_kept n 3 h (omega arith) i;
        s2 = field_kept n 4 h (omega arith) i;
        s3 = field_kept n 5 h (omega arith) i;
      }

  states : (n : ℕ) → n < L → stated_at new T C n ≡ stated_at b T C n
  unfolding stated_at
  states n h =
      ap (stated new (contexts_in new T)) (judgment_kept n h)
      ∙ sym (stated_same b new T C g.tables.terms g.tables.contexts same_words
      (judgment_of (was n)) (g.lines n h).ok.numbers)

  -- what a line cites states what it did
  cited_same : (n : ℕ) → n < L → map (stated_at b T C) (cited_by (was n)) ≡ map (stated_at new T C) (cited_by (was n))
  unfolding cited_by premises_of
  cited_same n h =
      map_taken (stated_at b T C) (stated_at new T C) (λ p. p) (premise_count (was n).rule) (premises_of (was n))
      (λ j k used. sym (states _ (omega (arith, (g.lines n h).ok.earlier j k used))))

  -- and it follows from that by its own rule
  follows_still : (n : ℕ) → n < L
      → Instance (was n).rule (map (stated_at new T C) (cited_by (was n))) (stated_at new T C n)
  unfolding LineFollows
  follows_still n h =
      subst₂ (Instance (was n).rule) (cited_same n h) (sym (states n h)) (g.lines n h).follows

  -- the row of a line's rule in the new edition
  row_new : (n : ℕ) → n < L → (line_at new T C n).rule ≡ row_in new_edition (was n).rule
  unfolding line_at line_of
  row_new n h =
      (λ i. row_in (a.edition i) (field_kept n 1 h (omega arith) i))
      ∙ ap (row_in new_edition) (sym (rule_own b T C n (g.lines n h).ok (λ asks. omega (arith, asks))))

  rule_within : (n : ℕ) → n < L → (was n).rule ≤ last_rule new_edition
  rule_within n h =
      let ok = (g.lines n h).ok in
      omega (
        arith,
        rule_own b T C n ok (λ asks. omega (arith, asks)),
        rule_admitted b T C n ok,
        admitted_later (edition_of b) early,
      )

  abbrev GoodAs : ℕ → Line → Type 0
  GoodAs n l = LineOk l n T C × Instance l.rule (map (stated_at new T C) (cited_by l)) (stated_at new T C n)

  -- a line of another rule is the same
  line_same : (n : ℕ) → n < L → (WantsMotive b T C n → ⊥) → was n ≡ line_at new T C n
  unfolding line_at line_of
  line_same n h plain =
      let row = sym (row_new n h ∙ row_own new_edition (was n).rule (rule_within n h) plain) in
      let word : (j : ℕ) → j < 10 → line_word (lines_in b T C) n j ≡ line_word (lines_in new T C) n j
      = λ j k. sym (a.others n h plain j k) in
      λ i. record {
        form = word 0 (omega arith) i;
        rule = row i;
        context = word 2 (omega arith) i;
        s1 = word 3 (omega arith) i;
        s2 = word 4 (omega arith) i;
        s3 = word 5 (omega arith) i;
        p0 = word 6 (omega arith) i;
        p1 = word 7 (omega arith) i;
        p2 = word 8 (omega arith) i;
        p3 = word 9 (omega arith) i;
      }

  other_good : (n : ℕ) → n < L → (WantsMotive b T C n → ⊥) → GoodAs n (line_at new T C n)
  other_good n h plain = subst (GoodAs n) (line_same n h plain) ((g.lines n h).ok, follows_still n h)

  -- a line of rule 33 or 34 cites its motive first
  module _ (n : ℕ) (h : n < L) (wants : WantsMotive b T C n) where
    r : MotiveAdded b T C (lines_in new T C) n
    r = a.added n h wants

    abbrev motive : ℕ
    motive = line_word (lines_in new T C) n 6

    line_added : citing motive (was n) ≡ line_at new T C n
    unfolding line_at line_of citing
    line_added =
        let row = sym (row_new n h ∙ row_motive new_edition (was n).rule wants) in
        let word : (j : ℕ) → j < 6 → line_word (lines_in b T C) n j ≡ line_word (lines_in new T C) n j
        = λ j k. sym (r.fields j k) in
        let premise : (j : ℕ) → 6 ≤ j → j < 9
        → line_word (lines_in b T C) n j ≡ line_word (lines_in new T C) n (suc j)
        = λ j low high. sym (r.premises j low high) in
        λ i. record {
          form = word 0 (omega arith) i;
          rule = row i;
          context = word 2 (omega arith) i;
          s1 = word 3 (omega arith) i;
          s2 = word 4 (omega arith) i;
          s3 = word 5 (omega arith) i;
          p0 = motive;
          p1 = premise 6 (omega arith) (omega arith) i;
          p2 = premise 7 (omega arith) (omega arith) i;
          p3 = premise 8 (omega arith) (omega arith) i;
        }

    gives : GivesMotive (stated_at new T C motive) (stated_at new T C n)
    gives =
        let earlier = r.motive.earlier in
        subst₂ GivesMotive (sym (states motive (omega arith))) (sym (states n h)) r.motive.gives

    added_good : GoodAs n (line_at new T C n)
    unfolding citing
    added_good =
        subst (GoodAs n) line_added (
          citing_ok motive (was n) wants n T C r.motive.earlier (g.lines n h).ok,
          citing_follows motive (was n) wants (stated_at new T C) (stated_at new T C n) gives (follows_still n h),
        )

  good_line : (n : ℕ) → n < L → GoodLine new T C n
  unfolding LineFollows
  good_line n h =
      let good = ⊎_elim (added_good n h) (other_good n h) (motive_or_not new_edition (was n).rule) in
      record { ok = good.0; follows = good.1 }

  long : 10 * T + 4 * C ≤ length new
  long = omega (arith, a.laid.long)

  pub good_added : Good new T C L
  good_added =
      record {
        tables = record {
          laid = a.laid;
          terms = terms_same b new T C g.tables.terms g.tables.contexts same_words long;
          contexts = contexts_same b new T C g.tables.terms g.tables.contexts same_words long;
        };
        lines = good_line;
      }

  pub stated_added : stated_by new ≡ stated_by b
  stated_added =
      stated_is good_added ∙ listed_same (stated_at new T C) (stated_at b T C) L states ∙ sym (stated_is g)
