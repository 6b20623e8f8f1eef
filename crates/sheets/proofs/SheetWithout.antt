-- The sheet without a line that no later line uses: it is good, and it states the judgments of the old one, that line's
-- missing.
-- Assumes nothing.
use mathlib.Core.Path.{◌≡◌, refl, sym, ◌∙◌, ap, ap₂, subst, subst₂}
use mathlib.Core.Bool.{true, false}
use mathlib.Core.List.{List, [], ◌∷◌, map}
use Prim.Native.Nat.{ℕ, zero, suc, ◌+◌, ◌-◌, ◌*◌, ◌%◌, ◌≤◌, ◌<◌}
use native.Mathlib.Decide.{dec_lt}
use native.Mathlib.Omega.{arith}
use lib.Dec.{leb}
use lib.ListN.{length, get_or, take, drop}
use borrow.Author.Tests.{lt-ltb, le-ltb}
use Rattle.terms.specs.Words.{word_at}
use Rattle.terms.specs.Table.{TermTable}
use Rattle.terms.proofs.Tests.{refutes, says_le}
use Rattle.rules.specs.Editions.{IsEdition, row_in}
use Rattle.rules.specs.Instance.{Instance}
use Rattle.rules.specs.RuleTable.{premise_count}
use Rattle.rules.specs.Contexts.{ContextTable}
use Rattle.rules.specs.Stated.{stated}
use Rattle.sheets.specs.declared.lines.Line.{Line}
use Rattle.sheets.specs.Layout.{contexts_in, lines_in, trailer_word, trailer_of, edition_of}
use Rattle.sheets.specs.Layout.{distance_to_lines, distance_to_contexts, distance_to_terms}
use Rattle.sheets.specs.Lines.{line_word, line_of, judgment_of, premises_of, cited_by, line_at, stated_at, LineFollows}
use Rattle.sheets.specs.Good.{Good}
use Rattle.sheets.specs.GoodLines.{LineOk, GoodLine}
use Rattle.sheets.specs.GoodLayout.{trailer_for, LaidOut}
use Rattle.terms.specs.Lists.{listed, without}
use Rattle.sheets.specs.Accepted.{stated_by}
use Rattle.sheets.specs.Withdrawal.{Uses, Unused, lower_premise, lowered, trailer_loses, old_place, new_word}
use Rattle.sheets.specs.Withdrawal.{lines_start, lines_end, sheet_without}
use Rattle.sheets.specs.Output.{MovedLine}
use Rattle.sheets.specs.LineSets.{number_before}
use Rattle.sheets.proofs.LayoutLaws.{trailer_words_lem}
use Rattle.sheets.proofs.LineNumberLaws.{before_below, before_behind, lower_upto, before_lower, lower_below}
use Rattle.sheets.proofs.WrittenLaws.{written_length, word_written, word-drop}
use Rattle.sheets.proofs.SameTables.{terms_same, contexts_same, stated_same}
use Rattle.sheets.proofs.AcceptedLaws.{stated_is}

module _ {A : Type 0} where
  pub listed_same : (f g : ℕ → A) (n : ℕ) → ((k : ℕ) → k < n → f k ≡ g k) → listed f n ≡ listed g n
  unfolding listed
  listed_same f g zero h = refl
  listed_same f g (suc n) h =
      ap₂ ◌∷◌ (h 0 (omega arith))
      (listed_same (λ k. f (suc k)) (λ k. g (suc k)) n (λ k l. h (suc k) (omega arith)))

  listed-without : (n : ℕ) (f : ℕ → A) (l : ℕ) → n ≤ l
      → listed (λ k. f (number_before n k)) l ≡ without n (listed f (suc l))
  unfolding listed without number_before
  listed-without zero f l h = refl
  listed-without (suc n) f zero h = absurd (omega arith)
  listed-without (suc n) f (suc l) h = ap (λ r. f 0 ∷ r) (listed-without n (λ i. f (suc i)) l (omega arith))

  pub map_taken : (f g : ℕ → A) (d : ℕ → ℕ) (c : ℕ) (l : List ℕ)
      → ((j : ℕ) → j < length l → j < c → f (get_or l j 0) ≡ g (d (get_or l j 0)))
      → map f (take c l) ≡ map g (take c (map d l))
  map_taken f g d zero l h = refl
  map_taken f g d (suc c) [] h = refl
  map_taken f g d (suc c) (p ∷ l) h =
      ap₂ ◌∷◌ (h 0 (omega arith) (omega arith))
      (map_taken f g d c l (λ j a b. h (suc j) (omega arith) (omega arith)))

-- a line with its premises lowered
lower_line : ℕ → Line → Line
lower_line n l =
    record {
      form = l.form;
      rule = l.rule;
      context = l.context;
      s1 = l.s1;
      s2 = l.s2;
      s3 = l.s3;
      p0 = lower_premise n l.p0;
      p1 = lower_premise n l.p1;
      p2 = lower_premise n l.p2;
      p3 = lower_premise n l.p3;
    }

premise_lowered : (n : ℕ) (l : Line) (j : ℕ) → j < 4
    → get_or (premises_of (lower_line n l)) j 0 ≡ lower_premise n (get_or (premises_of l) j 0)
unfolding premises_of lower_line
premise_lowered n l zero h = refl
premise_lowered n l (suc zero) h = refl
premise_lowered n l (suc (suc zero)) h = refl
premise_lowered n l (suc (suc (suc zero))) h = refl
premise_lowered n l (suc (suc (suc (suc j)))) h = absurd (omega arith)

lowered-field : (n j w : ℕ) → j < 6 → lowered n j w ≡ w
unfolding lowered
lowered-field n j w h = let e : leb 6 j ≡ false = refutes (leb 6 j) (says_le 6 j) (λ m. omega arith) in rw (e, lowered)

lowered_premise : (n j w : ℕ) → 6 ≤ j → lowered n j w ≡ lower_premise n w
unfolding lowered
lowered_premise n j w h = let e : leb 6 j ≡ true = (says_le 6 j).1 h in rw (e, lowered)

-- a line's keeping of the layout carries over
lower_ok : (l : Line) (n m T C : ℕ) → (Uses l n → ⊥) → LineOk l (number_before n m) T C → LineOk (lower_line n l) m T C
unfolding lower_line judgment_of
lower_ok l n m T C f o =
    record {
      rule = o.rule;
      form = o.form;
      numbers = o.numbers;
      unused_subject = o.unused_subject;
      earlier = λ j h k.
          subst (λ p. p < m) (sym (premise_lowered n l j h))
          (lower_below n m (get_or (premises_of l) j 0) (λ e. f (j, h, k, e)) (o.earlier j h k));
      unused_premise = λ j h k.
          premise_lowered n l j h ∙ ap (lower_premise n) (o.unused_premise j h k) ∙ lower_upto n 0 (omega arith);
    }

-- the words of the new sheet, part by part
module _ (b : List ℕ) (start end n i : ℕ) where
  new_head : i < start → new_word b start end n i ≡ word_at b i
  unfolding new_word
  new_head h = rw (lt-ltb i start h, new_word)

  new_line : start ≤ i → i < end
      → new_word b start end n i ≡ lowered n ((i - start) % 10) (word_at b (old_place start n i))
  unfolding new_word
  new_line h k = rw (le-ltb i start h, lt-ltb i end k, new_word)

  new_trailer : start ≤ i → end ≤ i → new_word b start end n i ≡ word_at b (i + 10) - trailer_loses (i - end)
  unfolding new_word
  new_trailer h k = rw (le-ltb i start h, le-ltb i end k, new_word)

old_before : (start n i : ℕ) → i < start + 10 * n → old_place start n i ≡ i
unfolding old_place
old_before start n i h = rw (lt-ltb i (start + 10 * n) h, old_place)

old_behind : (start n i : ℕ) → start + 10 * n ≤ i → old_place start n i ≡ i + 10
unfolding old_place
old_behind start n i h = rw (le-ltb i (start + 10 * n) h, old_place)

old_line : (start n m j : ℕ) → j < 10 → old_place start n (start + (10 * m + j)) ≡ start + (10 * number_before n m + j)
old_line start n m j h = at (dec_lt m n)
  where
    at : Dec (m < n) → old_place start n (start + (10 * m + j)) ≡ start + (10 * number_before n m + j)
    at (yes l) = old_before start n (start + (10 * m + j)) (omega arith) ∙ omega (arith, before_below n m l)
    at (no l) = old_behind start n (start + (10 * m + j)) (omega arith) ∙ omega (arith, before_behind n m (omega arith))

-- what the sheet without line n holds, for any sheet with this layout
module _ (b : List ℕ) (T C L n : ℕ) (old : LaidOut b T C L) (there : n < L) where
  abbrev new : List ℕ
  new = sheet_without b T C L n

  pub new_long : length new ≡ distance_to_terms T C (L - 1) + 16
  unfolding sheet_without
  new_long = omega (arith, written_length (new_word b (lines_start T C) (lines_end T C L) n) (lines_end T C L + 8))

  word_new : (i : ℕ) → i < lines_end T C L + 8 → word_at new i ≡ new_word b (lines_start T C) (lines_end T C L) n i
  unfolding sheet_without
  word_new i h = word_written (new_word b (lines_start T C) (lines_end T C L) n) (lines_end T C L + 8) i h

  pub head_word : (i : ℕ) → i < lines_start T C → word_at new i ≡ word_at b i
  head_word i h = word_new i (omega arith) ∙ new_head b (lines_start T C) (lines_end T C L) n i h

  same_words : (i : ℕ) → i < lines_start T C → word_at b i ≡ word_at new i
  same_words i h = sym (head_word i h)

  -- the trailer
  trailer_word_lem : (i loses : ℕ) → i < 8 → trailer_loses i ≡ loses → trailer_word new i ≡ trailer_word b i - loses
  unfolding trailer_word
  trailer_word_lem i loses h e =
      word-drop new (length new - 16) (lines_end T C L) i (omega (arith, new_long))
      ∙ word_new (lines_end T C L + i) (omega arith)
      ∙ new_trailer b (lines_start T C) (lines_end T C L) n (lines_end T C L + i) (omega arith) (omega arith)
      ∙ (λ k. word_at b (place k) - (ap trailer_loses at ∙ e) k)
      ∙ ap (λ w. w - loses) (sym (word-drop b (length b - 16) (lines_start T C + 10 * L) i (omega (arith, old.long))))
    where
      place : lines_end T C L + i + 10 ≡ lines_start T C + 10 * L + i
      place = omega arith

      at : lines_end T C L + i - lines_end T C L ≡ i
      at = omega arith

  -- the edition stays
  pub edition_kept : edition_of new ≡ edition_of b
  unfolding edition_of trailer_loses
  edition_kept = omega (arith, trailer_word_lem 3 0 (omega arith) refl)

  trailer_is : trailer_of new ≡ trailer_for (edition_of new) T C (L - 1)
  unfolding trailer_of trailer_for trailer_loses edition_of
  trailer_is =
      let t : trailer_of b ≡ trailer_for (edition_of b) T C L = old.trailer in
      let e0 : trailer_word b 0 ≡ T = ap (λ r. r.terms) t in
      let e1 : trailer_word b 1 ≡ C = ap (λ r. r.contexts) t in
      let e2 : trailer_word b 2 ≡ L = ap (λ r. r.lines) t in
      let e4 : trailer_word b 4 ≡ distance_to_terms T C L = ap (λ r. r.to_terms) t in
      let e5 : trailer_word b 5 ≡ distance_to_contexts C L = ap (λ r. r.to_contexts) t in
      let e6 : trailer_word b 6 ≡ distance_to_lines L = ap (λ r. r.to_lines) t in
      let e7 : trailer_word b 7 ≡ 0x4C44 = ap (λ r. r.mark) t in
      trailer_words_lem new T C (L - 1) (omega (arith, trailer_word_lem 0 0 (omega arith) refl))
      (omega (arith, trailer_word_lem 1 0 (omega arith) refl)) (omega (arith, trailer_word_lem 2 1 (omega arith) refl))
      (omega (arith, trailer_word_lem 4 20 (omega arith) refl)) (omega (arith, trailer_word_lem 5 20 (omega arith) refl))
      (omega (arith, trailer_word_lem 6 20 (omega arith) refl)) (omega (arith, trailer_word_lem 7 0 (omega arith) refl))

  pub laid : LaidOut new T C (L - 1)
  laid =
      record {
        trailer = trailer_is;
        edition = subst IsEdition (sym edition_kept) old.edition;
        few_terms = old.few_terms;
        few_contexts = old.few_contexts;
        few_lines = omega (arith, old.few_lines);
        long = new_long;
      }

  -- the lines
  line_word_lem : (m j : ℕ) → m < L - 1 → j < 10
      → line_word (lines_in new T C) m j ≡ lowered n j (line_word (lines_in b T C) (number_before n m) j)
  unfolding line_word lines_in
  line_word_lem m j h k =
      word-drop new (10 * T + 4 * C) (lines_start T C) (10 * m + j) (omega arith)
      ∙ word_new (lines_start T C + (10 * m + j)) (omega arith)
      ∙ new_line b (lines_start T C) (lines_end T C L) n (lines_start T C + (10 * m + j)) (omega arith) (omega arith)
      ∙ (λ i. lowered n (at i) (place i))
    where
      at : (lines_start T C + (10 * m + j) - lines_start T C) % 10 ≡ j
      at = omega arith

      place : word_at b (old_place (lines_start T C) n (lines_start T C + (10 * m + j)))
          ≡ word_at (drop (10 * T + 4 * C) b) (10 * number_before n m + j)
      place =
          ap (word_at b) (old_line (lines_start T C) n m j k)
          ∙ sym (word-drop b (10 * T + 4 * C) (lines_start T C) (10 * number_before n m + j) (omega arith))

  line_field : (m j : ℕ) → m < L - 1 → j < 6
      → line_word (lines_in new T C) m j ≡ line_word (lines_in b T C) (number_before n m) j
  line_field m j h k = line_word_lem m j h (omega arith) ∙ lowered-field n j _ k

  line_premise : (m j : ℕ) → m < L - 1 → 6 ≤ j → j < 10
      → line_word (lines_in new T C) m j ≡ lower_premise n (line_word (lines_in b T C) (number_before n m) j)
  line_premise m j h l k = line_word_lem m j h k ∙ lowered_premise n j _ l

  pub line_moved : (k : ℕ) → k < L - 1 → MovedLine n (lines_in b T C) (lines_in new T C) (number_before n k) k
  line_moved k h =
      record { fields = λ j l. line_field k j h l; premises = λ j low high. line_premise k j h low high }

  line_new : (m : ℕ) → m < L - 1 → line_at new T C m ≡ lower_line n (line_at b T C (number_before n m))
  unfolding line_at line_of lower_line
  line_new m h =
      λ i. record {
        form = line_field m 0 h (omega arith) i;
        rule = row_in (edition_kept i) (line_field m 1 h (omega arith) i);
        context = line_field m 2 h (omega arith) i;
        s1 = line_field m 3 h (omega arith) i;
        s2 = line_field m 4 h (omega arith) i;
        s3 = line_field m 5 h (omega arith) i;
        p0 = line_premise m 6 h (omega arith) (omega arith) i;
        p1 = line_premise m 7 h (omega arith) (omega arith) i;
        p2 = line_premise m 8 h (omega arith) (omega arith) i;
        p3 = line_premise m 9 h (omega arith) (omega arith) i;
      }

  before_within : (m : ℕ) → m < L - 1 → number_before n m < L
  before_within m h = at (dec_lt m n)
    where
      at : Dec (m < n) → number_before n m < L
      at (yes l) = omega (arith, before_below n m l)
      at (no l) = omega (arith, before_behind n m (omega arith))

  -- line m as it was
  abbrev was : ℕ → Line
  was m = line_at b T C (number_before n m)

  -- and what the sheet states, if it is good
  module _ (g : Good b T C L) where
    good_line : (m : ℕ) → m < L - 1 → GoodLine b T C (number_before n m)
    good_line m h = g.lines (number_before n m) (before_within m h)

    states : (m : ℕ) → m < L - 1 → stated_at new T C m ≡ stated_at b T C (number_before n m)
    unfolding stated_at judgment_of lower_line
    states m h =
        ap (λ l. stated new (contexts_in new T) (judgment_of l)) (line_new m h)
        ∙ sym (stated_same b new T C g.tables.terms g.tables.contexts same_words
        (judgment_of (was m)) (good_line m h).ok.numbers)

    module _ (unused : Unused (edition_of b) (lines_in b T C) L n) where
      not_used : (m : ℕ) → m < L - 1 → Uses (was m) n → ⊥
      unfolding line_at
      not_used m h u = at (dec_lt m n)
        where
          at : Dec (m < n) → ⊥
          at (yes l) = omega (arith, before_below n m l, (good_line m h).ok.earlier u.0 u.1 u.2, u.3)
          at (no l) = unused (number_before n m) (omega (arith, before_behind n m (omega arith))) (before_within m h) u

      line_follows : (m : ℕ) → m < L - 1
          → Instance (was m).rule (map (stated_at new T C) (cited_by (lower_line n (was m)))) (stated_at new T C m)
      unfolding LineFollows cited_by premises_of lower_line
      line_follows m h =
          subst₂ (Instance (was m).rule)
          (map_taken (stated_at b T C) (stated_at new T C) (lower_premise n) (premise_count (was m).rule) premises cited)
          (sym (states m h)) (good_line m h).follows
        where
          premises : List ℕ
          premises = premises_of (was m)

          cited : (j : ℕ) → j < 4 → j < premise_count (was m).rule
              → stated_at b T C (get_or premises j 0) ≡ stated_at new T C (lower_premise n (get_or premises j 0))
          cited j a c =
              let p = get_or premises j 0 in
              let away : p ≡ n → ⊥ = λ e. not_used m h (j, a, c, e) in
              let low = lower_below n m p away ((good_line m h).ok.earlier j a c) in
              sym (states (lower_premise n p) (omega (arith, low)) ∙ ap (stated_at b T C) (before_lower n p away))

      pub good_without : Good new T C (L - 1)
      unfolding LineFollows lower_line
      good_without = record { tables = record { laid = laid; terms = terms; contexts = contexts }; lines = good }
        where
          terms : TermTable new T
          terms = terms_same b new T C g.tables.terms g.tables.contexts same_words (omega (arith, new_long))

          contexts : ContextTable (contexts_in new T) T C
          contexts =
              contexts_same b new T C g.tables.terms g.tables.contexts same_words (omega (arith, new_long))

          good : (m : ℕ) → m < L - 1 → GoodLine new T C m
          good m h =
              let same = sym (line_new m h) in
              record {
                ok = subst (λ l. LineOk l m T C) same (lower_ok (was m) n m T C (not_used m h) (good_line m h).ok);
                follows =
                    subst (λ l. Instance l.rule (map (stated_at new T C) (cited_by l)) (stated_at new T C m)) same
                    (line_follows m h);
              }

      pub stated-without : stated_by new ≡ without n (stated_by b)
      stated-without =
          stated_is good_without
          ∙ listed_same (stated_at new T C) (λ k. stated_at b T C (number_before n k)) (L - 1) states
          ∙ listed-without n (stated_at b T C) (L - 1) (omega arith)
          ∙ ap (λ k. without n (listed (stated_at b T C) k)) all ∙ ap (without n) (sym (stated_is g))
        where
          all : suc (L - 1) ≡ L
          all = omega arith
