-- The sheet of a derivation whose terms and contexts are listed: it is good, of the derivation's edition, and it states
-- the derivation.
-- Assumes nothing.
use mathlib.Core.Path.{◌≡◌, sym, ◌∙◌, ap, subst, subst₂}
use mathlib.Core.List.{List, [], map}
use Prim.Native.Nat.{ℕ, suc, ◌+◌, ◌-◌, ◌*◌, ◌/◌, ◌%◌, ◌≤◌, ◌<◌}
use native.Mathlib.Decide.{dec_lt}
use native.Mathlib.Omega.{arith}
use lib.ListN.{length, length-map, length-drop}
use lib.Seq.{ext_get_or}
use Rattle.terms.specs.Term.{Term, zer}
use Rattle.terms.specs.Rows.{word, term}
use Rattle.terms.specs.Table.{TermTable}
use Rattle.terms.specs.Lists.{AllBelow}
use Rattle.rules.specs.Judgment.{Context, Judgment, wf, context_of, term?}
use Rattle.rules.specs.Instance.{Instance}
use Rattle.rules.specs.Contexts.{parent_of, type_of, ContextTable}
use Rattle.rules.specs.Stated.{stated}
use Rattle.rules.specs.Editions.{IsEdition, row_in}
use Rattle.sheets.specs.declared.lines.Line.{Line}
use Rattle.sheets.specs.Layout.{edition_of, contexts_in, lines_in}
use Rattle.sheets.specs.Lines.{line_word, judgment_of, cited_by, line_at, stated_at, LineFollows}
use Rattle.sheets.specs.Good.{Good}
use Rattle.sheets.specs.GoodLines.{LineOk}
use Rattle.derivations.specs.Lists.{◌∈◌}
use Rattle.derivations.specs.Derivation.{judgment_at, Derivation}
use Rattle.sheets.specs.Accepted.{Bytes, stated_by}
use Rattle.sheets.proofs.BelowLaws.{map_below}
use Rattle.derivations.proofs.ListLaws.{in_place}
use Rattle.derivations.proofs.Numbering.{number, numbered, numbered_in}
use Rattle.derivations.proofs.SheetDerives.{stated-length, stated_at_lem}
use Rattle.derivations.proofs.TermTableOf.{row_word, row_small, spells_number, term_table_lem}
use Rattle.derivations.proofs.ContextTableOf.{word_of_context, context_small, stands, context_table}
use Rattle.derivations.proofs.LinesOf.{column, line_read, line_small, line_for, line_rule, line_instance, line_ok, line_states}
use Rattle.derivations.proofs.LayoutOf.{sheet_bytes, sheet_length, term-word, context_word, line_word_lem, edition_is, laid_out, sheet_bytes_lem}
use Rattle.derivations.proofs.Listing.{Listing}

-- the rule and the premises' places of judgment n
module _ (edition : ℕ) (js : List Judgment) (d : Derivation edition js) where
  rule_at : (n : ℕ) → Dec (n < length js) → ℕ
  rule_at n (yes h) = (d n h).rule
  rule_at n (no h) = 0

  places_at : (n : ℕ) → Dec (n < length js) → List ℕ
  places_at n (yes h) = (d n h).places
  places_at n (no h) = []

  earlier_at : (n : ℕ) (p : Dec (n < length js)) → n < length js → AllBelow n (places_at n p)
  unfolding places_at
  earlier_at n (yes h) k = (d n h).earlier
  earlier_at n (no h) k = absurd (h k)

  follows_at : (n : ℕ) (p : Dec (n < length js)) → n < length js
      → Instance (row_in edition (rule_at n p)) (map (judgment_at js) (places_at n p)) (judgment_at js n)
  unfolding rule_at places_at
  follows_at n (yes h) k = (d n h).follows
  follows_at n (no h) k = absurd (h k)

module _ (edition : ℕ) (known : IsEdition edition) (js : List Judgment) (d : Derivation edition js)
    (D : List Term) (E : List Context) (list : Listing js D E) (short : length js ≤ 1024) where
  places : ℕ → List ℕ
  places n = places_at edition js d n (dec_lt n (length js))

  rule_word : ℕ → ℕ
  rule_word n = rule_at edition js d n (dec_lt n (length js))

  -- its row in the edition
  rule : ℕ → ℕ
  rule n = row_in edition (rule_word n)

  -- the lines and the words
  line : ℕ → Line
  line n = line_for D E (judgment_at js n) (rule n) (places n)

  pub term_words : ℕ → ℕ
  term_words i = row_word D (numbered zer D (i / 5)) (i % 5)

  pub context_words : ℕ → ℕ
  context_words i = word_of_context D E (numbered [] E (i / 2)) (i % 2)

  pub line_words : ℕ → ℕ
  line_words i = column (rule_word (i / 10)) (line (i / 10)) (i % 10)

  abbrev pub sheet : List ℕ
  sheet = sheet_bytes edition (length D) (length E) (length js) term_words context_words line_words

  abbrev T : ℕ
  T = length D

  abbrev C : ℕ
  C = length E

  abbrev L : ℕ
  L = length js

  abbrev cs : List ℕ
  cs = contexts_in sheet T

  -- it has the edition
  pub edition_back : edition_of sheet ≡ edition
  edition_back = edition_is edition T C L term_words context_words line_words

  -- the terms
  row_holds : (n j : ℕ) → n < T → j < 5 → word sheet n j ≡ row_word D (numbered zer D n) j
  unfolding word term_words
  row_holds n j h k =
      term-word edition T C L term_words context_words line_words (5 * n + j) (omega arith)
      ∙ (λ i. row_word D (numbered zer D (row i)) (at i))
    where
      row : (5 * n + j) / 5 ≡ n
      row = omega arith

      at : (5 * n + j) % 5 ≡ j
      at = omega arith

  spelled : (t : Term) → t ∈ D → term sheet (number term? D t) ≡ t
  spelled t m = spells_number D list.once_terms list.closed_terms list.ranges sheet row_holds t m

  terms : TermTable sheet T
  terms =
      term_table_lem D list.once_terms list.closed_terms list.ranges sheet row_holds
      (omega (arith, sheet_length edition T C L term_words context_words line_words)) list.sizes

  -- the contexts
  parent_holds : (k : ℕ) → k < C → parent_of cs (suc k) ≡ word_of_context D E (numbered [] E k) 0
  unfolding parent_of context_words
  parent_holds k h =
      context_word edition T C L term_words context_words line_words (2 * (suc k - 1)) (omega arith)
      ∙ (λ i. word_of_context D E (numbered [] E (row i)) (at i))
    where
      row : (2 * (suc k - 1)) / 2 ≡ k
      row = omega arith

      at : (2 * (suc k - 1)) % 2 ≡ 0
      at = omega arith

  type_holds : (k : ℕ) → k < C → type_of cs (suc k) ≡ word_of_context D E (numbered [] E k) 1
  unfolding type_of context_words
  type_holds k h =
      context_word edition T C L term_words context_words line_words (2 * (suc k - 1) + 1) (omega arith)
      ∙ (λ i. word_of_context D E (numbered [] E (row i)) (at i))
    where
      row : (2 * (suc k - 1) + 1) / 2 ≡ k
      row = omega arith

      at : (2 * (suc k - 1) + 1) % 2 ≡ 1
      at = omega arith

  contexts : ContextTable cs T C
  unfolding contexts_in
  contexts =
      context_table D E list.once_contexts list.closed_contexts list.non_empty list.types sheet cs spelled parent_holds type_holds
      (omega (arith, sheet_length edition T C L term_words context_words line_words, length-drop (10 * T) sheet))

  -- the lines
  rule_is : (n : ℕ) → row_in edition (rule_word n) ≡ (line n).rule
  unfolding rule line
  rule_is n = line_rule D E (judgment_at js n) (rule n) (places n)

  judgment_in : (n : ℕ) → n < L → judgment_at js n ∈ js
  judgment_in n h = in_place js n (wf []) h

  line_holds : (n : ℕ) → n < L → line_at sheet T C n ≡ line n
  unfolding line_at line_word line_words
  line_holds n h =
      line_read (edition_of sheet) (lines_in sheet T C) n (rule_word n) (line n)
      (ap (λ e. row_in e (rule_word n)) edition_back ∙ rule_is n) at_column
    where
      at_column : (k : ℕ) → k < 10 → line_word (lines_in sheet T C) n k ≡ column (rule_word n) (line n) k
      at_column k l =
          line_word_lem edition T C L term_words context_words line_words (10 * n + k) (omega arith)
          ∙ (λ i. column (rule_word (row i)) (line (row i)) (at i))
        where
          row : (10 * n + k) / 10 ≡ n
          row = omega arith

          at : (10 * n + k) % 10 ≡ k
          at = omega arith

  states : (n : ℕ) → n < L → stated_at sheet T C n ≡ judgment_at js n
  unfolding stated_at line
  states n h =
      ap (λ l. stated sheet cs (judgment_of l)) (line_holds n h)
      ∙ line_states D E sheet cs (judgment_at js n) (rule n) (places n) (λ t m. spelled t (list.subjects_in (judgment_at js n) (judgment_in n h) t m))
      (stands D E list.once_contexts list.closed_contexts list.non_empty list.types sheet cs spelled parent_holds type_holds
      (context_of (judgment_at js n)) (list.context_in (judgment_at js n) (judgment_in n h)))

  follows : (n : ℕ) → n < L → Instance (rule n) (map (judgment_at js) (places n)) (judgment_at js n)
  unfolding rule rule_word places
  follows n h = follows_at edition js d n (dec_lt n (length js)) h

  earlier : (n : ℕ) → n < L → AllBelow n (places n)
  unfolding places
  earlier n h = earlier_at edition js d n (dec_lt n (length js)) h

  ok : (n : ℕ) → n < L → LineOk (line n) n T C
  unfolding line
  ok n h =
      line_ok D E (follows n h) (places n) (length-map (places n) (judgment_at js)) n (earlier n h)
      (list.subjects_in (judgment_at js n) (judgment_in n h)) (list.context_in (judgment_at js n) (judgment_in n h))

  line_follows : (n : ℕ) → n < L → Instance (line n).rule (map (stated_at sheet T C) (cited_by (line n))) (stated_at sheet T C n)
  unfolding line
  line_follows n h =
      line_instance D E (follows n h) (places n) (length-map (places n) (judgment_at js)) (stated_at sheet T C) (stated_at sheet T C n)
      (subst₂ (Instance (rule n))
      (map_below (judgment_at js) (stated_at sheet T C) n (places n) (earlier n h) (λ k m. sym (states k (omega arith)))) (sym (states n h)) (follows n h))

  pub good : Good sheet T C L
  unfolding LineFollows
  good =
      record {
        tables = record {
          laid =
              laid_out edition T C L term_words context_words line_words known list.few_terms list.few_contexts short;
          terms = terms;
          contexts = contexts;
        };
        lines = λ n h.
            record {
              ok = subst (λ l. LineOk l n T C) (sym (line_holds n h)) (ok n h);
              follows = subst (λ l. Instance l.rule (map (stated_at sheet T C) (cited_by l)) (stated_at sheet T C n)) (sym (line_holds n h)) (line_follows n h);
            };
      }

  pub states_all : stated_by sheet ≡ js
  states_all = ext_get_or (wf []) (stated_by sheet) js (stated-length good) (λ i h. let k : i < L = omega (arith, stated-length good) in stated_at_lem good i k ∙ states i k)

  pub bytes : Bytes sheet
  unfolding term_words context_words line_words
  bytes =
      sheet_bytes_lem edition T C L term_words context_words line_words known list.few_terms list.few_contexts short
      (λ i h. row_small D list.once_terms list.closed_terms list.ranges list.few_terms (numbered zer D (i / 5)) (numbered_in zer D (i / 5) (omega arith)) (i % 5))
      (λ i h. context_small D E list.once_contexts list.closed_contexts list.non_empty list.types list.few_terms list.few_contexts (numbered [] E (i / 2)) (numbered_in [] E (i / 2) (omega arith)) (i % 2))
      (λ i h.
      let k : i / 10 < L = omega arith in
      line_small (ok (i / 10) k) (omega arith) list.few_terms list.few_contexts
      edition (rule_word (i / 10)) (rule_is (i / 10)) (i % 10))
