-- The check of a term table answers for its declarative reading, numbers 5 to 7, and the sizes that it leaves are the
-- trees' sizes.
-- Assumes nothing.
use mathlib.Core.Path.{◌≡◌, refl, sym, ◌∙◌, ap, subst, subst₂}
use mathlib.Core.Logic.{◌↔◌}
use mathlib.Core.Bool.{Bool, true, false}
use mathlib.Core.List.{List, [], ◌∷◌, ◌++◌}
use Prim.Native.Nat.{ℕ, zero, suc, ◌+◌, ◌*◌, ◌≤◌, ◌<◌}
use native.Mathlib.Omega.{arith}
use lib.Dec.{ltb}
use lib.ListN.{length, get_or, length-append, get_or-append}
use lib.Seq.{get_or_at}
use Rattle.std.specs.Prelude.{Result, Ok, Err}
use Rattle.terms.specs.Term.{size}
use Rattle.terms.specs.Tag.{arity}
use Rattle.terms.specs.Decides.{Decides}
use Rattle.terms.specs.Rows.{word, tag, term, row_of}
use Rattle.terms.specs.Table.{GoodRow, TermTable, RepeatsRow, RowFault, broken, repeated, large, FirstFaultyRow, TreeSizes}
use Rattle.terms.specs.Search.{ends, goes}
use Rattle.terms.specs.Faults.{number_of}
use Rattle.terms.specs.Sizes.{fits_row, repeated_below, sum_to, row_size, size_answer, row_answer, TermsAnswer, faultless, faulty, Names, Checked, checked, row_step, check_terms}
use Rattle.terms.specs.declared.sizes.RowFault.{RowFault as Fault}
use Rattle.terms.specs.declared.sizes.RowFault.TheVariants.{Malformed, Repeated, TooLarge}
use Rattle.terms.specs.declared.sizes.TermsError.{TermsError}
use Rattle.terms.proofs.Tests.{says_lt, refuted, decides_via}
use Rattle.terms.proofs.SearchLaws.{Between, between_none, between_next, After, search_keeps, Answers, stops, passes, one_answer}
use Rattle.terms.proofs.Shape.{AtChildren, below_or_last, size-shape}
use Rattle.terms.proofs.GoodRows.{fits_good, good_fits, good_child}
use Rattle.terms.proofs.TermLaws.{Downward, term_step}
use Rattle.terms.proofs.RepetitionLaws.{same_words, repeated_any}

sum_cong : (n : ℕ) (f g : ℕ → ℕ) → ((j : ℕ) → 1 ≤ j → j ≤ n → f j ≡ g j) → sum_to n f ≡ sum_to n g
unfolding sum_to
sum_cong zero f g h = refl
sum_cong (suc n) f g h = λ i. sum_cong n f g (λ j low high. h j low (omega arith)) i + h (suc n) (omega arith) (omega arith) i

module _ (bytes : List ℕ) where
  -- numbers 5 and 6 by computation are 5 and 6 as they read
  fits_says : (n : ℕ) → Decides (fits_row (row_of bytes n) n) (GoodRow bytes n)
  fits_says n = (fits_good bytes n, good_fits bytes n)

  repeated_says : (n : ℕ) → Decides (repeated_below bytes (row_of bytes n) n) (RepeatsRow bytes n)
  repeated_says n =
      decides_via (
        λ s. (s.0, s.1, (same_words bytes s.0 n).0 s.2),
        λ s. (s.0, s.1, (same_words bytes s.0 n).1 s.2),
      ) (repeated_any bytes (row_of bytes n) n)

  -- the size that the check computes for a good row is its tree's, while the list holds the sizes of the trees before
  pub sizes_are : (n : ℕ) (sizes : List ℕ) → TermTable bytes n → TreeSizes bytes n sizes → GoodRow bytes n → row_size bytes n sizes ≡ size (term bytes n)
  unfolding row_size
  sizes_are n sizes table known good =
      ap (λ s. 1 + s) (sum_cong (arity (tag bytes n)) _ (λ j. size (term bytes (word bytes n j))) (λ j low high. known.each (word bytes n j) (good_child bytes n good j low high)))
      ∙ sym (ap size (term_step bytes (suc n) down n (omega arith)) ∙ size-shape (tag bytes n) (word bytes n 1) (λ j. term bytes (word bytes n j)))
    where
      down : Downward bytes (suc n)
      down m h = below_or_last (λ k. AtChildren (tag bytes k) (λ j. word bytes k j < k)) n m h (λ l. good_child bytes m (table.rows m l)) (good_child bytes n good)

  -- row n breaks nothing
  record FaultlessRow (n : ℕ) : Type 0 where
    pub good : GoodRow bytes n
    pub new : RepeatsRow bytes n → ⊥
    pub small : size (term bytes n) ≤ 65535

  -- what the answer for row n says of it
  abbrev RowSays : ℕ → Result ℕ Fault → Type 0
  RowSays n (Err fault) = RowFault bytes n (number_of fault)
  RowSays n (Ok s) = (s ≡ size (term bytes n)) × FaultlessRow n

  module _ (n : ℕ) (sizes : List ℕ) (table : TermTable bytes n) (known : TreeSizes bytes n sizes) where
    on_size : GoodRow bytes n → (RepeatsRow bytes n → ⊥) → (b : Bool) → Decides b (65535 < row_size bytes n sizes)
        → RowSays n (elim b [ true ↦ Err TooLarge | false ↦ Ok (row_size bytes n sizes) ])
    unfolding number_of
    on_size good new true d = large good new (subst (λ s. 65535 < s) (sizes_are n sizes table known good) (d.0 refl))
    on_size good new false d =
        let is = sizes_are n sizes table known good in
        let small : row_size bytes n sizes ≤ 65535 = let more = refuted d refl in omega arith in
        (is, record { good = good; new = new; small = subst (λ s. s ≤ 65535) is small })

    on_repetition : GoodRow bytes n → (b : Bool) → Decides b (RepeatsRow bytes n)
        → RowSays n (elim b [ true ↦ Err Repeated | false ↦ size_answer (row_size bytes n sizes) ])
    unfolding size_answer number_of
    on_repetition good true d = repeated good (d.0 refl)
    on_repetition good false d = let s = row_size bytes n sizes in on_size good (refuted d refl) (ltb 65535 s) (says_lt 65535 s)

    row_says : RowSays n (row_answer bytes n sizes)
    unfolding row_answer number_of
    row_says = on (fits_row (row_of bytes n) n) (fits_says n)
      where
        on : (b : Bool) → Decides b (GoodRow bytes n)
            → RowSays n (elim b [
              | false ↦ Err Malformed
              | true ↦ elim (repeated_below bytes (row_of bytes n) n) [ true ↦ Err Repeated | false ↦ size_answer (row_size bytes n sizes) ]
            ])
        on true d = on_repetition (d.0 refl) (repeated_below bytes (row_of bytes n) n) (repeated_says n)
        on false d = broken (refuted d refl)

  -- sound rows make a table, and a table's rows are sound
  rows_table : (count : ℕ) → 10 * count ≤ length bytes → Between FaultlessRow 0 count → TermTable bytes count
  rows_table count whole rows =
      record {
        whole = whole;
        rows = λ n h. (row n h).good;
        distinct = λ m n h k same.
            let not_less : m < n → ⊥ = λ l. (row n k).new (m, l, same) in
            let not_more : n < m → ⊥ = λ l. (row m h).new (n, l, λ j p. sym (same j p)) in
            omega arith;
        sizes = λ n h. (row n h).small;
      }
    where
      row : (n : ℕ) → n < count → FaultlessRow n
      row n h = rows n (omega arith) h

  table_rows : (count : ℕ) → TermTable bytes count → Between FaultlessRow 0 count
  table_rows count table n low h =
      record {
        good = table.rows n h;
        new = λ r. let e = table.distinct r.0 n (omega (arith, r.1)) h r.2 in omega (arith, r.1);
        small = table.sizes n h;
      }

  sizes_next : (n : ℕ) (sizes : List ℕ) → TreeSizes bytes n sizes → TreeSizes bytes (suc n) (sizes ++ size (term bytes n) ∷ [])
  sizes_next n sizes known =
      record {
        long = length-append sizes (size (term bytes n) ∷ []) ∙ ap (λ m. m + 1) known.long ∙ omega arith;
        each = λ k h. below_or_last (λ m. get_or (sizes ++ size (term bytes n) ∷ []) m 0 ≡ size (term bytes m)) n k h
            (λ l. get_or-append sizes (size (term bytes n) ∷ []) 0 k (omega (arith, known.long)) ∙ known.each k l)
            (get_or_at sizes (size (term bytes n)) [] 0 n known.long);
      }

  -- a sound row has no fault, and any other row has one at most
  fault_free : (n number : ℕ) → FaultlessRow n → RowFault bytes n number → ⊥
  fault_free n number row (broken bad) = bad row.good
  fault_free n number row (repeated good r) = row.new r
  fault_free n number row (large good new l) = omega (arith, row.small)

  one_fault : (n a b : ℕ) → RowFault bytes n a → RowFault bytes n b → a ≡ b
  one_fault n a b (broken bad) (broken _) = refl
  one_fault n a b (broken bad) (repeated good _) = absurd (bad good)
  one_fault n a b (broken bad) (large good _ _) = absurd (bad good)
  one_fault n a b (repeated good _) (broken bad) = absurd (bad good)
  one_fault n a b (repeated _ _) (repeated _ _) = refl
  one_fault n a b (repeated _ r) (large _ new _) = absurd (new r)
  one_fault n a b (large good _ _) (broken bad) = absurd (bad good)
  one_fault n a b (large _ new _) (repeated _ r) = absurd (new r)
  one_fault n a b (large _ _ _) (large _ _ _) = refl

  -- a fault is told by its number
  one_number : (a b : Fault) → number_of a ≡ number_of b → a ≡ b
  unfolding number_of
  one_number Malformed Malformed e = refl
  one_number Malformed Repeated e = absurd (omega (arith, e))
  one_number Malformed TooLarge e = absurd (omega (arith, e))
  one_number Repeated Malformed e = absurd (omega (arith, e))
  one_number Repeated Repeated e = refl
  one_number Repeated TooLarge e = absurd (omega (arith, e))
  one_number TooLarge Malformed e = absurd (omega (arith, e))
  one_number TooLarge Repeated e = absurd (omega (arith, e))
  one_number TooLarge TooLarge e = refl

  fault_numbered : {n number : ℕ} → RowFault bytes n number → (fault : Fault) × (number_of fault ≡ number)
  unfolding number_of
  fault_numbered (broken _) = (Malformed, refl)
  fault_numbered (repeated _ _) = (Repeated, refl)
  fault_numbered (large _ _ _) = (TooLarge, refl)

  -- the answer for row n is one of its faults
  abbrev FaultAt : ℕ → TermsAnswer → Type 0
  FaultAt n a = (fault : Fault) × (a ≡ faulty fault n) × RowFault bytes n (number_of fault)

  module _ (count : ℕ) (whole : 10 * count ≤ length bytes) where
    -- so many sizes are left
    abbrev sized : TermsAnswer → ℕ
    sized (Ok _) = count
    sized (Err e) = e.place

    abbrev Outcome : Checked → Type 0
    Outcome c = Answers FaultlessRow FaultAt faultless 0 count c.answer × TreeSizes bytes (sized c.answer) c.sizes

    abbrev Inv : ℕ → List ℕ → Type 0
    Inv n sizes = Between FaultlessRow 0 n × TreeSizes bytes n sizes

    keeps : (n : ℕ) (sizes : List ℕ) → n < count → Inv n sizes → After Outcome (Inv (suc n)) (row_step bytes n sizes)
    unfolding row_step
    keeps n sizes h i = on (row_answer bytes n sizes) (row_says n sizes (rows_table n (omega arith) i.0) i.1)
      where
        on : (a : Result ℕ Fault) → RowSays n a → After Outcome (Inv (suc n))
            (elim a [ Err fault ↦ ends (checked (faulty fault n) sizes) | Ok s ↦ goes (sizes ++ s ∷ []) ])
        on (Err fault) f = (stops n (omega arith) h i.0 (fault, refl, f), i.1)
        on (Ok s) o = (
          between_next FaultlessRow 0 n i.0 o.1,
          subst (λ m. TreeSizes bytes (suc n) (sizes ++ m ∷ [])) (sym o.0) (sizes_next n sizes i.1),
        )

    outcome : Outcome (check_terms bytes count)
    unfolding check_terms
    outcome =
        search_keeps (row_step bytes) (checked faultless) count Inv Outcome keeps (λ sizes i. (passes i.0 refl, i.1))
        count 0 [] (omega arith) (between_none FaultlessRow 0, record { long = refl; each = λ k h. absurd (omega arith) })

    means : (a : TermsAnswer) → ((check_terms bytes count).answer ≡ a) ↔ Answers FaultlessRow FaultAt faultless 0 count a
    means a = (
      λ e. subst (Answers FaultlessRow FaultAt faultless 0 count) e outcome.0,
      λ m. one_answer FaultlessRow FaultAt (λ n b row f. fault_free n (number_of f.0) row f.2)
          (λ n b c f g. f.1 ∙ ap (λ k. faulty k n) (one_number f.0 g.0 (one_fault n (number_of f.0) (number_of g.0) f.2 g.2)) ∙ sym g.1)
          faultless 0 count _ a outcome.0 m,
    )

    -- the check finds no fault exactly if the table is well formed
    pub check_faultless : ((check_terms bytes count).answer ≡ faultless) ↔ TermTable bytes count
    check_faultless = (λ e. from ((means faultless).0 e), λ table. (means faultless).1 (passes (table_rows count table) refl))
      where
        from : Answers FaultlessRow FaultAt faultless 0 count faultless → TermTable bytes count
        from (stops p low h before f) = absurd (cc f.1)
        from (passes rows e) = rows_table count whole rows

    -- and then the sizes are those of all the trees
    pub faultless_sizes : TermTable bytes count → TreeSizes bytes count (check_terms bytes count).sizes
    faultless_sizes table = subst (λ a. TreeSizes bytes (sized a) (check_terms bytes count).sizes) (check_faultless.1 table) outcome.1

    -- the check finds a fault exactly if it is the first faulty row's
    pub check_fault : (fault : Fault) (place : ℕ) → ((check_terms bytes count).answer ≡ faulty fault place) ↔ FirstFaultyRow bytes count (number_of fault) place
    check_fault fault place = (
      λ e. from ((means (faulty fault place)).0 e),
      λ f.
          (means (faulty fault place)).1
          (stops place (omega arith) f.within (table_rows place f.before) (fault, refl, f.fault)),
    )
      where
        from : Answers FaultlessRow FaultAt faultless 0 count (faulty fault place) → FirstFaultyRow bytes count (number_of fault) place
        from (stops p low h before f) =
            let same : ◌≡◌ {A = TermsError} (record { fault = f.0; place = p }) (record { fault = fault; place = place }) = cc f.1 in
            let there : p ≡ place = ap (λ e. e.place) same in
            record {
              within = omega arith;
              before = rows_table place (omega arith) (subst (Between FaultlessRow 0) there before);
              fault = subst₂ (RowFault bytes) there (ap (λ e. number_of e.fault) same) f.2;
            }
        from (passes rows e) = absurd (cc e)

    module _ (number place : ℕ) where
      -- the same by the fault's number
      pub check_faulty : Names number place (check_terms bytes count).answer ↔ FirstFaultyRow bytes count number place
      check_faulty = (
        λ s. subst (λ m. FirstFaultyRow bytes count m place) s.1 ((check_fault s.0 place).0 s.2),
        λ f.
            let named = fault_numbered f.fault in
            (named.0, named.1, (check_fault named.0 place).1 (subst (λ m. FirstFaultyRow bytes count m place) (sym named.1) f)),
      )

      -- and then the sizes are those of the trees before it
      pub faulty_sizes : Names number place (check_terms bytes count).answer → TreeSizes bytes place (check_terms bytes count).sizes
      faulty_sizes s = subst (λ a. TreeSizes bytes (sized a) (check_terms bytes count).sizes) s.2 outcome.1
