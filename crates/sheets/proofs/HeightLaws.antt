-- Heights of lines that cite earlier lines: each is 0, or one more than the greatest that is cited, and only these
-- numbers are so; no line is higher than its number.
-- Assumes nothing.
use Rattle.std.specs.Prelude.{Ok}
use Rattle.sheets.specs.Refusals.{counts}
use mathlib.Core.Path.{◌≡◌, refl, sym, ◌∙◌, ap, subst}
use mathlib.Core.Logic.{◌↔◌}
use mathlib.Core.List.{List, [], ◌∷◌, map}
use Prim.Native.Nat.{ℕ, zero, suc, max, ◌≤◌, ◌<◌}
use native.Mathlib.Decide.{dec_le}
use native.Mathlib.Omega.{arith}
use lib.ListN.{length, get_or}
use Rattle.terms.specs.Lists.{AllBelow}
use Rattle.sheets.specs.Layout.{edition_of, lines_in}
use Rattle.sheets.specs.Lines.{line_of, cited_by, line_at}
use Rattle.sheets.specs.Admission.{admit_of}
use Rattle.sheets.specs.Citing.{CitingLines}
use Rattle.sheets.specs.Heights.{greatest, above, height_to, height, line_height, HeightMeans, no_premise, one_more}
use Rattle.sheets.proofs.BelowLaws.{map_below, below_at}
use Rattle.sheets.proofs.CitingLaws.{cited_below, good_citing}
use Rattle.sheets.proofs.AdmissionLaws.{accepted_is}

-- over heights h
module _ (h : ℕ → ℕ) where
  greatest_most : (cited : List ℕ) (k : ℕ) → k < length cited → h (get_or cited k 0) ≤ greatest (map h cited)
  unfolding greatest
  greatest_most [] k l = absurd (omega arith)
  greatest_most (c ∷ cited) zero l = omega arith
  greatest_most (c ∷ cited) (suc k) l = omega (arith, greatest_most cited k (omega arith))

  greatest_at : (c : ℕ) (cited : List ℕ)
      → (j : ℕ) × (j < length (c ∷ cited)) × (h (get_or (c ∷ cited) j 0) ≡ greatest (map h (c ∷ cited)))
  unfolding greatest
  greatest_at c [] = (0, omega arith, omega arith)
  greatest_at c (d ∷ cited) = at (greatest_at d cited) (dec_le (greatest (map h (d ∷ cited))) (h c))
    where
      at : (j : ℕ) × (j < length (d ∷ cited)) × (h (get_or (d ∷ cited) j 0) ≡ greatest (map h (d ∷ cited)))
          → Dec (greatest (map h (d ∷ cited)) ≤ h c)
          → (j : ℕ) × (j < length (c ∷ d ∷ cited))
          × (h (get_or (c ∷ d ∷ cited) j 0) ≡ max (h c) (greatest (map h (d ∷ cited))))
      at r (yes l) = (0, omega arith, omega arith)
      at r (no l) = (suc r.0, omega (arith, r.1), omega (arith, r.2))

  -- "0 if its rule has no premise, else one more than the greatest height it cites"
  pub above_is : (cited : List ℕ) (m : ℕ) → (above (map h cited) ≡ m) ↔ HeightMeans h cited m
  unfolding above
  above_is cited m = (λ e. subst (HeightMeans h cited) e (from cited), to cited)
    where
      from : (cited : List ℕ) → HeightMeans h cited (above (map h cited))
      from [] = no_premise refl
      from (c ∷ cited) =
          let top = greatest_at c cited in
          subst (HeightMeans h (c ∷ cited)) (ap suc top.2)
          (one_more top.0 top.1 (λ k l. omega (arith, top.2, greatest_most (c ∷ cited) k l)))

      higher : (cited : List ℕ) (j : ℕ) → j < length cited
          → ((k : ℕ) → k < length cited → h (get_or cited k 0) ≤ h (get_or cited j 0))
          → above (map h cited) ≡ suc (h (get_or cited j 0))
      higher [] j within highest = absurd (omega arith)
      higher (c ∷ cited) j within highest =
          let top = greatest_at c cited in
          omega (arith, top.2, highest top.0 top.1, greatest_most (c ∷ cited) j within)

      to : (cited : List ℕ) {m : ℕ} → HeightMeans h cited m → above (map h cited) ≡ m
      to cited (no_premise e) = ap (λ l. above (map h l)) e
      to cited (one_more j within highest) = higher cited j within highest

-- the first count lines cite earlier ones
module _ (cites : ℕ → List ℕ) (count : ℕ) (earlier : (n : ℕ) → n < count → AllBelow n (cites n)) where
  -- following citations more often makes no difference
  follow_more : (d e n : ℕ) → n < count → n < d → n < e → height_to cites d n ≡ height_to cites e n
  unfolding height_to
  follow_more zero e n within l m = absurd (omega arith)
  follow_more (suc d) zero n within l m = absurd (omega arith)
  follow_more (suc d) (suc e) n within l m =
      ap above (map_below (height_to cites d) (height_to cites e) n (cites n) (earlier n within)
      (λ k h. follow_more d e k (omega arith) (omega arith) (omega arith)))

  pub height_step : (n : ℕ) → n < count → height cites n ≡ above (map (height cites) (cites n))
  unfolding height height_to
  height_step n within =
      ap above (map_below (height_to cites n) (height cites) n (cites n) (earlier n within)
      (λ k h. follow_more n (suc k) k (omega arith) h (omega arith)))

  pub height_is : (n m : ℕ) → n < count → (height cites n ≡ m) ↔ HeightMeans (height cites) (cites n) m
  height_is n m within =
      let means = above_is (height cites) (cites n) m in
      (λ e. means.0 (sym (height_step n within) ∙ e), λ x. height_step n within ∙ means.1 x)

  -- no other numbers are heights
  pub height_only : (h : ℕ → ℕ) → ((n : ℕ) → n < count → HeightMeans h (cites n) (h n))
      → (n : ℕ) → n < count → h n ≡ height cites n
  height_only h means n within = below (suc n) n (omega arith) within
    where
      below : (b n : ℕ) → n < b → n < count → h n ≡ height cites n
      below zero n l within = absurd (omega arith)
      below (suc b) n l within =
          sym ((above_is h (cites n) (h n)).1 (means n within))
          ∙ ap above (map_below h (height cites) n (cites n) (earlier n within)
          (λ k m. below b k (omega arith) (omega arith)))
          ∙ sym (height_step n within)

  pub height_most : (n : ℕ) → n < count → height cites n ≤ n
  height_most n within = below (suc n) n (omega arith) within
    where
      at : (n : ℕ) → n < count → ((k : ℕ) → k < n → height cites k ≤ k) → {m : ℕ}
          → HeightMeans (height cites) (cites n) m → m ≤ n
      at n within before (no_premise e) = omega arith
      at n within before (one_more j k highest) =
          let cited : get_or (cites n) j 0 < n = below_at n (cites n) (earlier n within) j k in
          omega (arith, cited, before (get_or (cites n) j 0) cited)

      below : (b n : ℕ) → n < b → n < count → height cites n ≤ n
      below zero n l within = absurd (omega arith)
      below (suc b) n l within =
          at n within (λ k h. below b k (omega arith) (omega arith)) ((height_is n (height cites n) within).0 refl)

-- lines of a sheet of this edition, which cite earlier ones
module _ (edition : ℕ) (lines : List ℕ) (count : ℕ) (citing : CitingLines edition lines count) where
  abbrev cited : ℕ → List ℕ
  cited n = cited_by (line_of edition lines n)

  cited_earlier : (n : ℕ) → n < count → AllBelow n (cited n)
  cited_earlier n h = cited_below (line_of edition lines n) n (citing n h)

  pub line_step_lem : (n : ℕ) → n < count → line_height edition lines n ≡ above (map (line_height edition lines) (cited n))
  unfolding line_height
  line_step_lem = height_step cited count cited_earlier

  pub line_is : (n m : ℕ) → n < count
      → (line_height edition lines n ≡ m) ↔ HeightMeans (line_height edition lines) (cited n) m
  unfolding line_height
  line_is = height_is cited count cited_earlier

  pub line_only : (h : ℕ → ℕ) → ((n : ℕ) → n < count → HeightMeans h (cited n) (h n))
      → (n : ℕ) → n < count → h n ≡ line_height edition lines n
  unfolding line_height
  line_only = height_only cited count cited_earlier

  pub line_most : (n : ℕ) → n < count → line_height edition lines n ≤ n
  unfolding line_height
  line_most = height_most cited count cited_earlier

-- the lines of a sheet that admission accepts
module _ (bytes : List ℕ) (work T C L : ℕ) (accepted : admit_of bytes work ≡ Ok (counts T C L)) where
  abbrev height_at : ℕ → ℕ
  height_at = line_height (edition_of bytes) (lines_in bytes T C)

  citing : CitingLines (edition_of bytes) (lines_in bytes T C) L
  citing = good_citing ((accepted_is bytes work T C L).0 accepted).0

  -- each is 0, or one more than the greatest height that the line cites
  pub accepted_height : (n m : ℕ) → n < L → (height_at n ≡ m) ↔ HeightMeans height_at (cited_by (line_at bytes T C n)) m
  unfolding line_at
  accepted_height = line_is (edition_of bytes) (lines_in bytes T C) L citing

  -- and no other numbers are so
  pub accepted_heights : (h : ℕ → ℕ) → ((n : ℕ) → n < L → HeightMeans h (cited_by (line_at bytes T C n)) (h n))
      → (n : ℕ) → n < L → h n ≡ height_at n
  unfolding line_at
  accepted_heights = line_only (edition_of bytes) (lines_in bytes T C) L citing

  pub accepted_most : (n : ℕ) → n < L → height_at n ≤ n
  accepted_most = line_most (edition_of bytes) (lines_in bytes T C) L citing
