-- The array of heights: a line's height from those of its premises, and what the loop through the lines keeps.
-- Assumes nothing.
use mathlib.Core.Path.{◌≡◌, refl, sym, ◌∙◌, ap, subst}
use mathlib.Core.List.{List, [], ◌∷◌, map}
use Prim.Native.Nat.{ℕ, zero, suc, max, ◌+◌, ◌≤◌, ◌<◌}
use native.Mathlib.Decide.{dec_lt}
use native.Mathlib.Numerals.{add-one}
use native.Mathlib.Omega.{arith}
use lib.ListN.{length, get_or, set, take, drop, replicate, length-replicate, get_or-append}
use Rattle.terms.specs.Lists.{listed}
use Rattle.terms.specs.Buffers.{over}
use Rattle.rules.specs.RuleTable.{premise_count}
use Rattle.sheets.specs.declared.lines.Line.{Line}
use Rattle.sheets.specs.Lines.{line_of, premises_of, cited_by}
use Rattle.sheets.specs.Citing.{CitesEarlier, CitingLines}
use Rattle.sheets.specs.Heights.{greatest, above, line_height}
use Rattle.sheets.specs.SearchSteps.{heights_of}
use Rattle.sheets.proofs.BelowLaws.{map_below}
use Rattle.sheets.proofs.CitingLaws.{cited_below}
use Rattle.sheets.proofs.HeightLaws.{line_step_lem, line_most}
use Rattle.sheets.proofs.ListedLaws.{listed-length, listed_at}
use Rattle.sheets.proofs.FillingLaws.{Filling, filling_start, filling_end, filling_element}

max-zero : (m : ℕ) → max m 0 ≡ m
max-zero m = omega arith

max_assoc : (m n k : ℕ) → max (max m n) k ≡ max m (max n k)
max_assoc m n k = omega arith

-- `height_of`
module _ (h : ℕ → ℕ) where
  -- what has height 0 changes nothing
  greatest_first : (count : ℕ) (l : List ℕ) → ((j : ℕ) → j < length l → count ≤ j → h (get_or l j 0) ≡ 0)
      → greatest (map h (take count l)) ≡ greatest (map h l)
  unfolding greatest
  greatest_first zero [] low = refl
  greatest_first zero (n ∷ l) low =
      let rest = greatest_first zero l (λ j k _. low (suc j) (omega arith) (omega arith)) in
      omega (arith, low 0 (omega arith) (omega arith), rest)
  greatest_first (suc count) [] low = refl
  greatest_first (suc count) (n ∷ l) low =
      ap (max (h n)) (greatest_first count l (λ j k m. low (suc j) (omega arith) (omega arith)))

  above_first : (count n : ℕ) (l : List ℕ) → 0 < count
      → above (map h (take count (n ∷ l))) ≡ suc (greatest (map h (take count (n ∷ l))))
  unfolding above
  above_first zero n l some = absurd (omega arith)
  above_first (suc count) n l some = refl

  module _ (line : Line) (k : ℕ) (cites : CitesEarlier line k) where
    pub height_none : premise_count line.rule ≡ 0 → 0 ≡ above (map h (cited_by line))
    unfolding above cited_by
    height_none e = ap (λ n. above (map h (take n (premises_of line)))) (sym e)

    -- a premise that is not used is line 0
    module _ (low : h 0 ≡ 0) (some : premise_count line.rule ≡ 0 → ⊥) where
      unused : (j : ℕ) → j < 4 → premise_count line.rule ≤ j → h (get_or (premises_of line) j 0) ≡ 0
      unused j within after = ap h (cites.unused j within after) ∙ low

      over_all : above (map h (cited_by line)) ≡ suc (greatest (map h (premises_of line)))
      unfolding cited_by premises_of
      over_all =
          above_first (premise_count line.rule) line.p0 (line.p1 ∷ line.p2 ∷ line.p3 ∷ []) (omega (arith, some))
          ∙ ap suc (greatest_first (premise_count line.rule) (premises_of line) unused)

      pub height_some : max (max (h line.p0) (h line.p1)) (max (h line.p2) (h line.p3)) + 1
          ≡ above (map h (cited_by line))
      unfolding premises_of greatest
      height_some =
          add-one _
          ∙ ap suc (max_assoc (h line.p0) (h line.p1) (max (h line.p2) (h line.p3))
          ∙ ap (λ m. max (h line.p0) (max (h line.p1) (max (h line.p2) m))) (sym (max-zero (h line.p3))))
          ∙ sym over_all

-- a height in the array
listed-height : (f : ℕ → ℕ) (n : ℕ) (heights : List ℕ) → heights ≡ over (listed f n) (replicate 1024 0)
    → (k : ℕ) → k < n → get_or heights k 0 ≡ f k
listed-height f n heights filled k h =
    let within : k < length (listed f n) = omega (arith, listed-length f n) in
    ap (λ a. get_or a k 0) filled
    ∙ get_or-append (listed f n) (drop (length (listed f n)) (replicate 1024 0)) 0 k within ∙ listed_at f n k 0 h

pub height_there : (edition : ℕ) (lines : List ℕ) (count : ℕ) (heights : List ℕ)
    → heights ≡ heights_of edition lines count → (k : ℕ) → k < count → get_or heights k 0 ≡ line_height edition lines k
unfolding heights_of
height_there edition lines count heights filled = listed-height (line_height edition lines) count heights filled

-- `line_heights`
module _ (edition : ℕ) (lines : List ℕ) (count : ℕ) where
  -- the heights of the first n lines are there
  abbrev pub Filled : List ℕ → ℕ → Type 0
  Filled = Filling (listed (line_height edition lines)) count (replicate 1024 0)

  pub filled_start : Filled (replicate 1024 0) 0
  unfolding listed
  filled_start = filling_start _ _ _ refl

  pub filled_end : {heights : List ℕ} {n : ℕ} → Filled heights n → count ≤ n → heights ≡ heights_of edition lines count
  unfolding heights_of
  filled_end at h = filling_end _ _ _ at h

  module _ (few : count ≤ 1024) (citing : CitingLines edition lines count) where
    -- line n is read, and r is what `height_of` answers
    module _ (heights : List ℕ) (n : ℕ) (at : Filled heights n) (within : n < count)
        (line : Line) (read : line ≡ line_of edition lines n) where
      there : (k : ℕ) → k < n → get_or heights k 0 ≡ line_height edition lines k
      there = listed-height (line_height edition lines) n heights at.filled

      pub line_cites : CitesEarlier line 1024
      line_cites =
          let cites = subst (λ l. CitesEarlier l n) (sym read) (citing n within) in
          record {
            rule = cites.rule;
            earlier = λ j h used. omega (arith, few, within, cites.earlier j h used);
            unused = cites.unused;
          }

      pub first_ground : get_or heights 0 0 ≡ 0
      unfolding listed
      first_ground = on (dec_lt 0 n)
        where
          on : Dec (0 < n) → get_or heights 0 0 ≡ 0
          on (yes l) = omega (arith, there 0 l, line_most edition lines count citing 0 (omega arith))
          on (no l) =
              let none : n ≡ 0 = omega arith in
              ap (λ a. get_or a 0 0) at.filled
              ∙ ap (λ m. get_or (over (listed (line_height edition lines) m) (replicate 1024 0)) 0 0) none

      module _ (r : ℕ) (e : r ≡ above (map (λ k. get_or heights k 0) (cited_by line))) where
        pub next_height : r ≡ line_height edition lines n
        next_height =
            let here = line_of edition lines n in
            e ∙ ap (λ l. above (map (λ k. get_or heights k 0) (cited_by l))) read
            ∙ ap above (map_below (λ k. get_or heights k 0) (line_height edition lines) n (cited_by here)
            (cited_below here n (citing n within)) there)
            ∙ sym (line_step_lem edition lines count citing n within)

        pub next_small : r < 65536
        next_small = omega (arith, next_height, line_most edition lines count citing n within)

        pub filled_next : Filled (set heights n r) (n + 1)
        filled_next =
            let room : count ≤ length (replicate {A = ℕ} 1024 0) = omega (arith, length-replicate {A = ℕ} 1024 0) in
            filling_element (line_height edition lines) room at within next_height
