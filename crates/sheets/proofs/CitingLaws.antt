-- Lines that cite earlier lines: where their premises are, and that every line of a good sheet is one.
-- Assumes nothing.
use mathlib.Core.Path.{◌≡◌, sym, ap, subst, subst₂}
use mathlib.Core.List.{List}
use Prim.Native.Nat.{ℕ, ◌+◌, ◌-◌, ◌*◌, ◌≤◌, ◌<◌}
use native.Mathlib.Decide.{dec_lt}
use native.Mathlib.Omega.{arith}
use lib.ListN.{length, get_or, take, drop, length-take, length-drop}
use lib.Seq.{get_or-take}
use Rattle.terms.specs.Lists.{AllBelow}
use Rattle.rules.specs.RuleTable.{premise_count}
use Rattle.sheets.specs.declared.lines.Line.{Line}
use Rattle.sheets.specs.Layout.{edition_of, lines_in}
use Rattle.sheets.specs.Lines.{premises_of, cited_by, line_at}
use Rattle.sheets.specs.Good.{Good}
use Rattle.sheets.specs.Citing.{CitesEarlier, CitingLines}
use Rattle.sheets.proofs.BelowLaws.{all_below_lem}
use Rattle.sheets.proofs.BufferLaws.{part_to_end}

module _ (l : Line) (k : ℕ) (cites : CitesEarlier l k) where
  -- the premises are lines before it, or 0
  pub premise_within : (count : ℕ) → 0 < count → k ≤ count → (j : ℕ) → j < 4 → get_or (premises_of l) j 0 < count
  premise_within count some within j h = at (dec_lt j (premise_count l.rule))
    where
      at : Dec (j < premise_count l.rule) → get_or (premises_of l) j 0 < count
      at (yes u) = omega (arith, cites.earlier j h u)
      at (no u) = omega (arith, cites.unused j h (omega arith))

  pub premises_within : (count : ℕ) → 0 < count → k ≤ count
      → (l.p0 < count) × (l.p1 < count) × (l.p2 < count) × (l.p3 < count)
  unfolding premises_of
  premises_within count some within = (
    premise_within count some within 0 (omega arith),
    premise_within count some within 1 (omega arith),
    premise_within count some within 2 (omega arith),
    premise_within count some within 3 (omega arith),
  )

  pub cited_below : AllBelow k (cited_by l)
  unfolding cited_by premises_of
  cited_below =
      all_below_lem k (cited_by l)
      (λ j h.
      let few = length-take (premise_count l.rule) (premises_of l) in
      let used : j < premise_count l.rule = omega (arith, few) in
      subst (λ p. p < k) (sym (get_or-take (premise_count l.rule) (premises_of l) j 0 used))
      (cites.earlier j (omega (arith, few)) used))

module _ {b : List ℕ} {T C L : ℕ} (g : Good b T C L) where
  pub good_cites : (n : ℕ) → n < L → CitesEarlier (line_at b T C n) n
  good_cites n h =
      let ok = (g.lines n h).ok in record { rule = ok.rule; earlier = ok.earlier; unused = ok.unused_premise }

  pub good_citing : CitingLines (edition_of b) (lines_in b T C) L
  unfolding line_at
  good_citing n h = good_cites n h

-- the part of a sheet that begins with its lines, as it is handed to the functions that read them
abbrev pub lines_part : List ℕ → ℕ → ℕ → List ℕ
lines_part b T C = take (length b - (10 * T + 4 * C)) (drop (10 * T + 4 * C) b)

pub part_lines : (b : List ℕ) (T C : ℕ) → lines_part b T C ≡ lines_in b T C
unfolding lines_in
part_lines b T C = part_to_end b (10 * T + 4 * C)

pub citing_lines : (b : List ℕ) (T C L : ℕ) → Good b T C L → {edition : ℕ} → edition ≡ edition_of b
    → (20 * L ≤ length (lines_part b T C)) × (L ≤ 1024) × CitingLines edition (lines_part b T C) L
citing_lines b T C L g own = (
  omega (arith, g.tables.laid.long, length-drop (10 * T + 4 * C) b, ap length (part_to_end b (10 * T + 4 * C))),
  g.tables.laid.few_lines,
  subst₂ (λ e l. CitingLines e l L) (sym own) (sym (part_lines b T C)) (good_citing g),
)
