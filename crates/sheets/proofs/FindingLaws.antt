-- Finding, on a sheet that admission accepts: line i is answered exactly if it is the easiest with the five numbers,
-- and 14 exactly if no line has them. On any other sheet admission's refusal is answered.
-- Assumes nothing.
use Rattle.std.specs.Prelude.{Option, Some, None, IfSome, Ok}
use Rattle.sheets.specs.declared.refusals.Fault.{Fault}
use Rattle.sheets.specs.declared.refusals.Fault.TheVariants.{NotStated}
use Rattle.sheets.specs.declared.refusals.Refusal.{Refusal}
use Rattle.sheets.specs.Refusals.{refusal, refused, counts}
use mathlib.Core.Path.{◌≡◌, refl, sym, ◌∙◌, ap}
use mathlib.Core.Logic.{◌↔◌}
use mathlib.Core.Bool.{Bool, true, false, ◌&&◌}
use mathlib.Core.List.{List}
use Prim.Native.Nat.{ℕ, ◌+◌, ◌≤◌, ◌<◌}
use native.Mathlib.Numerals.{add-one}
use native.Mathlib.Omega.{arith}
use lib.Dec.{eqb}
use lib.ListN.{get_or}
use Rattle.terms.specs.Decides.{Decides}
use Rattle.terms.proofs.Tests.{says_eq, decides_same, decides_via, ◌&◌, clash}
use Rattle.rules.specs.declared.judgments.LineJudgment.{LineJudgment}
use Rattle.sheets.specs.declared.finding.Wanted.{Wanted}
use Rattle.sheets.specs.Layout.{edition_of, lines_in}
use Rattle.sheets.specs.Lines.{line_of, judgment_of}
use Rattle.sheets.specs.Admission.{admit_of}
use Rattle.sheets.specs.Heights.{line_height}
use Rattle.sheets.specs.Easiest.{better, easiest}
use Rattle.sheets.specs.SearchSteps.{heights_of}
use Rattle.sheets.specs.Finding.{has_numbers, found_line, search_lines, find_after, find_of}
use Rattle.sheets.specs.Finding.{HasNumbers, LineHas, EasiestLine}
use Rattle.sheets.proofs.EasiestLaws.{easiest_is, none_is, better_same}
use Rattle.sheets.proofs.HeightArrayLaws.{height_there}

pub numbers_say : (j : LineJudgment) (w : Wanted) → Decides (has_numbers j w) (HasNumbers j w)
unfolding has_numbers
numbers_say j w =
    decides_via (
      (λ p. record { form = p.0.0.0.0; context = p.0.0.0.1; s1 = p.0.0.1; s2 = p.0.1; s3 = p.1 }),
      λ h. ((((h.form, h.context), h.s1), h.s2), h.s3),
    ) (says_eq j.form w.form & says_eq j.context w.context & says_eq j.s1 w.s1 & says_eq j.s2 w.s2 & says_eq j.s3 w.s3)

-- the comparison with the judgment of the five numbers answers so
module _ (j : LineJudgment) (w : Wanted) where
  abbrev sought : LineJudgment
  sought = record { form = w.form; context = w.context; s1 = w.s1; s2 = w.s2; s3 = w.s3 }

  abbrev same : LineJudgment → Bool
  same k =
      eqb j.form k.form && (eqb j.context k.context && (eqb j.s1 k.s1 && (eqb j.s2 k.s2 && eqb j.s3 k.s3)))

  same_says : Decides (same sought) (HasNumbers j w)
  same_says =
      decides_via (
        (λ p. record { form = p.0; context = p.1.0; s1 = p.1.1.0; s2 = p.1.1.1.0; s3 = p.1.1.1.1 }),
        λ h. (h.form, (h.context, (h.s1, (h.s2, h.s3)))),
      ) (says_eq _ _ & (says_eq _ _ & (says_eq _ _ & (says_eq _ _ & says_eq _ _))))

  pub compared : {k : LineJudgment} {b : Bool} → k ≡ sought → b ≡ same k → b ≡ has_numbers j w
  compared e h = h ∙ ap same e ∙ decides_same _ _ same_says (numbers_say j w)

module _ (edition : ℕ) (lines : List ℕ) (w : Wanted) where
  abbrev has : ℕ → Bool
  has n = has_numbers (judgment_of (line_of edition lines n)) w

  abbrev chosen : ℕ → Option ℕ
  chosen = easiest has (line_height edition lines)

  has_says : (n : ℕ) → Decides (has n) (LineHas edition lines w n)
  has_says n = numbers_say (judgment_of (line_of edition lines n)) w

  pub search_found : (count i : ℕ) → (search_lines edition lines count w ≡ Ok i) ↔ EasiestLine edition lines count w i
  unfolding search_lines found_line
  search_found count i =
      let means = easiest_is (LineHas edition lines w) (line_height edition lines) has has_says count i in
      (λ e. means.0 (at (chosen count) e), λ x. ap found_line (means.1 x))
    where
      at : (o : Option ℕ) → found_line o ≡ Ok i → o ≡ Some i
      at None e = clash cc
      at (Some n) e = ap Some cc

  pub search_refused : (count : ℕ) (fault : Fault) (place : ℕ) → (search_lines edition lines count w ≡ refused fault place)
      ↔ ((fault ≡ NotStated) × (place ≡ 0) × ((n : ℕ) → n < count → LineHas edition lines w n → ⊥))
  unfolding search_lines found_line
  search_refused count fault place =
      let means = none_is (LineHas edition lines w) (line_height edition lines) has has_says count in (
        λ e. let h = at (chosen count) e in (h.1, h.2, means.0 h.0),
        λ h. ap found_line (means.1 h.2) ∙ (λ i. refused (sym h.0 i) (sym h.1 i)),
      )
    where
      at : (o : Option ℕ) → found_line o ≡ refused fault place → (o ≡ None) × (fault ≡ NotStated) × (place ≡ 0)
      at None e = let same : ◌≡◌ {A = Refusal} (refusal NotStated 0) (refusal fault place) = cc in (
        refl,
        ap (λ r. r.fault) (sym same),
        ap (λ r. r.place) (sym same),
      )
      at (Some n) e = clash cc

  -- `search_lines`: `best` is the easiest of the first n lines, if one of them is chosen
  pub record BestBefore (count : ℕ) (best : Option ℕ) (n : ℕ) : Type 0 where
    pub within : n ≤ count
    pub easiest : best ≡ chosen n

  pub best_start : (count : ℕ) → BestBefore count None 0
  unfolding easiest
  best_start count = record { within = omega arith; easiest = refl }

  module _ (count : ℕ) (best : Option ℕ) (n : ℕ) (at : BestBefore count best n) where
    -- it is one of them
    pub best_there : (bound : ℕ) → count ≤ bound → IfSome best (λ b. b < bound)
    best_there bound h = on best at.easiest
      where
        on : (o : Option ℕ) → o ≡ chosen n → IfSome o (λ b. b < bound)
        on None e = tt
        on (Some b) e = omega (arith, at.within, ((easiest_is (LineHas edition lines w) (line_height edition lines) has has_says n b).0 (sym e)).within)

    pub best_passed : n < count → has n ≡ false → BestBefore count best (n + 1)
    unfolding easiest
    best_passed h e =
        record {
          within = omega (arith, h);
          easiest = at.easiest ∙ sym (ap chosen (add-one n) ∙ rw (e, easiest));
        }

    -- `next` is what `better` answers
    pub best_next : (heights : List ℕ) (next : ℕ) → heights ≡ heights_of edition lines count → n < count → has n ≡ true
        → Some next ≡ better (λ k. get_or heights k 0) best n → BestBefore count (Some next) (n + 1)
    unfolding easiest
    best_next heights next filled h e f =
        record {
          within = omega (arith, h);
          easiest =
              f
              ∙ better_same (λ k. get_or heights k 0) (line_height edition lines) count best n
              (height_there edition lines count heights filled) (best_there count (omega arith)) h
              ∙ ap (λ o. better (line_height edition lines) o n) at.easiest
              ∙ sym (ap chosen (add-one n) ∙ rw (e, easiest));
        }

    -- they are all of them
    pub best_of_all : count ≤ n → found_line best ≡ search_lines edition lines count w
    unfolding search_lines
    best_of_all all = ap found_line (at.easiest ∙ ap chosen same)
      where
        same : n ≡ count
        same = omega (arith, at.within)

module _ (bytes : List ℕ) (work : ℕ) (w : Wanted) where
  -- a refusal of admission is handed on
  pub find_refused : (fault : Fault) (place : ℕ) → admit_of bytes work ≡ refused fault place → find_of bytes work w ≡ refused fault place
  unfolding find_of find_after
  find_refused fault place e = ap (find_after bytes w) e

  module _ (T C L : ℕ) (accepted : admit_of bytes work ≡ Ok (counts T C L)) where
    pub searched : find_of bytes work w ≡ search_lines (edition_of bytes) (lines_in bytes T C) L w
    unfolding find_of find_after
    searched = ap (find_after bytes w) accepted

    pub found_is : (i : ℕ) → (find_of bytes work w ≡ Ok i) ↔ EasiestLine (edition_of bytes) (lines_in bytes T C) L w i
    found_is i =
        let s = search_found (edition_of bytes) (lines_in bytes T C) w L i in
        (λ e. s.0 (sym searched ∙ e), λ l. searched ∙ s.1 l)

    pub missing_is : (find_of bytes work w ≡ refused NotStated 0)
        ↔ ((n : ℕ) → n < L → LineHas (edition_of bytes) (lines_in bytes T C) w n → ⊥)
    missing_is =
        let s = search_refused (edition_of bytes) (lines_in bytes T C) w L NotStated 0 in
        (λ e. (s.0 (sym searched ∙ e)).2, λ none. searched ∙ s.1 (refl, refl, none))

    -- there is no other refusal
    pub missing_only : (fault : Fault) (place : ℕ) → find_of bytes work w ≡ refused fault place → (fault ≡ NotStated) × (place ≡ 0)
    missing_only fault place e =
        let h = (search_refused (edition_of bytes) (lines_in bytes T C) w L fault place).0 (sym searched ∙ e) in
        (h.0, h.1)
