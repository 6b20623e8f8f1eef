-- What `line_fits` and `check_lines` answer, each way out, from what their callees answer.
-- Assumes nothing.
use Rattle.std.specs.Prelude.{Ok}
use Rattle.sheets.specs.declared.refusals.Fault.{Fault}
use Rattle.sheets.specs.declared.refusals.Fault.TheVariants.{Numbers, NoInstance}
use Rattle.sheets.specs.Refusals.{refused}
use mathlib.Core.Path.{◌≡◌, refl, sym, ◌∙◌, ap, subst, subst₂}
use mathlib.Core.Logic.{◌⊎◌, inl, inr}
use mathlib.Core.Bool.{Bool, true, false}
use mathlib.Core.List.{List, [], ◌∷◌}
use Prim.Native.Nat.{ℕ, suc, ◌+◌, ◌-◌, ◌*◌, ◌≤◌, ◌<◌}
use native.Mathlib.Nat.{eq-or-lt_of_le}
use native.Mathlib.Decide.{dec_le}
use native.Mathlib.Omega.{arith}
use lib.ListN.{length, get_or, take, drop, length-drop}
use Rattle.terms.specs.Search.{search_from}
use Rattle.terms.specs.Decides.{Decides}
use Rattle.terms.proofs.Tests.{refuted, decides_via}
use Rattle.terms.proofs.Shape.{below_or_last}
use Rattle.terms.proofs.SearchLaws.{Ahead, ahead_start, ahead_end, ahead_ends, ahead_goes, good_goes, bad_ends}
use Rattle.rules.specs.RuleTable.{IsRule, premise_count}
use Rattle.rules.specs.Contexts.{ContextsInTable}
use Rattle.rules.specs.Stated.{Numbered, AllNumbered, used_premises, Follows}
use Rattle.rules.specs.RuleChecks.{LineInTables, JudgmentsInTables}
use Rattle.rules.specs.declared.judgments.LineJudgment.{LineJudgment}
use Rattle.rules.proofs.ArmLaws.{numbered_taken}
use Rattle.sheets.specs.declared.lines.Line.{Line}
use Rattle.sheets.specs.Layout.{edition_of, contexts_in, lines_in}
use Rattle.sheets.specs.Lines.{line_of, judgment_of, premises_of, line_at, rule_fits, numbers_fit, line_fits, LineFollows, line_step, check_lines}
use Rattle.sheets.specs.Good.{WellFormedTables, GoodBefore}
use Rattle.sheets.specs.GoodLines.{LineOk, GoodLine, LineFault, misfit, no_instance}
use Rattle.sheets.proofs.BufferLaws.{part_to_end}
use Rattle.sheets.proofs.LineLaws.{rule_says, line_says}
use Rattle.sheets.proofs.LineCheckLaws.{follows_is, lines_tell}

-- `line_fits`, where r is the answer on the rule
module _ (l : Line) (n T C : ℕ) (r : Bool) (e : r ≡ rule_fits l) where
  pub fits_no : r ≡ false → false ≡ line_fits l n T C
  unfolding line_fits
  fits_no h = rw (sym e ∙ h, line_fits)

  pub fits_rest : r ≡ true → numbers_fit l n T C ≡ line_fits l n T C
  unfolding line_fits
  fits_rest h = rw (sym e ∙ h, line_fits)

  pub rule_known_lem : r ≡ true → IsRule l.rule
  rule_known_lem h = ((rule_says l n T C).0 (sym e ∙ h)).0

-- where there are no lines
pub no_lines : (bytes : List ℕ) (T C count : ℕ) → count ≡ 0 → Ok tt ≡ check_lines bytes T C count
unfolding check_lines search_from
no_lines bytes T C count e = sym (ap (check_lines bytes T C) e)

-- `check_lines`, which reads the lines in the sheet's edition: before line n the check of the lines ahead answers for the
-- whole
module _ (bytes : List ℕ) (T C count : ℕ) (tables : WellFormedTables bytes T C count) where
  pub record Walked (edition : ℕ) (lines : List ℕ) (n : ℕ) : Type 0 where
    pub own : edition ≡ edition_of bytes
    pub part : lines ≡ lines_in bytes T C
    pub before : (k : ℕ) → k < n → GoodLine bytes T C k
    pub ahead : Ahead (λ k _. line_step bytes T C k) (λ _. Ok tt) count (check_lines bytes T C count) n tt

  pub walked_start : {edition : ℕ} → edition ≡ edition_of bytes
      → Walked edition (take (length bytes - (10 * T + 4 * C)) (drop (10 * T + 4 * C) bytes)) 0
  unfolding lines_in check_lines
  walked_start own =
      record {
        own = own;
        part = part_to_end bytes (10 * T + 4 * C);
        before = λ k h. absurd (omega arith);
        ahead = ahead_start count (omega arith) refl;
      }

  module _ {edition : ℕ} {lines : List ℕ} {n : ℕ} (at : Walked edition lines n) where
    pub walked_end : count ≤ n → Ok tt ≡ check_lines bytes T C count
    walked_end h = ahead_end at.ahead h

    -- l is line n, and f what number 9 answers
    module _ (h : n < count) (l : Line) (e : l ≡ line_of edition lines n) (f : Bool) (g : f ≡ line_fits l n T C) where
      is_line : l ≡ line_at bytes T C n
      unfolding line_at
      is_line = e ∙ (λ i. line_of (at.own i) (at.part i) n)

      ok_says : Decides f (LineOk (line_at bytes T C n) n T C)
      ok_says = subst₂ (λ b m. Decides b (LineOk m n T C)) (sym g) is_line (line_says l n T C)

      faulty : (fault : Fault) → LineFault bytes T C n fault → refused fault n ≡ check_lines bytes T C count
      faulty fault x = ahead_ends at.ahead h (bad_ends (lines_tell bytes T C) n (refused fault n) (fault, refl, x))

      pub walked_9 : f ≡ false → refused Numbers n ≡ check_lines bytes T C count
      walked_9 k = faulty Numbers (misfit (refuted ok_says k))

      module _ (k : f ≡ true) where
        pub asked : (edition ≡ edition_of bytes) × (GoodBefore bytes T C n × (l ≡ line_at bytes T C n) × LineOk l n T C)
        asked = (at.own, (before, is_line, (line_says l n T C).0 (sym g ∙ k)))
          where
            before : GoodBefore bytes T C n
            before = record { count = count; within = h; tables = tables; before = at.before }

        -- b is what number 10 answers
        module _ (b : Bool) (d : Decides b (LineFollows bytes T C n)) where
          pub walked_10 : b ≡ false → refused NoInstance n ≡ check_lines bytes T C count
          walked_10 z = faulty NoInstance (no_instance (ok_says.0 k) (refuted d z))

          pub walked_next : b ≡ true → Walked edition lines (n + 1)
          walked_next z =
              record {
                own = at.own;
                part = at.part;
                before = λ m low. below_or_last (GoodLine bytes T C) n m (omega arith) (at.before m) good;
                ahead = ahead_goes at.ahead h (good_goes (lines_tell bytes T C) n good);
              }
            where
              good : GoodLine bytes T C n
              good = record { ok = ok_says.0 k; follows = d.0 z }

-- the tables as crate rules asks for them
unfoldable contexts_in_table : {bytes : List ℕ} {T C L : ℕ} → WellFormedTables bytes T C L
    → ContextsInTable bytes (contexts_in bytes T) []
contexts_in_table {T} {C} tables =
    record {
      term_count = T;
      few_terms = tables.laid.few_terms;
      term_table = tables.terms;
      count = C;
      few = tables.laid.few_contexts;
      table = tables.contexts;
      within = tt;
    }

pub judgments_in_tables : {bytes : List ℕ} {T C L : ℕ} → WellFormedTables bytes T C L
    → (js : List LineJudgment) → AllNumbered T C js → JudgmentsInTables bytes (contexts_in bytes T) js
unfolding contexts_in_table
judgments_in_tables tables js numbered = record { given = contexts_in_table tables; numbered = numbered }

-- `line_follows`: l is line n, p to s are what the lines state that its premise words name, and c is what it states
-- itself
module _ (bytes : List ℕ) (T C n : ℕ) (l : Line) (is : l ≡ line_at bytes T C n) where
  module _ (p q r s c : LineJudgment)
      (ep : p ≡ judgment_of (line_at bytes T C l.p0)) (eq : q ≡ judgment_of (line_at bytes T C l.p1))
      (er : r ≡ judgment_of (line_at bytes T C l.p2)) (es : s ≡ judgment_of (line_at bytes T C l.p3)) (ec : c ≡ judgment_of l) where
    pub follows_says : (b : Bool) → Decides b (Follows bytes (contexts_in bytes T) l.rule (p ∷ q ∷ r ∷ s ∷ []) c) → Decides b (LineFollows bytes T C n)
    unfolding premises_of
    follows_says b d = decides_via (subst (λ A. A) same, subst (λ A. A) (sym same)) d
      where
        same : Follows bytes (contexts_in bytes T) l.rule (p ∷ q ∷ r ∷ s ∷ []) c ≡ LineFollows bytes T C n
        same =
            (λ i. Follows bytes (contexts_in bytes T) (is i).rule
            ((ep ∙ ap (λ m. judgment_of (line_at bytes T C m.p0)) is) i ∷ (eq ∙ ap (λ m. judgment_of (line_at bytes T C m.p1)) is) i
            ∷ (er ∙ ap (λ m. judgment_of (line_at bytes T C m.p2)) is) i ∷ (es ∙ ap (λ m. judgment_of (line_at bytes T C m.p3)) is) i ∷ [])
            ((ec ∙ ap judgment_of is) i))
            ∙ follows_is bytes T C n

  -- a line that a premise word names is there, and its numbers are in range: it is earlier, or it is line 0
  module _ (before : GoodBefore bytes T C n) (ok : LineOk l n T C) (j : ℕ) (h : j < 4) where
    pub named_at : get_or (premises_of l) j 0 < before.count
    named_at = pick (dec_le (suc j) (premise_count l.rule))
      where
        pick : Dec (j < premise_count l.rule) → get_or (premises_of l) j 0 < before.count
        pick (yes used) = omega (arith, ok.earlier j h used, before.within)
        pick (no unused) = omega (arith, ok.unused_premise j h (omega arith), before.within)

    pub named_numbered : Numbered T C (judgment_of (line_at bytes T C (get_or (premises_of l) j 0)))
    named_numbered = pick (dec_le (suc j) (premise_count l.rule))
      where
        at : (k : ℕ) → (k ≡ n) ⊎ (k < n) → Numbered T C (judgment_of (line_at bytes T C k))
        at k (inl e) = subst (λ m. Numbered T C (judgment_of m)) (is ∙ ap (line_at bytes T C) (sym e)) ok.numbers
        at k (inr e) = (before.before k e).ok.numbers

        first : 0 ≤ n
        first = omega arith

        pick : Dec (j < premise_count l.rule) → Numbered T C (judgment_of (line_at bytes T C (get_or (premises_of l) j 0)))
        pick (yes used) = at (get_or (premises_of l) j 0) (inr (ok.earlier j h used))
        pick (no unused) = subst (λ k. Numbered T C (judgment_of (line_at bytes T C k))) (sym (ok.unused_premise j h (omega arith))) (at 0 (eq-or-lt_of_le first))

module _ (bytes : List ℕ) (T C n : ℕ) (l : Line) (before : GoodBefore bytes T C n) (is : l ≡ line_at bytes T C n) (ok : LineOk l n T C) where
  -- a line that a premise word names is whole
  pub named_whole : (j w : ℕ) → j < 4 → w ≡ get_or (premises_of l) j 0 → 20 * w + 20 ≤ length (take (length bytes - (10 * T + 4 * C)) (drop (10 * T + 4 * C) bytes))
  named_whole j w h e =
      let b = named_at bytes T C n l is before ok j h in
      omega (arith, before.tables.laid.long, ap length (part_to_end bytes (10 * T + 4 * C)), length-drop (10 * T + 4 * C) bytes)

  module _ {edition : ℕ} (own : edition ≡ edition_of bytes) (rows lines : List ℕ) (er : rows ≡ contexts_in bytes T)
      (el : lines ≡ lines_in bytes T C) (p q r s c : LineJudgment)
      (ep : p ≡ judgment_of (line_of edition lines l.p0)) (eq : q ≡ judgment_of (line_of edition lines l.p1))
      (et : r ≡ judgment_of (line_of edition lines l.p2)) (es : s ≡ judgment_of (line_of edition lines l.p3))
      (ec : c ≡ judgment_of l) where
    stands : (x : LineJudgment) (w : ℕ) → x ≡ judgment_of (line_of edition lines w) → x ≡ judgment_of (line_at bytes T C w)
    unfolding line_at
    stands x w e = e ∙ (λ i. judgment_of (line_of (own i) (el i) w))

    numbered : (j : ℕ) → j < 4 → (x : LineJudgment) → x ≡ judgment_of (line_at bytes T C (get_or (premises_of l) j 0)) → Numbered T C x
    numbered j h x e = subst (Numbered T C) (sym e) (named_numbered bytes T C n l is before ok j h)

    -- what `is_instance` asks
    pub line_in_tables : LineInTables bytes rows l.rule (p ∷ q ∷ r ∷ s ∷ []) c
    unfolding used_premises premises_of contexts_in_table
    line_in_tables =
        subst (λ k. LineInTables bytes k l.rule (p ∷ q ∷ r ∷ s ∷ []) c) (sym er)
        (record {
          given = contexts_in_table before.tables;
          known = ok.rule;
          concludes = ap (λ x. x.form) ec ∙ ok.form;
          conclusion = subst (Numbered T C) (sym ec) ok.numbers;
          used =
              numbered_taken T C (premise_count l.rule) (p ∷ q ∷ r ∷ s ∷ [])
              (numbered 0 (omega arith) p (stands p l.p0 ep), (numbered 1 (omega arith) q (stands q l.p1 eq), (numbered 2 (omega arith) r (stands r l.p2 et), (numbered 3 (omega arith) s (stands s l.p3 es), tt))));
        })

    pub line_decided : (b : Bool) → Decides b (Follows bytes rows l.rule (p ∷ q ∷ r ∷ s ∷ []) c) → Decides b (LineFollows bytes T C n)
    line_decided b d =
        follows_says bytes T C n l is p q r s c (stands p l.p0 ep) (stands q l.p1 eq) (stands r l.p2 et) (stands s l.p3 es) ec b
        (subst (λ k. Decides b (Follows bytes k l.rule (p ∷ q ∷ r ∷ s ∷ []) c)) er d)
