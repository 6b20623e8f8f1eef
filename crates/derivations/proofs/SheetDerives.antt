-- Demand 3 (a): what an accepted sheet states is a derivation, and so is each beginning of it.
-- Assumes nothing.
use mathlib.Core.Path.{◌≡◌, sym, ◌∙◌, ap, subst₂}
use mathlib.Core.List.{List, [], map}
use Prim.Native.Nat.{ℕ, suc, ◌≤◌, ◌<◌}
use native.Mathlib.Omega.{arith}
use lib.ListN.{length, take}
use lib.Seq.{get_or-take, take-suc, length-take-le}
use Rattle.terms.specs.Lists.{AllBelow}
use Rattle.rules.specs.Judgment.{Judgment, wf}
use Rattle.rules.specs.Instance.{Instance}
use Rattle.rules.specs.Editions.{row_in}
use Rattle.sheets.specs.Layout.{lines_in, edition_of}
use Rattle.sheets.specs.Lines.{line_word, line_of, cited_by, line_at, stated_at, LineFollows}
use Rattle.sheets.specs.Good.{Good}
use Rattle.sheets.proofs.ListedLaws.{listed-length, listed_at}
use Rattle.sheets.proofs.BelowLaws.{map_below}
use Rattle.sheets.proofs.CitingLaws.{cited_below, good_cites}
use Rattle.sheets.proofs.AcceptedLaws.{accepted_good, stated_is}
use Rattle.derivations.specs.Derivation.{judgment_at, Derivation}
use Rattle.sheets.specs.Accepted.{stated_by}
use Rattle.derivations.specs.Demand3.{Sound}

-- what a good sheet states
module _ {b : List ℕ} {T C L : ℕ} (g : Good b T C L) where
  pub stated-length : length (stated_by b) ≡ L
  stated-length = ap length (stated_is g) ∙ listed-length (stated_at b T C) L

  pub stated_at_lem : (i : ℕ) → i < L → judgment_at (stated_by b) i ≡ stated_at b T C i
  stated_at_lem i h = ap (λ js. judgment_at js i) (stated_is g) ∙ listed_at (stated_at b T C) L i (wf []) h

  pub cited_earlier : (i : ℕ) → i < L → AllBelow i (cited_by (line_at b T C i))
  cited_earlier i h = cited_below (line_at b T C i) i (good_cites g i h)

  -- a line follows by its row from what stands at the lines that it cites
  pub stated_follows : (i : ℕ) → i < L
      → Instance (line_at b T C i).rule (map (judgment_at (stated_by b)) (cited_by (line_at b T C i)))
      (judgment_at (stated_by b) i)
  unfolding LineFollows
  stated_follows i h =
      let l = line_at b T C i in
      subst₂ (Instance l.rule)
      (map_below (stated_at b T C) (judgment_at (stated_by b)) i (cited_by l) (cited_earlier i h)
      (λ m n. sym (stated_at_lem m (omega arith)))) (sym (stated_at_lem i h)) (g.lines i h).follows

  -- the rule's number is the line's word, and its row in the sheet's edition is what the line is judged by
  pub stated_derivation : Derivation (edition_of b) (stated_by b)
  unfolding line_at line_of
  stated_derivation i h =
      let k : i < L = omega (arith, stated-length) in
      record {
        rule = line_word (lines_in b T C) i 1;
        places = cited_by (line_at b T C i);
        earlier = cited_earlier i k;
        follows = stated_follows i k;
      }

-- each beginning of a derivation is one
pub beginning : (edition : ℕ) (js : List Judgment) (n : ℕ) → n ≤ length js → Derivation edition js
    → Derivation edition (take n js)
beginning edition js n h d i k =
    let b : i < n = omega (arith, length-take-le n js h) in
    let s = d i (omega arith) in
    record {
      rule = s.rule;
      places = s.places;
      earlier = s.earlier;
      follows = subst₂ (Instance (row_in edition s.rule))
          (map_below (judgment_at js) (judgment_at (take n js)) i s.places s.earlier (λ m l. sym (get_or-take n js m (wf []) (omega arith))))
          (sym (get_or-take n js i (wf []) b)) s.follows;
    }

-- the derivation of a line is what the sheet states up to that line
pub sound_by_lines : Sound
sound_by_lines b a =
    let g = accepted_good b a in (
      stated-length g,
      λ i h. (
        take (suc i) (stated_by b),
        record {
          derivation = beginning (edition_of b) (stated_by b) (suc i) h (stated_derivation g);
          before = take i (stated_by b);
          last = take-suc (stated_by b) i (wf []) h;
        },
      ),
    )
