use mathlib.Core.Path.{◌≡◌}
use Prim.Native.Nat.{ℕ, ◌+◌, ◌*◌}
use native.Mathlib.Omega.{arith}
use Rattle.sheets.specs.Layout.{distance_to_contexts, distance_to_lines, distance_to_terms}
use Rattle.sheets.specs.GoodLayout.{trailer_for}
use Rattle.sheets.proofs.copying.trailer_for.Goals as goal

-- the distance to the terms is summed in another order
terms_away : (T C L : ℕ) → 10 * T + distance_to_contexts C L ≡ distance_to_terms T C L
terms_away T C L = omega arith

pub returns : goal.returns
unfolding trailer_for
returns c =
    let a = c.args in
    λ i. record {
      terms = a.counts.terms;
      contexts = a.counts.contexts;
      lines = a.counts.lines;
      edition = a.edition;
      to_terms = terms_away a.counts.terms a.counts.contexts a.counts.lines i;
      to_contexts = distance_to_contexts a.counts.contexts a.counts.lines;
      to_lines = distance_to_lines a.counts.lines;
      mark = 0x4C44;
    }
