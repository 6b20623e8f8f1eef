-- A check that answers Ok gives a well-formed table, and rows below a small table's number of rows are rows of
-- that table.
-- Assumes nothing.
use mathlib.Core.Path.{◌≡◌, sym, ◌∙◌}
use mathlib.Core.Bool.{Bool, true, ◌&&◌}
use mathlib.Core.List.{List, [], ◌∷◌}
use Prim.Native.Nat.{ℕ, ◌*◌, ◌≤◌}
use lib.Dec.{leb, ltb}
use lib.ListN.{length}
use borrow.Author.Tests.{leb-true, ltb-true}
use Rattle.terms.specs.Table.{TermTable, RowsInTable}
use Rattle.terms.specs.Lists.{AllBelow}
use Rattle.terms.specs.Sizes.{TermsAnswer, faultless, check_terms}
use Rattle.terms.proofs.Tables.{and_left, and_right}
use Rattle.terms.proofs.TableLaws.{check_faultless}

abbrev pub all_below : ℕ → List ℕ → Bool
all_below count [] = true
all_below count (n ∷ ns) = ltb n count && all_below count ns

below : (count : ℕ) (ns : List ℕ) → all_below count ns ≡ true → AllBelow count ns
below count [] h = tt
below count (n ∷ ns) h = (ltb-true n count (and_left (ltb n count) (all_below count ns) h), below count ns (and_right (ltb n count) (all_below count ns) h))

pub in_table : {bytes : List ℕ} {count : ℕ} (ns : List ℕ) → TermTable bytes count → leb count 3072 ≡ true → all_below count ns ≡ true → RowsInTable bytes ns
in_table {bytes} {count} ns table few rows = record { count = count; few = leb-true count 3072 few; table = table; below = below count ns rows }

pub faultless_rows : (bytes : List ℕ) (count : ℕ) (r : TermsAnswer) → r ≡ (check_terms bytes count).answer → r ≡ faultless → 10 * count ≤ length bytes → TermTable bytes count
faultless_rows bytes count r e s whole = (check_faultless bytes count whole).0 (sym e ∙ s)
