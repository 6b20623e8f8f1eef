-- An index of the rows checked so far, by which the check finds repetition (number 6) without comparing every two rows.
-- Only functions inside this crate speak of it: what the check answers is said by `repeated_below`, whatever the buckets
-- are.
use Rattle.std.specs.Prelude.{◌≡◌, true, false, List, ℕ, zero, suc, ◌+◌, ◌*◌, ◌/◌, ◌%◌, ◌<◌, eqb, length, get_or}
use Rattle.terms.specs.Rows.{row_of}
use Rattle.terms.specs.declared.row_index.RowIndex.{RowIndex}
use Rattle.terms.specs.declared.rows.Row.{Row}

-- the bucket of five words, one of 2,048
unfoldable pub bucket_of : Row → ℕ
bucket_of r =
    (r.tag % 4096 * 1597463 + r.a % 4096 * 2654435 + r.b % 4096 * 1140671 + r.c % 4096 * 805459 + r.d % 4096 * 433495) / 1024 % 2048

-- one more than the number of the last of the first n rows that lies in bucket b; 0 if none does
unfoldable pub latest : List ℕ → ℕ → ℕ → ℕ
latest bytes b zero = 0
latest bytes b (suc n) = elim (eqb (bucket_of (row_of bytes n)) b) [ true ↦ suc n | false ↦ latest bytes b n ]

-- the first n rows are indexed: a bucket's head is its last row, and a row's link is the row before it in its bucket
pub record Indexed (bytes : List ℕ) (n : ℕ) (index : RowIndex) : Type 0 where
  pub buckets : length index.heads ≡ 2048
  pub room : length index.links ≡ 3072
  pub head : (b : ℕ) → b < 2048 → get_or index.heads b 0 ≡ latest bytes b n
  pub link : (i : ℕ) → i < n → get_or index.links i 0 ≡ latest bytes (bucket_of (row_of bytes i)) i
