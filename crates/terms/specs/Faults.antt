-- The numbers of the faults of a term row: document 01, "What the desk says".
use Rattle.std.specs.Prelude.{ℕ}
use Rattle.terms.specs.declared.sizes.RowFault.{RowFault}
use Rattle.terms.specs.declared.sizes.RowFault.TheVariants.{Malformed, Repeated, TooLarge}

-- 5, "term row breaks tag, operand or range"; 6, "term row equals an earlier one"; 7, "size over 65,535"
unfoldable pub number_of : RowFault → ℕ
number_of Malformed = 5
number_of Repeated = 6
number_of TooLarge = 7
