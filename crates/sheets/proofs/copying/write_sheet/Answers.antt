use native.Mathlib.Omega.{arith}
use Rattle.sheets.proofs.KeptWordLaws.{parts_written}
use Rattle.sheets.proofs.copying.write_sheet.Goals as goal

pub returns : goal.returns
returns c =
    parts_written _ _ _ _ (λ i. omega (arith, c.type_inv.sheet i)) c.requires.small_trailer.1 _ _ _ _
    c.copy_bytes.ensures c.write_lines.ensures c.write_trailer.ensures
