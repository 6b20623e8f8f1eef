use mathlib.Core.Path.{ap}
use Rattle.sheets.specs.Layout.{trailer_of, edition_of}
use Rattle.sheets.proofs.layout.edition_of.Goals as goal

pub returns : goal.returns
unfolding trailer_of edition_of
returns c = ap (λ t. t.edition) c.read_trailer-trailer.ensures
