use Rattle.sheets.specs.ListedUses.{highest_listed}
use Rattle.sheets.proofs.KeptUseLaws.{greater_above}
use Rattle.sheets.proofs.uses.highest_listed.Goals as goal

pub returns : goal.returns
unfolding highest_listed
returns c =
    let p = c.listed_premise-p.result in
    let q = c.listed_premise-q.result in
    let r = c.listed_premise-r.result in
    let s = c.listed_premise-s.result in
    cc (
      greater_above p q _ c.max.ensures,
      greater_above r s _ c.max-2.ensures,
      greater_above c.max.result c.max-2.result _ c.max-3.ensures,
    )
