-- The four places together are the definition's sum.
use mathlib.Core.Path.{◌∙◌, ap}
use Rattle.terms.specs.Tag.{arity}
use Rattle.terms.proofs.RowLaws.{size_is}
use Rattle.terms.proofs.sizes.row_size.Goals as goal

pub returns : goal.returns
returns c =
    let sizes = c.args.sizes.now in
    let count = c.arity-count.ensures.value ∙ ap arity c.of_word.ensures in
    size_is sizes _ _ _ _ _ _ (count, c.child_size.ensures.value, c.child_size-2.ensures.value, c.child_size-3.ensures.value, c.child_size-4.ensures.value)
