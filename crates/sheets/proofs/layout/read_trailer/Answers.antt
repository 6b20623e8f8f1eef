use Rattle.sheets.proofs.LayoutLaws.{trailer_read}
use Rattle.sheets.proofs.layout.read_trailer.Goals as goal

pub returns : goal.returns
returns c =
    trailer_read _ _ _ _ _ _ _ _ _ c.word_at.ensures.value c.word_at-2.ensures.value
    c.word_at-3.ensures.value c.word_at-4.ensures.value c.word_at-5.ensures.value
    c.word_at-6.ensures.value c.word_at-7.ensures.value c.word_at-8.ensures.value
