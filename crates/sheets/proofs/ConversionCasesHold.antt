-- Number 21 behind 20 and before 13, and its place, by computation.
-- Assumes nothing.
use mathlib.Core.Path.{◌≡◌, refl}
use Rattle.terms.specs.Tag.{tag_of, arity, shape, number_in, child}
use Rattle.terms.specs.Words.{word_at, bytes_of}
use Rattle.terms.specs.Rows.{word, tag, term_to, term}
use Rattle.terms.specs.Search.{search_from, ends_if}
use Rattle.rules.specs.Editions.{last_rule, motive_asked, row_in}
use Rattle.rules.specs.Judgment.{context_of, s1, s3, judgment?}
use Rattle.rules.specs.Motives.{gives_motive}
use Rattle.rules.specs.Contexts.{parent_of, type_of, context_to, context}
use Rattle.rules.specs.Stated.{stated, plain_judgment}
use Rattle.sheets.specs.Layout.{contexts_in, lines_in, trailer_word, trailer_of, edition_of}
use Rattle.sheets.specs.Lines.{line_word, line_of, judgment_of, line_at, stated_at}
use Rattle.sheets.specs.Conversion.{wants_motive, motive_line, first_without, convert_admitted}
use Rattle.sheets.specs.ConversionCases.{without_motive, conversion_answers, conversion_expected}

pub conversion_cases_hold : conversion_answers ≡ conversion_expected
unfolding tag_of arity shape number_in child word_at bytes_of word tag term_to term search_from ends_if
    last_rule motive_asked row_in context_of s1 s3 judgment? gives_motive parent_of type_of context_to context stated
    plain_judgment contexts_in lines_in trailer_word trailer_of edition_of line_word line_of judgment_of line_at stated_at
    wants_motive motive_line first_without convert_admitted without_motive conversion_answers conversion_expected
conversion_cases_hold = refl
