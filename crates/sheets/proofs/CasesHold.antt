-- M1 to M11: admission and withdrawal answer, and leave in the buffers, what document 01 says, by computation.
-- Assumes nothing.
use mathlib.Core.Path.{◌≡◌, refl}
use mathlib.Core.List.{map}
use Rattle.terms.specs.Tag.{tag_of, arity, used, shape}
use Rattle.terms.specs.Words.{word_at, bytes_of}
use Rattle.terms.specs.Rows.{word, tag, term_to, term, row_of, holds_row}
use Rattle.terms.specs.Table.{used_limit, limit}
use Rattle.terms.specs.Search.{search_from, ends_if}
use Rattle.terms.specs.Faults.{number_of}
use Rattle.terms.specs.Sizes.{fits_row, repeated_below, sum_to, row_size, size_answer, row_answer, row_step, check_terms}
use Rattle.rules.specs.Editions.{edition_known, last_rule, motive_asked, row_in}
use Rattle.rules.specs.Subjects.{uses_subject}
use Rattle.rules.specs.RuleTable.{rule_known, form_of, premise_count}
use Rattle.rules.specs.Decision.{instance?}
use Rattle.rules.specs.Contexts.{parent_of, type_of, context_to, context, context_fits, holds_context, repeated_within, repeated_context, right_context, check_contexts}
use Rattle.rules.specs.Stated.{last_context, stated, plain_judgment}
use Rattle.sheets.specs.Layout.{contexts_in, lines_in, trailer_word, trailer_of, edition_of, length_fits, mark_fits, limits_fit, distances_fit, counts_fit, trailer_answer, layout_of}
use Rattle.sheets.specs.Lines.{line_word, line_of, judgment_of, premises_of, cited_by, below, subjects_fit, premises_fit, rule_fits, numbers_fit, line_fits, line_at, stated_at, line_follows?, line_step, check_lines}
use Rattle.sheets.specs.Admission.{after_lines, after_contexts, after_terms, after_layout, admit_of, work_from, work_after}
use Rattle.terms.specs.Lists.{listed}
use Rattle.sheets.specs.Withdrawal.{uses, first_use, new_length, after_use, after_line, withdraw_after, withdraw_of, lower_premise, lowered, trailer_loses, old_place, new_word, sheet_without, without_line, out_from, out_after}
use Rattle.sheets.specs.Cases.{shared_words, words_of_s, words_of_m9, answer_to, count_of_lines, word_of_line, variable_alone, applied, doubling, doubled_sizes, answered, expected, nines, sizes_of_s, cases}

pub cases_hold : map answered cases ≡ map expected cases
unfolding tag_of arity used shape word_at word tag term_to term used_limit limit
    row_of fits_row holds_row repeated_below sum_to row_size size_answer row_answer number_of row_step check_terms search_from ends_if
    edition_known last_rule motive_asked row_in
    uses_subject rule_known form_of premise_count instance? last_context stated plain_judgment
    parent_of type_of context_to context context_fits holds_context repeated_within repeated_context right_context check_contexts
    contexts_in lines_in trailer_word trailer_of edition_of
    length_fits mark_fits limits_fit distances_fit counts_fit trailer_answer layout_of
    line_word line_of judgment_of premises_of cited_by below subjects_fit premises_fit rule_fits numbers_fit line_fits line_at stated_at line_follows? line_step check_lines
    after_lines after_contexts after_terms after_layout admit_of work_from work_after
    listed uses first_use new_length after_use after_line withdraw_after withdraw_of lower_premise lowered trailer_loses old_place new_word sheet_without without_line out_from out_after
    bytes_of shared_words words_of_s words_of_m9 answer_to count_of_lines word_of_line variable_alone applied doubling doubled_sizes nines sizes_of_s cases
cases_hold = refl
