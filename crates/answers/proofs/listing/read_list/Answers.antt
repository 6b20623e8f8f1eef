use mathlib.Core.Path.{◌≡◌, sym, ◌∙◌, subst}
use Rattle.std.proofs.Common.{rules, tests}
use Rattle.std.specs.Prelude.{Err}
use Rattle.answers.specs.declared.listing.ListError.TheVariants.{Unreadable}
use Rattle.answers.specs.Listing.{InRoom}
use Rattle.answers.proofs.LinePieceLaws.{piece_line}
use Rattle.answers.proofs.ListingLaws.{list_read, too_many, no_judgment_lem, line_read}
use Rattle.answers.proofs.listing.read_list.Goals as goal

pub returns-then-full : goal.returns-then-full
returns-then-full c =
    let whole = too_many c.loop-line.invariant (search rules) c.if-full.true in
    record { answer = whole.0; numbers = whole.1.0; room = whole.1.1 }

pub returns-in_err-wanted : goal.returns-in_err-wanted
returns-in_err-wanted c =
    let piece = piece_line c.in-Some.line c.strip_suffix.result c.in-Some.ensures.steps
    (λ a r f k. search (rules, tests)) c.strip_suffix.ensures.cases c.unwrap_or-line.ensures in
    let whole = no_judgment_lem c.loop-line.invariant (search rules) c.if-full.false
    piece.0 c.request_in.ensures (search rules) in
    let error : c.from_residual.result ≡ Err Unreadable = search rules in
    record { answer = error ∙ whole.0; numbers = whole.1.0; room = subst (InRoom _) (sym error) whole.1.1 }

pub loop-line-preserved : goal.loop-line-preserved
loop-line-preserved c =
    let piece = piece_line c.in-Some.line c.strip_suffix.result c.in-Some.ensures.steps
    (λ a r f k. search (rules, tests)) c.strip_suffix.ensures.cases c.unwrap_or-line.ensures in
    line_read c.loop-line.invariant (search rules) c.if-full.false piece.0 c.request_in.ensures (search rules)
    c.put_judgment.ensures piece.1

pub returns : goal.returns
returns c =
    let whole = list_read c.loop-line.invariant (search rules) in
    record { answer = whole.0; numbers = whole.1.0; room = whole.1.1 }
