use Rattle.std.proofs.Common.{◌++◌}
use Rattle.std.proofs.lemmas.Result.{IfOk-weaker, err_from_is_err_and}
use Rattle.result_text.specs.Pieces.{joined}
use Rattle.state_source.specs.Reading.{OfLeft}
use Rattle.state_source.proofs.Rests.{of_more}
use Rattle.state_query.specs.Inputs.{IsTableOf}
use Rattle.state_query.specs.Whys.{IsReadStop}
use Rattle.state_query.proofs.Known.{err_as}
use Rattle.state_query.proofs.outcome.table_pieces.Goals as goal

pub returns-in_err-opened-clause-why : goal.returns-in_err-opened-clause-why
returns-in_err-opened-clause-why g c =
    let left = g.S.Source.left c.first_of.new.source in
    let why = err_from_is_err_and c.from_residual-in_err-opened.result c.from_residual-in_err-opened.ensures.1 in
    rw (why.1, why.2)
    (of_more (g.S.Source.left c.args.source.now) left c.in_ok-first.first.bytes.items (λ bytes. IsReadStop bytes c.in_err-opened.field-0.0) c.in_ok-first.ensures.reads (c.in_err-opened.ensures.why left c.in_ok-first.ensures.begun.end))

pub returns-clause-table : goal.returns-clause-table
returns-clause-table g c =
    let was = g.S.Source.left c.args.source.now in
    let left = g.S.Source.left c.first_of.new.source in
    let first = c.in_ok-first.first.bytes.items in
    IfOk-weaker c.pieces_of_ranges.result _ _ (λ pieces is. of_more was left first (λ bytes. IsTableOf bytes (joined pieces.items)) c.in_ok-first.ensures.reads is) c.pieces_of_ranges.ensures.table

pub returns-clause-why : goal.returns-clause-why
returns-clause-why g c =
    let was = g.S.Source.left c.args.source.now in
    let left = g.S.Source.left c.first_of.new.source in
    let first = c.in_ok-first.first.bytes.items in
    err_as c.pieces_of_ranges.result (λ why. OfLeft left (λ more. IsReadStop (first ++ more) why)) (λ why. OfLeft was (λ bytes. IsReadStop bytes why)) (λ why is. of_more was left first (λ bytes. IsReadStop bytes why) c.in_ok-first.ensures.reads is) c.pieces_of_ranges.ensures.why
