use Rattle.std.proofs.Common.{◌++◌}
use Rattle.std.proofs.lemmas.Result.{err_from_is_err_and}
use Rattle.state_source.specs.Reading.{OfLeft}
use Rattle.state_query.specs.Ranges.{IsRangeReadStop}
use Rattle.state_query.specs.Whys.{IsReadStop}
use Rattle.state_query.proofs.Known.{err_as, ranged}
use Rattle.state_query.proofs.range.range_pieces.Goals as goal

pub returns-in_err-opened-clause-why : goal.returns-in_err-opened-clause-why
returns-in_err-opened-clause-why g c =
    let left = g.S.Source.left c.first_of.new.source in
    let why = err_from_is_err_and c.from_residual-in_err-opened.result c.from_residual-in_err-opened.ensures.1 in
    rw (why.1, why.2)
    (ranged (g.S.Source.left c.args.source.now) left c.args.words.above.now c.args.words.below.now c.in_ok-first.first.bytes.items c.in_err-opened.field-0.0 c.in_ok-first.ensures.reads (c.in_err-opened.ensures.why left c.in_ok-first.ensures.begun.end))

pub returns-in-Ok-clause-why : goal.returns-in-Ok-clause-why
returns-in-Ok-clause-why g c =
    let was = g.S.Source.left c.args.source.now in
    let left = g.S.Source.left c.first_of.new.source in
    let above = c.args.words.above.now in
    let below = c.args.words.below.now in
    let first = c.in_ok-first.first.bytes.items in
    err_as c.pieces_between.result (λ why. OfLeft left (λ more. IsReadStop (first ++ more) why)) (λ why. OfLeft was (λ bytes. IsRangeReadStop above below bytes why))
    (λ why is. ranged was left above below first why c.in_ok-first.ensures.reads is) c.pieces_between.ensures.why
