use Rattle.std.proofs.Common.{◌++◌}
use Rattle.std.specs.FinMap as map
use Rattle.state_head.specs.Head.{subject_of}
use Rattle.state_head.specs.Words.{keys_of}
use Rattle.state_source.specs.Adding.{IsFaultOf}
use Rattle.state_source.specs.Beside.{AreInRanges}
use Rattle.state_source.proofs.Rests.{of_as}
use Rattle.state_query.specs.Inputs.{IsInRanges}
use Rattle.state_query.specs.Whys.{IsReadStop}
use Rattle.state_query.proofs.Loads.{in_ranges, opened_more, source_wrong}
use Rattle.state_query.proofs.outcome.load_ranges.Goals as goal

pub sum_ranges-requires-clause-shape : goal.sum_ranges-requires-clause-shape
sum_ranges-requires-clause-shape g c κs within = c.shape.ensures.fits (subject_of c.args.opened.now.whole) c.requires.opened.is_plan

pub returns-in-Ok-clause-loaded : goal.returns-in-Ok-clause-loaded
returns-in-Ok-clause-loaded g c =
    let opened = c.args.opened.now in
    let first = c.args.first.now.bytes.items in
    let subject = subject_of opened.whole in
    let keys = keys_of opened.range in
    let shape = c.shape.result in
    let sums = c.in-Ok.sums in
    let of = c.shape.ensures.of_plan subject c.requires.opened.is_plan in
    of_as (g.S.Source.left c.args.source.now) (λ more. AreInRanges shape subject keys (first ++ more) sums) (λ more. IsInRanges (first ++ more) opened sums)
    (λ more are. in_ranges (first ++ more) opened shape sums (opened_more first more opened c.requires.opened) of are) c.in-Ok.ensures.added

pub returns-in-Err-clause-why : goal.returns-in-Err-clause-why
returns-in-Err-clause-why g c =
    let opened = c.args.opened.now in
    let first = c.args.first.now.bytes.items in
    let subject = subject_of opened.whole in
    let keys = keys_of opened.range in
    let shape = c.shape.result in
    let why = c.in-Err.why in
    of_as (g.S.Source.left c.args.source.now) (λ more. IsFaultOf shape subject keys map.empty (first ++ more) why) (λ more. IsReadStop (first ++ more) c.of_source.result)
    (λ more none. c.of_source.ensures.why (first ++ more) (source_wrong (first ++ more) opened shape why (opened_more first more opened c.requires.opened) (c.shape.ensures.of_plan subject c.requires.opened.is_plan) none))
    c.in-Err.ensures.refused
