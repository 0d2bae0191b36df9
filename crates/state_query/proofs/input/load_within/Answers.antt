use Rattle.std.proofs.Common.{[], ◌++◌, ◌∙◌, ap, length}
use Rattle.std.specs.FinMap as map
use Rattle.state_head.specs.Head.{subject_of}
use Rattle.state_head.specs.Words.{keys_of}
use Rattle.state_load.specs.Loading.{AreAdded}
use Rattle.state_source.specs.Adding.{IsFaultOf}
use Rattle.state_source.proofs.Rests.{of_as}
use Rattle.state_whole.specs.declared.adding.Kept.{Kept}
use Rattle.state_query.specs.Inputs.{IsLoaded}
use Rattle.state_query.specs.Whys.{IsReadStop}
use Rattle.state_query.proofs.Loads.{loaded, opened_more, source_wrong}
use Rattle.state_query.proofs.input.load_within.Goals as goal

pub add_source-requires-clause-shape : goal.add_source-requires-clause-shape
add_source-requires-clause-shape g c = c.shape.ensures.fits (subject_of c.args.opened.whole) c.requires.opened.is_plan

pub returns-in-Ok-clause-loaded : goal.returns-in-Ok-clause-loaded
returns-in-Ok-clause-loaded g c =
    let opened = c.args.opened in
    let first = c.args.first.now.bytes.items in
    let subject = subject_of opened.whole in
    let keys = keys_of opened.range in
    let shape = c.shape.result in
    let sum = c.add_source.new.sum in
    let within = keys_of c.args.within in
    let of = c.shape.ensures.of_plan subject c.requires.opened.is_plan in
    let kept = c.add_source.ensures.kept ∙ c.new-sum.ensures.kept in
    of_as (g.S.Source.left c.args.source.now) (λ more. AreAdded shape subject keys (first ++ more) map.empty [] sum c.in-Ok.field-0)
    (λ more. IsLoaded within (first ++ more) (record { whole = opened.whole; range = opened.range; plan = opened.plan; sum = sum }))
    (λ more added. loaded within (first ++ more) opened shape sum c.in-Ok.field-0 (opened_more first more opened c.requires.opened) of (ap (λ (k : Kept). k.columns) kept ∙ ap length c.group_columns.ensures.columns) (ap (λ (k : Kept). keys_of k.range) kept) added)
    (c.in-Ok.ensures.added map.empty [] c.new-sum.ensures.none)

pub returns-clause-why : goal.returns-clause-why
returns-clause-why g c =
    let opened = c.args.opened in
    let first = c.args.first.now.bytes.items in
    let subject = subject_of opened.whole in
    let keys = keys_of opened.range in
    let shape = c.shape.result in
    let why = c.in-Err.why in
    of_as (g.S.Source.left c.args.source.now) (λ more. IsFaultOf shape subject keys map.empty (first ++ more) why) (λ more. IsReadStop (first ++ more) c.of_source.result)
    (λ more none. c.of_source.ensures.why (first ++ more) (source_wrong (first ++ more) opened shape why (opened_more first more opened c.requires.opened) (c.shape.ensures.of_plan subject c.requires.opened.is_plan) none))
    (c.in-Err.ensures.refused map.empty [] c.new-sum.ensures.none)
