use Rattle.std.proofs.Common.{◌++◌, inr, length, subst, sym}
use Rattle.result_text.specs.Pieces.{joined}
use Rattle.state_finalize.specs.Finished.{IsFinishedWithin}
use Rattle.state_finalize.specs.declared.finishing.Finished.{Finished}
use Rattle.state_head.specs.Words.{Keys, keys_of}
use Rattle.state_plan.specs.declared.file_plan.FilePlan.{FilePlan}
use Rattle.state_source.proofs.Rests.{of_as}
use Rattle.state_query.specs.Inputs.{IsLoaded, groups_in}
use Rattle.state_query.specs.Ranges.{IsEndOf, IsRangeText}
use Rattle.state_query.specs.Whys.{IsReadStop}
use Rattle.state_query.proofs.Ends.{keys_by_plan, loaded_within, stretches_loaded}
use Rattle.state_query.proofs.Known.{no_read}
use Rattle.state_query.proofs.Ranges.{not_within, range_text, row_within}
use Rattle.state_query.proofs.range.pieces_between.Goals as goal

pub finish_range-requires-clause-keys : goal.finish_range-requires-clause-keys
finish_range-requires-clause-keys g c =
    let is = c.in_ok-loaded.ensures.loaded in
    keys_by_plan (c.args.first.now.bytes.items ++ is.0) c.in_ok-loaded.loaded is.2

pub finish_range-requires-clause-stretches : goal.finish_range-requires-clause-stretches
finish_range-requires-clause-stretches g c =
    let is = c.in_ok-loaded.ensures.loaded in
    stretches_loaded (c.args.first.now.bytes.items ++ is.0) c.in_ok-loaded.loaded is.2

pub returns-in-Ok-Table-clause-table : goal.returns-in-Ok-Table-clause-table
returns-in-Ok-Table-clause-table g c =
    let l = c.in_ok-loaded.loaded in
    let first = c.args.first.now.bytes.items in
    let above = c.args.words.above.now in
    let below = c.args.words.below.now in
    let range : Keys = record { low = c.as_slice.result.now; high = c.as_slice-2.result.now } in
    let pieces = c.in-Ok-Table.pieces in
    let low = subst (λ (p : FilePlan). IsEndOf (length p.bound.groups) above c.args.ends.now.low.items) (sym c.in_ok-loaded.ensures.plan) c.requires.ends.low in
    let high = subst (λ (p : FilePlan). IsEndOf (length p.bound.groups) below c.args.ends.now.high.items) (sym c.in_ok-loaded.ensures.plan) c.requires.ends.high in
    let is_low = subst (IsEndOf (length l.plan.bound.groups) above) (sym c.as_slice.ensures.value) low in
    let is_high = subst (IsEndOf (length l.plan.bound.groups) below) (sym c.as_slice-2.ensures.value) high in
    of_as (g.S.Source.left c.args.source.now) (λ more. IsLoaded range (first ++ more) l) (λ more. IsRangeText above below (first ++ more) (joined pieces.items))
    (λ more is.
    let m = groups_in is.input in
    let finished = subst (λ (f : Finished). IsFinishedWithin l.plan.plan.plan l.plan.bound l.whole.sources (keys_of l.sum.kept.range) m l.sum.cover.items f) c.in-Ok-Table.field-0-is (c.in-Ok-Table.ensures.finished m (loaded_within (first ++ more) l is)) in
    range_text (first ++ more) l above below range pieces is is_low is_high finished)
    c.in_ok-loaded.ensures.loaded

pub returns-in-Ok-Refused-clause-why : goal.returns-in-Ok-Refused-clause-why
returns-in-Ok-Refused-clause-why g c =
    let l = c.in_ok-loaded.loaded in
    let first = c.args.first.now.bytes.items in
    let kept : Keys = record { low = c.as_slice.result.now; high = c.as_slice-2.result.now } in
    let range = keys_of l.sum.kept.range in
    of_as (g.S.Source.left c.args.source.now) (λ more. IsLoaded kept (first ++ more) l) (λ more. IsReadStop (first ++ more) c.of_row.result)
    (λ more is.
    let m = groups_in is.input in
    let finished = subst (λ (f : Finished). IsFinishedWithin l.plan.plan.plan l.plan.bound l.whole.sources range m l.sum.cover.items f) c.in-Ok-Refused.field-0-is (c.in-Ok-Refused.ensures.finished m (loaded_within (first ++ more) l is)) in
    inr (c.of_row.ensures (first ++ more) is.input is.is_input (sym is.query_is) (row_within (first ++ more) l range c.in-Ok-Refused.row is finished)))
    c.in_ok-loaded.ensures.loaded

pub returns-in-Ok-Refused-clause-read_fault : goal.returns-in-Ok-Refused-clause-read_fault
returns-in-Ok-Refused-clause-read_fault g c = λ e.
    let l = c.in_ok-loaded.loaded in
    let bytes = c.args.first.now.bytes.items ++ c.in_ok-loaded.ensures.loaded.0 in
    let is = c.in_ok-loaded.ensures.loaded.2 in
    let range = keys_of l.sum.kept.range in
    let m = groups_in is.input in
    let finished = subst (λ (f : Finished). IsFinishedWithin l.plan.plan.plan l.plan.bound l.whole.sources range m l.sum.cover.items f) c.in-Ok-Refused.field-0-is (c.in-Ok-Refused.ensures.finished m (loaded_within bytes l is)) in
    absurd (no_read bytes c.of_row.result (c.of_row.ensures bytes is.input is.is_input (sym is.query_is) (row_within bytes l range c.in-Ok-Refused.row is finished)) e)

pub returns-clause-why : goal.returns-clause-why
returns-clause-why g c =
    let l = c.in_ok-loaded.loaded in
    let first = c.args.first.now.bytes.items in
    let kept : Keys = record { low = c.as_slice.result.now; high = c.as_slice-2.result.now } in
    of_as (g.S.Source.left c.args.source.now) (λ more. IsLoaded kept (first ++ more) l) (λ more. IsReadStop (first ++ more) c.of_finish.result)
    (λ more is. inr (c.of_finish.ensures (first ++ more) is.input is.is_input (not_within (first ++ more) l c.in-Err.why is (c.in-Err.ensures.refused (groups_in is.input) (loaded_within (first ++ more) l is)))))
    c.in_ok-loaded.ensures.loaded

pub returns-clause-read_fault : goal.returns-clause-read_fault
returns-clause-read_fault g c = λ e.
    let l = c.in_ok-loaded.loaded in
    let bytes = c.args.first.now.bytes.items ++ c.in_ok-loaded.ensures.loaded.0 in
    let is = c.in_ok-loaded.ensures.loaded.2 in
    absurd (no_read bytes c.of_finish.result (c.of_finish.ensures bytes is.input is.is_input (not_within bytes l c.in-Err.why is (c.in-Err.ensures.refused (groups_in is.input) (loaded_within bytes l is)))) e)
