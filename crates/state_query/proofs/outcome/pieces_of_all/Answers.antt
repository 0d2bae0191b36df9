use Rattle.std.proofs.Common.{◌++◌, inr, subst, sym}
use Rattle.result_text.specs.Pieces.{joined}
use Rattle.state_finalize.specs.Finished.{IsFinished}
use Rattle.state_finalize.specs.declared.finishing.Finished.{Finished}
use Rattle.state_source.proofs.Rests.{of_as}
use Rattle.state_query.specs.Inputs.{IsLoaded, IsTableOf, all_keys}
use Rattle.state_query.specs.Whys.{IsReadStop}
use Rattle.state_query.proofs.Ends.{has_row, keys_by_plan, not_finished, stretches_loaded, table_of}
use Rattle.state_query.proofs.Known.{no_read}
use Rattle.state_query.proofs.outcome.pieces_of_all.Goals as goal

pub finish-requires-clause-keys : goal.finish-requires-clause-keys
finish-requires-clause-keys g c κs within =
    let is = c.in_ok-loaded.ensures.loaded in
    keys_by_plan (c.args.first.now.bytes.items ++ is.0) c.in_ok-loaded.loaded is.2

pub finish-requires-clause-stretches : goal.finish-requires-clause-stretches
finish-requires-clause-stretches g c κs within =
    let is = c.in_ok-loaded.ensures.loaded in
    stretches_loaded (c.args.first.now.bytes.items ++ is.0) c.in_ok-loaded.loaded is.2

pub returns-in-Ok-Refused-clause-why : goal.returns-in-Ok-Refused-clause-why
returns-in-Ok-Refused-clause-why g c =
    let l = c.in_ok-loaded.loaded in
    let first = c.args.first.now.bytes.items in
    let result = c.of_row.result in
    let finished = subst (λ (f : Finished). IsFinished l.plan.plan.plan l.plan.bound l.whole.sources l.sum.map l.sum.cover.items f) c.in-Ok-Refused.field-0-is c.in-Ok-Refused.ensures.finished in
    of_as (g.S.Source.left c.args.source.now) (λ more. IsLoaded all_keys (first ++ more) l) (λ more. IsReadStop (first ++ more) result)
    (λ more is. inr (c.of_row.ensures (first ++ more) is.input is.is_input (sym is.query_is) (has_row (first ++ more) l c.in-Ok-Refused.row is finished))) c.in_ok-loaded.ensures.loaded

pub returns-in-Ok-Refused-clause-read_fault : goal.returns-in-Ok-Refused-clause-read_fault
returns-in-Ok-Refused-clause-read_fault g c = λ e.
    let l = c.in_ok-loaded.loaded in
    let bytes = c.args.first.now.bytes.items ++ c.in_ok-loaded.ensures.loaded.0 in
    let is = c.in_ok-loaded.ensures.loaded.2 in
    let finished = subst (λ (f : Finished). IsFinished l.plan.plan.plan l.plan.bound l.whole.sources l.sum.map l.sum.cover.items f) c.in-Ok-Refused.field-0-is c.in-Ok-Refused.ensures.finished in
    absurd (no_read bytes c.of_row.result (c.of_row.ensures bytes is.input is.is_input (sym is.query_is) (has_row bytes l c.in-Ok-Refused.row is finished)) e)

pub returns-clause-why : goal.returns-clause-why
returns-clause-why g c =
    let l = c.in_ok-loaded.loaded in
    let first = c.args.first.now.bytes.items in
    let result = c.of_finish.result in
    of_as (g.S.Source.left c.args.source.now) (λ more. IsLoaded all_keys (first ++ more) l) (λ more. IsReadStop (first ++ more) result)
    (λ more is. inr (c.of_finish.ensures (first ++ more) is.input is.is_input (not_finished (first ++ more) l c.in-Err.why is c.in-Err.ensures.refused))) c.in_ok-loaded.ensures.loaded

pub returns-clause-read_fault : goal.returns-clause-read_fault
returns-clause-read_fault g c = λ e.
    let l = c.in_ok-loaded.loaded in
    let bytes = c.args.first.now.bytes.items ++ c.in_ok-loaded.ensures.loaded.0 in
    let is = c.in_ok-loaded.ensures.loaded.2 in
    absurd (no_read bytes c.of_finish.result (c.of_finish.ensures bytes is.input is.is_input (not_finished bytes l c.in-Err.why is c.in-Err.ensures.refused)) e)

pub returns-in-Ok-Table-clause-table : goal.returns-in-Ok-Table-clause-table
returns-in-Ok-Table-clause-table g c =
    let l = c.in_ok-loaded.loaded in
    let first = c.args.first.now.bytes.items in
    let pieces = c.in-Ok-Table.pieces in
    let finished = subst (λ (f : Finished). IsFinished l.plan.plan.plan l.plan.bound l.whole.sources l.sum.map l.sum.cover.items f) c.in-Ok-Table.field-0-is c.in-Ok-Table.ensures.finished in
    of_as (g.S.Source.left c.args.source.now) (λ more. IsLoaded all_keys (first ++ more) l) (λ more. IsTableOf (first ++ more) (joined pieces.items)) (λ more is. table_of (first ++ more) l pieces is finished) c.in_ok-loaded.ensures.loaded
