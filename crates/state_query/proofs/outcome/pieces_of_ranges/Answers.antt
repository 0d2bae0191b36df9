use Rattle.std.proofs.Common.{◌++◌, inr, sym}
use Rattle.result_text.specs.Pieces.{joined}
use Rattle.state_load.specs.Loading.{stretches_of}
use Rattle.state_source.proofs.Rests.{of_as}
use Rattle.state_query.specs.Inputs.{IsInRanges, IsTableOf, groups_in}
use Rattle.state_query.specs.Whys.{IsReadStop}
use Rattle.state_query.proofs.Known.{no_read}
use Rattle.state_query.proofs.Sided.{keys_are, not_in, row_in, stretches_are, sums_are, table_in}
use Rattle.state_query.proofs.outcome.pieces_of_ranges.Goals as goal

pub finish_ranges-requires-clause-sums : goal.finish_ranges-requires-clause-sums
finish_ranges-requires-clause-sums g c κs within =
    let loaded = c.in_ok-sums.ensures.loaded in
    let bytes = c.args.first.now.bytes.items ++ loaded.0 in
    let opened = c.args.opened in
    let sums = c.in_ok-sums.sums in
    let is = loaded.2 in (
      groups_in is.input,
      stretches_of is.input.files,
      sums_are bytes opened sums is,
      keys_are bytes opened sums is,
      stretches_are bytes opened sums is,
    )

pub returns-in-Ok-Table-clause-table : goal.returns-in-Ok-Table-clause-table
returns-in-Ok-Table-clause-table g c =
    let opened = c.args.opened in
    let first = c.args.first.now.bytes.items in
    let sums = c.in_ok-sums.sums in
    let pieces = c.in-Ok-Table.pieces in
    of_as (g.S.Source.left c.args.source.now) (λ more. IsInRanges (first ++ more) opened sums) (λ more. IsTableOf (first ++ more) (joined pieces.items))
    (λ more is. table_in (first ++ more) opened sums is c.in-Ok-Table.field-0 pieces c.in-Ok-Table.field-0-is c.in-Ok-Table.ensures.finished) c.in_ok-sums.ensures.loaded

pub returns-in-Ok-Refused-clause-why : goal.returns-in-Ok-Refused-clause-why
returns-in-Ok-Refused-clause-why g c =
    let opened = c.args.opened in
    let first = c.args.first.now.bytes.items in
    let sums = c.in_ok-sums.sums in
    of_as (g.S.Source.left c.args.source.now) (λ more. IsInRanges (first ++ more) opened sums) (λ more. IsReadStop (first ++ more) c.of_row.result)
    (λ more is. inr (c.of_row.ensures (first ++ more) is.input is.is_input (sym is.query_is) (row_in (first ++ more) opened sums is c.in-Ok-Refused.field-0 c.in-Ok-Refused.row c.in-Ok-Refused.field-0-is c.in-Ok-Refused.ensures.finished)))
    c.in_ok-sums.ensures.loaded

pub returns-in-Ok-Refused-clause-read_fault : goal.returns-in-Ok-Refused-clause-read_fault
returns-in-Ok-Refused-clause-read_fault g c = λ e.
    let loaded = c.in_ok-sums.ensures.loaded in
    let bytes = c.args.first.now.bytes.items ++ loaded.0 in
    let is = loaded.2 in
    absurd (no_read bytes c.of_row.result
    (c.of_row.ensures bytes is.input is.is_input (sym is.query_is) (row_in bytes c.args.opened c.in_ok-sums.sums is c.in-Ok-Refused.field-0 c.in-Ok-Refused.row c.in-Ok-Refused.field-0-is c.in-Ok-Refused.ensures.finished)) e)

pub returns-clause-why : goal.returns-clause-why
returns-clause-why g c =
    let opened = c.args.opened in
    let first = c.args.first.now.bytes.items in
    let sums = c.in_ok-sums.sums in
    of_as (g.S.Source.left c.args.source.now) (λ more. IsInRanges (first ++ more) opened sums) (λ more. IsReadStop (first ++ more) c.of_finish.result)
    (λ more is. inr (c.of_finish.ensures (first ++ more) is.input is.is_input (not_in (first ++ more) opened sums is c.in-Err.why c.in-Err.ensures.refused))) c.in_ok-sums.ensures.loaded

pub returns-clause-read_fault : goal.returns-clause-read_fault
returns-clause-read_fault g c = λ e.
    let loaded = c.in_ok-sums.ensures.loaded in
    let bytes = c.args.first.now.bytes.items ++ loaded.0 in
    let is = loaded.2 in
    absurd (no_read bytes c.of_finish.result (c.of_finish.ensures bytes is.input is.is_input (not_in bytes c.args.opened c.in_ok-sums.sums is c.in-Err.why c.in-Err.ensures.refused)) e)
