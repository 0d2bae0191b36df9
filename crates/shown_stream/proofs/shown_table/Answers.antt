use Rattle.std.proofs.Common.{inl, inr, refl, string_bytes}
use Rattle.shown_words.specs.Taking.{taken_as}
use Rattle.plan_spec.specs.Query.{stream_query_of}
use Rattle.shown_stream.specs.Shown.{how_in}
use Rattle.stream_groups.specs.Sources.{bare_left}
use Rattle.stream_groups.specs.declared.stop.Stop.TheVariants as stop
use Rattle.shown_stream.proofs.Ends.{tells_memory}
use Rattle.shown_stream.proofs.Hows.{err_each, err_none, err_of, ok_each, ok_none, ok_of}
use Rattle.shown_stream.proofs.shown_table.Goals as goal

pub returns-in-Ok-Ok-clause-wrong : goal.returns-in-Ok-Ok-clause-wrong
returns-in-Ok-Ok-clause-wrong g c =
    let it = c.in-Ok-Ok in
    err_none _ (how_in (taken_as c.args.taken.now)) it.how (rw it.field-0-is at it.ensures)

pub returns-in-Ok-Ok-clause-why : goal.returns-in-Ok-Ok-clause-why
returns-in-Ok-Ok-clause-why g c = λ no.
    let it = c.in-Ok-Ok in
    ok_of _ (how_in (taken_as c.args.taken.now)) it.how (rw it.field-0-is at it.ensures) (rw c.as_slice.ensures.value at c.show_query.ensures.why no)

pub returns-in-Ok-Ok-clause-read_before : goal.returns-in-Ok-Ok-clause-read_before
returns-in-Ok-Ok-clause-read_before g c = λ is. rw c.as_slice.ensures.value at c.show_query.ensures.read_before is

pub returns-in-Ok-Ok-clause-table : goal.returns-in-Ok-Ok-clause-table
returns-in-Ok-Ok-clause-table g c = λ is.
    let it = c.in-Ok-Ok in
    (it.how, rw it.field-0-is at it.ensures, rw c.as_slice.ensures.value at c.show_query.ensures.table is)

pub returns-in-Ok-Ok-clause-part : goal.returns-in-Ok-Ok-clause-part
returns-in-Ok-Ok-clause-part g c = λ is.
    let it = c.in-Ok-Ok in
    (it.how, rw it.field-0-is at it.ensures, rw c.as_slice.ensures.value at c.show_query.ensures.part is)

pub returns-in-Ok-Err-clause-wrong : goal.returns-in-Ok-Err-clause-wrong
returns-in-Ok-Err-clause-wrong g c =
    let it = c.in-Ok-Err in
    err_of _ (how_in (taken_as c.args.taken.now)) (string_bytes it.text) (rw it.field-0-is at it.ensures)
    (refl, refl, inl (c.say_wrong.ensures.status, rw c.as_str.ensures.value at c.say_wrong.ensures.said))

pub returns-in-Ok-Err-clause-why : goal.returns-in-Ok-Err-clause-why
returns-in-Ok-Err-clause-why g c = λ _.
    let it = c.in-Ok-Err in
    ok_none _ (how_in (taken_as c.args.taken.now)) (string_bytes it.text) (rw it.field-0-is at it.ensures)

pub returns-in-Err-clause-wrong : goal.returns-in-Err-clause-wrong
returns-in-Err-clause-wrong g c =
    err_each _ (how_in (taken_as c.args.taken.now)) (λ text. (refl, refl, inr (c.say_memory.ensures.status, c.say_memory.ensures.said)))

pub returns-in-Err-clause-why : goal.returns-in-Err-clause-why
returns-in-Err-clause-why g c = λ _.
    ok_each _ (how_in (taken_as c.args.taken.now))
    (λ how. (stop.Memory, tells_memory (stream_query_of (taken_as c.args.taken.now).rest) (bare_left g.S.Source.left c.args.source.now), c.say_memory.ensures.status, c.say_memory.ensures.said))
