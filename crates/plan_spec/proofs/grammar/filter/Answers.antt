use Rattle.std.proofs.Common.{map}
use Rattle.plan_spec.specs.Given.{entry_of}
use Rattle.plan_spec.proofs.Relations.{filter_at, is_boundary}
use Rattle.plan_spec.proofs.grammar.filter.Goals as goal

pub range-requires-clause-end_boundary : goal.range-requires-clause-end_boundary
range-requires-clause-end_boundary c = is_boundary c.args.text.now c.relation_place-at.result (rw c.as_bytes-bytes.ensures.value at c.relation_place-at.ensures.place) (rw c.as_bytes-bytes.ensures.value at c.relation_place-at.ensures.within)

pub returns-clause-filter : goal.returns-clause-filter
returns-clause-filter c =
    rw (filter_at c.args.texts (map entry_of c.args.places.now) c.args.text.now c.as_bytes-bytes.result.now c.range.result.now c.relation_place-at.result c.as_bytes-bytes.ensures.value c.range.ensures.value c.relation_place-at.ensures.place c.if-at-eq0.false)
    c.column_filter.ensures.filter

pub returns-clause-none : goal.returns-clause-none
returns-clause-none c =
    rw (filter_at c.args.texts (map entry_of c.args.places.now) c.args.text.now c.as_bytes-bytes.result.now c.range.result.now c.relation_place-at.result c.as_bytes-bytes.ensures.value c.range.ensures.value c.relation_place-at.ensures.place c.if-at-eq0.false)
    c.column_filter.ensures.none
