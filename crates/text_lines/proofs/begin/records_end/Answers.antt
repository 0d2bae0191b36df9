use Rattle.std.proofs.Common.{◌≤◌, arith, drop, length, refl}
use Rattle.std.proofs.lemmas.List.{length-drop, take_rest}
use Rattle.csv_rows.specs.Records.{records_of}
use Rattle.text_lines.proofs.Ends.{ends_first, ends_next, no_end}
use Rattle.text_lines.proofs.begin.records_end.Goals as goal

pub records-init : goal.records-init
records-init c = record { ends = ends_first c.args.lines.now c.requires.line }

pub overflow_add-end : goal.overflow_add-end
overflow_add-end c = omega (arith, c.in-Some.ensures.cut.within, length-drop c.records.end c.args.lines.now, c.records.invariant.ends.within)

pub records-preserved : goal.records-preserved
records-preserved c =
    let lines = c.args.lines.now in
    let end = c.records.end in
    let whole = take_rest lines end in
    record { ends = ends_next lines c.records._at end c.in-Some.more c.records.invariant.ends (rw whole at c.in-Some.ensures.cut) (rw whole at c.in-Some.ensures.one) }

-- there is one more, since there are more records than so far
pub unreachable-requires : goal.unreachable-requires
unreachable-requires c =
    let lines = c.args.lines.now in
    let few : length (records_of (drop c.records.end lines)) ≤ 1 = rw (take_rest lines c.records.end) at c.in-None.ensures.none refl in
    omega (arith, no_end lines c.records._at c.records.end c.records.invariant.ends few, c.requires.some, c.records-test.true)
