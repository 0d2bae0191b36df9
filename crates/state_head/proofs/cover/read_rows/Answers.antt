use Rattle.std.proofs.Common.{◌≡◌, ◌++◌, ◌∙◌, ℕ, List, ap, sym}
use Rattle.state_head.specs.declared.cover.Rows.TheVariants.{Counted, Refused}
use Rattle.state_head.proofs.Parts.{after_row, counted_read, counted_written, refused_read, refused_written, row_of, row_small, rows_first}
use Rattle.state_head.proofs.cover.read_rows.Goals as goal

pub returns-in_default-clause-written : goal.returns-in_default-clause-written
returns-in_default-clause-written c = λ rows rest are e. c.in_default.ensures.written (row_of rows) (after_row rows ++ rest) (row_small rows are) (rows_first rows c.args.bytes.now rest e)

pub returns-in-Some-read_count-clause-read : goal.returns-in-Some-read_count-clause-read
returns-in-Some-read_count-clause-read c =
    (counted_read c.args.bytes.now c.in-Some.after.now c.in-Some-read_count.rest.now c.in-Some.row c.in-Some-read_count.rows c.in-Some.ensures.read.0 c.if-row-eq0.true c.in-Some-read_count.ensures.read.0, c.in-Some-read_count.ensures.read.1)

pub returns-in-Some-read_count-clause-written : goal.returns-in-Some-read_count-clause-written
returns-in-Some-read_count-clause-written c = λ rows rest are e.
    let a = c.in-Some.ensures.written (row_of rows) (after_row rows ++ rest) (row_small rows are) (rows_first rows c.args.bytes.now rest e) in
    let k = counted_written rows c.in-Some.row c.in-Some.after.now rest are c.if-row-eq0.true a.0 a.1 in
    let b = c.in-Some-read_count.ensures.written k.count rest k.few k.left in
    (ap Counted b.0 ∙ sym k.is, b.1)

pub returns-in-None-clause-written : goal.returns-in-None-clause-written
returns-in-None-clause-written c = λ rows rest are e.
    let a = c.in-Some.ensures.written (row_of rows) (after_row rows ++ rest) (row_small rows are) (rows_first rows c.args.bytes.now rest e) in
    let k = counted_written rows c.in-Some.row c.in-Some.after.now rest are c.if-row-eq0.true a.0 a.1 in
    c.in-None.ensures.written k.count rest k.few k.left

pub returns-in-Some-read_refused-clause-read : goal.returns-in-Some-read_refused-clause-read
returns-in-Some-read_refused-clause-read c =
    let found = c.in-Some-read_refused.ensures.read in
    (refused_read c.args.bytes.now c.in-Some.after.now c.in-Some-read_refused.rest.now c.in-Some.row c.in-Some-read_refused.why c.in-Some.ensures.read.0 found.2 found.0, found.1)

pub returns-in-Some-read_refused-clause-written : goal.returns-in-Some-read_refused-clause-written
returns-in-Some-read_refused-clause-written c = λ rows rest are e.
    let a = c.in-Some.ensures.written (row_of rows) (after_row rows ++ rest) (row_small rows are) (rows_first rows c.args.bytes.now rest e) in
    let k = refused_written rows c.in-Some.row c.in-Some.after.now rest are c.if-row-eq0.false a.0 a.1 in
    let b = c.in-Some-read_refused.ensures.written k.why rest k.refused k.same k.left in
    (ap Refused b.0 ∙ sym k.is, b.1)

pub returns-in-None-read_refused-clause-written : goal.returns-in-None-read_refused-clause-written
returns-in-None-read_refused-clause-written c = λ rows rest are e.
    let a = c.in-Some.ensures.written (row_of rows) (after_row rows ++ rest) (row_small rows are) (rows_first rows c.args.bytes.now rest e) in
    let k = refused_written rows c.in-Some.row c.in-Some.after.now rest are c.if-row-eq0.false a.0 a.1 in
    c.in-None-read_refused.ensures.written k.why rest k.refused k.same k.left
