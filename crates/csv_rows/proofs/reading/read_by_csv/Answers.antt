use Rattle.std.proofs.Common.{Bor, rules, ◌≡◌, ◌<◌, ◌≤◌, ◌∙◌, ℕ, List, Some, length, arith, inl, inr, refl, sym, false}
use Rattle.std.proofs.lemmas.Grind.{common_steps}
use Rattle.std.specs.Result.{is_err}
use Rattle.csv.specs.Reading.{Reached, default_config, strip_bom}
use Rattle.csv.specs.Records.{cut_from, fields_of}
use Rattle.csv.specs.declared.parser.State.TheVariants as st
use Rattle.csv.proofs.ReadFacts.{on-ok, rows-end, rows-more}
use Rattle.csv_rows.specs.Store.{group_from, stored}
use Rattle.csv_rows.proofs.AllRecords.{read-all, read-some}
use Rattle.csv_rows.proofs.Gaps.{apart-rising}
use Rattle.csv_rows.proofs.Groups.{apart-stored-length, covers-none, group-none, stored-length, stored-none}
use Rattle.csv_rows.proofs.reading.read_by_csv.Goals as goal

pub records-init : goal.records-init
unfolding Reached group_from
records-init c =
    let made = c.from_reader-rdr.ensures in
    let plain = c.has_headers.ensures in
    let flexible = c.flexible.ensures in
    rw (c.new-text.ensures.items, c.new-ends.ensures.items, c.new-row_ends.ensures) (record {
      trim = rw (flexible, plain) at made.trim ∙ c.new.ensures.trim;
      ready = inr (inr (rw (flexible, plain) at made.has_headers, made.headers));
      flexible = rw flexible at made.flexible;
      config = rw (flexible, plain) at made.config ∙ c.new.ensures.config;
      fields = covers-none;
      rows = covers-none;
      count = refl;
      left = strip_bom c.args.bytes.now;
      known = made.source;
      reached = (sym made.state, refl);
    })

pub records-preserved : goal.records-preserved
records-preserved c =
    let inv = c.records.invariant in
    let read = rw c.in-Ok-true.field-0-test at (c.in-Ok-true.ensures.reads inv.trim inv.ready) in
    let ready = c.in-Ok-true.ensures.ready inv.trim in
    let good : is_err c.push_record.result ≡ false = search rules in
    let count = on-ok _ good c.push_record.ensures.count in
    let more = rows-more (λ (s : Bor (List ℕ)). Some s.now) c.records.rdr c.read_byte_record.new.self (fields_of c.read_byte_record.new.row) default_config st.StartRecord (strip_bom c.args.bytes.now) inv.left (stored c.records.text.items c.records.ends.items c.records.row_ends) inv.config inv.known inv.reached read in
    record {
      trim = read.3 ∙ inv.trim;
      ready = inl ready;
      flexible = c.in-Ok-true.ensures.flexible ∙ inv.flexible;
      config = read.2 ∙ inv.config;
      fields = on-ok _ good c.push_record.ensures.fields;
      rows = on-ok _ good c.push_record.ensures.rows;
      count = rw (count, inv.count) refl;
      left = more.0;
      known = more.1;
      reached = rw (on-ok _ good c.push_record.ensures.stored) more.2;
    }

pub returns-in-Ok-false-clause-no_header : goal.returns-in-Ok-false-clause-no_header
returns-in-Ok-false-clause-no_header c =
    let inv = c.records.invariant in
    let rows = stored c.records.text.items c.records.ends.items c.records.row_ends in
    let none : length c.records.row_ends ≡ 0 = search rules in
    let read = rw c.in-Ok-false.field-0-test at (c.in-Ok-false.ensures.reads inv.trim inv.ready) in
    let end = rows-end (λ (s : Bor (List ℕ)). Some s.now) c.records.rdr c.read_byte_record.new.self (fields_of c.read_byte_record.new.row) default_config inv.left inv.config inv.known read in
    let all = read-all default_config c.records.rdr.state (strip_bom c.args.bytes.now) inv.left rows inv.reached end in
    λ h. all ∙ group-none 0 c.records.row_ends (cut_from 0 c.records.ends.items c.records.text.items) none

pub of_lists-requires-clause-fields : goal.of_lists-requires-clause-fields
of_lists-requires-clause-fields c = apart-rising 0 c.records.ends.items (length c.records.text.items) c.records.invariant.fields.0

pub of_lists-requires-clause-rows : goal.of_lists-requires-clause-rows
of_lists-requires-clause-rows c = c.records.invariant.rows.0

pub returns-in-Ok-false-2-clause-records : goal.returns-in-Ok-false-2-clause-records
returns-in-Ok-false-2-clause-records c =
    let inv = c.records.invariant in
    let rows = stored c.records.text.items c.records.ends.items c.records.row_ends in
    let read = rw c.in-Ok-false.field-0-test at (c.in-Ok-false.ensures.reads inv.trim inv.ready) in
    let end = rows-end (λ (s : Bor (List ℕ)). Some s.now) c.records.rdr c.read_byte_record.new.self (fields_of c.read_byte_record.new.row) default_config inv.left inv.config inv.known read in
    let all = read-all default_config c.records.rdr.state (strip_bom c.args.bytes.now) inv.left rows inv.reached end in
    c.of_lists.ensures ∙ stored-none c.records.text.items c.records.ends.items c.records.row_ends ∙ sym all

pub returns-in-Ok-false-2-clause-some : goal.returns-in-Ok-false-2-clause-some
returns-in-Ok-false-2-clause-some c =
    let all = returns-in-Ok-false-2-clause-records c in
    let size = apart-stored-length 0 c.records.text.items c.records.ends.items c.records.row_ends in
    let some : 0 < length c.records.row_ends = grind (arith, common_steps, c.if-is_empty.false) in
    rw (← all, c.of_lists.ensures, size) some

pub returns-in-Ok-false-2-clause-few : goal.returns-in-Ok-false-2-clause-few
returns-in-Ok-false-2-clause-few c =
    let all = returns-in-Ok-false-2-clause-records c in
    let size = apart-stored-length 0 c.records.text.items c.records.ends.items c.records.row_ends in
    let few : length c.records.row_ends ≤ 4194305 = omega (arith, c.records.invariant.count, c.records-test.true) in
    rw (← all, c.of_lists.ensures, size) few

pub returns-clause-too_many : goal.returns-clause-too_many
returns-clause-too_many c =
    let inv = c.records.invariant in
    let rows = stored c.records.text.items c.records.ends.items c.records.row_ends in
    let size = stored-length c.records.text.items c.records.ends.items c.records.row_ends in
    let some = read-some default_config c.records.rdr.state (strip_bom c.args.bytes.now) inv.left rows inv.reached in
    λ h. omega (arith, inv.count, c.records-test.false, size, some)

pub unreachable-requires : goal.unreachable-requires
unreachable-requires c =
    let inv = c.records.invariant in
    let why = rw (← c.kind.ensures, c.in-UnequalLengths.is) at (c.in-Err.ensures.why inv.ready) in
    cc (inv.flexible, why.0)
