use Rattle.std.proofs.Common.{ℕ, take}
use Rattle.std.specs.Io.KnownBytes.{Appends}
use Rattle.std.proofs.lemmas.Result.{err_from_is_err_and}
use Rattle.row_blocks.specs.Blocks.{Table}
use Rattle.par_model.specs.Table.{table_text}
use Rattle.join_query.specs.Words.{asked_by}
use Rattle.join_query.proofs.Joins.{explained_rows, joined_by, joined_part_is, joined_records_are, joined_writable}
use Rattle.join_query.proofs.joining.answer.Goals as goal

pub returns-in_err-joined-clause-why : goal.returns-in_err-joined-clause-why
returns-in_err-joined-clause-why g c =
    let p = err_from_is_err_and c.from_residual-in_err-joined.result c.from_residual-in_err-joined.ensures.1 in
    rw (p.1, p.2) (explained_rows (asked_by c.args.asked.now) (g.S.Source.left c.args.source.now) c.in_ok-ready.ready c.in_err-joined.field-0.0 c.in_ok-ready.ensures.ready c.in_err-joined.ensures.why)

pub write_joined-requires-clause-pairs : goal.write_joined-requires-clause-pairs
write_joined-requires-clause-pairs g c =
    let ready = c.in_ok-ready.ready in
    λ κs bounds. joined_writable ready.left ready.right ready.left_column ready.right_column c.args.asked.now.workers c.in_ok-joined.joined c.in_ok-ready.ensures.left_column c.in_ok-ready.ensures.right_column c.in_ok-joined.ensures.joined

pub returns-in_err-write_joined-clause-part : goal.returns-in_err-write_joined-clause-part
returns-in_err-write_joined-clause-part g c =
    let p = err_from_is_err_and c.from_residual-in_err-write_joined.result c.from_residual-in_err-write_joined.ensures.1 in
    let ready = c.in_ok-ready.ready in
    let P : Table → ℕ → Type 0 = λ records n. Appends (g.O.Sink.taken c.args.out.now) (g.O.Sink.taken c.write_joined.new.out) (take n (table_text records)) in
    rw (p.1, p.2) (λ fault. joined_part_is (asked_by c.args.asked.now) (g.S.Source.left c.args.source.now) ready P c.args.asked.now.workers c.in_ok-joined.joined c.in_ok-ready.ensures.ready c.in_ok-joined.ensures.joined
    (c.in_err-write_joined.ensures.part fault))

pub returns-clause-records : goal.returns-clause-records
returns-clause-records g c =
    let P : Table → Type 0 = λ records. Appends (g.O.Sink.taken c.args.out.now) (g.O.Sink.taken c.write_joined.new.out) (table_text records) in
    joined_records_are (asked_by c.args.asked.now) (g.S.Source.left c.args.source.now) c.in_ok-ready.ready P c.args.asked.now.workers c.in_ok-joined.joined c.in_ok-ready.ensures.ready c.in_ok-joined.ensures.joined c.in_ok-write_joined.ensures.records

pub returns-clause-joined : goal.returns-clause-joined
returns-clause-joined g c = joined_by (asked_by c.args.asked.now) (g.S.Source.left c.args.source.now) c.in_ok-ready.ready c.in_ok-joined.joined c.in_ok-ready.ensures.ready c.in_ok-joined.ensures.joined
