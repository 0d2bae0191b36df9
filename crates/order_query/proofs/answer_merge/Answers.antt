use Rattle.std.proofs.Common.{rules, ◌≡◌, ◌∙◌, ℕ, List, IfSome, [], subst, take}
use Rattle.std.specs.Io.KnownBytes.{Appends}
use Rattle.csv_rows.specs.Records.{record_at}
use Rattle.gather_merge.specs.Used.{IsUsed}
use Rattle.plan_spec.specs.Merging.{merge_of}
use Rattle.answer_text.specs.Words.{texts}
use Rattle.table_query.specs.Asked.{plan_in}
use Rattle.table_query.specs.Refused.{refused_in}
use Rattle.order_query.specs.Ordered.{IsOrderText}
use Rattle.table_query.specs.Stops.{IsExplained}
use Rattle.table_query.specs.declared.stop.Stop.TheVariants as stop
use Rattle.order_query.proofs.Ordering.{merge_explained, merge_first, merged_written, orders_rows, rows_part}
use Rattle.table_query.proofs.Outcomes.{no_workers, unwritten_explained}
use Rattle.table_query.proofs.RefusedRows.{refused_in-none}
use Rattle.order_query.proofs.answer_merge.Goals as goal

pub merge-requires-clause-plan : goal.merge-requires-clause-plan
merge-requires-clause-plan g c κs within =
    let ready = c.in_ok-ready.ready in
    orders_rows (texts c.args.words.now) ready.plan (record_at ready.rows 0) ready.bound c.in_ok-ready.ensures.ready.query c.in_ok-ready.ensures.ready.bound.is

pub returns-in-Err-clause-why : goal.returns-in-Err-clause-why
returns-in-Err-clause-why g c =
    merge_explained (merge_of (texts c.args.words.now)) (g.S.Source.left c.args.source.now) c.in_ok-ready.ready c.in-Err.answer c.stop_of_merge.result c.in_ok-ready.ensures.ready c.in-Err.ensures.row c.stop_of_merge.ensures

pub returns-in-Err-clause-first : goal.returns-in-Err-clause-first
returns-in-Err-clause-first g c none =
    let asked = merge_of (texts c.args.words.now) in
    let alone = c.workers.ensures.value ∙ no_workers asked c.in_ok-ready.ready.plan c.in_ok-ready.ensures.ready.query none in
    merge_first asked (g.S.Source.left c.args.source.now) c.in_ok-ready.ready c.in-Err.answer c.stop_of_merge.result c.in_ok-ready.ensures.ready c.in-Err.ensures.row (c.in-Err.ensures.first alone) c.stop_of_merge.ensures

pub returns-in_err-write_rows-clause-part : goal.returns-in_err-write_rows-clause-part
returns-in_err-write_rows-clause-part g c =
    let asked = merge_of (texts c.args.words.now) in
    let left = g.S.Source.left c.args.source.now in
    let ready = c.in_ok-ready.ready in
    let old = g.O.Sink.taken c.args.out.now in
    let new = g.O.Sink.taken c.write_rows.new.out in
    let none : refused_in ready.bound ready.rows ≡ [] = refused_in-none ready.bound ready.rows c.in-Ok.ensures.accepted in
    let here : c.in_err-write_rows.field-0.0 ≡ stop.WriteFault
    → IfSome left (λ bytes. (text : List ℕ) × IsOrderText (plan_in asked) bytes text × (n : ℕ) × Appends old new (take n text)) =
    λ e. rows_part asked left ready c.in-Ok.merged.order old new c.in_ok-ready.ensures.ready none c.in-Ok.ensures.order (c.in_err-write_rows.ensures.part e) in
    search rules

pub returns-in_err-write_rows-clause-why : goal.returns-in_err-write_rows-clause-why
returns-in_err-write_rows-clause-why g c =
    let asked = merge_of (texts c.args.words.now) in
    let left = g.S.Source.left c.args.source.now in
    let ready = c.in_ok-ready.ready in
    let none : refused_in ready.bound ready.rows ≡ [] = refused_in-none ready.bound ready.rows c.in-Ok.ensures.accepted in
    let here : IsExplained (plan_in asked) left c.in_err-write_rows.field-0.0 = unwritten_explained asked left ready c.in_err-write_rows.field-0.0 c.in_ok-ready.ensures.ready none c.in_err-write_rows.ensures.why in
    search rules

pub returns-clause-rows : goal.returns-clause-rows
returns-clause-rows g c =
    let ready = c.in_ok-ready.ready in
    let Used : ℕ → Type 0 = λ workers. IsUsed ready.bound ready.rows workers c.in-Ok.merged.finished in
    merged_written (merge_of (texts c.args.words.now)) (g.S.Source.left c.args.source.now) ready c.in-Ok.merged (g.O.Sink.taken c.args.out.now) (g.O.Sink.taken c.write_rows.new.out) c.in_ok-ready.ensures.ready
    (refused_in-none ready.bound ready.rows c.in-Ok.ensures.accepted) (subst Used c.workers.ensures.value c.in-Ok.ensures.used) c.in-Ok.ensures.order c.in_ok-write_rows.ensures.rows
