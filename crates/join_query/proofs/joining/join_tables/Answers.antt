use Rattle.std.proofs.Common.{◌≡◌, ◌⊎◌, [], ℕ, List, Option, None, Some, IfSome, refl, subst}
use Rattle.std.specs.Io.KnownBytes.{Appends}
use Rattle.row_blocks.specs.Blocks.{Table}
use Rattle.par_model.specs.Table.{table_text}
use Rattle.answer_text.specs.Lines.{line}
use Rattle.answer_text.specs.declared.status.TheConstants.{NO_MEMORY, TABLE}
use Rattle.join_query.specs.Lines.{IsStatus}
use Rattle.join_query.specs.Stops.{stop_text}
use Rattle.answer_text.specs.Words.{texts}
use Rattle.join_query.specs.Words.{Asked, asked_by, join_of}
use Rattle.join_query.specs.declared.cause.Cause.TheVariants as cause
use Rattle.join_query.specs.declared.stop.Stop.TheVariants as stop
use Rattle.join_query.proofs.Statuses.{joins_complete, joins_outcome}
use Rattle.join_query.proofs.Ends.{ends_complete, ends_line, ends_outcome, usage_explained}
use Rattle.join_query.proofs.joining.join_tables.Goals as goal

pub returns-in_default-clause-outcome : goal.returns-in_default-clause-outcome
returns-in_default-clause-outcome g c = λ fine.
    let left = g.S.Source.left c.args.source.now in
    ends_outcome None (join_of (texts c.args.words.now)) left (stop.Because cause.Usage) c.end.result c.in_default.ensures.asked c.end.ensures.status (usage_explained left) fine

pub returns-in_default-clause-complete : goal.returns-in_default-clause-complete
returns-in_default-clause-complete g c = λ read write.
    let left = g.S.Source.left c.args.source.now in
    ends_complete None (join_of (texts c.args.words.now)) left (stop.Because cause.Usage) c.end.result c.in_default.ensures.asked c.end.ensures.status (usage_explained left) (λ e. cc e) (λ e. cc e)

pub returns-in_default-clause-line : goal.returns-in_default-clause-line
returns-in_default-clause-line g c =
    let left = g.S.Source.left c.args.source.now in (
      line (stop_text [] (stop.Because cause.Usage)),
      ends_line None (join_of (texts c.args.words.now)) left (stop.Because cause.Usage) c.end.result c.in_default.ensures.asked c.end.ensures.status (usage_explained left) (λ _. refl),
      c.end.ensures.said,
    )

pub returns-in-Ok-clause-outcome : goal.returns-in-Ok-clause-outcome
returns-in-Ok-clause-outcome g c = λ fine.
    let left = g.S.Source.left c.args.source.now in
    let P : List ℕ → Table → Type 0 = λ bytes records. Appends (g.O.Sink.taken c.args.out.now) (g.O.Sink.taken c.answer.new.out) (table_text records) in
    subst (λ (w : Option Asked). IfSome left (λ bytes. IsStatus w bytes TABLE)) c.in-Some.ensures.asked (joins_outcome (Some (asked_by c.in-Some.asked)) left P c.in-Ok.ensures.records)

pub returns-in-Ok-clause-complete : goal.returns-in-Ok-clause-complete
returns-in-Ok-clause-complete g c = λ read write.
    let left = g.S.Source.left c.args.source.now in
    let P : List ℕ → Table → Type 0 = λ bytes records. Appends (g.O.Sink.taken c.args.out.now) (g.O.Sink.taken c.answer.new.out) (table_text records) in
    subst (λ (w : Option Asked). IfSome left (λ bytes. (TABLE ≡ NO_MEMORY) ⊎ IsStatus w bytes TABLE)) c.in-Some.ensures.asked
    (joins_complete (Some (asked_by c.in-Some.asked)) left P c.in-Ok.ensures.records)

pub returns-in-Err-clause-outcome : goal.returns-in-Err-clause-outcome
returns-in-Err-clause-outcome g c = λ fine.
    ends_outcome (Some (asked_by c.in-Some.asked)) (join_of (texts c.args.words.now)) (g.S.Source.left c.args.source.now) c.in-Err.stop c.end-in-Err.result c.in-Some.ensures.asked c.end-in-Err.ensures.status c.in-Err.ensures.why fine

pub returns-in-Err-clause-complete : goal.returns-in-Err-clause-complete
returns-in-Err-clause-complete g c = λ read write.
    ends_complete (Some (asked_by c.in-Some.asked)) (join_of (texts c.args.words.now)) (g.S.Source.left c.args.source.now) c.in-Err.stop c.end-in-Err.result c.in-Some.ensures.asked c.end-in-Err.ensures.status c.in-Err.ensures.why
    (λ is. read (c.in-Err.ensures.read_fault is)) (λ is. write (c.in-Err.ensures.write_fault is))

pub returns-in-Err-clause-line : goal.returns-in-Err-clause-line
returns-in-Err-clause-line g c =
    let asked = asked_by c.in-Some.asked in (
      line (stop_text asked.column c.in-Err.stop),
      ends_line (Some asked) (join_of (texts c.args.words.now)) (g.S.Source.left c.args.source.now) c.in-Err.stop c.end-in-Err.result c.in-Some.ensures.asked c.end-in-Err.ensures.status c.in-Err.ensures.why (λ none. cc none),
      c.end-in-Err.ensures.said,
    )
