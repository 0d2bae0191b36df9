use Rattle.std.proofs.Common.{◌≡◌, ◌∙◌, Contains, ℕ, ap, arith, inl, inr, subst, sym}
use Rattle.std.proofs.lemmas.Option.{IfSome_then}
use Rattle.table_query.proofs.Statuses.{complete_told, is_read_fault, is_status, is_write_fault, line_first, line_outcome, never_table, outcome_told}
use Rattle.group_query.proofs.Strays.{no_plan}
use Rattle.group_query.specs.Answers.{plan_of}
use Rattle.answer_text.specs.Lines.{IsSaid, line, statuses}
use Rattle.answer_text.specs.Words.{texts}
use Rattle.table_query.specs.Asked.{usage_text}
use Rattle.table_query.specs.Lines.{IsLine}
use Rattle.table_query.specs.Stops.{stop_status, stop_text}
use Rattle.table_query.specs.declared.wanted.Wanted.TheVariants as wanted
use Rattle.table_query.specs.declared.stop.Stop.{Stop}
use Rattle.table_query.specs.declared.stop.Stop.TheVariants as stop
use Rattle.group_query.proofs.alone.aggregate_alone.Goals as goal

pub returns-in-Err-clause-statuses : goal.returns-in-Err-clause-statuses
returns-in-Err-clause-statuses g c = subst (Contains statuses) (sym c.end.ensures.status) (is_status c.in-Err.stop)

pub returns-in-Err-clause-outcome : goal.returns-in-Err-clause-outcome
returns-in-Err-clause-outcome g c = outcome_told (plan_of (texts c.args.words.now)) (g.S.Source.left c.args.source.now) c.in-Err.stop c.end.result c.in-Err.ensures.why c.end.ensures.status

pub returns-in-Err-clause-complete : goal.returns-in-Err-clause-complete
returns-in-Err-clause-complete g c = λ reads writes.
    complete_told (plan_of (texts c.args.words.now)) (g.S.Source.left c.args.source.now) c.in-Err.stop c.end.result c.in-Err.ensures.why c.end.ensures.status (λ e. reads (c.in-Err.ensures.read_fault e))
    (λ e. writes (c.in-Err.ensures.write_fault e))

pub returns-in-Err-clause-table : goal.returns-in-Err-clause-table
returns-in-Err-clause-table g c = λ is. absurd (never_table c.in-Err.stop (sym c.end.ensures.status ∙ is))

pub returns-in-Err-clause-part : goal.returns-in-Err-clause-part
returns-in-Err-clause-part g c = λ is. c.in-Err.ensures.part (is_write_fault c.in-Err.stop (sym c.end.ensures.status ∙ is))

pub returns-in-Err-clause-nothing : goal.returns-in-Err-clause-nothing
returns-in-Err-clause-nothing g c = λ _ writes. c.in-Err.ensures.nothing (λ e. writes (c.end.ensures.status ∙ ap stop_status e))

pub returns-in-Err-clause-read_fault : goal.returns-in-Err-clause-read_fault
returns-in-Err-clause-read_fault g c = λ is. c.in-Err.ensures.read_fault (is_read_fault c.in-Err.stop (sym c.end.ensures.status ∙ is))

pub returns-in-Err-clause-write_fault : goal.returns-in-Err-clause-write_fault
returns-in-Err-clause-write_fault g c = λ is. c.in-Err.ensures.write_fault (is_write_fault c.in-Err.stop (sym c.end.ensures.status ∙ is))

pub returns-in-Err-clause-quiet : goal.returns-in-Err-clause-quiet
returns-in-Err-clause-quiet g c = λ is. absurd (never_table c.in-Err.stop (sym c.end.ensures.status ∙ is))

pub returns-in-Err-clause-line : goal.returns-in-Err-clause-line
returns-in-Err-clause-line g c = λ _.
    let plan = plan_of (texts c.args.words.now) in
    let said = line_outcome wanted.Groups plan (g.S.Source.left c.args.source.now) c.in-Err.stop c.in-Err.ensures.why in
    let P : ℕ → Type 0 = λ n. IsLine usage_text plan n said.0 (line (stop_text wanted.Groups c.in-Err.stop)) in
    (said.0, said.1, line (stop_text wanted.Groups c.in-Err.stop), subst P (sym c.end.ensures.status) said.2, c.end.ensures.said)

pub returns-in-Err-clause-first : goal.returns-in-Err-clause-first
returns-in-Err-clause-first g c = λ is.
    let first = line_first wanted.Groups (plan_of (texts c.args.words.now)) (g.S.Source.left c.args.source.now) c.in-Err.stop c.in-Err.ensures.first (sym c.end.ensures.status ∙ is) in
    IfSome_then (g.S.Source.left c.args.source.now) first (λ bytes names. (line (stop_text wanted.Groups c.in-Err.stop), names, c.end.ensures.said))

pub returns-in-Err-clause-usage : goal.returns-in-Err-clause-usage
returns-in-Err-clause-usage g c = λ none is.
    let Said : Stop → Type 0 = λ why. IsSaid (g.E.Sink.taken c.args.err.now) (g.E.Sink.taken c.end.new.err) (g.E.Sink.faults c.args.err.now) (g.E.Sink.faults c.end.new.err) (line (stop_text wanted.Groups why)) in
    let two : stop_status c.in-Err.stop ≡ 2 = sym c.end.ensures.status ∙ is in
    elim (c.in-Err.ensures.no_plan none) [
      | inl usage ↦ let why : c.in-Err.stop ≡ stop.Usage = cc usage in subst Said why c.end.ensures.said
      | inr memory ↦ let why : c.in-Err.stop ≡ stop.Memory = cc memory in let five : stop_status c.in-Err.stop ≡ 5 = ap stop_status why in absurd (omega (arith, two, five))
    ]

pub returns-in-Ok-clause-other_form : goal.returns-in-Ok-clause-other_form
returns-in-Ok-clause-other_form g c = no_plan (texts c.args.words.now)

pub returns-in-Err-clause-other_form : goal.returns-in-Err-clause-other_form
returns-in-Err-clause-other_form g c = no_plan (texts c.args.words.now)
