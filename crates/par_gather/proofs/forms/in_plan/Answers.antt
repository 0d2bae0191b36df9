use Rattle.std.proofs.Common.{◌∙◌, Contains, ap, inl, inr, ℕ, Some, subst, sym}
use Rattle.plan_spec.specs.Query.{query_of}
use Rattle.answer_text.specs.Lines.{line, statuses}
use Rattle.answer_text.specs.Words.{texts}
use Rattle.table_query.specs.Stops.{stop_status, stop_text}
use Rattle.table_query.specs.declared.wanted.Wanted.TheVariants.{Groups}
use Rattle.table_query.proofs.Statuses.{is_read_fault, is_status, is_write_fault, never_table}
use Rattle.par_gather.specs.Answers.{IsLine}
use Rattle.par_gather.specs.Query.{OfTable}
use Rattle.par_gather.specs.declared.Ran.TheVariants as ran
use Rattle.par_gather.specs.Runs.{AnswersBy}
use Rattle.par_gather.proofs.OneTable.{answered, said, stopped}
use Rattle.par_gather.proofs.forms.in_plan.Goals as goal

pub returns-in-Ok-clause-answers : goal.returns-in-Ok-clause-answers
returns-in-Ok-clause-answers g c =
    answered Groups (query_of (texts c.args.words.now)) (g.S.Source.left c.args.source.now) (Some (ran.Gather c.in-Ok.gathered)) (g.O.Sink.taken c.args.out.now) (g.O.Sink.taken c.answer_plan.new.out)
    (λ none. elim (c.in-Ok.ensures.no_plan none) [ inl e ↦ cc e | inr e ↦ cc e ]) c.in-Ok.ensures.table

pub returns-in-Err-clause-statuses : goal.returns-in-Err-clause-statuses
returns-in-Err-clause-statuses g c = subst (Contains statuses) (sym c.end.ensures.status) (is_status c.in-Err.stop)

pub returns-in-Err-clause-nothing : goal.returns-in-Err-clause-nothing
returns-in-Err-clause-nothing g c = λ _ writes. c.in-Err.ensures.nothing (λ e. writes (c.end.ensures.status ∙ ap stop_status e))

pub returns-in-Err-clause-read_fault : goal.returns-in-Err-clause-read_fault
returns-in-Err-clause-read_fault g c = λ is. c.in-Err.ensures.read_fault (is_read_fault c.in-Err.stop (sym c.end.ensures.status ∙ is))

pub returns-in-Err-clause-write_fault : goal.returns-in-Err-clause-write_fault
returns-in-Err-clause-write_fault g c = λ is. c.in-Err.ensures.write_fault (is_write_fault c.in-Err.stop (sym c.end.ensures.status ∙ is))

pub returns-in-Err-clause-quiet : goal.returns-in-Err-clause-quiet
returns-in-Err-clause-quiet g c = λ is. absurd (never_table c.in-Err.stop (sym c.end.ensures.status ∙ is))

pub returns-in-Err-clause-answers : goal.returns-in-Err-clause-answers
returns-in-Err-clause-answers g c =
    let query = query_of (texts c.args.words.now) in
    let left = g.S.Source.left c.args.source.now in
    let old = g.O.Sink.taken c.args.out.now in
    let new = g.O.Sink.taken c.answer_plan.new.out in
    let why = c.in-Err.stop in
    let P : ℕ → Type 0 = λ status. AnswersBy (OfTable Groups query) left status c.args.ran.now old new in
    subst P (sym c.end.ensures.status)
    (stopped Groups query left why c.in-Err.ensures.why (λ none. elim (c.in-Err.ensures.no_plan none) [ inl e ↦ inl (cc e) | inr e ↦ inr (cc e) ]) c.args.ran.now old new c.in-Err.ensures.part)

pub returns-in-Err-clause-line : goal.returns-in-Err-clause-line
returns-in-Err-clause-line g c = λ _.
    let query = query_of (texts c.args.words.now) in
    let left = g.S.Source.left c.args.source.now in
    let why = c.in-Err.stop in
    let text = line (stop_text Groups why) in
    let P : ℕ → Type 0 = λ status. IsLine (OfTable Groups query) left status text in (
      text,
      subst P (sym c.end.ensures.status)
          (said Groups query left why c.in-Err.ensures.why (λ none. elim (c.in-Err.ensures.no_plan none) [ inl e ↦ inl (cc e) | inr e ↦ inr (cc e) ]) c.in-Err.ensures.first),
      c.end.ensures.said,
    )
