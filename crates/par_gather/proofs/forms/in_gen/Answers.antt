use Rattle.std.proofs.Common.{◌≡◌, ◌∙◌, Contains, ℕ, ap, subst, sym}
use Rattle.gen_query.specs.Words.{gen_of}
use Rattle.gen_query.specs.declared.GenAnswer.{GenAnswer}
use Rattle.gen_query.specs.declared.GenAnswer.TheVariants as generating
use Rattle.answer_text.specs.Lines.{IsSaid, line, statuses}
use Rattle.answer_text.specs.Words.{texts}
use Rattle.table_query.specs.Stops.{stop_status, stop_text}
use Rattle.table_query.specs.declared.stop.Stop.{Stop}
use Rattle.table_query.specs.declared.wanted.Wanted.TheVariants.{Groups}
use Rattle.table_query.proofs.Statuses.{is_status}
use Rattle.par_gather.specs.Answers.{IsLine, stop_of_gen}
use Rattle.par_gather.specs.Query.{OfGen}
use Rattle.par_gather.specs.Runs.{AnswersBy}
use Rattle.par_gather.proofs.Rows.{answered, failed, is_write_fault, never_read, said, stopped}
use Rattle.par_gather.proofs.forms.in_gen.Goals as goal

pub returns-in-Ok-clause-answers : goal.returns-in-Ok-clause-answers
returns-in-Ok-clause-answers g c = λ left.
    answered (gen_of (texts c.args.words.now)) left (g.O.Sink.taken c.args.out.now) (g.O.Sink.taken c.answer_generated.new.out) c.in-Ok.gathered (λ none. let e = c.in-Ok.ensures.no_words none in cc e) c.in-Ok.ensures.summary
    c.in-Ok.ensures.gathered

pub returns-in-Err-clause-statuses : goal.returns-in-Err-clause-statuses
returns-in-Err-clause-statuses g c = subst (Contains statuses) (sym c.end.ensures.status) (is_status c.stop_of.result)

pub returns-in-Err-clause-nothing : goal.returns-in-Err-clause-nothing
returns-in-Err-clause-nothing g c = λ _ writes.
    let status : c.end.result ≡ stop_status (stop_of_gen c.in-Err.why) = c.end.ensures.status ∙ ap stop_status c.stop_of.ensures in
    c.in-Err.ensures.nothing (λ e. writes (status ∙ ap (λ (w : GenAnswer). stop_status (stop_of_gen w)) e))

pub returns-in-Err-clause-no_read_fault : goal.returns-in-Err-clause-no_read_fault
returns-in-Err-clause-no_read_fault g c = λ is.
    let status : c.end.result ≡ stop_status (stop_of_gen c.in-Err.why) = c.end.ensures.status ∙ ap stop_status c.stop_of.ensures in
    never_read c.in-Err.why (sym status ∙ is)

pub returns-in-Err-clause-write_fault : goal.returns-in-Err-clause-write_fault
returns-in-Err-clause-write_fault g c = λ is.
    let status : c.end.result ≡ stop_status (stop_of_gen c.in-Err.why) = c.end.ensures.status ∙ ap stop_status c.stop_of.ensures in
    let fault : c.in-Err.why ≡ generating.WriteFault = is_write_fault c.in-Err.why (sym status ∙ is) in
    c.in-Err.ensures.write_fault (failed c.in-Err.why generating.WriteFault fault)

pub returns-in-Err-clause-answers : goal.returns-in-Err-clause-answers
returns-in-Err-clause-answers g c = λ left.
    let asked = gen_of (texts c.args.words.now) in
    let old = g.O.Sink.taken c.args.out.now in
    let new = g.O.Sink.taken c.answer_generated.new.out in
    let why = c.in-Err.why in
    let status : c.end.result ≡ stop_status (stop_of_gen why) = c.end.ensures.status ∙ ap stop_status c.stop_of.ensures in
    let P : ℕ → Type 0 = λ n. AnswersBy (OfGen asked) left n c.args.ran.now old new in
    subst P (sym status)
    (stopped asked left old new why c.args.ran.now (λ is. c.in-Err.ensures.usage (failed why generating.Usage is)) (λ none. let e = c.in-Err.ensures.no_words none in cc e) (λ is. c.in-Err.ensures.part (failed why generating.WriteFault is)))

pub returns-in-Err-clause-line : goal.returns-in-Err-clause-line
returns-in-Err-clause-line g c = λ _ left.
    let asked = gen_of (texts c.args.words.now) in
    let why = c.in-Err.why in
    let status : c.end.result ≡ stop_status (stop_of_gen why) = c.end.ensures.status ∙ ap stop_status c.stop_of.ensures in
    let P : ℕ → Type 0 = λ n. IsLine (OfGen asked) left n (line (stop_text Groups (stop_of_gen why))) in
    let Said : Stop → Type 0 = λ w. IsSaid (g.E.Sink.taken c.args.err.now) (g.E.Sink.taken c.end.new.err) (g.E.Sink.faults c.args.err.now) (g.E.Sink.faults c.end.new.err) (line (stop_text Groups w)) in
    (line (stop_text Groups (stop_of_gen why)), subst P (sym status) (said asked left why), subst Said c.stop_of.ensures c.end.ensures.said)
