use Rattle.answer_text.specs.Words.{texts}
use Rattle.join_query.specs.Words.{join_of}
use Rattle.par_gather.proofs.Joins.{answered, said, stopped}
use Rattle.par_gather.proofs.forms.in_join.Goals as goal

pub returns-in-Ok-clause-answers : goal.returns-in-Ok-clause-answers
returns-in-Ok-clause-answers g c =
    answered (join_of (texts c.args.words.now)) (g.S.Source.left c.args.source.now) (g.O.Sink.taken c.args.out.now) (g.O.Sink.taken c.join_tables.new.out) c.in-Ok.joined c.in-Ok.ensures.outcome c.in-Ok.ensures.no_words c.in-Ok.ensures.records
    c.in-Ok.ensures.joined

pub returns-in-Err-clause-answers : goal.returns-in-Err-clause-answers
returns-in-Err-clause-answers g c =
    stopped (join_of (texts c.args.words.now)) (g.S.Source.left c.args.source.now) (g.O.Sink.taken c.args.out.now) (g.O.Sink.taken c.join_tables.new.out) c.in-Err.status c.args.ran.now c.in-Err.ensures.failed c.in-Err.ensures.outcome
    c.in-Err.ensures.no_words c.in-Err.ensures.part

pub returns-in-Err-clause-line : goal.returns-in-Err-clause-line
returns-in-Err-clause-line g c = λ _.
    let told = c.in-Err.ensures.line in
    (told.0, said (join_of (texts c.args.words.now)) (g.S.Source.left c.args.source.now) c.in-Err.status told.0 told.1, told.2)
