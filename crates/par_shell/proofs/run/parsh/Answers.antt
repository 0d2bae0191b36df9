use Rattle.std.proofs.Common.{◌≡◌, inl, inr, refl}
use Rattle.par_shell.specs.Scripts.{pages_in, texts}
use Rattle.par_shell.specs.declared.stop.Stop.TheVariants.{TooLong}
use Rattle.par_shell.proofs.StopLaws.{if-some, is-long, is-memory, is-status, none-is, one-of}
use Rattle.par_shell.proofs.run.parsh.Goals as goal

pub returns-in-Ok-clause-answered : goal.returns-in-Ok-clause-answered
returns-in-Ok-clause-answered g c = λ _.
    if-some (g.S.Source.left c.args.source.now) _ _ (λ script. if-some (pages_in (texts c.args.words.now)) _ _ (λ pages x. (x.0, c.in-Ok.shell, refl, x.1, x.2, x.3))) c.in-Ok.ensures.answered

pub returns-in-Err-clause-statuses : goal.returns-in-Err-clause-statuses
returns-in-Err-clause-statuses g c = is-status c.in-Err.stop c.end.result c.end.ensures.status

pub returns-in-Err-clause-complete : goal.returns-in-Err-clause-complete
returns-in-Err-clause-complete g c = λ read write pages.
    is-memory c.in-Err.stop (g.S.Source.left c.args.source.now) (g.S.Source.left c.answer_script.new.source)
    (λ e. pages (none-is (pages_in (texts c.args.words.now)) (c.in-Err.ensures.usage (cc e))))
    (λ e. read (c.in-Err.ensures.read_fault (cc e)))
    (λ e. write (c.in-Err.ensures.write_fault (cc e)))
    (λ e. c.in-Err.ensures.too_long (cc e))
    c.end.result
    c.end.ensures.status

pub returns-in-Err-clause-too_large : goal.returns-in-Err-clause-too_large
returns-in-Err-clause-too_large g c = λ t.
    let e : c.in-Err.stop ≡ TooLong = is-long c.in-Err.stop c.end.result c.end.ensures.status t in
    c.in-Err.ensures.too_long (cc e)

pub returns-in-Err-clause-nothing : goal.returns-in-Err-clause-nothing
returns-in-Err-clause-nothing g c = λ t.
    one-of c.in-Err.stop c.end.result _ c.end.ensures.status
    (λ e. c.in-Err.ensures.nothing (inl (cc e)))
    (λ e. c.in-Err.ensures.nothing (inr (inl (cc e))))
    (λ e. c.in-Err.ensures.nothing (inr (inr (cc e))))
    t
