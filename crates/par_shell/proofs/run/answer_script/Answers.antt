use Rattle.std.proofs.Common.{inr}
use Rattle.par_shell.specs.Scripts.{pages_in, texts}
use Rattle.par_shell.proofs.RunLaws.{part-of, run-of}
use Rattle.par_shell.proofs.run.answer_script.Goals as goal

pub returns-in_err-answer_lines-clause-part : goal.returns-in_err-answer_lines-clause-part
returns-in_err-answer_lines-clause-part g c = λ _.
    inr (part-of (g.S.Source.left c.args.source.now) (pages_in (texts c.args.words.now)) c.in-Some.pages c.in_ok-script.script.items c.as_slice.result.now c.in_ok-shell.shell (g.O.Sink.taken c.args.out.now) (g.O.Sink.taken c.answer_lines.new.out)
    c.in_ok-script.ensures.whole c.in-Some.ensures.pages c.as_slice.ensures.value c.in_ok-shell.ensures.shell c.in_ok-shell.ensures.opens c.in_err-answer_lines.ensures.part)

pub returns-clause-answered : goal.returns-clause-answered
returns-clause-answered g c =
    run-of (g.S.Source.left c.args.source.now) (pages_in (texts c.args.words.now)) c.in-Some.pages c.in_ok-script.script.items c.as_slice.result.now c.in_ok-shell.shell c.answer_lines.new.shell (g.O.Sink.taken c.args.out.now) (g.O.Sink.taken c.answer_lines.new.out)
    c.in_ok-script.ensures.whole c.in-Some.ensures.pages c.as_slice.ensures.value c.in_ok-shell.ensures.shell c.in_ok-shell.ensures.opens c.in_ok-answer_lines.ensures.shell c.in_ok-answer_lines.ensures.answered
