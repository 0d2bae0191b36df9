use Rattle.answer_text.specs.Words.{texts}
use Rattle.state_forms.proofs.Whys.{of_range}
use Rattle.state_forms.proofs.forms.run_form.Goals as goal

pub returns-in-Range-clause-why : goal.returns-in-Range-clause-why
returns-in-Range-clause-why g c = λ _ not_written.
    let w = c.finalize_range.ensures.why not_written in
    (w.0, of_range (g.S.Source.left c.args.source.now) c.args.form (texts c.args.words.now) c.range_of.result.above.now c.range_of.result.below.now w.0 c.in-Range.is c.range_of.ensures.above c.range_of.ensures.below w.1, w.2, w.3)
