use Rattle.std.proofs.Common.{◌≡◌, subst}
use Rattle.answer_text.specs.Lines.{IsSaid, line}
use Rattle.answer_text.specs.Words.{texts}
use Rattle.par_gather.specs.Query.{form_of, query_in, usage_of}
use Rattle.par_gather.specs.declared.form.Form.{Form}
use Rattle.par_gather.specs.declared.form.Form.TheVariants as form
use Rattle.par_gather.proofs.say_usage.Goals as goal

pub returns-in-Plan-clause-usage : goal.returns-in-Plan-clause-usage
returns-in-Plan-clause-usage g c =
    let words = texts c.args.words.now in
    let at : form.Plan ≡ form_of words = cc (c.form_of.ensures, c.in-Plan.is) in
    let P : Form → Type 0 = λ f. IsSaid (g.E.Sink.taken c.args.err.now) (g.E.Sink.taken c.end.new.err) (g.E.Sink.faults c.args.err.now) (g.E.Sink.faults c.end.new.err) (line (usage_of (query_in f words))) in
    subst P at c.end.ensures.said

pub returns-in-Merge-clause-usage : goal.returns-in-Merge-clause-usage
returns-in-Merge-clause-usage g c =
    let words = texts c.args.words.now in
    let at : form.Merge ≡ form_of words = cc (c.form_of.ensures, c.in-Merge.is) in
    let P : Form → Type 0 = λ f. IsSaid (g.E.Sink.taken c.args.err.now) (g.E.Sink.taken c.end-in-Merge.new.err) (g.E.Sink.faults c.args.err.now) (g.E.Sink.faults c.end-in-Merge.new.err) (line (usage_of (query_in f words))) in
    subst P at c.end-in-Merge.ensures.said

pub returns-in-Join-clause-usage : goal.returns-in-Join-clause-usage
returns-in-Join-clause-usage g c =
    let words = texts c.args.words.now in
    let at : form.Join ≡ form_of words = cc (c.form_of.ensures, c.in-Join.is) in
    let P : Form → Type 0 = λ f. IsSaid (g.E.Sink.taken c.args.err.now) (g.E.Sink.taken c.end-in-Join.new.err) (g.E.Sink.faults c.args.err.now) (g.E.Sink.faults c.end-in-Join.new.err) (line (usage_of (query_in f words))) in
    subst P at c.end-in-Join.ensures.said

pub returns-in-Gen-clause-usage : goal.returns-in-Gen-clause-usage
returns-in-Gen-clause-usage g c =
    let words = texts c.args.words.now in
    let at : form.Gen ≡ form_of words = cc (c.form_of.ensures, c.in-Gen.is) in
    let P : Form → Type 0 = λ f. IsSaid (g.E.Sink.taken c.args.err.now) (g.E.Sink.taken c.end-in-Gen.new.err) (g.E.Sink.faults c.args.err.now) (g.E.Sink.faults c.end-in-Gen.new.err) (line (usage_of (query_in f words))) in
    subst P at c.end-in-Gen.ensures.said
