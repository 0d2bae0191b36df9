use Rattle.std.proofs.Common.{◌≡◌, ◌≢◌, ◌⊎◌, ℕ, List, IfSome, refl, subst}
use Rattle.answer_text.specs.Lines.{IsSaid}
use Rattle.answer_text.specs.Words.{texts}
use Rattle.answer_text.specs.declared.status.TheConstants.{NO_MEMORY, READ_FAULT, TABLE}
use Rattle.par_gather.specs.Answers.{Answers, IsLine, IsStatus}
use Rattle.par_gather.specs.Query.{ReadsNothing, form_of, input_of, query_in}
use Rattle.par_gather.specs.Runs.{IsMade}
use Rattle.par_gather.specs.declared.form.Form.{Form}
use Rattle.par_gather.specs.declared.form.Form.TheVariants as form
use Rattle.par_gather.proofs.Complete.{complete, misused}
use Rattle.par_gather.proofs.pargather.Goals as goal

pub returns-in-Plan-clause-answers : goal.returns-in-Plan-clause-answers
returns-in-Plan-clause-answers g c =
    let words = texts c.args.words.now in
    let left = g.S.Source.left c.args.source.now in
    let at : form.Plan ≡ form_of words = cc (c.form_of.ensures, c.in-Plan.is) in
    let P : Form → Type 0 = λ f. Answers (query_in f words) left c.in_plan.result (g.O.Sink.taken c.args.out.now) (g.O.Sink.taken c.in_plan.new.out) in
    subst P at c.in_plan.ensures.answers.answers

pub returns-in-Plan-clause-made : goal.returns-in-Plan-clause-made
returns-in-Plan-clause-made g c =
    let words = texts c.args.words.now in
    let left = g.S.Source.left c.args.source.now in
    let at : form.Plan ≡ form_of words = cc (c.form_of.ensures, c.in-Plan.is) in
    let P : Form → Type 0 = λ f. (c.in_plan.result ≡ TABLE) → IsMade (query_in f words) left c.in_plan.new.ran (g.O.Sink.taken c.args.out.now) (g.O.Sink.taken c.in_plan.new.out) in
    subst P at c.in_plan.ensures.answers.made

pub returns-in-Plan-clause-complete : goal.returns-in-Plan-clause-complete
returns-in-Plan-clause-complete g c = λ read write.
    let words = texts c.args.words.now in
    let left = g.S.Source.left c.args.source.now in
    let at : form.Plan ≡ form_of words = cc (c.form_of.ensures, c.in-Plan.is) in
    let P : Form → Type 0 = λ f. IfSome (input_of (query_in f words) left) (λ bytes. (c.in_plan.result ≡ NO_MEMORY) ⊎ IsStatus (query_in f words) bytes c.in_plan.result) in
    subst P at
    (complete (query_in form.Plan words) left c.in_plan.result (g.O.Sink.taken c.args.out.now) (g.O.Sink.taken c.in_plan.new.out) c.in_plan.ensures.answers.answers (λ e. read (c.in_plan.ensures.read_fault e)) (λ e. write (c.in_plan.ensures.write_fault e)))

pub returns-in-Plan-clause-line : goal.returns-in-Plan-clause-line
returns-in-Plan-clause-line g c =
    let words = texts c.args.words.now in
    let left = g.S.Source.left c.args.source.now in
    let at : form.Plan ≡ form_of words = cc (c.form_of.ensures, c.in-Plan.is) in
    let P : Form → Type 0 = λ f. (c.in_plan.result ≢ TABLE) → (said : List ℕ) × IsLine (query_in f words) left c.in_plan.result said
    × IsSaid (g.E.Sink.taken c.args.err.now) (g.E.Sink.taken c.in_plan.new.err) (g.E.Sink.faults c.args.err.now) (g.E.Sink.faults c.in_plan.new.err) said in
    subst P at c.in_plan.ensures.line

pub returns-in-Plan-clause-unread : goal.returns-in-Plan-clause-unread
returns-in-Plan-clause-unread g c =
    let words = texts c.args.words.now in
    let at : form.Plan ≡ form_of words = cc (c.form_of.ensures, c.in-Plan.is) in
    let P : Form → Type 0 = λ f. ReadsNothing (query_in f words) → (c.in_plan.new.source ≡ c.args.source.now) × (c.in_plan.result ≢ READ_FAULT) in
    subst P at (λ none. (c.in_plan.ensures.unread none, misused (query_in form.Plan words) c.in_plan.result (c.in_plan.ensures.answers.answers.misuse none)))

pub returns-in-Merge-clause-answers : goal.returns-in-Merge-clause-answers
returns-in-Merge-clause-answers g c =
    let words = texts c.args.words.now in
    let left = g.S.Source.left c.args.source.now in
    let at : form.Merge ≡ form_of words = cc (c.form_of.ensures, c.in-Merge.is) in
    let P : Form → Type 0 = λ f. Answers (query_in f words) left c.in_merge.result (g.O.Sink.taken c.args.out.now) (g.O.Sink.taken c.in_merge.new.out) in
    subst P at c.in_merge.ensures.answers.answers

pub returns-in-Merge-clause-made : goal.returns-in-Merge-clause-made
returns-in-Merge-clause-made g c =
    let words = texts c.args.words.now in
    let left = g.S.Source.left c.args.source.now in
    let at : form.Merge ≡ form_of words = cc (c.form_of.ensures, c.in-Merge.is) in
    let P : Form → Type 0 = λ f. (c.in_merge.result ≡ TABLE) → IsMade (query_in f words) left c.in_merge.new.ran (g.O.Sink.taken c.args.out.now) (g.O.Sink.taken c.in_merge.new.out) in
    subst P at c.in_merge.ensures.answers.made

pub returns-in-Merge-clause-complete : goal.returns-in-Merge-clause-complete
returns-in-Merge-clause-complete g c = λ read write.
    let words = texts c.args.words.now in
    let left = g.S.Source.left c.args.source.now in
    let at : form.Merge ≡ form_of words = cc (c.form_of.ensures, c.in-Merge.is) in
    let P : Form → Type 0 = λ f. IfSome (input_of (query_in f words) left) (λ bytes. (c.in_merge.result ≡ NO_MEMORY) ⊎ IsStatus (query_in f words) bytes c.in_merge.result) in
    subst P at
    (complete (query_in form.Merge words) left c.in_merge.result (g.O.Sink.taken c.args.out.now) (g.O.Sink.taken c.in_merge.new.out) c.in_merge.ensures.answers.answers (λ e. read (c.in_merge.ensures.read_fault e)) (λ e. write (c.in_merge.ensures.write_fault e)))

pub returns-in-Merge-clause-line : goal.returns-in-Merge-clause-line
returns-in-Merge-clause-line g c =
    let words = texts c.args.words.now in
    let left = g.S.Source.left c.args.source.now in
    let at : form.Merge ≡ form_of words = cc (c.form_of.ensures, c.in-Merge.is) in
    let P : Form → Type 0 = λ f. (c.in_merge.result ≢ TABLE) → (said : List ℕ) × IsLine (query_in f words) left c.in_merge.result said
    × IsSaid (g.E.Sink.taken c.args.err.now) (g.E.Sink.taken c.in_merge.new.err) (g.E.Sink.faults c.args.err.now) (g.E.Sink.faults c.in_merge.new.err) said in
    subst P at c.in_merge.ensures.line

pub returns-in-Merge-clause-unread : goal.returns-in-Merge-clause-unread
returns-in-Merge-clause-unread g c =
    let words = texts c.args.words.now in
    let at : form.Merge ≡ form_of words = cc (c.form_of.ensures, c.in-Merge.is) in
    let P : Form → Type 0 = λ f. ReadsNothing (query_in f words) → (c.in_merge.new.source ≡ c.args.source.now) × (c.in_merge.result ≢ READ_FAULT) in
    subst P at (λ none. (c.in_merge.ensures.unread none, misused (query_in form.Merge words) c.in_merge.result (c.in_merge.ensures.answers.answers.misuse none)))

pub returns-in-Join-clause-answers : goal.returns-in-Join-clause-answers
returns-in-Join-clause-answers g c =
    let words = texts c.args.words.now in
    let left = g.S.Source.left c.args.source.now in
    let at : form.Join ≡ form_of words = cc (c.form_of.ensures, c.in-Join.is) in
    let P : Form → Type 0 = λ f. Answers (query_in f words) left c.in_join.result (g.O.Sink.taken c.args.out.now) (g.O.Sink.taken c.in_join.new.out) in
    subst P at c.in_join.ensures.answers.answers

pub returns-in-Join-clause-made : goal.returns-in-Join-clause-made
returns-in-Join-clause-made g c =
    let words = texts c.args.words.now in
    let left = g.S.Source.left c.args.source.now in
    let at : form.Join ≡ form_of words = cc (c.form_of.ensures, c.in-Join.is) in
    let P : Form → Type 0 = λ f. (c.in_join.result ≡ TABLE) → IsMade (query_in f words) left c.in_join.new.ran (g.O.Sink.taken c.args.out.now) (g.O.Sink.taken c.in_join.new.out) in
    subst P at c.in_join.ensures.answers.made

pub returns-in-Join-clause-complete : goal.returns-in-Join-clause-complete
returns-in-Join-clause-complete g c = λ read write.
    let words = texts c.args.words.now in
    let left = g.S.Source.left c.args.source.now in
    let at : form.Join ≡ form_of words = cc (c.form_of.ensures, c.in-Join.is) in
    let P : Form → Type 0 = λ f. IfSome (input_of (query_in f words) left) (λ bytes. (c.in_join.result ≡ NO_MEMORY) ⊎ IsStatus (query_in f words) bytes c.in_join.result) in
    subst P at
    (complete (query_in form.Join words) left c.in_join.result (g.O.Sink.taken c.args.out.now) (g.O.Sink.taken c.in_join.new.out) c.in_join.ensures.answers.answers (λ e. read (c.in_join.ensures.read_fault e)) (λ e. write (c.in_join.ensures.write_fault e)))

pub returns-in-Join-clause-line : goal.returns-in-Join-clause-line
returns-in-Join-clause-line g c =
    let words = texts c.args.words.now in
    let left = g.S.Source.left c.args.source.now in
    let at : form.Join ≡ form_of words = cc (c.form_of.ensures, c.in-Join.is) in
    let P : Form → Type 0 = λ f. (c.in_join.result ≢ TABLE) → (said : List ℕ) × IsLine (query_in f words) left c.in_join.result said
    × IsSaid (g.E.Sink.taken c.args.err.now) (g.E.Sink.taken c.in_join.new.err) (g.E.Sink.faults c.args.err.now) (g.E.Sink.faults c.in_join.new.err) said in
    subst P at c.in_join.ensures.line

pub returns-in-Join-clause-unread : goal.returns-in-Join-clause-unread
returns-in-Join-clause-unread g c =
    let words = texts c.args.words.now in
    let at : form.Join ≡ form_of words = cc (c.form_of.ensures, c.in-Join.is) in
    let P : Form → Type 0 = λ f. ReadsNothing (query_in f words) → (c.in_join.new.source ≡ c.args.source.now) × (c.in_join.result ≢ READ_FAULT) in
    subst P at (λ none. (c.in_join.ensures.unread none, misused (query_in form.Join words) c.in_join.result (c.in_join.ensures.answers.answers.misuse none)))

pub returns-in-Gen-clause-answers : goal.returns-in-Gen-clause-answers
returns-in-Gen-clause-answers g c =
    let words = texts c.args.words.now in
    let left = g.S.Source.left c.args.source.now in
    let at : form.Gen ≡ form_of words = cc (c.form_of.ensures, c.in-Gen.is) in
    let P : Form → Type 0 = λ f. Answers (query_in f words) left c.in_gen.result (g.O.Sink.taken c.args.out.now) (g.O.Sink.taken c.in_gen.new.out) in
    subst P at (c.in_gen.ensures.answers left).answers

pub returns-in-Gen-clause-made : goal.returns-in-Gen-clause-made
returns-in-Gen-clause-made g c =
    let words = texts c.args.words.now in
    let left = g.S.Source.left c.args.source.now in
    let at : form.Gen ≡ form_of words = cc (c.form_of.ensures, c.in-Gen.is) in
    let P : Form → Type 0 = λ f. (c.in_gen.result ≡ TABLE) → IsMade (query_in f words) left c.in_gen.new.ran (g.O.Sink.taken c.args.out.now) (g.O.Sink.taken c.in_gen.new.out) in
    subst P at (c.in_gen.ensures.answers left).made

pub returns-in-Gen-clause-complete : goal.returns-in-Gen-clause-complete
returns-in-Gen-clause-complete g c = λ read write.
    let words = texts c.args.words.now in
    let left = g.S.Source.left c.args.source.now in
    let at : form.Gen ≡ form_of words = cc (c.form_of.ensures, c.in-Gen.is) in
    let P : Form → Type 0 = λ f. IfSome (input_of (query_in f words) left) (λ bytes. (c.in_gen.result ≡ NO_MEMORY) ⊎ IsStatus (query_in f words) bytes c.in_gen.result) in
    subst P at
    (complete (query_in form.Gen words) left c.in_gen.result (g.O.Sink.taken c.args.out.now) (g.O.Sink.taken c.in_gen.new.out) (c.in_gen.ensures.answers left).answers c.in_gen.ensures.no_read_fault (λ e. write (c.in_gen.ensures.write_fault e)))

pub returns-in-Gen-clause-line : goal.returns-in-Gen-clause-line
returns-in-Gen-clause-line g c =
    let words = texts c.args.words.now in
    let left = g.S.Source.left c.args.source.now in
    let at : form.Gen ≡ form_of words = cc (c.form_of.ensures, c.in-Gen.is) in
    let P : Form → Type 0 = λ f. (c.in_gen.result ≢ TABLE) → (said : List ℕ) × IsLine (query_in f words) left c.in_gen.result said
    × IsSaid (g.E.Sink.taken c.args.err.now) (g.E.Sink.taken c.in_gen.new.err) (g.E.Sink.faults c.args.err.now) (g.E.Sink.faults c.in_gen.new.err) said in
    subst P at (λ failed. c.in_gen.ensures.line failed left)

pub returns-in-Gen-clause-unread : goal.returns-in-Gen-clause-unread
returns-in-Gen-clause-unread g c = λ _. (refl, c.in_gen.ensures.no_read_fault)
