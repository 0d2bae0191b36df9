use Rattle.std.proofs.Common.{◌≡◌, ◌∙◌, [], ◌∷◌, ◌++◌, List, ℕ, ap, refl, subst, sym, take, arith, rules}
use Rattle.std.proofs.lemmas.Result.{IfOk-weaker}
use Rattle.std.specs.Io.KnownBytes.{Appends}
use Rattle.par_shell.proofs.RunLaws.{SoFar, ends, err-weaker, goes-on, halts, on-err, sends-or-not, starts, stops}
use Rattle.par_shell.proofs.run.answer_lines.Goals as goal

pub lines-init : goal.lines-init
lines-init g c =
    let taken = g.O.Sink.taken c.args.out.now in
    record {
      so_far = subst (λ (l : List ℕ). SoFar c.args.shell.now c.args.script.now c.args.shell.now c.args.script.now taken taken l) (sym c.new-answers.ensures.items) (starts c.args.shell.now c.args.script.now taken);
      shell = c.requires.shell;
      faults = omega arith;
    }

pub lines-preserved : goal.lines-preserved
lines-preserved g c =
    let inv = c.lines.invariant in
    let first = c.args.shell.now in
    let script = c.args.script.now in
    let old = g.O.Sink.taken c.args.out.now in
    let next = c.line.new.self in
    let step = goes-on first script _ next _ c.in-Some.rest.now _ _ _ c.in-Some.line.now c.in_ok-answer.answer.items inv.so_far c.in-Some.ensures.line c.in_ok-answer.ensures.answer in
    let pushed = c.in_ok-push_line.ensures ∙ ap (λ (l : List ℕ). c.lines.answers.items ++ (l ++ 10 ∷ [])) c.as_slice.ensures.value in
    let gathered = subst (λ (l : List ℕ). SoFar first script next c.in-Some.rest.now old (g.O.Sink.taken c.lines.out) l) (sym pushed) step in
    record {
      so_far = sends-or-not g.O.Sink.taken first script next c.in-Some.rest.now old c.lines.out c.write_full.new.out c.push_line.new.answers.items c.write_full.new.answers.items gathered c.in_ok-write_full.ensures.whole;
      shell = c.in_ok-answer.ensures.shell;
      faults = omega (arith, inv.faults, c.in_ok-write_full.ensures.faults);
    }

pub returns-in_err-answer-clause-part : goal.returns-in_err-answer-clause-part
returns-in_err-answer-clause-part g c = on-err _ _ (halts c.args.shell.now c.args.script.now _ _ _ _ _ c.lines.invariant.so_far)

pub returns-in_err-push_line-clause-part : goal.returns-in_err-push_line-clause-part
returns-in_err-push_line-clause-part g c = on-err _ _ (halts c.args.shell.now c.args.script.now _ _ _ _ _ c.lines.invariant.so_far)

pub returns-in_err-write_full-clause-part : goal.returns-in_err-write_full-clause-part
returns-in_err-write_full-clause-part g c =
    let inv = c.lines.invariant in
    let first = c.args.shell.now in
    let script = c.args.script.now in
    let old = g.O.Sink.taken c.args.out.now in
    let next = c.line.new.self in
    let step = goes-on first script _ next _ c.in-Some.rest.now _ _ _ c.in-Some.line.now c.in_ok-answer.answer.items inv.so_far c.in-Some.ensures.line c.in_ok-answer.ensures.answer in
    let pushed = c.in_ok-push_line.ensures ∙ ap (λ (l : List ℕ). c.lines.answers.items ++ (l ++ 10 ∷ [])) c.as_slice.ensures.value in
    let gathered = subst (λ (l : List ℕ). SoFar first script next c.in-Some.rest.now old (g.O.Sink.taken c.lines.out) l) (sym pushed) step in
    let prefix = c.in_err-write_full.ensures.prefix in
    on-err _ _ (stops first script _ _ _ _ (g.O.Sink.taken c.write_full.new.out) _ prefix.0 gathered prefix.1)

pub returns-clause-answered : goal.returns-clause-answered
returns-clause-answered g c =
    let inv = c.lines.invariant in
    let now = g.O.Sink.taken c.lines.out in
    let then = g.O.Sink.taken c.write.new.out in
    IfOk-weaker c.write.result _ _ (λ _ a. ends c.args.shell.now c.args.script.now _ _ _ _ then _ inv.so_far c.in_default.ensures.none (subst (λ (l : List ℕ). Appends now then l) c.as_slice-gathered.ensures.value a)) c.write.ensures.whole

pub returns-clause-part : goal.returns-clause-part
returns-clause-part g c =
    let inv = c.lines.invariant in
    let now = g.O.Sink.taken c.lines.out in
    let then = g.O.Sink.taken c.write.new.out in
    err-weaker c.write.result _ _ (λ p. stops c.args.shell.now c.args.script.now _ _ _ _ then _ p.0 inv.so_far (subst (λ (l : List ℕ). Appends now then (take p.0 l)) c.as_slice-gathered.ensures.value p.1)) c.write.ensures.prefix
