use Rattle.std.proofs.Common.{◌≡◌, ◌∙◌, Option, IfSome, ap, subst, true}
use Rattle.std.proofs.lemmas.Result.{IfOk-weaker}
use Rattle.answer_text.specs.Words.{texts}
use Rattle.clap.specs.Words.{App, app_of, found_of, is_simple_and_free, matches_of, rows_of}
use Rattle.clap.specs.declared.parser.matches.ArgMatches.{ArgMatches}
use Rattle.plan_spec.specs.Options.{is_command_line}
use Rattle.plan_spec.proofs.Parsed.{refused_by, taken_by}
use Rattle.state_partial.specs.Words.{asked_by_rows, partial_command}
use Rattle.state_partial.proofs.Commands.{asked_none, asked_some, partial_is_free}
use Rattle.state_partial.proofs.words.given_values.Goals as goal

pub matches_in-requires : goal.matches_in-requires
matches_in-requires c = ap is_simple_and_free c.in_ok-command.ensures ∙ partial_is_free

pub returns-in-Some : goal.returns-in-Some
returns-in-Some c =
    let words = texts c.args.words.now in
    let app = app_of c.in_ok-command.command in
    let takes = subst (λ (o : Option ArgMatches). IfSome o (λ _. is_command_line app words ≡ true)) c.in-Some.is c.in_ok-found.ensures.takes in
    let rows = subst (λ (o : Option ArgMatches). IfSome o (λ m. rows_of (found_of m) ≡ matches_of app words)) c.in-Some.is c.in_ok-found.ensures.rows in
    let all = ap asked_by_rows (rows ∙ ap (λ (a : App). matches_of a words) c.in_ok-command.ensures) ∙ asked_some words (taken_by app partial_command words c.in_ok-command.ensures takes) in
    IfOk-weaker c.values_in.result _ _ (λ found is. is ∙ all) c.values_in.ensures

pub returns-in-None : goal.returns-in-None
returns-in-None c = asked_none (texts c.args.words.now) (refused_by (app_of c.in_ok-command.command) partial_command _ c.in_ok-command.ensures (c.in_ok-found.ensures.refuses c.in-None.is))
