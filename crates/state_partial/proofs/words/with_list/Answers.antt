use Rattle.std.proofs.Common.{◌∙◌, Some, ap}
use Rattle.clap.specs.Words.{rule_of}
use Rattle.clap.specs.declared.builder.action.ArgAction.TheVariants.{Append}
use Rattle.clap.specs.declared.builder.arg.Arg.{Arg}
use Rattle.plan_spec.proofs.Arguments.{action_rule, adds}
use Rattle.state_partial.proofs.words.with_list.Goals as goal

pub returns : goal.returns
returns c =
    let is = c.action.ensures ∙ ap (λ (a : Arg). record a { action = Some Append }) c.long.ensures in
    adds c.args.command c.action.result _ c.arg.result (ap (λ (a : Arg). a.global) is ∙ c.new.ensures.optional.1) (ap rule_of is ∙ action_rule c.new.result c.args.name Append c.new.ensures.rule) c.arg.ensures
