use Rattle.std.proofs.Common.{◌∙◌, Some, ap}
use Rattle.clap.specs.Words.{rule_of}
use Rattle.clap.specs.declared.builder.action.ArgAction.TheVariants.{SetTrue}
use Rattle.clap.specs.declared.builder.arg.Arg.{Arg}
use Rattle.plan_spec.proofs.Arguments.{action_rule, adds}
use Rattle.state_partial.proofs.words.with_flag.Goals as goal

pub returns : goal.returns
returns c =
    let is = c.action.ensures ∙ ap (λ (a : Arg). record a { action = Some SetTrue }) c.long.ensures in
    adds c.args.command c.action.result _ c.arg.result (ap (λ (a : Arg). a.global) is ∙ c.new.ensures.optional.1) (ap rule_of is ∙ action_rule c.new.result c.args.name SetTrue c.new.ensures.rule) c.arg.ensures
