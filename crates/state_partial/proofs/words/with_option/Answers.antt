use Rattle.std.proofs.Common.{◌∙◌, ap}
use Rattle.clap.specs.Words.{rule_of}
use Rattle.clap.specs.declared.builder.arg.Arg.{Arg}
use Rattle.plan_spec.proofs.Arguments.{adds, option_rule}
use Rattle.state_partial.proofs.words.with_option.Goals as goal

pub returns : goal.returns
returns c =
    let is = c.required.ensures ∙ ap (λ (a : Arg). record a { required = c.args.is_required }) c.long.ensures in
    adds c.args.command c.required.result _ c.arg.result (ap (λ (a : Arg). a.global) is ∙ c.new.ensures.optional.1) (ap rule_of is ∙ option_rule c.new.result c.args.name c.args.is_required c.new.ensures.rule) c.arg.ensures
