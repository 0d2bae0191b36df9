use Rattle.std.proofs.Common.{◌∙◌, ap}
use Rattle.clap.specs.Simple.{app_of_fields}
use Rattle.plan_spec.specs.Options.{bare}
use Rattle.state_partial.proofs.words.bare_command.Goals as goal

pub returns : goal.returns
returns c = ap app_of_fields c.no_binary_name.ensures ∙ ap bare c.new.ensures.app
