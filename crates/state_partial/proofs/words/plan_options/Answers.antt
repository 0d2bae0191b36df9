use Rattle.std.proofs.Common.{◌≡◌, IfOk, subst}
use Rattle.clap.specs.Words.{App, app_of}
use Rattle.plan_spec.specs.Options.{reading_command}
use Rattle.state_partial.proofs.words.plan_options.Goals as goal

pub returns : goal.returns
returns c = subst (λ (a : App). IfOk c.with_reading_options.result (λ app. app_of app ≡ reading_command a)) c.in_ok-asking.ensures c.with_reading_options.ensures
