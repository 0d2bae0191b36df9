use Rattle.std.proofs.Common.{◌≡◌, IfOk, subst}
use Rattle.clap.specs.Words.{App, app_of}
use Rattle.plan_spec.specs.Options.{reading_command}
use Rattle.plan_spec.proofs.options.parstream.Goals as goal

pub returns : goal.returns
returns c = subst (λ (a : App). IfOk c.with_reading.result (λ app. app_of app ≡ reading_command a)) c.in_ok-asking.ensures c.with_reading.ensures
