use Rattle.std.proofs.Common.{◌≡◌, ◌∙◌, IfOk, ap, codes, false, subst}
use Rattle.clap.specs.Words.{App, app_of, with_rule}
use Rattle.plan_spec.specs.Options.{flag_of, option_of}
use Rattle.state_partial.proofs.words.with_reading_options.Goals as goal

pub returns : goal.returns
returns c =
    let two = c.in_ok-emptied.ensures ∙ ap (λ (a : App). with_rule a (option_of (codes "null") false)) c.in_ok-parted.ensures in
    subst (λ (a : App). IfOk c.with_flag.result (λ app. app_of app ≡ with_rule a (flag_of (codes "trim")))) two c.with_flag.ensures
