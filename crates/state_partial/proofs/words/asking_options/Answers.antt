use Rattle.std.proofs.Common.{◌≡◌, ◌∙◌, IfOk, ap, codes, false, subst, true}
use Rattle.clap.specs.Words.{App, app_of, with_rule}
use Rattle.plan_spec.specs.Options.{option_of, repeated_of}
use Rattle.state_partial.proofs.words.asking_options.Goals as goal

pub returns : goal.returns
returns c =
    let one = c.in_ok-grouped.ensures ∙ ap (λ (a : App). with_rule a (option_of (codes "group") false)) c.bare_command-bare.ensures in
    let two = c.in_ok-summed.ensures ∙ ap (λ (a : App). with_rule a (option_of (codes "agg") true)) one in
    let three = c.in_ok-filtered.ensures ∙ ap (λ (a : App). with_rule a (repeated_of (codes "where"))) two in
    let four = c.in_ok-staffed.ensures ∙ ap (λ (a : App). with_rule a (option_of (codes "workers") false)) three in
    subst (λ (a : App). IfOk c.with_option-4.result (λ app. app_of app ≡ with_rule a (option_of (codes "decimals") false))) four c.with_option-4.ensures
