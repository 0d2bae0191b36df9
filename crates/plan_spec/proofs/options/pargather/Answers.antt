use Rattle.std.proofs.Common.{◌≡◌, ◌∙◌, IfOk, ap, codes, false, subst, true}
use Rattle.clap.specs.Words.{App, app_of, with_rule}
use Rattle.plan_spec.specs.Options.{option_of}
use Rattle.plan_spec.proofs.options.pargather.Goals as goal

pub returns : goal.returns
returns c =
    let one = c.in_ok-grouped.ensures ∙ ap (λ (a : App). with_rule a (option_of (codes "group") false)) c.bare_command-bare.ensures in
    let two = c.in_ok-summed.ensures ∙ ap (λ (a : App). with_rule a (option_of (codes "agg") true)) one in
    let three = c.in_ok-filtered.ensures ∙ ap (λ (a : App). with_rule a (option_of (codes "where") false)) two in
    let four = c.in_ok-staffed.ensures ∙ ap (λ (a : App). with_rule a (option_of (codes "workers") false)) three in
    let five = c.in_ok-planned.ensures ∙ ap (λ (a : App). with_rule a (option_of (codes "plan") false)) four in
    subst (λ (a : App). IfOk c.with_option-6.result (λ app. app_of app ≡ with_rule a (option_of (codes "area-pages") false))) five c.with_option-6.ensures
