use Rattle.std.proofs.Common.{◌≡◌, Bool, false, true}
use Rattle.clap.specs.Words.{app_of}
use Rattle.plan_spec.proofs.Parsed.{matches_are, refused, taken}
use Rattle.state_partial.proofs.words.matches_in.Goals as goal

not_both : (b : Bool) → b ≡ true → b ≡ false → ⊥
not_both b e f = cc

pub returns-in-Ok-clause-takes : goal.returns-in-Ok-clause-takes
returns-in-Ok-clause-takes c = taken (app_of c.args.command) _ (c.in-Ok.ensures.kinds c.requires)

pub returns-in-Ok-clause-rows : goal.returns-in-Ok-clause-rows
returns-in-Ok-clause-rows c = matches_are (app_of c.args.command) _ c.in-Ok.matches c.requires c.in-Ok.ensures.matches

pub returns-clause-refuses : goal.returns-clause-refuses
returns-clause-refuses c = λ _.
    refused (app_of c.args.command) _ c.in-Err.error (c.in-Err.ensures.kinds c.requires)
    (λ m. let same : c.eq.result ≡ true = rw (c.kind.ensures, m) at c.eq.ensures in not_both c.eq.result same c.if-eq.false)
