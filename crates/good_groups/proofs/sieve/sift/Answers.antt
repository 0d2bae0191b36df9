use Rattle.std.proofs.Common.{rules}
use Rattle.good_groups.proofs.Steps.{sifts_then}
use Rattle.good_groups.proofs.sieve.sift.Goals as goal

pub lines-init : goal.lines-init
lines-init c = record { ready = c.leap.ensures.ready; sifts = c.leap.ensures.sifts }

pub lines-preserved : goal.lines-preserved
lines-preserved c = record {
  ready = c.in_ok-step.ensures.ready;
  sifts = sifts_then c.args.rules.now c.args.sifter.now c.lines.sifter c.step.new.self c.lines.invariant.sifts c.in_ok-step.ensures.sifts;
}

pub returns-in_err-step-clause-many : goal.returns-in_err-step-clause-many
returns-in_err-step-clause-many c = λ e o left are is_open. c.in_err-step.ensures.many (search rules) o left are (c.lines.invariant.sifts.counts o left are is_open)
