use Rattle.std.proofs.Common.{◌≡◌, ◌^◌}
use Rattle.result_text.proofs.decimal.power_of_ten.Given as goal

abbrev pub invariant-loop-step : goal.invariant-loop-step
invariant-loop-step l = l.power ≡ 10 ^ l._step
