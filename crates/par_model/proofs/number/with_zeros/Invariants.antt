use Rattle.std.proofs.Common.{◌≡◌, ◌≤◌, ◌^◌}
use Rattle.std.specs.Prelude.{replicate}
use Rattle.std.specs.Str.Parse.{digits_value_after}
use Rattle.par_model.proofs.number.with_zeros.Given as goal

abbrev pub invariant-loop-zero : goal.invariant-loop-zero
invariant-loop-zero l = record {
  value : l.value ≡ digits_value_after 10 l.before (replicate l._zero 48);
  within : l.value ≤ 2 ^ 63;
}
