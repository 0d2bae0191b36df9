use Rattle.std.proofs.Common.{◌≡◌, ◌≤◌, All}
use Rattle.std.specs.Prelude.{vec_len}
use Rattle.dsa_area.specs.Shown.{Belongs}
use Rattle.uses_load.proofs.area.exchanges.Given as goal

abbrev pub invariant-loop-number : goal.invariant-loop-number
invariant-loop-number g l = record {
  own : Belongs l.area l.pass;
  long : 100 ≤ vec_len l.held;
  here : All (λ c. c.part.region ≡ l.r) l.held.items;
  few : l.good ≤ l.number;
}
