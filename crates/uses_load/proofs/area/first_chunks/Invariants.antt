use Rattle.std.proofs.Common.{◌≡◌, All}
use Rattle.dsa_area.specs.Shown.{Belongs}
use Rattle.uses_load.proofs.area.first_chunks.Given as goal

abbrev pub invariant-loop : goal.invariant-loop
invariant-loop g l = record {
  own : Belongs l.area l.pass;
  here : All (λ c. c.part.region ≡ l.r) l.held.items;
}
