use Rattle.std.proofs.Common.{◌≡◌, ◌*◌, length, take}
use Rattle.partial_agg.specs.Lanes.{states_in}
use Rattle.partial_agg.proofs.states.relaid.Given as goal

abbrev pub invariant-loop-at : goal.invariant-loop-at
invariant-loop-at l = record {
  whole : length l.relaid.items ≡ l.at * l.new.width;
  same : states_in l.new (take l.at l.rows) l.relaid.items ≡ take l.at (states_in l.old l.rows l.lanes);
}
