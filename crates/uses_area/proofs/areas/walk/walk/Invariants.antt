use Rattle.std.proofs.Common.{◌≡◌, ◌≤◌, All}
use Rattle.region_words.specs.declared.chunk.Chunk.{Chunk}
use Rattle.dsa_area.specs.Shown.{Belongs}
use Rattle.uses_area.proofs.areas.walk.walk.Given as goal

abbrev pub invariant-loop-i : goal.invariant-loop-i
invariant-loop-i g l = record {
  own : Belongs l.area l.pass;
  held : All (λ (x : Chunk). (x.part.region ≡ l.r) × (8 ≤ x.bytes)) l.held.items;
}
