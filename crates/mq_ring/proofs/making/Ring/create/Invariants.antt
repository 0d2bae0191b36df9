use Rattle.mq_ring.specs.Ends.{ring_of}
use Rattle.mq_ring.proofs.making.Ring.create.Given as goal

abbrev pub ghosts-part_ends : goal.ghosts-part_ends
ghosts-part_ends a = record { ring = ring_of a.site.base a.site.size a.from a.site.max }
