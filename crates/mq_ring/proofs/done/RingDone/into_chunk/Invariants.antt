use Rattle.mq_ring.proofs.done.RingDone.into_chunk.Given as goal

abbrev pub ghosts-ring_part : goal.ghosts-ring_part
ghosts-ring_part a = record { from = a.base; len = 3 }
