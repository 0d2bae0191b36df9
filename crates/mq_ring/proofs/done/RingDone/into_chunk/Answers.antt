use Rattle.std.proofs.Common.{ap, ◌∙◌}
use Rattle.region_words.specs.Parts.{Owned}
use Rattle.mq_ring.specs.Ends.{tx_of, rx_of}
use Rattle.mq_ring.proofs.Makings.{chunk_just}
use Rattle.mq_ring.proofs.done.RingDone.into_chunk.Goals as goal

pub invariant_of-result : goal.invariant_of-result
invariant_of-result c =
    let s = tx_of c.self.inside.seat.me.0.view in
    let q = rx_of c.self.inside.seat.me.0.view in
    let whole = c.join.ensures.both ∙ ap (λ (o : Owned). Rattle.region_words.specs.Parts.owned o.region (Rattle.word_map.specs.WordMap.union o.words c.self.inside.site.rest.words)) c.ring_part-part.ensures in
    record {
      valid = rw c.of.ensures c.self.inside.site.valid;
      whole = c.self.inside.site.whole;
      just = chunk_just c.join.new.self _ s q c.self.inside.site.rest.words c.of.result c.self.inside.site.base c.self.inside.site.size c.self.inside.site.bytes
          c.self.invariant.ends.sender.counted c.self.invariant.lies.base_is c.self.invariant.lies.size_is c.of.ensures c.self.inside.site.room c.self.inside.site.behind whole;
    }
