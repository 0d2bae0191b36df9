-- What holds of the ends of a queue that came home.
use Rattle.std.specs.Prelude.{◌≡◌, true, length}
use Rattle.ring_rule.specs.Ring.{AreEnds}
use Rattle.mq_ring.specs.Ends.{EndsHome}

-- the rules of both ends, and a sender that is gone has published all that it put
pub record CameHome (d : EndsHome) : Type 0 where
  pub ends : AreEnds d.sender d.receiver
  pub flushed : d.sender.gone ≡ true → d.sender.published ≡ length d.sender.put
