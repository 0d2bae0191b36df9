-- What a worker holds stays its own.
use Rattle.std.proofs.Common.{◌≡◌, ℕ, refl, ap, ◌∙◌}
use Rattle.mq_ring.specs.Ends.{SendingEnd}
use Rattle.scan_claim.specs.declared.claims.ClaimSeat.{ClaimSeat}
use Rattle.worker_run.specs.Job.{AreFreshHands, AreHands, KeepsHands}
use Rattle.worker_run.specs.declared.job.Job.{Job}

one_end : (a b c : SendingEnd) → b ≡ record a { end = b.end } → c ≡ record b { end = c.end } → c ≡ record a { end = c.end }
one_end a b c e f = f ∙ ap (λ (s : SendingEnd). record s { end = c.end }) e

module _ {G : Type 0} (job : Job G) where
  pub keeps_fresh : (longest : ℕ) (claim : ClaimSeat) (errors tuples : SendingEnd) → AreFreshHands job longest claim errors tuples → KeepsHands job claim errors tuples claim errors tuples
  keeps_fresh longest claim errors tuples h = record {
    seat = h.hands.seat;
    number = refl;
    errors_kept = refl;
    tuples_kept = refl;
    queues = record { errors_ring = refl; errors_stays = h.errors_fresh.stays; tuples_ring = refl; tuples_stays = h.tuples_fresh.stays };
  }

  pub keeps_through : (claim claim' claim'' : ClaimSeat) (errors errors' errors'' tuples tuples' tuples'' : SendingEnd) → KeepsHands job claim errors tuples claim' errors' tuples' → KeepsHands job claim' errors' tuples' claim'' errors'' tuples''
      → KeepsHands job claim errors tuples claim'' errors'' tuples''
  keeps_through claim claim' claim'' errors errors' errors'' tuples tuples' tuples'' a b = record {
    seat = b.seat;
    number = b.number ∙ a.number;
    errors_kept = one_end errors errors' errors'' a.errors_kept b.errors_kept;
    tuples_kept = one_end tuples tuples' tuples'' a.tuples_kept b.tuples_kept;
    queues = record {
      errors_ring = b.queues.errors_ring ∙ a.queues.errors_ring;
      errors_stays = b.queues.errors_stays;
      tuples_ring = b.queues.tuples_ring ∙ a.queues.tuples_ring;
      tuples_stays = b.queues.tuples_stays;
    };
  }

  pub hands_then : (claim claim' : ClaimSeat) (errors errors' tuples tuples' : SendingEnd) → AreHands job claim errors tuples → KeepsHands job claim errors tuples claim' errors' tuples' → AreHands job claim' errors' tuples'
  hands_then claim claim' errors errors' tuples tuples' h k = record {
    seat = k.seat;
    errors_here = ap (λ (s : SendingEnd). s.region) k.errors_kept ∙ h.errors_here;
    tuples_here = ap (λ (s : SendingEnd). s.region) k.tuples_kept ∙ h.tuples_here;
  }
