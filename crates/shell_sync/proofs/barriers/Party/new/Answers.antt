use Rattle.std.proofs.Common.{[], refl}
use Rattle.shell_sync.proofs.barriers.Party.new.Goals as goal

pub returns-clause-party : goal.returns-clause-party
returns-clause-party c =
    let s = c.in_ok-barrier.ensures in
    record { all = s.passes; seen = ([], λ k p e. (s.fresh k p e).0, refl) }
