use Rattle.std.proofs.Common.{List, ℕ, Some, subst}
use Rattle.par_barrier.specs.Parties.{nobody}
use Rattle.par_barrier.specs.declared.history.BarrierState.{BarrierState}
use Rattle.shell_memory.proofs.Named.{all_after, not-there}
use Rattle.shell_sync.specs.Barriers.{IsParty}
use Rattle.shell_memory.specs.Names.{Puts, under}
use Rattle.shell_sync.proofs.barriers.Barriers.make.Goals as goal

pub returns-clause-barriers : goal.returns-clause-barriers
returns-clause-barriers c =
    let party = c.in_ok-party.party in
    let put = subst (λ (l : List ℕ). Puts c.args.self.now.named c.put.new.self.named l (Some party)) c.in_ok-from_slice.ensures.items c.in_ok-put.ensures in
    all_after (λ _ p. (s : BarrierState) × IsParty p s) c.args.self.now.named c.put.new.self.named c.args.name.now party put c.requires.barriers (nobody, c.in_ok-party.ensures.party)

pub returns-clause-answer : goal.returns-clause-answer
returns-clause-answer c =
    let party = c.in_ok-party.party in
    let put = subst (λ (l : List ℕ). Puts c.args.self.now.named c.put.new.self.named l (Some party)) c.in_ok-from_slice.ensures.items c.in_ok-put.ensures in (
      not-there (under c.args.self.now.named c.args.name.now) c.contains_key.result c.contains_key.ensures c.if-contains_key.false,
      (party, c.in_ok-party.ensures.callers, c.in_ok-party.ensures.party, put),
    )
