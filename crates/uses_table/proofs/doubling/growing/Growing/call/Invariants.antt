use Rattle.std.proofs.Common.{◌≡◌, IfSome}
use Rattle.uses_table.proofs.doubling.growing.Growing.call.Given as goal

abbrev pub invariant-loop : goal.invariant-loop
invariant-loop l = IfSome l.spare (λ item. (item.part.region ≡ l.self.region) × (item.bytes ≡ 32))
