use Rattle.std.proofs.Common.{◌≡◌, length, drop}
use Rattle.join_pairs.specs.Gathered.{linked}
use Rattle.join_pairs.proofs.chains.Chains.link_all.Given as goal

abbrev pub invariant-loop-link : goal.invariant-loop-link
invariant-loop-link l =
    (linked (drop l.link-index l.links) l.self.befores.items ≡ linked l.links l.initial.self.befores.items) × (length l.self.befores.items ≡ length l.initial.self.befores.items)
    × (l.self.keys ≡ l.initial.self.keys) × (l.self.lasts ≡ l.initial.self.lasts)
