use Rattle.std.proofs.Common.{◌≡◌, drop, length}
use Rattle.std.specs.List.{flat_map}
use Rattle.join_pairs.specs.Gathered.{linked}
use Rattle.join_pairs.proofs.chaining.link_rows.Given as goal

abbrev pub invariant-loop-list : goal.invariant-loop-list
invariant-loop-list l =
    (linked (flat_map (λ v. v.items) (drop l.list-index l.links.items)) l.chains.befores.items ≡ linked (flat_map (λ v. v.items) l.links.items) l.initial.chains.befores.items)
    × (length l.chains.befores.items ≡ length l.initial.chains.befores.items) × (l.chains.keys ≡ l.initial.chains.keys) × (l.chains.lasts ≡ l.initial.chains.lasts)
