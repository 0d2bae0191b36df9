use Rattle.std.proofs.Common.{◌≡◌, All, false, map}
use Rattle.hash_join.specs.declared.filling.Filler.{Filler}
use Rattle.hash_join.proofs.gathering.bring_home.Given as goal

abbrev pub invariant-loop-filler : goal.invariant-loop-filler
invariant-loop-filler l =
    (l.home.areas.items ≡ map (λ (f : Filler). f.area) l.yielded) × (l.home.tables.items ≡ map (λ (f : Filler). f.table) l.yielded) × (l.home.claims.items ≡ map (λ (f : Filler). f.claim) l.yielded)
    × (l.home.links.items ≡ map (λ (f : Filler). f.links) l.yielded) × (l.home.spilled.items ≡ map (λ (f : Filler). f.spilled) l.yielded) × All (λ (f : Filler). f.lacks_memory ≡ false) l.yielded
