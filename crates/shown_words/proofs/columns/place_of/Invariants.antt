use Rattle.std.proofs.Common.{◌≡◌, bytes_eq, drop, map}
use Rattle.std.specs.List.{position_from}
use Rattle.shown_words.proofs.columns.place_of.Given as goal

abbrev pub invariant-parts : goal.invariant-parts
invariant-parts l = position_from (bytes_eq l.name) 0 (map (λ s. s.now) l.parts) ≡ position_from (bytes_eq l.name) l.at (map (λ s. s.now) (drop l.at l.parts))
