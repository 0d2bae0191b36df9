use Rattle.std.proofs.Common.{◌≡◌, map, take, string_bytes}
use Rattle.plan_spec.proofs.grammar.owned.Given as goal

abbrev pub invariant-parts : goal.invariant-parts
invariant-parts l = map string_bytes l.texts.items ≡ map (λ s. s.now) (take l.part-index l.parts)
