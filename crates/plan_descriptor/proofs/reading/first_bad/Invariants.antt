use Rattle.std.proofs.Common.{◌≡◌, None, length, not, take}
use Rattle.std.specs.List.{position_from, range_with_len}
use Rattle.plan_descriptor.specs.Descriptor.{is_allowed}
use Rattle.plan_descriptor.proofs.reading.first_bad.Given as goal

abbrev pub invariant-words : goal.invariant-words
invariant-words l = position_from (λ k. not (is_allowed l.words k)) 0 (take l.place (range_with_len 0 (length l.words))) ≡ None
