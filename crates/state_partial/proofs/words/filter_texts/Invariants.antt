use Rattle.std.proofs.Common.{◌≡◌, map, take}
use Rattle.state_partial.specs.Words.{filters_of}
use Rattle.state_partial.proofs.words.filter_texts.Given as goal

-- the texts of the values so far
abbrev pub invariant-loop-value : goal.invariant-loop-value
invariant-loop-value l = l.texts.items ≡ filters_of (map (λ value. value.now) (take l.value-index l.values))
