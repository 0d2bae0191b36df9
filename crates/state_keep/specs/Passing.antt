-- Blocks of a file that have no key of a range.
use Rattle.std.specs.Prelude.{◌≡◌, ◌∷◌, [], List, All, false}
use Rattle.state_blocks.specs.Blocks.{Group, first_key}
use Rattle.state_head.specs.Words.{keys_of}
use Rattle.state_order.specs.Ranges.{is_before, is_open, is_within}
use Rattle.state_whole.specs.declared.adding.Kept.{Kept}

-- no group is one that is kept
abbrev pub AllOutside : Kept → List Group → Type 0
AllOutside kept groups = All (λ g. is_within kept.columns (keys_of kept.range) g.key ≡ false) groups

-- there is a low end of what is kept, and it does not come before the first key of these blocks
abbrev pub BeginEarly : Kept → List (List Group) → Type 0
BeginEarly kept [] = ⊥
BeginEarly kept (block ∷ later) = (is_open kept.range.low.now ≡ false) × (is_before kept.columns kept.range.low.now (first_key block) ≡ false)
