-- What is left of a source with a header, and its faults.
use Rattle.std.specs.Prelude.{◌+◌, ℕ, List, None, Option, Some, if◌then◌else◌}
use Rattle.std.specs.Io.KnownBytes.{prepend_known}
use Rattle.std.specs.Option.{option_map}
use Rattle.numbered_rows.specs.Numbers.{numbered}
use Rattle.numbered_rows.specs.declared.numbered.Numbered.{Numbered}

-- the bytes that are left of a source: as they are, or behind a header if a byte between its fields is given
abbrev pub left_as : Option ℕ → Option (List ℕ) → Option (List ℕ)
left_as None left = left
left_as (Some separator) left = option_map (numbered separator) left

-- what is left: behind a header that is not made yet, or what was read ahead and then the source
abbrev pub numbered_left : {S : Type 0} → (S → Option (List ℕ)) → Numbered S → Option (List ℕ)
numbered_left left s = if s.is_open then prepend_known s.ahead (left s.source) else option_map (numbered s.separator) (prepend_known s.front.items (left s.source))

-- its faults: those of the source under it, and each time that memory ran out
abbrev pub numbered_faults : {S : Type 0} → (S → ℕ) → Numbered S → ℕ
numbered_faults faults s = faults s.source + s.lacks
