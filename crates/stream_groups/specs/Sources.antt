-- A source over another one, in which the comma and a separator are exchanged.
use Rattle.std.specs.Prelude.{ℕ, List, Option, map, option_map}
use Rattle.csv_rows.specs.Readings.{exchanged}
use Rattle.stream_groups.specs.declared.separated.Separated.{Separated}

-- what the source under it has left
abbrev pub bare_left : {S : Type 0} → (S → Option (List ℕ)) → Separated S → Option (List ℕ)
bare_left left p = left p.source

-- what it has left: the same, with the two exchanged
abbrev pub exchanged_left : {S : Type 0} → (S → Option (List ℕ)) → Separated S → Option (List ℕ)
exchanged_left left p = option_map (map (exchanged p.separator)) (left p.source)

-- its faults are those of the source under it
abbrev pub bare_faults : {S : Type 0} → (S → ℕ) → Separated S → ℕ
bare_faults faults p = faults p.source
