-- The lines of a table, each after the key of its group, and such an entry as bytes.
use Rattle.std.specs.Prelude.{◌++◌, ◌∷◌, ℕ, Bool, List, [], drop, get_or, length, take}
use Rattle.std.specs.List.{flat_map}
use Rattle.std.specs.Ordering.{is_lt}
use Rattle.csv.specs.Writing.{default_writer, row_text}
use Rattle.par_model.specs.Plan.{Plan}
use Rattle.par_model.specs.Table.{columns_cmp, values_text}
use Rattle.par_model.specs.declared.state.AggState.{AggState}
use Rattle.partial_agg.specs.declared.groups.Group.{Group}
use Rattle.result_text.specs.KeyColumns.{columns_in}

-- a key, and the line of its group
abbrev pub Entry : Type 0
Entry = List ℕ × List ℕ

-- the entries of runs, one run after another
abbrev pub all_entries : List (List Entry) → List Entry
all_entries runs = flat_map (λ run. run) runs

-- an entry of no bytes
abbrev pub no_entry : Entry
no_entry = ([], [])

-- the line of a group: the columns of its key, then its values
abbrev pub line_of : Plan → List ℕ → AggState → List ℕ
line_of plan key state = row_text default_writer (columns_in (length plan.groups) key ++ values_text plan state)

-- the entry of a group
abbrev pub entry_of : Plan → Group → Entry
entry_of plan group = (group.key, line_of plan group.key group.state)

-- an entry as bytes has the length of its key in one byte in front
abbrev pub whole_entry : List ℕ → List ℕ → List ℕ
whole_entry key line = length key ∷ (key ++ line)

-- likewise that of a group
abbrev pub entry_bytes : Plan → List ℕ → AggState → List ℕ
entry_bytes plan key state = whole_entry key (line_of plan key state)

-- the entry of some bytes
abbrev pub entry_in : List ℕ → Entry
entry_in bytes = (take (get_or bytes 0 0) (drop 1 bytes), drop (get_or bytes 0 0) (drop 1 bytes))

-- whether an entry comes before another, by this many columns of their keys
abbrev pub comes_before : ℕ → Entry → Entry → Bool
comes_before count a b = is_lt (columns_cmp (columns_in count a.0) (columns_in count b.0))
