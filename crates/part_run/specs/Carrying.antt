-- The rows of a table as they are carried to the parts of their keys.
use Rattle.std.specs.Prelude.{◌≡◌, ℕ, List, [], filter, fold, map, replicate}
use Rattle.std.specs.List.{flat_map}
use Rattle.std.specs.Prelude.{slice_index_or}
use Rattle.par_model.specs.Keep.{is_kept}
use Rattle.par_model.specs.Key.{key_of}
use Rattle.par_model.specs.Plan.{Plan}
use Rattle.partial_agg.specs.Groups.{GroupsByKey, added}
use Rattle.partial_agg.specs.Values.{value_of, values_state}
use Rattle.row_blocks.specs.Blocks.{Table}
use Rattle.row_lists.specs.Carried.{Carried, carried}
use Rattle.row_lists.specs.Parts.{with_rows}

-- what is carried of a row: its key, and what each aggregate takes of it
abbrev pub carried_of : Plan → List (List ℕ) → Carried
carried_of plan row = carried (key_of plan row) (map (value_of row) plan.items)

-- what is carried of some rows: those that the filters leave out are not
abbrev pub all_carried : Plan → Table → List Carried
all_carried plan rows = map (carried_of plan) (filter (is_kept plan) rows)

-- the lists of a participant after some rows, in order
abbrev pub spread : Plan → List (List Carried) → Table → List (List Carried)
spread plan lists rows = with_rows lists (all_carried plan rows)

-- lists of no rows
abbrev pub no_rows : List (List Carried)
no_rows = replicate 256 []

-- lists are those of some rows
abbrev pub AreSpread : Plan → Table → List (List Carried) → Type 0
AreSpread plan rows lists = lists ≡ spread plan no_rows rows

-- a map after rows as they are carried, in order
abbrev pub with_carried : GroupsByKey → List Carried → GroupsByKey
with_carried groups rows = fold (λ so_far row. added so_far row.key (values_state row.values)) groups rows

-- the rows of a part in the lists of all participants
abbrev pub waiting_for : ℕ → List (List (List Carried)) → List Carried
waiting_for part lists = flat_map (λ one. slice_index_or one part []) lists
