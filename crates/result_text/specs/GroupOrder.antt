-- Groups where they lie, and the order in which a table has them.
use Rattle.std.specs.Prelude.{ℕ, Bool, List, get_or, map}
use Rattle.std.specs.Ordering.{is_lt}
use Rattle.par_model.specs.Table.{columns_cmp}
use Rattle.par_model.specs.declared.state.AggState.{AggState}
use Rattle.partial_agg.specs.State.{empty_state}
use Rattle.partial_agg.specs.declared.groups.Group.{Group}
use Rattle.result_text.specs.KeyColumns.{columns_in}
use Rattle.result_text.specs.Text.{Line}
use Rattle.result_text.specs.declared.order.GroupRef.{GroupRef}

-- the aggregates of the group at a place of a list
abbrev pub state_in : List Group → GroupRef → AggState
state_in groups ref = get_or (map (λ group. group.state) groups) ref.at empty_state

-- the group at a place of a list
abbrev pub group_of : List Group → GroupRef → Group
group_of groups ref = record { key = ref.key.now; state = state_in groups ref }

-- the line of the group at a place of a list, by this many columns of its key
abbrev pub line_of : ℕ → List Group → GroupRef → Line
line_of count groups ref = (columns_in count ref.key.now, state_in groups ref)

-- whether a group comes before another, by this many columns of their keys
abbrev pub is_before : ℕ → GroupRef → GroupRef → Bool
is_before count a b = is_lt (columns_cmp (columns_in count a.key.now) (columns_in count b.key.now))
