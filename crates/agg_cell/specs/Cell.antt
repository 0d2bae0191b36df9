-- What a call makes of the cell of a group.
use Rattle.std.specs.Prelude.{Option, Some}
use Rattle.par_model.specs.declared.state.AggState.{AggState}
use Rattle.partial_agg.specs.Groups.{joined}

-- the called state is combined into the cell, or becomes the cell's state if there was none
abbrev pub stepped : Option AggState → AggState → Option AggState × Unit {0}
stepped before state = (Some (joined before state), tt)
