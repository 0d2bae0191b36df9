-- The plan over generated rows: `--group g --agg count,sum:v`.
use Rattle.std.specs.Prelude.{◌∷◌, [], false, None, Some, codes}
use Rattle.par_model.specs.Named.{NamedPlan}
use Rattle.par_model.specs.Plan.{Plan}
use Rattle.par_model.specs.declared.plan.ItemKind.TheVariants as kind

-- by the names of the columns
abbrev pub gen_plan : NamedPlan
gen_plan = record { groups = codes "g" ∷ []; items = record { kind = kind.Rows; column = None; places = 0 } ∷ record { kind = kind.Sum; column = Some (codes "v"); places = 0 } ∷ []; hash = false; filters = [] }

-- over the columns of the header
abbrev pub bound_gen : Plan
bound_gen = record { groups = 0 ∷ []; items = record { kind = kind.Rows; column = 0; places = 0 } ∷ record { kind = kind.Sum; column = 1; places = 0 } ∷ []; hash = false; filters = [] }
