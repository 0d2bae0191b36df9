-- Plans that threads can share: those that have at most one filter, which is of numbers.
use Rattle.std.specs.Prelude.{Bool, true, false, List, [], ◌∷◌, map}
use Rattle.par_model.specs.Named.{NamedPlan}
use Rattle.par_model.specs.Plan.{Plan}
use Rattle.par_model.specs.Refuse.{is_of_numbers}
use Rattle.par_model.specs.declared.plan.FilterTest.{FilterTest}

-- whether tests are at most one, and that of numbers
abbrev pub are_plain : List FilterTest → Bool
are_plain [] = true
are_plain (test ∷ []) = is_of_numbers test
are_plain (test ∷ next ∷ more) = false

-- whether a plan is plain, over the columns of a header and by names
abbrev pub is_plain : Plan → Bool
is_plain plan = are_plain (map (λ filter. filter.test) plan.filters)

abbrev pub is_plain_named : NamedPlan → Bool
is_plain_named plan = are_plain (map (λ filter. filter.test) plan.filters)
