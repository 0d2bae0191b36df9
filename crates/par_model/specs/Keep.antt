-- Which rows the filters keep: the WHERE clause of SQL, with comparisons between ANDs, of which the first that does not
-- hold decides.
use Rattle.std.specs.Prelude.{◌&&◌, ℕ, ℤ, Bool, false, not, List, Option, bytes_eq, int_le, int_lt, is_none}
use Rattle.std.specs.List.{position_from}
use Rattle.std.specs.Ordering.{int_eq}
use Rattle.std.specs.Option.{option_map_or}
use Rattle.par_model.specs.Number.{decimal_of}
use Rattle.par_model.specs.Plan.{Plan}
use Rattle.par_model.specs.Record.{field_of, is_null}
use Rattle.par_model.specs.declared.plan.Filter.{Filter}
use Rattle.par_model.specs.declared.plan.FilterOp.{FilterOp}
use Rattle.par_model.specs.declared.plan.FilterOp.TheVariants as op
use Rattle.par_model.specs.declared.plan.FilterTest.{FilterTest}
use Rattle.par_model.specs.declared.plan.FilterTest.TheVariants as test

-- whether the first number has the relation to the second
abbrev pub stands : FilterOp → ℤ → ℤ → Bool
stands op.Equal a b = int_eq a b
stands op.NotEqual a b = not (int_eq a b)
stands op.Less a b = int_lt a b
stands op.LessEqual a b = int_le a b
stands op.Greater a b = int_lt b a
stands op.GreaterEqual a b = int_le b a

-- whether a field passes a test: it is a number, of at most this many places, that has the relation to the value; it is the
-- text; or it is neither null nor the text. So a null passes no test but that of the empty text
abbrev pub passes : ℕ → FilterTest → List ℕ → Bool
passes places (test.Number op value) field = option_map_or (λ n. stands op n value) (decimal_of places field) false
passes places (test.Is text) field = bytes_eq field text
passes places (test.IsNot text) field = not (is_null field) && not (bytes_eq field text)

-- whether a filter keeps a row: the field of its column passes its test
abbrev pub keeps : Filter → List (List ℕ) → Bool
keeps filter row = passes filter.places filter.test (field_of row filter.column)

-- the place of the first filter, from the left, that does not keep a row
abbrev pub deciding : Plan → List (List ℕ) → Option ℕ
deciding plan row = position_from (λ filter. not (keeps filter row)) 0 plan.filters

-- whether a row is kept: there is no filter that does not keep it
unfoldable pub is_kept : Plan → List (List ℕ) → Bool
is_kept plan row = is_none (deciding plan row)
