use Rattle.std.proofs.Common.{◌≡◌, ◌∙◌, ◌+◌, ap, ℕ, List, [], Bool, arith, length, map, string_bytes, take}
use Rattle.std.proofs.lemmas.List.{length-map}
use Rattle.std.specs.Prelude.{filter_map, is_none}
use Rattle.csv_rows.specs.Records.{record_at}
use Rattle.par_model.specs.Named.{bound_filter, column_of, missing_name, names_of}
use Rattle.par_model.specs.Plain.{are_plain, is_plain_named}
use Rattle.par_model.specs.declared.plan.Filter.{Filter}
use Rattle.plan_spec.proofs.Plain.{bound_tests}
use Rattle.plan_spec.specs.Query.{Query}
use Rattle.plan_spec.proofs.Places.{IsFirst, first-of-three, none-of-three, second-of-three, third-of-three}
use Rattle.plan_spec.proofs.plan.Plan.bind.Goals as goal

-- the header lacks a name
abbrev lacks : List (List ℕ) → List ℕ → Bool
lacks header name = is_none (column_of header name)

-- ---- it lacks one of those to group by

first : (c : goal.In-Err) → IsFirst (lacks (record_at c.args.rows.now 0)) (names_of c.args.self.now.plan) c.in-Err.at []
first c =
    let plan = c.self.inside in
    rw (← c.self.view_is) (first-of-three (lacks (record_at c.args.rows.now 0)) (map string_bytes plan.groups.items) (filter_map (λ i. i.column) plan.items.items) (map (λ f. f.column) plan.filters.items)
    c.in-Err.at [] (rw c.as_slice.ensures.value at c.in-Err.ensures.missing))

pub returns-in-Err-clause-place : goal.returns-in-Err-clause-place
returns-in-Err-clause-place c = (first c).place

pub returns-in-Err-clause-within : goal.returns-in-Err-clause-within
returns-in-Err-clause-within c = (first c).within

pub returns-in-Err-clause-name : goal.returns-in-Err-clause-name
unfolding missing_name
returns-in-Err-clause-name c = (first c).value

-- ---- one of the aggregates

pub overflow_add-result : goal.overflow_add-result
overflow_add-result c = omega (arith, c.len-before_items.ensures, c.self.invariant.groups_fit, c.in-Err-bind_items.ensures.near)

second : (c : goal.In-Err-bind_items) → IsFirst (lacks (record_at c.args.rows.now 0)) (names_of c.args.self.now.plan) (c.len-before_items.result + c.in-Err-bind_items.at) []
second c =
    let plan = c.self.inside in
    let missing = second-of-three (lacks (record_at c.args.rows.now 0)) (map string_bytes plan.groups.items) (filter_map (λ i. i.column) plan.items.items) (map (λ f. f.column) plan.filters.items)
    c.in-Err-bind_items.at [] (rw c.as_slice.ensures.value at c.in-Ok.ensures.whole) (rw c.as_slice-2.ensures.value at c.in-Err-bind_items.ensures.missing) in
    let size = length-map plan.groups.items string_bytes in
    let same : length (map string_bytes plan.groups.items) + c.in-Err-bind_items.at ≡ c.len-before_items.result + c.in-Err-bind_items.at = omega (arith, size, c.len-before_items.ensures) in
    rw (← c.self.view_is) (rw same at missing)

pub returns-in-Err-bind_items-clause-place : goal.returns-in-Err-bind_items-clause-place
returns-in-Err-bind_items-clause-place c = (second c).place

pub returns-in-Err-bind_items-clause-within : goal.returns-in-Err-bind_items-clause-within
returns-in-Err-bind_items-clause-within c = (second c).within

pub returns-in-Err-bind_items-clause-name : goal.returns-in-Err-bind_items-clause-name
unfolding missing_name
returns-in-Err-bind_items-clause-name c = (second c).value

-- ---- one of the filters

pub overflow_add-result-in-Err-bind_filters : goal.overflow_add-result-in-Err-bind_filters
overflow_add-result-in-Err-bind_filters c = omega (arith, c.len-before_items.ensures, c.self.invariant.groups_fit, c.in-Ok-bind_items.ensures.few)

pub overflow_add-result-in-Err-bind_filters-2 : goal.overflow_add-result-in-Err-bind_filters-2
overflow_add-result-in-Err-bind_filters-2 c = omega (arith, c.len-before_items.ensures, c.self.invariant.groups_fit, c.in-Ok-bind_items.ensures.few, c.in-Err-bind_filters.ensures.near)

third : (c : goal.In-Err-bind_filters) → IsFirst (lacks (record_at c.args.rows.now 0)) (names_of c.args.self.now.plan) (c.len-before_items.result + c.in-Ok-bind_items.bound.1 + c.in-Err-bind_filters.at) []
third c =
    let plan = c.self.inside in
    let bound = c.in-Ok-bind_items.ensures in
    let missing = third-of-three (lacks (record_at c.args.rows.now 0)) (map string_bytes plan.groups.items) (filter_map (λ i. i.column) plan.items.items) (map (λ f. f.column) plan.filters.items)
    c.in-Err-bind_filters.at [] (rw c.as_slice.ensures.value at c.in-Ok.ensures.whole) (rw c.as_slice-2.ensures.value at bound.whole) (rw c.as_slice-3.ensures.value at c.in-Err-bind_filters.ensures.missing) in
    let named : c.in-Ok-bind_items.bound.1 ≡ length (filter_map (λ i. i.column) plan.items.items) = rw c.as_slice-2.ensures.value at bound.named in
    let size = length-map plan.groups.items string_bytes in
    let same : length (map string_bytes plan.groups.items) + length (filter_map (λ i. i.column) plan.items.items) + c.in-Err-bind_filters.at ≡ c.len-before_items.result + c.in-Ok-bind_items.bound.1 + c.in-Err-bind_filters.at = omega (arith, size, named, c.len-before_items.ensures) in
    rw (← c.self.view_is) (rw same at missing)

pub returns-in-Err-bind_filters-clause-place : goal.returns-in-Err-bind_filters-clause-place
returns-in-Err-bind_filters-clause-place c = (third c).place

pub returns-in-Err-bind_filters-clause-within : goal.returns-in-Err-bind_filters-clause-within
returns-in-Err-bind_filters-clause-within c = (third c).within

pub returns-in-Err-bind_filters-clause-name : goal.returns-in-Err-bind_filters-clause-name
unfolding missing_name
returns-in-Err-bind_filters-clause-name c = (third c).value

-- ---- it has all

pub returns-clause-whole : goal.returns-clause-whole
unfolding missing_name
returns-clause-whole c =
    let plan = c.self.inside in
    rw (← c.self.view_is) (none-of-three (lacks (record_at c.args.rows.now 0)) (map string_bytes plan.groups.items) (filter_map (λ i. i.column) plan.items.items) (map (λ f. f.column) plan.filters.items)
    (rw c.as_slice.ensures.value at c.in-Ok.ensures.whole) (rw c.as_slice-2.ensures.value at c.in-Ok-bind_items.ensures.whole) (rw c.as_slice-3.ensures.value at c.in-Ok-bind_filters.ensures.whole))

pub returns-clause-plain : goal.returns-clause-plain
returns-clause-plain c =
    let header = record_at c.args.rows.now 0 in
    let own = c.self.inside.filters.items in
    let count : c.len-2.result ≡ length c.as_slice-3.result.now = omega (arith, c.len-2.ensures, c.as_slice-3.ensures.len) in
    let filters : take c.len-2.result c.in-Ok-bind_filters.filters ≡ map (bound_filter header) own = rw c.as_slice-3.ensures.value at (rw (← count) at c.in-Ok-bind_filters.ensures.filters) in
    ap (λ (fs : List Filter). are_plain (map (λ filter. filter.test) fs)) filters ∙ ap are_plain (bound_tests header own) ∙ ap (λ (q : Query). is_plain_named q.plan) c.self.view_is
