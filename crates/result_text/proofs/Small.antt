-- The slots of at most 2^50 rows are small.
use Rattle.std.proofs.Common.{◌≤◌, ◌-◌, ◌*◌, ◌^◌, [], arith, ℕ, ℤ, pos, negsuc, List, All, get_or, length, map, replicate, unsigned_abs}
use Rattle.std.proofs.lemmas.Int.{ints}
use Rattle.std.proofs.lemmas.List.Elements.{All-append, All-map, All-replicate}
use Rattle.std.specs.List.{filter_map}
use Rattle.par_model.specs.Aggregate.{no_values, number_slot, slot_by, slot_of, state_of_rows, total, values_of}
use Rattle.par_model.specs.Number.{decimal_of}
use Rattle.par_model.specs.Plan.{Plan}
use Rattle.par_model.specs.declared.plan.ItemKind.{ItemKind}
use Rattle.par_model.specs.declared.plan.ItemKind.TheVariants as kind
use Rattle.partial_agg.proofs.Fits.{IsWithin, numbers_within, values_few}
use Rattle.result_text.specs.Printable.{IsSmallSlot}

size_within : (n : ℕ) (z : ℤ) → IsWithin n z → unsigned_abs z ≤ 2 ^ 63 * n
size_within n (pos k) w = omega (arith, ints, w.high)
size_within n (negsuc k) w = omega (arith, ints, w.low)

pub none_small : IsSmallSlot no_values
none_small = record { count = omega arith; sum = omega arith }

numbers_small : (places column : ℕ) (rows : List (List (List ℕ))) → length rows ≤ 2 ^ 50 → IsSmallSlot (number_slot (values_of column rows) (filter_map (decimal_of places) (values_of column rows)))
numbers_small places column rows few =
    let values = values_of column rows in
    record { count = omega (arith, values_few column rows); sum = size_within (length values) (total (filter_map (decimal_of places) values)) (numbers_within places values) }

counted_small : (column : ℕ) (rows : List (List (List ℕ))) → length rows ≤ 2 ^ 50 → IsSmallSlot (number_slot (values_of column rows) [])
counted_small column rows few = record { count = omega (arith, values_few column rows); sum = omega arith }

slot_small : (k : ItemKind) (places column : ℕ) (rows : List (List (List ℕ))) → length rows ≤ 2 ^ 50 → IsSmallSlot (slot_by k places (values_of column rows))
slot_small kind.Rows places column rows few = none_small
slot_small kind.Count places column rows few = counted_small column rows few
slot_small kind.Sum places column rows few = numbers_small places column rows few
slot_small kind.Min places column rows few = numbers_small places column rows few
slot_small kind.Max places column rows few = numbers_small places column rows few
slot_small kind.Avg places column rows few = numbers_small places column rows few

pub slots_small : (plan : Plan) (rows : List (List (List ℕ))) → length rows ≤ 2 ^ 50 → All IsSmallSlot (state_of_rows plan rows).slots
unfolding state_of_rows
slots_small plan rows few =
    All-append IsSmallSlot (map (slot_of rows) plan.items) (replicate (8 - length plan.items) no_values)
    (All-map IsSmallSlot (slot_of rows) plan.items (λ k d lt. slot_small (get_or plan.items k d).kind (get_or plan.items k d).places (get_or plan.items k d).column rows few))
    (All-replicate IsSmallSlot (8 - length plan.items) no_values none_small)
