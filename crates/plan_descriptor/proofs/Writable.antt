-- Which plans can be written, by the words that they have.
use Rattle.std.proofs.Common.{◌≡◌, true, ◌<◌, ◌+◌, ◌^◌, ℕ, FitsSigned, arith, w64}
use Rattle.std.proofs.lemmas.List.{get_or_default}
use Rattle.std.specs.Option.{ForSome}
use Rattle.std.specs.Prelude.{slice_index_or}
use Rattle.par_model.specs.Plain.{is_plain}
use Rattle.par_model.specs.Plan.{Plan}
use Rattle.par_model.specs.PlanLayout.{unused}
use Rattle.plan_descriptor.proofs.Sections.{word_of_group}
use Rattle.plan_descriptor.specs.Descriptor.{HasRoom, IsWritable, filter_of, plan_word}

-- words 0 to 11 have 32 bits, and so do the columns of the aggregates and of the filter
pub writable : (plan : Plan) → is_plain plan ≡ true → HasRoom plan → ((k : ℕ) → k < 12 → plan_word 2 plan k < 2 ^ 32) → ((i : ℕ) → i < 8 → (slice_index_or plan.items i unused).column < 2 ^ 32)
    → ForSome (filter_of plan) (λ filter. (filter.column < 2 ^ 32) × FitsSigned w64 filter.value) → IsWritable plan
writable plan plain room narrow columns filter = record {
  plain = plain;
  room = room;
  group_columns = λ i d h.
      let fits = rw (word_of_group 2 plan i (omega (arith, room.groups))) at (narrow (4 + i) (omega (arith, room.groups))) in
      rw (get_or_default plan.groups i d 0 h) fits;
  item_columns = λ i d h. rw (get_or_default plan.items i d unused h) (columns i (omega (arith, room.items)));
  filter = filter;
}
