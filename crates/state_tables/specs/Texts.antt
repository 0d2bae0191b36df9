-- The texts of ranges of keys as the text of a table.
use Rattle.std.specs.Prelude.{◌≡◌, [], List, ℕ, All, length}
use Rattle.std.specs.List.{AllZip, concat}
use Rattle.par_model.specs.Named.{NamedPlan}
use Rattle.par_model.specs.Plan.{Plan}
use Rattle.partial_agg.specs.Groups.{GroupsByKey}
use Rattle.partial_agg.specs.Listed.{listed}
use Rattle.result_text.specs.Printable.{IsKeyOf}
use Rattle.result_text.specs.Text.{IsTextOf}
use Rattle.state_range.specs.Ranges.{IsTextWithin, RiseFrom, ranges_from}

-- of groups by columns: the texts of the ranges between some keys, one after another, are the text of all groups
abbrev pub RangesAreText : Type 0
RangesAreText = (names : NamedPlan) (plan : Plan) (m : GroupsByKey) (cuts texts : List (List ℕ)) → (length plan.groups ≡ 0 → ⊥) → All (λ group. IsKeyOf (length plan.groups) group.key) (listed m)
    → RiseFrom (length plan.groups) [] cuts → AllZip (λ range text. IsTextWithin names plan range m text) (ranges_from [] cuts) texts → IsTextOf names plan (listed m) (concat texts)
