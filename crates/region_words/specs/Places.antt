-- Which table a region's place has, and the number that its rule reads.
use Rattle.std.specs.Prelude.{ℕ}
use Rattle.atomic_table.specs.Seated.{TableId}
use Rattle.region_words.specs.declared.region.Place.{Place}
use Rattle.region_words.specs.declared.region.Place.TheVariants.{Own, Given}

abbrev pub place_id : Place → TableId
place_id (Own t) = t.shared.table_id
place_id (Given t) = t.table_id

abbrev pub place_key : Place → ℕ
place_key (Own t) = t.shared.key
place_key (Given t) = t.key
