-- What a line says of a row that is refused.
use Rattle.std.specs.Prelude.{[], ◌==◌, ◌++◌, ℕ, List, codes, if◌then◌else◌, length, slice_get}
use Rattle.std.specs.Option.{option_map_or}
use Rattle.par_model.specs.Named.{NamedPlan}
use Rattle.par_model.specs.Plan.{Plan}
use Rattle.par_model.specs.Record.{field_of}
use Rattle.par_model.specs.Refuse.{item_cause, key_cause, width_cause}
use Rattle.par_model.specs.declared.refusal.Refusal.{Refusal}
use Rattle.shown_text.specs.Number.{number_text}
use Rattle.shown_text.specs.Width.{width_text}
use Rattle.table_query.specs.Lines.{filter_name, filter_places, item_name, item_places}

-- the field of a row that the aggregate at a place reads
abbrev pub item_field : Plan → List (List ℕ) → ℕ → List ℕ
item_field bound row place = option_map_or (λ item. field_of row item.column) (slice_get bound.items place) []

-- the field of a row that the filter at a place reads
abbrev pub filter_field : Plan → List (List ℕ) → ℕ → List ℕ
filter_field bound row place = option_map_or (λ filter. field_of row filter.column) (slice_get bound.filters place) []

-- why a row is refused under a header, by a plan and the same over the header's columns
abbrev pub row_says : NamedPlan → Plan → List (List ℕ) → List (List ℕ) → Refusal → List ℕ
row_says plan bound header row why =
    if why.cause == width_cause then width_text (length row) (length header)
    else (if why.cause == key_cause then codes "group key is longer than 248 bytes"
    else (if why.cause == item_cause then number_text (item_name plan why.item) (item_places plan why.item) (item_field bound row why.item)
    else codes "filter " ++ number_text (filter_name plan why.item) (filter_places plan why.item) (filter_field bound row why.item)))
