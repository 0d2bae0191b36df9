-- Stretches that touch, as one.
use Rattle.std.specs.Prelude.{◌+◌, ◌≡◌, ◌<◌, ◌≤◌, ◌++◌, ◌^◌, ◌⊎◌, ℕ, List, [], ◌∷◌, All, fold, length, map, slice_index_or}
use Rattle.std.specs.List.{flat_map}
use Rattle.state_head.specs.Cover.{AreRows, IsAfter}
use Rattle.state_head.specs.declared.cover.Place.{Place}
use Rattle.state_head.specs.declared.cover.Rows.{Rows}
use Rattle.state_head.specs.declared.cover.Rows.TheVariants.{Counted, Refused}
use Rattle.state_head.specs.declared.cover.Stretch.{Stretch}

-- the rows of one stretch and those of the one after it: the first refused row of both, counted from the first row of the one
abbrev pub joined_rows : Rows → Rows → Rows
joined_rows (Counted rows) (Counted more) = Counted (rows + more)
joined_rows (Counted rows) (Refused why) = Refused (record why { row = rows + why.row })
joined_rows (Refused why) rows = Refused why

-- a stretch and the one after it, as one
abbrev pub joined : Stretch → Stretch → Stretch
joined a b = record { place = record { source = a.place.source; from = a.place.from; to = b.place.to; size = a.place.size }; rows = joined_rows a.rows b.rows }

-- a place that begins where another of its source ends
pub record Touches (a b : Place) : Type 0 where
  pub source : a.source ≡ b.source
  pub size : a.size ≡ b.size
  pub at : a.to ≡ b.from

-- stretches each of which begins where those before it end
abbrev pub AreInTouch : Stretch → List Stretch → Type 0
AreInTouch s [] = Unit {0}
AreInTouch s (next ∷ more) = Touches s.place next.place × AreInTouch (joined s next) more

-- some stretches that touch, of which this is the first
pub record Run : Type 0 where
  pub first : Stretch
  pub more : List Stretch

abbrev pub IsRun : Run → Type 0
IsRun run = AreInTouch run.first run.more

abbrev pub stretches_in : Run → List Stretch
stretches_in run = run.first ∷ run.more

-- all of them as one
abbrev pub whole_of : Run → Stretch
whole_of run = fold joined run.first run.more

-- a cover has some stretches, one after another, those that touch as one
pub record IsJoinOf (cover stretches : List Stretch) : Type 0 where
  pub runs : List Run
  pub each : All IsRun runs
  pub all : stretches ≡ flat_map stretches_in runs
  pub is : cover ≡ map whole_of runs

-- the order of stretches: by source, then by place
abbrev pub IsBefore : Place → Place → Type 0
IsBefore a b = (a.source < b.source) ⊎ ((a.source ≡ b.source) × (a.from ≤ b.from))

-- each stretch comes before the next
abbrev pub AreSorted : List Stretch → Type 0
AreSorted stretches = (k : ℕ) (d : Stretch) → k + 1 < length stretches → IsBefore (slice_index_or stretches k d).place (slice_index_or stretches (k + 1) d).place

-- this is a stretch and the next one, which touches it, as one
pub record IsNextTo (last next both : Stretch) : Type 0 where
  pub touch : Touches last.place next.place
  pub is : both ≡ joined last next
  pub are_rows : AreRows both.rows

-- the last stretch does not touch the next one, and is at the end of the cover
pub record IsApartFrom (old : List Stretch) (last next : Stretch) (new : List Stretch) (now_last : Stretch) : Type 0 where
  pub after : IsAfter last.place next.place
  pub is : now_last ≡ next
  pub put : new ≡ old ++ last ∷ []
  pub few : length new < 2 ^ 32

-- a stretch more is taken in, and this is the last one then
abbrev pub IsPutTo : List Stretch → Stretch → Stretch → List Stretch → Stretch → Type 0
IsPutTo old last next new now_last = (IsNextTo last next now_last × (new ≡ old)) ⊎ IsApartFrom old last next new now_last
