-- A source of which no tile was asked for, once the separator of a query is exchanged in it.
use Rattle.std.proofs.Common.{◌≡◌, ◌+◌, ◌∙◌, ◌⊎◌, inl, inr, ℕ, List, Option, Some, ap, map, subst, sym}
use Rattle.std.specs.Prelude.{option_map}
use Rattle.csv_rows.specs.Readings.{exchanged}
use Rattle.par_io.specs.Faults.{Rose}
use Rattle.plan_spec.specs.Query.{Query}
use Rattle.state_plan.specs.FilePlans.{AskFor}
use Rattle.stream_groups.specs.Sources.{bare_faults, bare_left, exchanged_left}
use Rattle.stream_groups.specs.declared.separated.Separated.{Separated}
use Rattle.tile_source.specs.Left.{IsUncut, lacks_in, left_in, source_faults, source_left}
use Rattle.tile_source.specs.declared.source.TileSource.{TileSource}
use Rattle.tile_source.specs.declared.tile.Tile.{Tile}
use Rattle.state_partial.specs.NoPart.{AskForTile, IsShorter, OfTile}
use Rattle.state_partial.specs.Places.{text_left}
use Rattle.state_partial.specs.Words.{Asked, asked_in}

module _ {S : Type 0} (old new : TileSource (Separated S)) (same : new.tile ≡ old.tile) where
  -- it has the text with commas left
  pub comma_left : (left : S → Option (List ℕ)) (query : Query) → IsUncut old → exchanged_left left new.source ≡ option_map (map (exchanged query.reading.separator)) (bare_left left old.source)
      → source_left (exchanged_left left) new ≡ text_left query (source_left (bare_left left) old)
  comma_left left query uncut is =
      ap (λ (t : Option Tile). left_in t (exchanged_left left new.source)) (same ∙ uncut)
      ∙ (is ∙ sym (ap (λ (t : Option Tile). text_left query (left_in t (bare_left left old.source))) uncut))

  -- its faults are those that it had
  pub faults_kept : (faults : S → ℕ) → bare_faults faults new.source ≡ bare_faults faults old.source → source_faults (bare_faults faults) new ≡ source_faults (bare_faults faults) old
  faults_kept faults is = ap (λ (t : Option Tile). bare_faults faults new.source + lacks_in t) same ∙ ap (λ (n : ℕ). n + lacks_in old.tile) is

-- a source that ended before its size
pub short_text : (words : List (List ℕ)) (asked : Asked) (query : Query) (text left : Option (List ℕ)) (before old now : ℕ) → asked_in words ≡ Some asked → AskFor asked.words query → text ≡ text_left query left → before ≡ old
    → Rose before now ⊎ OfTile IsShorter asked.extent text → Rose old now ⊎ AskForTile IsShorter words left
short_text words asked query text left before old now is_asked ask same kept (inl rose) = inl (subst (λ (n : ℕ). Rose n now) kept rose)
short_text words asked query text left before old now is_asked ask same kept (inr so) =
    inr (record { asked = asked; is_asked = is_asked; query = query; ask_for = ask; so = subst (OfTile IsShorter asked.extent) same so })
