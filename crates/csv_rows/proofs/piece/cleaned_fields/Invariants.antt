use Rattle.std.proofs.Common.{◌≡◌, length, map, take}
use Rattle.csv.specs.Records.{cut_from}
use Rattle.csv_rows.specs.Readings.{cleaned}
use Rattle.csv_rows.specs.Store.{Covers, cut_apart}
use Rattle.csv_rows.proofs.piece.cleaned_fields.Given as goal

abbrev pub invariant-fields : goal.invariant-fields
invariant-fields l = record {
  covers : Covers l.places.items (length l.texts.items);
  fields : cut_from 0 l.places.items l.texts.items ≡ map (cleaned l.reading) (take l.i (cut_apart l.gap 0 l.ends.items l.bytes.items));
}
