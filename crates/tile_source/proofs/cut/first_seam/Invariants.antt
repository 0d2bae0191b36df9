use Rattle.std.proofs.Common.{◌≡◌, ◌<◌, ℕ, false, slice_index, take}
use Rattle.csv_rows.specs.Places.{place_after}
use Rattle.tile_source.specs.Scan.{is_seam}
use Rattle.tile_source.proofs.cut.first_seam.Given as goal

abbrev pub invariant-bytes : goal.invariant-bytes
invariant-bytes l = record {
  here : l.place ≡ place_after l.fn.start (take l.at l.bytes);
  none : (k : ℕ) → k < l.at → is_seam (place_after l.fn.start (take k l.bytes)) (slice_index l.bytes k) ≡ false;
}
