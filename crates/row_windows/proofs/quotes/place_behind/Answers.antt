use Rattle.std.proofs.Common.{◌∙◌, sym, arith}
use Rattle.std.proofs.lemmas.List.{take_rest}
use Rattle.csv_rows.specs.declared.place.Place.TheVariants as place
use Rattle.csv_rows.proofs.Scans.{past-all, place-none}
use Rattle.row_windows.proofs.quotes.place_behind.Goals as goal

pub blocks-2-init : goal.blocks-2-init
blocks-2-init c = record {
  scan = record { within = omega arith; here = sym (place-none place.Opens) };
  low = omega arith;
  before = λ j low high. absurd (omega (arith, high));
}

pub returns : goal.returns
returns c =
    let xs = c.args.text.now in
    let at = c.blocks-2.scan.at in
    (rw (take_rest xs at, c.blocks-2.invariant.scan.here) at c.scanned.ensures) ∙ past-all place.Opens xs at
