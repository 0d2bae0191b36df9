use Rattle.std.proofs.Common.{◌∙◌, ap, arith, sym}
use Rattle.std.proofs.lemmas.List.{take_rest}
use Rattle.csv_rows.specs.Places.{place_after}
use Rattle.csv_rows.proofs.Scans.{place-none}
use Rattle.tile_source.proofs.Marks.{scanned-all}
use Rattle.tile_source.proofs.scan.place_behind.Goals as goal

pub steps-init : goal.steps-init
steps-init c = record {
  scanned = record { within = omega arith; place = sym (place-none c.args.start) };
  clear = λ j low lt. absurd (omega (arith, lt));
  low = omega arith;
}

pub returns : goal.returns
returns c =
    let text = c.args.text.now in
    let from = c.steps.cursor.from in
    c.past_others.ensures ∙ (ap (place_after c.steps.cursor.place) (take_rest text from) ∙ scanned-all c.args.start c.steps.cursor.place text from c.steps.invariant.scanned.place)
