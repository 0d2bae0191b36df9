use Rattle.std.proofs.Common.{take, drop, sym, ap, ◌∙◌}
use Rattle.std.proofs.Math.Seq.{take-add}
use Rattle.csv_rows.specs.Places.{place_after}
use Rattle.csv_rows.specs.declared.place.Place.TheVariants as place
use Rattle.csv_rows.proofs.Scans.{place-append}
use Rattle.csv_rows.proofs.cut.cut_after.Goals as goal

pub returns-in-Some-clause-cut : goal.returns-in-Some-clause-cut
returns-in-Some-clause-cut g c =
    let xs = c.args.text.now in
    let from = c.args.from in
    let at = c.in-Some.at in
    let all = ap (place_after place.Opens) (take-add from at xs) ∙ place-append place.Opens (take from xs) (take at (drop from xs)) in
    let first = c.scan_in_threads.ensures.opens in
    let cut = c.in-Some.ensures.cut in
    let front = c.split_at.ensures.front in
    let back = c.split_at.ensures.back in
    λ e. cut (rw (first, front, back) (sym all ∙ e))
