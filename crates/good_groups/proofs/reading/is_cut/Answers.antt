use Rattle.std.proofs.Common.{rules, ◌≢◌, ◌∙◌, ap, sym}
use Rattle.csv_rows.specs.declared.place.Place.TheVariants as place
use Rattle.csv_rows.specs.Cuts.{ends_quoted}
use Rattle.csv_rows.proofs.Follows.{scan-cut}
use Rattle.good_groups.proofs.reading.is_cut.Goals as goal

pub returns : goal.returns
returns c = λ is.
    let apart : c.scanned.result ≢ place.Quoted = search rules in
    ap ends_quoted (sym c.without_mark.ensures.text) ∙ scan-cut c.without_mark.result.now (λ quoted. apart (c.scanned.ensures ∙ quoted))
